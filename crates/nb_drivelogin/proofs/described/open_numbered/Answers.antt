use Rattle.std.proofs.Common.{◌≡◌, ◌==◌, ◌∙◌, sym, ap, option_map, rules, tests}
use Rattle.std.specs.Prelude.{find}
use Rattle.std.specs.Option.{option_copied}
use Rattle.std.proofs.lemmas.Iterator.{YieldsList-from_slice}
use Rattle.std.proofs.lemmas.Iterator.Search.{find_from_yields_List}
use Rattle.nb_drivelogin.specs.declared.hooked.HookedOpen.{HookedOpen}
use Rattle.nb_drivelogin.specs.DriveOpens.{drive_open}
use Rattle.nb_drivelogin.proofs.DescribedLemmas.{found_open}
use Rattle.nb_drivelogin.proofs.described.open_numbered.Goals as goal

pub returns : goal.returns
returns c =
    let test = λ (one : HookedOpen). one.number == c.args.number in
    let found : option_copied c.find.result ≡ find test c.args.opens.now =
    find_from_yields_List test _ _ c.find.result c.find.ensures.ran (YieldsList-from_slice c.args.opens.now cc) (λ x b q k. search (rules, tests)) in
    ap (option_map drive_open) (c.copied.ensures ∙ found) ∙ sym (found_open c.args.number c.args.opens.now)
