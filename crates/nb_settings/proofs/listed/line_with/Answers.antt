use Rattle.std.proofs.Common.{◌≡◌, ◌∙◌, ap, rules, tests}
use Rattle.std.specs.Prelude.{find, option_map}
use Rattle.std.specs.Option.{option_copied}
use Rattle.nb_settings.specs.Keys.{key_of, same_key}
use Rattle.std.proofs.lemmas.Iterator.{YieldsList-from_slice}
use Rattle.std.proofs.lemmas.Iterator.Search.{find_from_yields_List}
use Rattle.nb_settings.specs.declared.listed.Listed.{Listed}
use Rattle.nb_settings.specs.Lines.{line_of}
use Rattle.nb_settings.specs.Listed as names
use Rattle.nb_settings.proofs.FindLemmas.{find-map}
use Rattle.nb_settings.proofs.listed.line_with.Goals as goal

pub returns : goal.returns
returns c =
    let p = λ (row : names.Listed). same_key (key_of c.args.key.now) row.key in
    let found : option_copied c.find.result ≡ find (λ (row : Listed). p (line_of row)) c.lines.result =
    find_from_yields_List (λ (row : Listed). p (line_of row)) _ _ c.find.result c.find.ensures.ran (YieldsList-from_slice c.lines.result cc) (λ x b q k. search (rules, tests)) in
    ap (option_map line_of) (c.copied.ensures ∙ found) ∙ find-map line_of p c.lines.result ∙ ap (find p) c.lines.ensures
