use Rattle.std.proofs.Common.{◌≡◌, ◌==◌, Some, None, find, sym, ◌∙◌, ap, rules, tests}
use Rattle.std.specs.Option.{option_and_then, option_copied}
use Rattle.std.proofs.lemmas.Iterator.{YieldsList-from_slice}
use Rattle.std.proofs.lemmas.Iterator.Search.{find_from_yields_List}
use Rattle.nb_network.specs.declared.living.Living.{Living}
use Rattle.nb_network.specs.Drives.{last_read_by}
use Rattle.nb_network.specs.Many.{Many}
use Rattle.nb_network.proofs.HookedOpens.{found_read}
use Rattle.nb_network.proofs.opens.Opens.read.Goals as goal

pub returns-in-Some : goal.returns-in-Some
returns-in-Some c = λ net now s state.
    let list = c.args.self.now.list in
    let test = λ (o : Living). o.speaker.number == c.args.number in
    let v : c.deref.result.now ≡ list = c.deref.ensures.value ∙ ap (λ (m : Many). m.list) c.self.view_is in
    let found : option_copied c.find.result ≡ find test c.deref.result.now =
    find_from_yields_List test _ _ c.find.result c.find.ensures.ran (YieldsList-from_slice c.deref.result.now cc) (λ x b q k. search (rules, tests)) in
    let is : Some c.in-Some.living.now ≡ find test list = sym (ap option_copied c.in-Some.is) ∙ (found ∙ ap (find test) v) in
    c.bytes_of.ensures ∙ (c.read.ensures ∙ (ap (option_and_then last_read_by) is ∙ found_read c.args.number c.args.self.now.graph list s.live state.live))

pub returns-in-None : goal.returns-in-None
returns-in-None c = λ net now s state.
    let list = c.args.self.now.list in
    let test = λ (o : Living). o.speaker.number == c.args.number in
    let v : c.deref.result.now ≡ list = c.deref.ensures.value ∙ ap (λ (m : Many). m.list) c.self.view_is in
    let found : option_copied c.find.result ≡ find test c.deref.result.now =
    find_from_yields_List test _ _ c.find.result c.find.ensures.ran (YieldsList-from_slice c.deref.result.now cc) (λ x b q k. search (rules, tests)) in
    let is : None ≡ find test list = sym (ap option_copied c.in-None.is) ∙ (found ∙ ap (find test) v) in
    ap (option_and_then last_read_by) is ∙ found_read c.args.number c.args.self.now.graph list s.live state.live
