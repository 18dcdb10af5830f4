use Rattle.std.proofs.Common.{◌++◌, ◌∙◌, sym, subst}
use Rattle.std.proofs.Math.Bool.{or-false}
use Rattle.nb_teller.specs.Spelling.{SpellsMessage}
use Rattle.nb_teller.proofs.SpellingLemmas.{or_none_there}
use Rattle.nb_teller.proofs.teller.send_place.Goals as goal

pub returns : goal.returns
returns c net =
    let m = c.args.msg.now in
    let old = c.args.told.now in
    let put = c.put_advance.ensures in
    subst (λ k. SpellsMessage net c.args.who.now old c.put_advance.new.self k m.a m.b (m.first.now ++ m.second.now)) (sym c.requires.tag)
    (put.closed, put.more, λ kept. (put.found.0, put.found.1, put.found.2, put.found.3 ∙ sym (or_none_there old.answer)), λ kept. put.stuck ∙ sym (or-false old.is_stuck))
