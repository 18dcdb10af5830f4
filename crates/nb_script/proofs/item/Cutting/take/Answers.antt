use Rattle.std.proofs.Common.{refl}
use Rattle.nb_script.proofs.OkLemmas.{ok_three}
use Rattle.nb_script.proofs.ItemLemmas.{before_word, before_join}
use Rattle.nb_script.proofs.item.Cutting.take.Goals as goal

pub returns-in-Some : goal.returns-in-Some
returns-in-Some c =
    let h = c.next.ensures in
    let some = c.in-Some.ensures.some in
    ok_three c.next.result (before_join c.args.self.now c.next.new.self c.args.word.now c.in-Some.join some.0 some.1) h.done h.join h.words

pub returns-in-None : goal.returns-in-None
returns-in-None c =
    let h = c.add.ensures in
    ok_three c.add.result (before_word c.args.self.now c.add.new.self c.args.word.now (c.in-None.ensures.none refl)) h.done h.join h.words
