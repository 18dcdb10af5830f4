use Rattle.std.proofs.Common.{◌∙◌, arith}
use Rattle.nb_reasm.proofs.MarkLemmas.{turn_grown, turn_outside}
use Rattle.nb_reasm.proofs.marks.Marks.turn.Goals as goal

pub loop-at-preserved : goal.loop-at-preserved
loop-at-preserved c = record {
  from = omega (arith, c.loop-at.invariant.from);
  to = omega (arith, c.loop-at.invariant.to, c.min-len.ensures);
  turned = turn_grown c.args.self.now.words.items c.loop-at.self.words.items c.turn_in_word.new.self.words.items c.args.slot c.loop-at.at c.min-len.result c.loop-at.invariant.from c.loop-at.invariant.turned c.loop-at.invariant.others c.turn_in_word.ensures.turned c.turn_in_word.ensures.others;
  others = turn_outside c.args.self.now.words.items c.loop-at.self.words.items c.turn_in_word.new.self.words.items c.args.slot c.loop-at.at c.min-len.result c.loop-at.invariant.from c.loop-at.invariant.others c.turn_in_word.ensures.others;
  room = c.turn_in_word.ensures.room ∙ c.loop-at.invariant.room;
}
