use Rattle.std.proofs.Common.{arith}
use Rattle.nb_reasm.proofs.MarkLemmas.{run_first, run_grown}
use Rattle.nb_reasm.proofs.marks.Marks.run_end.Goals as goal

pub loop-at-init : goal.loop-at-init
loop-at-init c = record {
  some = omega arith;
  most = omega (arith, c.requires.some);
  alike = run_first c.args.self.now.words.items c.args.slot c.args.marked c.requires.marked;
}

pub loop-at-preserved : goal.loop-at-preserved
loop-at-preserved c = record {
  some = omega (arith, c.loop-at.invariant.some);
  most = omega (arith, c.loop-at.invariant.most, c.min-len.ensures);
  alike = run_grown c.args.self.now.words.items c.args.slot c.loop-at.at c.min-len.result c.args.marked c.loop-at.invariant.alike (λ k l. c.run_in_word.ensures.alike k (omega (arith, l, c.min-len.ensures)));
}
