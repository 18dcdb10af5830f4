use Rattle.std.proofs.Common.{ℕ, ◌-◌, slice_index, ◌∙◌, arith}
use Rattle.nb_reasm.proofs.StepLemmas.{grown_inside, grown_outside, grown_count}
use Rattle.nb_reasm.proofs.ring.Ring.fill.Goals as goal

pub loop-at-preserved : goal.loop-at-preserved
loop-at-preserved c = record {
  ring = c.fill_run-count.ensures.ring;
  same = (c.fill_run-count.ensures.same.0 ∙ c.loop-at.invariant.same.0, c.fill_run-count.ensures.same.1 ∙ c.loop-at.invariant.same.1);
  next = c.fill_run-count.ensures.next ∙ c.loop-at.invariant.next;
  from = omega (arith, c.loop-at.invariant.from);
  to = omega (arith, c.run-run.ensures.within);
  inside = grown_inside c.args.self.now c.loop-at.self c.fill_run-count.new.self c.args.from c.loop-at.at c.run-run.result.len (λ (p : ℕ). slice_index c.args.bytes.now (p - c.args.pos)) c.loop-at.invariant.inside c.loop-at.invariant.outside c.fill_run-count.ensures.inside c.fill_run-count.ensures.outside;
  outside = grown_outside c.args.self.now c.loop-at.self c.fill_run-count.new.self c.args.from c.loop-at.at c.run-run.result.len c.loop-at.invariant.from c.loop-at.invariant.outside c.fill_run-count.ensures.outside;
  count = grown_count c.args.self.now c.loop-at.self c.args.from c.loop-at.at c.run-run.result.len c.loop-at.count c.fill_run-count.result c.loop-at.invariant.same c.loop-at.invariant.from c.loop-at.invariant.outside c.loop-at.invariant.count c.fill_run-count.ensures.count;
  few = omega (arith, c.loop-at.invariant.few, c.fill_run-count.ensures.few, c.loop-at.invariant.from);
}
