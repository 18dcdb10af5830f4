use Rattle.std.proofs.Common.{◌+◌, arith, subst}
use Rattle.nb_labrun.specs.Playing.{StepLeaves}
use Rattle.nb_labrun.specs.declared.run.StepEnd.{StepEnd}
use Rattle.nb_labrun.proofs.EndLemmas.{step_over}
use Rattle.nb_labrun.proofs.PlayLemmas.{play_used}
use Rattle.nb_labrun.proofs.run.serve.Goals as goal

pub use_next-requires-clause-few : goal.use_next-requires-clause-few
use_next-requires-clause-few c =
    let counted = play_used c.args.summary.now.images c.records.used c.records.lab c.records.summary c.records.begun.client c.records.invariant.3 in
    omega (arith, counted, c.records-test.true)

pub returns-in-Over-2-clause-played : goal.returns-in-Over-2-clause-played
returns-in-Over-2-clause-played c = record {
  used = c.records.used + 1;
  few = omega (arith, c.records-test.true);
  plays = c.in_ok-use_next.ensures.plays c.args.summary.now.images c.records.used c.records.invariant.3;
  over = step_over c.in-Over-2.status (c.records.used + 1) c.use_next.new.client.stage (subst (λ (e : StepEnd). StepLeaves e c.use_next.new.client.stage) c.in-Over-2.is c.in_ok-use_next.ensures.leaves);
}
