use Rattle.std.proofs.Common.{◌+◌, Bool, refl, ap, ◌∙◌, arith}
use Rattle.nb_reasm.specs.Slots.{mark_of}
use Rattle.nb_reasm.specs.declared.ring.Ring.{Ring}
use Rattle.nb_reasm.proofs.RingLemmas.{Joins, joins_joinable, joins_held}
use Rattle.nb_reasm.proofs.StepLemmas.{RunOf, run_beside, run_mark, not_marked, is_marked}
use Rattle.nb_reasm.proofs.ring.Ring.join.Goals as goal

pub returns-then-not-run-clause-ring : goal.returns-then-not-run-clause-ring
returns-then-not-run-clause-ring c =
    let r : Ring = c.loop-self.self in
    let is : RunOf r r.next c.marked_end-in-loop-self.result c.run-run.result = record {
      joinable = c.loop-self.invariant.ring;
      from = omega arith;
      high = omega (arith, c.marked_end-in-loop-self.ensures);
      is_run = c.run-run.ensures;
    } in
    record {
      joinable = c.loop-self.invariant.ring;
      here = λ l. run_mark r r.next c.marked_end-in-loop-self.result c.run-run.result is r.next (omega arith) (omega (arith, c.run-run.ensures.some)) ∙ ap (λ (b : Bool). mark_of b) (not_marked c.run-run.result.marked c.if-not-run.true);
    }

pub loop-self-preserved : goal.loop-self-preserved
loop-self-preserved c =
    let r : Ring = c.loop-self.self in
    let s : Ring = record { memory = r.memory; marks = c.turn.new.self; start = r.start; base = r.base; next = r.next + c.run-run.result.len; end = r.end } in
    let is : RunOf r r.next c.marked_end-in-loop-self.result c.run-run.result = record {
      joinable = c.loop-self.invariant.ring;
      from = omega arith;
      high = omega (arith, c.marked_end-in-loop-self.ensures);
      is_run = c.run-run.ensures;
    } in
    let j : Joins r s c.run-run.result.slot c.run-run.result.len = record {
      turns = record {
        beside = run_beside r r.next c.marked_end-in-loop-self.result c.run-run.result is;
        size = refl;
        start = refl;
        base = refl;
        words = c.turn.ensures.room;
        turned = c.turn.ensures.turned;
        others = c.turn.ensures.others;
      };
      some = c.run-run.ensures.some;
      marked = λ k l. c.run-run.ensures.alike k l ∙ ap (λ (b : Bool). mark_of b) (is_marked c.run-run.result.marked c.if-not-run.false);
      memory = refl;
      next = refl;
      end = refl;
    } in
    record {
      ring = joins_joinable r s c.run-run.result.slot c.run-run.result.len j;
      same = c.loop-self.invariant.same;
      held = λ p. joins_held r s c.run-run.result.slot c.run-run.result.len j p ∙ c.loop-self.invariant.held p;
    }
