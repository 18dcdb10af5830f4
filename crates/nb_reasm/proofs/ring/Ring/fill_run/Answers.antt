use Rattle.std.proofs.Common.{◌+◌, ◌-◌, min, length, refl, sym, arith}
use Rattle.nb_reasm.specs.Rings.{capacity}
use Rattle.nb_reasm.proofs.StepLemmas.{run_kept, none_new, all_new, run_filled}
use Rattle.nb_reasm.proofs.ring.Ring.fill_run.Goals as goal

pub returns-then-run-clause-inside : goal.returns-then-run-clause-inside
returns-then-run-clause-inside c = λ p h l.
    run_kept c.args.self.now c.args.at (min (c.args.pos + length c.args.bytes.now) (c.args.self.now.base + capacity c.args.self.now)) c.args.run
    (record {
      joinable = c.requires.ring;
      from = c.requires.from;
      high = omega arith;
      is_run = c.requires.run;
    }) c.if-run.true p h l _

pub returns-then-run-clause-count : goal.returns-then-run-clause-count
returns-then-run-clause-count c = sym (
    none_new c.args.self.now c.args.at (min (c.args.pos + length c.args.bytes.now) (c.args.self.now.base + capacity c.args.self.now)) c.args.run
    (record {
      joinable = c.requires.ring;
      from = c.requires.from;
      high = omega arith;
      is_run = c.requires.run;
    }) c.if-run.true)

pub returns-clause-inside : goal.returns-clause-inside
returns-clause-inside c =
    run_filled c.args.self.now c.hold.new.self c.args.at (min (c.args.pos + length c.args.bytes.now) (c.args.self.now.base + capacity c.args.self.now)) c.args.run
    (record {
      joinable = c.requires.ring;
      from = c.requires.from;
      high = omega arith;
      is_run = c.requires.run;
    }) c.if-run.false c.args.pos _ (c.args.at - c.args.pos) c.args.bytes.now c.requires.first (omega arith) refl (omega (arith, c.requires.run.within, c.requires.first)) c.hold.ensures.fresh

pub returns-clause-count : goal.returns-clause-count
returns-clause-count c = sym (
    all_new c.args.self.now c.args.at (min (c.args.pos + length c.args.bytes.now) (c.args.self.now.base + capacity c.args.self.now)) c.args.run
    (record {
      joinable = c.requires.ring;
      from = c.requires.from;
      high = omega arith;
      is_run = c.requires.run;
    }) c.if-run.false)
