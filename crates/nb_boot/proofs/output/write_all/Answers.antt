use Rattle.std.proofs.Common.{arith}
use Rattle.std.proofs.lemmas.List.{take_all}
use Rattle.nb_boot.proofs.Written.{wrote_nothing, more_written, stopped_there, on_err, length-rest}
use Rattle.nb_boot.proofs.output.write_all.Goals as goal

pub loop-at-init : goal.loop-at-init
loop-at-init g c = (omega arith, wrote_nothing (g.L.Line.outside c.args.line.now))

pub returns-in_err-at-clause-err : goal.returns-in_err-at-clause-err
returns-in_err-at-clause-err g c =
    let failed = c.in_err-at.ensures.failed in
    on_err c.from_residual.result _ (stopped_there (g.L.Line.outside c.args.line.now) (g.L.Line.outside c.loop-at.line) (g.L.Line.outside c.write.new.self)
    c.args.bytes.now c.loop-at.at (omega arith) c.loop-at.invariant.1 failed.0 failed.1)

pub loop-at-preserved : goal.loop-at-preserved
loop-at-preserved g c = (
  omega (arith, c.in_ok-at.ensures.within, length-rest c.args.bytes.now c.loop-at.at, c.loop-at.invariant.0),
  more_written (g.L.Line.outside c.args.line.now) (g.L.Line.outside c.loop-at.line) (g.L.Line.outside c.write.new.self)
      c.args.bytes.now c.loop-at.at c.in_ok-at.field-0 c.loop-at.invariant.0 c.loop-at.invariant.1 c.in_ok-at.ensures.ok,
)

pub returns-clause-ok : goal.returns-clause-ok
returns-clause-ok g c =
    rw (← take_all c.loop-at.at c.args.bytes.now (omega arith)) c.loop-at.invariant.1
