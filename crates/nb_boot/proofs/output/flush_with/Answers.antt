use Rattle.std.proofs.Common.{◌++◌}
use Rattle.nb_boot.proofs.Written.{stopped_later}
use Rattle.nb_boot.proofs.output.flush_with.Goals as goal

pub returns-in-Err-write_both-clause-err : goal.returns-in-Err-write_both-clause-err
returns-in-Err-write_both-clause-err g c = (
  c.in-Ok.ensures.whole,
  stopped_later (g.L.Line.outside c.args.line.now) (g.L.Line.outside c.flush.new.line) (g.L.Line.outside c.write_both.new.line) c.args.log.now.bytes (c.args.head.now ++ c.args.page.now)
      c.in-Ok.ensures.ok c.in-Err-write_both.ensures.err,
)
