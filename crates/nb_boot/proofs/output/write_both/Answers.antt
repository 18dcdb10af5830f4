use Rattle.nb_boot.proofs.Written.{on_err_then, stopped_later}
use Rattle.nb_boot.proofs.output.write_both.Goals as goal

pub returns-clause-err : goal.returns-clause-err
returns-clause-err g c =
    on_err_then c.write_all-2.result _ _ (stopped_later (g.L.Line.outside c.args.line.now) (g.L.Line.outside c.write_all.new.line) (g.L.Line.outside c.write_all-2.new.line)
    c.args.head.now c.args.page.now c.in_ok-write_all.ensures.ok) c.write_all-2.ensures.err
