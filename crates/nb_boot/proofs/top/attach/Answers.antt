use Rattle.nb_boot.proofs.Closings.{unattached_shows}
use Rattle.nb_boot.proofs.Attached.{attached_shows}
use Rattle.nb_boot.proofs.top.attach.Goals as goal

pub returns-in-Ok : goal.returns-in-Ok
returns-in-Ok g c =
    attached_shows c.run_attached.result (g.L.Line.outside c.args.line.now) (g.L.Line.outside c.attach.new.self) (g.L.Line.outside c.run_attached.new.line)
    c.attach.ensures.attached c.run_attached.ensures

pub returns-in-Err : goal.returns-in-Err
returns-in-Err g c =
    unattached_shows (g.L.Line.outside c.args.line.now) (g.L.Line.outside c.attach.new.self) c.attach.ensures.attached c.in-Err.ensures.failed
