use Rattle.nb_boot.proofs.Closings.{no_memory_shows}
use Rattle.nb_boot.proofs.top.run_attached.Goals as goal

pub returns-in-Err : goal.returns-in-Err
returns-in-Err g c = no_memory_shows (g.L.Line.outside c.args.line.now)
