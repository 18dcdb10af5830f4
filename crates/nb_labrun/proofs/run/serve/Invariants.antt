use Rattle.std.proofs.Common.{◌≤◌, ◌-◌}
use Rattle.nb_client.specs.Progressing.{AwaitsRecord}
use Rattle.nb_labrun.specs.Playing.{InPlay, IsCleared}
use Rattle.nb_labrun.proofs.run.serve.Given as goal

-- the next record is waited for after so many
abbrev pub invariant-records : goal.invariant-records
invariant-records l = (l.used ≤ 4294967295) × AwaitsRecord l.begun.client.stage × IsCleared l.log
    × InPlay l.fn.summary.images l.used l.lab l.summary l.begun.client

abbrev pub decreases-records : goal.decreases-records
decreases-records l = 4294967295 - l.used
