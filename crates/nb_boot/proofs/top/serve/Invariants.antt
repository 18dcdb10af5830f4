use Rattle.std.proofs.Common.{◌≤◌, ◌-◌}
use Rattle.nb_client.specs.Progressing.{AwaitsRecord}
use Rattle.nb_boot.specs.Going.{Waits}
use Rattle.nb_boot.proofs.top.serve.Given as goal

-- a command waits after so many records
abbrev pub invariant-records : goal.invariant-records
invariant-records g l = (l.used ≤ 4294967295) × AwaitsRecord l.client.stage
    × Waits l.used l.feed.bytes (g.L.Line.outside l.fn.line) (g.L.Line.outside l.line) l.log l.client

abbrev pub decreases-records : goal.decreases-records
decreases-records g l = 4294967295 - l.used
