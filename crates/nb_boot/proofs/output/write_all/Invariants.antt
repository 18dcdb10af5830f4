use Rattle.std.proofs.Common.{◌≤◌, ◌-◌, length, take}
use Rattle.nb_boot.specs.Going.{Wrote}
use Rattle.nb_boot.proofs.output.write_all.Given as goal

-- the bytes so far were written
abbrev pub invariant-loop-at : goal.invariant-loop-at
invariant-loop-at g l = (l.at ≤ length l.bytes) × Wrote (g.L.Line.outside l.fn.line) (g.L.Line.outside l.line) (take l.at l.bytes)

abbrev pub decreases-loop-at : goal.decreases-loop-at
decreases-loop-at g l = length l.bytes - l.at
