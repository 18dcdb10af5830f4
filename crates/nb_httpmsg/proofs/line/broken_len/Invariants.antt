use Rattle.std.proofs.Common.{◌≤◌, ◌<◌, ◌-◌, length, take}
use Rattle.httparse.specs.Grammar.{NeverHasChunkLine}
use Rattle.nb_httpmsg.proofs.line.broken_len.Given as goal

abbrev pub invariant-loop-high : goal.invariant-loop-high
invariant-loop-high l = record { less : l.low < l.high; within : l.high ≤ length l.line; may : NeverHasChunkLine (take l.low l.line) → ⊥; never : NeverHasChunkLine (take l.high l.line) }

abbrev pub decreases-loop-high : goal.decreases-loop-high
decreases-loop-high l = l.high - l.low
