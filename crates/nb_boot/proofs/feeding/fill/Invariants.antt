use Rattle.std.proofs.Common.{◌-◌, length}
use Rattle.nb_boot.specs.Going.{WaitsOn}
use Rattle.nb_boot.proofs.feeding.fill.Given as goal

-- whatever run went on before goes on
abbrev pub invariant-reads : goal.invariant-reads
invariant-reads g l = WaitsOn l.fn.feed.bytes l.feed.bytes (g.L.Line.outside l.fn.line) (g.L.Line.outside l.line) l.fn.log l.log

-- a record has at most 131,076 bytes
abbrev pub decreases-reads : goal.decreases-reads
decreases-reads g l = 131076 - length l.feed.bytes
