use Rattle.std.proofs.Common.{map}
use Rattle.nb_defs.specs.ScriptLines.{script_line}
use Rattle.nb_script.specs.Busy.{HasBusyLines}
use Rattle.nb_script.proofs.busy.busy_of.Given as goal

abbrev pub invariant-loop-place : goal.invariant-loop-place
invariant-loop-place l = HasBusyLines (map script_line l.lines.lines) l.place l.busy
