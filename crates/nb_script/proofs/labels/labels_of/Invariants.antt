use Rattle.std.proofs.Common.{ℕ, List, map}
use Rattle.nb_defs.specs.ScriptLines.{script_line}
use Rattle.nb_script.specs.Labels.{place_under, IsFirstBefore}
use Rattle.nb_script.proofs.labels.labels_of.Given as goal

abbrev pub invariant-loop-place : goal.invariant-loop-place
invariant-loop-place l = (name : List ℕ) → IsFirstBefore name (map script_line l.lines.lines) l.place (place_under l.labels name)
