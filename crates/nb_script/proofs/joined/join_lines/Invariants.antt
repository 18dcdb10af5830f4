use Rattle.std.proofs.Common.{◌≡◌, ◌+◌, ◌≤◌, length}
use Rattle.nb_defs.specs.ScriptLines.{joined_lines}
use Rattle.nb_script.specs.Joined.{lines_before, IsBegun, size_of}
use Rattle.nb_script.proofs.joined.join_lines.Given as goal

abbrev pub invariant-loop-line : goal.invariant-loop-line
invariant-loop-line l =
    (lines_before l.joined (joined_lines l.rest) ≡ joined_lines l.text) × IsBegun l.joined × (size_of l.joined + length l.rest ≤ length l.text)

abbrev pub decreases-loop-line : goal.decreases-loop-line
decreases-loop-line l = length l.rest
