use Rattle.std.proofs.Common.{◌≡◌, ◌+◌, ◌≤◌, length}
use Rattle.std.specs.List.{count_by}
use Rattle.nb_defs.specs.ScriptText.{line_words}
use Rattle.nb_script.specs.Cutting.{is_join_as}
use Rattle.nb_script.proofs.item.count_words.Given as goal

abbrev pub invariant-loop-word : goal.invariant-loop-word
invariant-loop-word l =
    (l.count + count_by (is_join_as l.joins) (line_words l.rest) ≡ count_by (is_join_as l.joins) (line_words l.line)) × (l.count + length l.rest ≤ length l.line)

abbrev pub decreases-loop-word : goal.decreases-loop-word
decreases-loop-word l = length l.rest
