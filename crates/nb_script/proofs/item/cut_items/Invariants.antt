use Rattle.std.proofs.Common.{◌≡◌, ◌≤◌, length}
use Rattle.nb_defs.specs.ScriptText.{line_words}
use Rattle.nb_defs.specs.ScriptLines.{first_join, cut_words}
use Rattle.nb_script.specs.Cutting.{commands_before}
use Rattle.nb_script.proofs.item.cut_items.Given as goal

abbrev pub invariant-loop-word : goal.invariant-loop-word
invariant-loop-word l =
    (commands_before l.cutting (line_words l.rest) ≡ cut_words first_join (line_words l.line)) × (length l.rest ≤ length l.line)

abbrev pub decreases-loop-word : goal.decreases-loop-word
decreases-loop-word l = length l.rest
