use Rattle.std.proofs.Common.{◌≡◌, length}
use Rattle.nb_defs.specs.ScriptText.{line_words}
use Rattle.nb_defs.specs.ScriptLines.{first_join}
use Rattle.nb_script.specs.Idle.{are_idle_words}
use Rattle.nb_script.specs.ShownJoin.{shown_join}
use Rattle.nb_script.proofs.idle.has_idle_words.Given as goal

abbrev pub invariant-loop-word : goal.invariant-loop-word
invariant-loop-word l = are_idle_words (shown_join l.join) (line_words l.rest) ≡ are_idle_words first_join (line_words l.line)

abbrev pub decreases-loop-word : goal.decreases-loop-word
decreases-loop-word l = length l.rest
