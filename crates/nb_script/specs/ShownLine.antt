-- Own: what stands on a line, as the definitions have it.
use Rattle.std.specs.Prelude.{ℕ, ◌≤◌, Bool, false, List, length, Option, Some, None}
use Rattle.nb_defs.specs.ScriptLines.{Line, label, list, empty, is_label_of}
use Rattle.nb_script.specs.declared.kind.ScriptLine.{ScriptLine}
use Rattle.nb_script.specs.declared.kind.ScriptLine.TheVariants as on

abbrev pub shown_line : ScriptLine → Line
shown_line (on.Label name) = label name.now
shown_line (on.List line) = list line.now
shown_line on.Nothing = empty

-- what stands there has at most so many bytes
abbrev pub HasAtMost : ℕ → ScriptLine → Type 0
HasAtMost most (on.Label name) = length name.now ≤ most
HasAtMost most (on.List line) = length line.now ≤ most
HasAtMost most on.Nothing = Unit {0}

-- whether a line is there that is the label of this name
abbrev pub is_label_at : List ℕ → Option Line → Bool
is_label_at name None = false
is_label_at name (Some line) = is_label_of name line
