-- How the first script's text is read.
use Rattle.std.specs.Prelude.{◌≡◌, ℕ, List, Some}
use Rattle.nb_defs.specs.ScriptLines.{Line, script}
use Rattle.nb_machine.specs.FirstText.{first_reading, text_refusal}
use Rattle.nb_machine.specs.Running.{Running, first_script}
use Rattle.nb_runner.specs.declared.first_script.Unread.{Unread}
use Rattle.nb_runner.specs.declared.first_script.Unread.TheVariants as text

-- the text's script, before its first line
pub record RunsFirst (bytes : List ℕ) (s : Running) : Type 0 where
  pub code : List Line
  pub reads : first_reading bytes ≡ script code
  pub same : s ≡ first_script code

-- the text is refused so, or memory ran out
abbrev pub IsRefusalOf : List ℕ → Unread → Type 0
IsRefusalOf bytes (text.Refused cause) = text_refusal (first_reading bytes) ≡ Some cause
IsRefusalOf bytes text.NoMemory = Unit {0}
