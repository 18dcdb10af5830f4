-- A text that is to run: the script that it is, or why it is none.
use Rattle.std.specs.Prelude.{◌≡◌, ℕ, List}
use Rattle.nb_terms.specs.declared.cause.Cause.{Cause}
use Rattle.nb_terms.specs.declared.reason.Long.TheVariants as long
use Rattle.nb_terms.specs.declared.reason.Reason.TheVariants as reason
use Rattle.nb_terms.specs.Reasons.{as_cause}
use Rattle.nb_defs.specs.Causes.{not_script}
use Rattle.nb_defs.specs.ScriptLines.{Reading, script, no_script, script_too_long, line_too_long, script_reading}
use Rattle.nb_script.specs.declared.error.ScriptError.{ScriptError}
use Rattle.nb_script.specs.declared.error.ScriptError.TheVariants as error
use Rattle.nb_scripts.specs.declared.entry.TextRead.{TextRead}
use Rattle.nb_scripts.specs.declared.entry.TextRead.TheVariants as read

-- the text has more than 1,048,576 bytes
abbrev pub long_script : Cause
long_script = as_cause (reason.TooLong long.Script)

-- a line has more than 4,096 bytes
abbrev pub long_line : Cause
long_line = as_cause (reason.TooLong long.Line)

-- why what a text is doesn't run
abbrev pub IsRefusal : Reading → Cause → Type 0
IsRefusal (script code) cause = ⊥
IsRefusal no_script cause = cause ≡ not_script
IsRefusal script_too_long cause = cause ≡ long_script
IsRefusal line_too_long cause = cause ≡ long_line

-- a text is a script, or is refused with the cause of what it is
abbrev pub IsTextRead : List ℕ → TextRead → Type 0
IsTextRead text (read.Runs code) = script_reading text ≡ script code
IsTextRead text (read.Refused cause) = IsRefusal (script_reading text) cause

-- the cause of an error of a text
abbrev pub IsCauseOf : ScriptError → Cause → Type 0
IsCauseOf error.NotScript cause = cause ≡ not_script
IsCauseOf error.ScriptTooLong cause = cause ≡ long_script
IsCauseOf error.LineTooLong cause = cause ≡ long_line
IsCauseOf error.TooManyWords cause = ⊥
IsCauseOf error.NoMemory cause = ⊥
