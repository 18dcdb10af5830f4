-- What the first script's text is, and what comes of any text that is to run.
use Rattle.std.specs.Prelude.{ℕ, List, [], ◌∷◌, ◌++◌, Option, Some, None, codes}
use Rattle.nb_terms.specs.declared.cause.Cause.{Cause}
use Rattle.nb_defs.specs.Causes.{not_script}
use Rattle.nb_defs.specs.ScriptLines.{Line, Reading, script, no_script, script_too_long, line_too_long, script_reading}
use Rattle.nb_scripts.specs.Texts.{long_script, long_line}

-- the script that is built in
unfoldable pub built_in : List ℕ
built_in =
    codes "#!ipxe\ndhcp || exit 1\nisset ${filename} || goto san\nchain ${filename} && exit 0 || goto san\n"
    ++ codes ":san\nisset ${root-path} || exit 1\nsanboot ${root-path}\n"

-- it runs where START gives no text
abbrev pub first_text : List ℕ → List ℕ
first_text [] = built_in
first_text (b ∷ bytes) = b ∷ bytes

abbrev pub first_reading : List ℕ → Reading
first_reading text = script_reading (first_text text)

-- why a text that is to run is left at once, if it is
abbrev pub text_refusal : Reading → Option Cause
text_refusal (script code) = None
text_refusal no_script = Some not_script
text_refusal script_too_long = Some long_script
text_refusal line_too_long = Some long_line

-- the lines of a text; none where it is no script
abbrev pub lines_of : Reading → List Line
lines_of (script code) = code
lines_of no_script = []
lines_of script_too_long = []
lines_of line_too_long = []
