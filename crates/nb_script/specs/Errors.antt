-- Own: which errors are a text's, and which are a list's.
use Rattle.nb_script.specs.declared.error.ScriptError.{ScriptError}
use Rattle.nb_script.specs.declared.error.ScriptError.TheVariants.{NotScript, LineTooLong, ScriptTooLong, TooManyWords, NoMemory}

abbrev pub IsOfText : ScriptError → Type 0
IsOfText NotScript = Unit {0}
IsOfText LineTooLong = Unit {0}
IsOfText ScriptTooLong = Unit {0}
IsOfText TooManyWords = ⊥
IsOfText NoMemory = Unit {0}

abbrev pub IsOfList : ScriptError → Type 0
IsOfList NotScript = ⊥
IsOfList LineTooLong = ⊥
IsOfList ScriptTooLong = ⊥
IsOfList TooManyWords = Unit {0}
IsOfList NoMemory = Unit {0}
