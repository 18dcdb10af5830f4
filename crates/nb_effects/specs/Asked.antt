-- What is asked for, kept in place: our own.
use Rattle.std.specs.Prelude.{Bool, true, false, Option, Some, None}

-- what stands there counts only where the flag is set
abbrev pub asked : {E : Type 0} → Bool → E → Option E
asked true what = Some what
asked false what = None
