-- The record of a script that takes the place of another.
use Rattle.std.specs.Prelude.{ℕ}
use Rattle.nb_defs.specs.Causes.{ok}
use Rattle.nb_defs.specs.Records.{Out, script}

-- another script runs at this depth
abbrev pub replace : ℕ → Out
replace depth = script 2 depth ok
