-- Why something ended, as a cause: a code and two numbers. docs/RECORDS.md has the codes.
use Rattle.std.specs.Prelude.{ℕ}
use Rattle.nb_terms.specs.declared.cause.Cause.{Cause}
use Rattle.nb_terms.specs.declared.reason.Plain.{Plain}
use Rattle.nb_terms.specs.declared.reason.Plain.TheVariants as plain
use Rattle.nb_terms.specs.declared.reason.Long.{Long}
use Rattle.nb_terms.specs.declared.reason.Long.TheVariants as long
use Rattle.nb_terms.specs.declared.reason.Large.{Large}
use Rattle.nb_terms.specs.declared.reason.Large.TheVariants as large
use Rattle.nb_terms.specs.declared.reason.Many.{Many}
use Rattle.nb_terms.specs.declared.reason.Many.TheVariants as many
use Rattle.nb_terms.specs.declared.reason.Fullness.{Fullness}
use Rattle.nb_terms.specs.declared.reason.Fullness.TheVariants as fullness
use Rattle.nb_terms.specs.declared.reason.Reason.{Reason}
use Rattle.nb_terms.specs.declared.reason.Reason.TheVariants as reason

abbrev pub code_of_plain : Plain → ℕ
code_of_plain plain.Ok = 0
code_of_plain plain.NoServer = 10
code_of_plain plain.NoSecret = 11
code_of_plain plain.NoImage = 12
code_of_plain plain.NoLabel = 13
code_of_plain plain.NotScript = 14
code_of_plain plain.BadUri = 15
code_of_plain plain.NoScheme = 16
code_of_plain plain.BadName = 17
code_of_plain plain.BadValue = 18
code_of_plain plain.Unknown = 19
code_of_plain plain.Usage = 20
code_of_plain plain.False = 21
code_of_plain plain.NoMemory = 23
code_of_plain plain.Down = 25
code_of_plain plain.Stopped = 26
code_of_plain plain.NotBootable = 27
code_of_plain plain.NoDrive = 28

abbrev pub number_of_long : Long → ℕ
number_of_long long.Line = 1
number_of_long long.Value = 2
number_of_long long.Stream = 3
number_of_long long.Blocks = 4
number_of_long long.Script = 5
number_of_long long.Head = 6
number_of_long long.Path = 7

abbrev pub number_of_large : Large → ℕ
number_of_large large.Image = 1
number_of_large large.Images = 2

abbrev pub number_of_many : Many → ℕ
number_of_many many.Words = 1
number_of_many many.Moves = 2
number_of_many many.Images = 3
number_of_many many.Scripts = 4
number_of_many many.Settings = 5
number_of_many many.Fields = 7

abbrev pub number_of_full : Fullness → ℕ
number_of_full fullness.Objects = 1
number_of_full fullness.Opens = 2
number_of_full fullness.Drives = 3

-- the cause of a reason
abbrev pub as_cause : Reason → Cause
as_cause (reason.Plain name) = record { code = code_of_plain name; a = 0; b = 0 }
as_cause (reason.Refused rec code) = record { code = 1; a = rec; b = code }
as_cause (reason.TimedOut tries) = record { code = 2; a = tries; b = 0 }
as_cause (reason.Broken rec) = record { code = 3; a = rec; b = 0 }
as_cause (reason.Deadline ms) = record { code = 4; a = ms; b = 0 }
as_cause (reason.TooLong what) = record { code = 5; a = number_of_long what; b = 0 }
as_cause (reason.TooLarge what) = record { code = 6; a = number_of_large what; b = 0 }
as_cause (reason.TooMany what) = record { code = 7; a = number_of_many what; b = 0 }
as_cause (reason.Full what) = record { code = 8; a = number_of_full what; b = 0 }
as_cause (reason.NoRoute address) = record { code = 9; a = address.0; b = 0 }
as_cause (reason.Exit n) = record { code = 24; a = n; b = 0 }
