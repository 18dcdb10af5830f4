-- How a transfer ends, as causes
use Rattle.std.specs.Prelude.{ℕ}
use Rattle.nb_terms.specs.declared.cause.Cause.{Cause}
use Rattle.nb_terms.specs.declared.reason.Long.TheVariants as long
use Rattle.nb_terms.specs.declared.reason.Plain.TheVariants as plain
use Rattle.nb_terms.specs.declared.reason.Reason.TheVariants as reason
use Rattle.nb_terms.specs.Reasons.{as_cause}

-- the file is whole
abbrev pub ok_cause : Cause
ok_cause = as_cause (reason.Plain plain.Ok)

-- the message in a record refuses with an error number
abbrev pub refused_by : ℕ → ℕ → Cause
refused_by rec error = as_cause (reason.Refused rec error)

-- six tries had no answer
abbrev pub timed_out : Cause
timed_out = as_cause (reason.TimedOut 6)

-- the block in a record is too long
abbrev pub broken_block : ℕ → Cause
broken_block rec = as_cause (reason.Broken rec)

-- block 65,535 was full
abbrev pub too_many_blocks : Cause
too_many_blocks = as_cause (reason.TooLong long.Blocks)
