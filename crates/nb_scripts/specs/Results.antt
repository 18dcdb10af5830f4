-- What a script keeps of the results of its commands.
use Rattle.std.specs.Prelude.{if◌then◌else◌}
use Rattle.nb_terms.specs.declared.cause.Cause.{Cause}
use Rattle.nb_defs.specs.Causes.{ok, is_ok_cause}

-- a result, as a script keeps it: a success has no numbers
abbrev pub kept_result : Cause → Cause
kept_result cause = if is_ok_cause cause then ok else cause
