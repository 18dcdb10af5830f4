-- Causes by name, each of a reason. A cause is a code and two numbers; code 0 is Ok.
use Rattle.std.specs.Prelude.{ℕ, Bool, ◌==◌, if◌then◌else◌}
use Rattle.nb_terms.specs.declared.cause.Cause.{Cause}
use Rattle.nb_terms.specs.declared.reason.Plain.TheVariants as plain
use Rattle.nb_terms.specs.declared.reason.Reason.TheVariants as reason
use Rattle.nb_terms.specs.Reasons.{as_cause}

-- a cause whose numbers are 0
abbrev pub plain_cause : ℕ → Cause
plain_cause code = record { code = code; a = 0; b = 0 }

-- all went well
abbrev pub ok : Cause
ok = as_cause (reason.Plain plain.Ok)

-- the first line isn't `#!ipxe`
abbrev pub not_script : Cause
not_script = as_cause (reason.Plain plain.NotScript)

-- no such command
abbrev pub unknown : Cause
unknown = as_cause (reason.Plain plain.Unknown)

-- the words don't fit the command
abbrev pub usage : Cause
usage = as_cause (reason.Plain plain.Usage)

-- the script left by `exit n`: Ok where n is 0
abbrev pub exit_cause : ℕ → Cause
exit_cause n = if n == 0 then ok else as_cause (reason.Exit n)

-- whether a cause is Ok
abbrev pub is_ok_cause : Cause → Bool
is_ok_cause c = c.code == 0
