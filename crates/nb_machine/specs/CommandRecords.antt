-- The records of a command, of a reply, and the causes that a run itself gives.
use Rattle.std.specs.Prelude.{ℕ, List, [], ◌∷◌, ◌++◌, Option, Some, None, if◌then◌else◌}
use Rattle.nb_terms.specs.declared.cause.Cause.{Cause}
use Rattle.nb_defs.specs.Causes.{is_ok_cause, plain_cause}
use Rattle.nb_defs.specs.Records.{Out, sent, text, command, result}
use Rattle.nb_defs.specs.Commands.{CommandOutcome}
use Rattle.nb_machine.specs.Running.{Running}
use Rattle.nb_machine.specs.Effects.{ShownWords}

-- what a command prints
abbrev pub prints : Option (List ℕ) → List Out
prints None = []
prints (Some bytes) = text bytes ∷ []

-- a command begins, on the line passed last
abbrev pub command_record : Running → ShownWords → Out
command_record s t = command s.depth s.passed s.place t.expanded t.words

-- the records of a command that is over at once: COMMAND, what it prints, RESULT
abbrev pub command_records : Running → ShownWords → CommandOutcome → List Out
command_records s t o = (command_record s t ∷ []) ++ prints o.prints ++ (result o.cause ∷ [])

-- there is no way to this server
abbrev pub no_route : ℕ → Cause
no_route server = record { code = 9; a = server; b = 0 }

-- the run was ended from outside
abbrev pub stopped_cause : Cause
stopped_cause = plain_cause 26

-- a reply to a frame, if there is one
abbrev pub reply_records : List ℕ → List Out
reply_records [] = []
reply_records (b ∷ bytes) = sent (b ∷ bytes) ∷ []

-- the status of a run whose first script was left with this cause: Ended or ScriptFailed
abbrev pub status_of : Cause → ℕ
status_of cause = if is_ok_cause cause then 3 else 4
