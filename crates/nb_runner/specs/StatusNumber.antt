-- The number of each status.
use Rattle.std.specs.Prelude.{ℕ}
use Rattle.nb_runner.specs.declared.status.Status.{Status}
use Rattle.nb_runner.specs.declared.status.Status.TheVariants.{HandedOff, BadWords, Ended, ScriptFailed, Unfinished, BadRecord, ReadFault, WriteFault, NoMemory, AttachFault, TooManyRecords}

abbrev pub status_number : Status → ℕ
status_number HandedOff = 0
status_number BadWords = 2
status_number Ended = 3
status_number ScriptFailed = 4
status_number Unfinished = 5
status_number BadRecord = 6
status_number ReadFault = 7
status_number WriteFault = 8
status_number NoMemory = 9
status_number AttachFault = 10
status_number TooManyRecords = 11

-- the statuses of a run whose first script was left
abbrev pub IsLeftEnd : Status → Type 0
IsLeftEnd Ended = Unit {0}
IsLeftEnd ScriptFailed = Unit {0}
IsLeftEnd _ = ⊥
