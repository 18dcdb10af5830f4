-- What a call for a lab shows: a run of the client in it, and its summary.
use Rattle.std.specs.Prelude.{◌≡◌, ℕ, List, [], ◌++◌, Some, None}
use Rattle.nb_record.specs.Outside.{Outside}
use Rattle.nb_runner.specs.StatusNumber.{status_number}
use Rattle.nb_runner.specs.declared.status.Status.{Status}
use Rattle.nb_runner.specs.declared.status.Status.TheVariants as status
use Rattle.nb_boot.specs.Going.{Stopped, Wrote}
use Rattle.nb_boot.specs.Shown.{Shown, IsSaid}
use Rattle.nb_lab.specs.Labs.{LabState}
use Rattle.nb_lab.specs.Summaries.{summary}
use Rattle.nb_labrun.specs.Runs.{InLab}

-- a line over memory: these bytes are left to read; and they were read, and those taken
abbrev pub outside_before : List ℕ → Outside
outside_before input = record { left = Some input; taken = Some []; reads = None; attach_faults = 0; read_faults = 0; write_faults = 0 }

abbrev pub line_after : List ℕ → Outside
line_after output = record { left = Some []; taken = Some output; reads = None; attach_faults = 0; read_faults = 0; write_faults = 0 }

-- the statuses of a run in a lab
abbrev pub EndsLab : Status → Type 0
EndsLab status.Ended = Unit {0}
EndsLab status.ScriptFailed = Unit {0}
EndsLab status.TooManyRecords = Unit {0}
EndsLab _ = ⊥

-- A run of the client that has ended with this status: all that a call of `netboot` shows holds of it, as if its records had been
-- read from a line and written to it; its records are those of the lab; and the text is its summary.
pub record LabRun (images : ℕ) (s : Status) (text : List ℕ) : Type 0 where
  pub input : List ℕ
  pub output : List ℕ
  pub run : Shown (outside_before input) (line_after output)
  pub said : IsSaid s (outside_before input) (line_after output) run
  pub ends : EndsLab s
  pub lab : LabState
  pub in_lab : InLab images run.ins (run.outs ++ run.closing) lab
  pub spelled : text ≡ summary images run.ins (run.outs ++ run.closing) (status_number s)

-- the whole summary of a run that ended with this status was written, and nothing was read
pub record WritesSummary (images : ℕ) (s : Status) (before after : Outside) : Type 0 where
  pub text : List ℕ
  pub run : LabRun images s text
  pub wrote : Wrote before after text

-- a write failed, and a prefix of the summary of a run was written
pub record WritesPart (images : ℕ) (before after : Outside) : Type 0 where
  pub status : Status
  pub text : List ℕ
  pub run : LabRun images status text
  pub stopped : Stopped before after text

-- What a status says. Where memory ran out nothing was written.
abbrev pub ShowsLab : ℕ → Status → Outside → Outside → Type 0
ShowsLab images status.Ended before after = WritesSummary images status.Ended before after
ShowsLab images status.ScriptFailed before after = WritesSummary images status.ScriptFailed before after
ShowsLab images status.TooManyRecords before after = WritesSummary images status.TooManyRecords before after
ShowsLab images status.WriteFault before after = WritesPart images before after
ShowsLab images status.NoMemory before after = after ≡ before
ShowsLab images status.HandedOff before after = ⊥
ShowsLab images status.Unfinished before after = ⊥
ShowsLab images status.BadWords before after = ⊥
ShowsLab images status.BadRecord before after = ⊥
ShowsLab images status.ReadFault before after = ⊥
ShowsLab images status.AttachFault before after = ⊥
