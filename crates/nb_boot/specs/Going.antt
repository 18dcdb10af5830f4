-- A run that goes on: what was read and written, what the log still holds, and what its client stands for.
use Rattle.std.specs.Prelude.{◌≡◌, ◌<◌, ◌≤◌, ℕ, ◌+◌, Bool, true, false, List, [], ◌∷◌, ◌++◌, length, Option, Some, None}
use Rattle.nb_defs.specs.Records.{In, in_texts, Out, out_texts, IsPartial}
use Rattle.nb_machine.specs.Courses.{Progress, nowhere}
use Rattle.nb_traced.specs.Holdings.{Holdings, no_holdings}
use Rattle.nb_traced.specs.Outputs.{Arrived, Traced}
use Rattle.nb_client.specs.Snapshots.{Snapshot, StandsForProgress, FitsOutput}
use Rattle.nb_client.specs.Progressing.{IsAtWork, IsFinal, AwaitsRecord, RunEndsWith, most_moves}
use Rattle.nb_record.specs.Outside.{Outside, Passes, Rose, IsAtEnd}
use Rattle.nb_record.specs.Logged.{Logged}
use Rattle.nb_record.specs.declared.notes.ReadNote.{ReadNote}
use Rattle.nb_boot.specs.InTurn.{IsInTurn, MayGoOn, OfEachRead}
use Rattle.nb_boot.specs.Following.{FollowsMachine}
use Rattle.nb_boot.specs.Run.{Shows}
use Rattle.nb_boot.specs.Shown.{IsFirst, IsOther}
use Rattle.nb_runner.specs.declared.status.Status.{Status}
use Rattle.nb_runner.specs.declared.status.Status.TheVariants as status
use Rattle.nb_boot.specs.declared.output.Flaw.{Flaw}
use Rattle.nb_boot.specs.declared.output.Flaw.TheVariants as flaw
use Rattle.nb_boot.specs.declared.feeding.Filled.{Filled}
use Rattle.nb_boot.specs.declared.feeding.Filled.TheVariants as filled
use Rattle.nb_boot.specs.declared.play.StepEnd.{StepEnd}
use Rattle.nb_boot.specs.declared.play.StepEnd.TheVariants as ending

-- a read was in its turn, and where nothing was put since, no step is under way
pub record TookTurn (m : Progress) (first : Outside) (ins : List In) (outs : List Out) (read : ReadNote) : Type 0 where
  pub turn : IsInTurn first ins outs read
  pub rests : turn.later ≡ [] → MayGoOn m.standing

-- The records used led the machine and the graph here, whose objects are these, and their output was written, or stands in the
-- log. Of what was read these bytes are held.
pub record Going (ins : List In) (held : List ℕ) (first now : Outside) (log : Logged) (m : Progress) (p : Holdings) : Type 0 where
  pub outs : List Out
  pub came : List Arrived
  pub written : List ℕ
  pub lost : List ℕ
  pub passes : Passes first now (in_texts ins ++ held) written
  pub follows : FollowsMachine ins outs m came
  pub traced : Traced outs p came
  pub texts : out_texts outs ≡ (written ++ log.bytes) ++ lost
  pub whole : log.is_short ≡ false → lost ≡ []
  pub few : m.used ≤ 4294967295
  pub in_turn : OfEachRead (TookTurn m first ins outs) first now

-- a run that goes on with a client, which stands for its progress, and has these objects
pub record Goes (ins : List In) (held : List ℕ) (first now : Outside) (log : Logged) (c : Snapshot) : Type 0 where
  pub progress : Progress
  pub holdings : Holdings
  pub stands : StandsForProgress c progress
  pub fits : FitsOutput c holdings
  pub going : Going ins held first now log progress holdings

-- a run that goes on after so many records
pub record Waits (count : ℕ) (held : List ℕ) (first now : Outside) (log : Logged) (c : Snapshot) : Type 0 where
  pub ins : List In
  pub counted : length ins ≡ count
  pub goes : Goes ins held first now log c

-- the status of a flaw
abbrev pub flaw_status : Flaw → Status
flaw_status flaw.WriteFault = status.WriteFault
flaw_status flaw.NoMemory = status.NoMemory

-- all the bytes were written, and nothing was read
pub record Wrote (before after : Outside) (bytes : List ℕ) : Type 0 where
  pub passes : Passes before after [] bytes
  pub reads_stay : after.reads ≡ before.reads

-- a prefix of the bytes was written, and then a write failed: the others weren't
pub record Stopped (before after : Outside) (bytes : List ℕ) : Type 0 where
  pub part : List ℕ
  pub lost : List ℕ
  pub fronts : bytes ≡ part ++ lost
  pub missing : 0 < length lost
  pub wrote : Wrote before after part
  pub rose : Rose before.write_faults after.write_faults

-- why the log couldn't be written out
abbrev pub IsFlaw : Flaw → Outside → Outside → Logged → Type 0
IsFlaw flaw.WriteFault before after log = (log.is_short ≡ false) × Stopped before after log.bytes
IsFlaw flaw.NoMemory before after log = Wrote before after []

-- a log that has gathered these bytes more
abbrev pub log_with_more : Logged → List ℕ → Logged
log_with_more log more = record { bytes = log.bytes ++ more; room = log.room; is_short = log.is_short }

-- whatever run went on before, it goes on afterwards, with this held of what was read
abbrev pub KeepsRun : List ℕ → List ℕ → Outside → Outside → Logged → Logged → Type 0
KeepsRun held held' before now old new =
    (ins : List In) (first : Outside) (m : Progress) (p : Holdings) → Going ins held first before old m p → Going ins held' first now new m p

-- whatever run went on before, this is its status
abbrev pub Cuts : Status → List ℕ → Outside → Outside → Logged → Type 0
Cuts s held before now old = (ins : List In) (first : Outside) (m : Progress) (p : Holdings) → Going ins held first before old m p → Shows s first now

-- the same, of any bytes held
abbrev pub CutsAll : Status → Outside → Outside → Logged → Type 0
CutsAll s before now old = (held : List ℕ) → Cuts s held before now old

-- the same of a run between two steps
abbrev pub WaitsOn : List ℕ → List ℕ → Outside → Outside → Logged → Logged → Type 0
WaitsOn held held' before now old new =
    (ins : List In) (first : Outside) (m : Progress) (p : Holdings) → MayGoOn m.standing → Going ins held first before old m p → Going ins held' first now new m p

-- what a read brings to a run between two steps
abbrev pub Fills : Filled → List ℕ → List ℕ → Outside → Outside → Logged → Logged → Type 0
Fills filled.More held held' before now old new = WaitsOn held held' before now old new
Fills filled.Ended held held' before now old new = WaitsOn held held' before now old new × IsPartial held' × IsAtEnd now
Fills filled.Fault held held' before now old new =
    (ins : List In) (first : Outside) (m : Progress) (p : Holdings) → MayGoOn m.standing → Going ins held first before old m p → Shows status.ReadFault first now
Fills (filled.Cut f) held held' before now old new =
    (ins : List In) (first : Outside) (m : Progress) (p : Holdings) → MayGoOn m.standing → Going ins held first before old m p → Shows (flaw_status f) first now

-- a record has a number of 32 bits
abbrev pub HasNumber : List In → ℕ → Type 0
HasNumber [] count = Unit {0}
HasNumber (r ∷ rs) count = count < 4294967295

-- From a client to another, by these records of those held: whatever run went on before goes on afterwards.
abbrev pub LeadsOn : List In → Outside → Outside → Logged → Logged → Snapshot → Snapshot → Type 0
LeadsOn used before now old new c c' =
    (ins : List In) (rest : List ℕ) (first : Outside) → Goes ins (in_texts used ++ rest) first before old c → Goes (ins ++ used) rest first now new c'

-- whatever run of a client went on before, with these records held, this is its status
abbrev pub Stops : Status → List In → Outside → Outside → Logged → Snapshot → Type 0
Stops s used before now old c =
    (ins : List In) (rest : List ℕ) (first : Outside) → Goes ins (in_texts used ++ rest) first before old c → Shows s first now

-- how a step ends, with these records used: the next is waited for, the run is over, or it was cut short
abbrev pub StepsTo : StepEnd → List In → Outside → Outside → Logged → Logged → Snapshot → Snapshot → Type 0
StepsTo ending.Waits used before now old new c c' = AwaitsRecord c'.stage × LeadsOn used before now old new c c'
StepsTo (ending.Over s) used before now old new c c' = IsFinal s × RunEndsWith c'.stage s × LeadsOn used before now old new c c'
StepsTo (ending.Cut f) used before now old new c c' = Stops (flaw_status f) used before now old c

-- a piece was written and the step goes on, nearer to its end; or there was none, and nothing was done
abbrev pub WritesPiece : Bool → Outside → Outside → Logged → Logged → Snapshot → Snapshot → Type 0
WritesPiece true before now old new c c' = IsAtWork c'.stage × LeadsOn [] before now old new c c' × (most_moves c'.stage c' < most_moves c.stage c)
WritesPiece false before now old new c c' = (new ≡ old) × (c' ≡ c)

-- a turn's status: the run's, or out of memory
abbrev pub IsStatusOf : Status → StepEnd → Type 0
IsStatusOf s ending.Waits = ⊥
IsStatusOf s (ending.Over t) = (t ≡ s) × (s ≡ status.NoMemory → ⊥)
IsStatusOf s (ending.Cut f) = (s ≡ status.NoMemory) × (f ≡ flaw.NoMemory)

-- a record was used and the next is waited for, or the run is over with this status
abbrev pub UsesRecord : Option Status → In → Outside → Outside → Logged → Logged → Snapshot → Snapshot → Type 0
UsesRecord None r before now old new c c' = AwaitsRecord c'.stage × LeadsOn (r ∷ []) before now old new c c'
UsesRecord (Some s) r before now old new c c' = Stops s (r ∷ []) before now old c

-- one record more was used and the next is waited for, or the run is over with this status
abbrev pub UsesNext : Option Status → List ℕ → List ℕ → Outside → Outside → Logged → Logged → Snapshot → Snapshot → Type 0
UsesNext None held held' before now old new c c' =
    AwaitsRecord c'.stage × ((n : ℕ) (first : Outside) → Waits n held first before old c → Waits (n + 1) held' first now new c')
UsesNext (Some s) held held' before now old new c c' =
    (n : ℕ) (first : Outside) → Waits n held first before old c → Shows s first now

-- the statuses that DONE tells
abbrev pub IsClosing : Status → Type 0
IsClosing status.HandedOff = Unit {0}
IsClosing status.Ended = Unit {0}
IsClosing status.ScriptFailed = Unit {0}
IsClosing status.Unfinished = Unit {0}
IsClosing status.BadRecord = Unit {0}
IsClosing status.TooManyRecords = Unit {0}
IsClosing _ = ⊥

-- a client was made, and used START: the next record is waited for
abbrev pub Opens : List ℕ → List ℕ → Outside → Outside → Logged → Logged → Snapshot → Type 0
Opens held held' before now old new c = AwaitsRecord c.stage × ((first : Outside) → Going [] held first before old nowhere no_holdings → Waits 1 held' first now new c)

-- the run is over, before START or in its step
abbrev pub RefusesRun : Status → List ℕ → Outside → Outside → Logged → Type 0
RefusesRun s held before now old = (first : Outside) → Going [] held first before old nowhere no_holdings → Shows s first now

-- whether a record is a START
abbrev pub TellsFirst : Bool → In → Type 0
TellsFirst true r = IsFirst r
TellsFirst false r = IsOther r

-- the status of a run whose input ended where the next record is waited for: no byte is left, or a prefix of one
abbrev pub IsEndStatus : Status → List ℕ → Type 0
IsEndStatus s [] = s ≡ status.Unfinished
IsEndStatus s (b ∷ bytes) = s ≡ status.BadRecord
