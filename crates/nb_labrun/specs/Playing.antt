-- A run in a lab that goes on: what led the client here, how the lab stands, and what was counted.
use Rattle.std.specs.Prelude.{◌≡◌, ◌≤◌, ℕ, ◌+◌, false, List, [], ◌++◌, length}
use Rattle.nb_defs.specs.Records.{In, Out, out_texts}
use Rattle.nb_record.specs.Logged.{Logged}
use Rattle.nb_machine.specs.Courses.{Progress}
use Rattle.nb_traced.specs.Holdings.{Holdings}
use Rattle.nb_traced.specs.Outputs.{Arrived, Traced}
use Rattle.nb_runner.specs.declared.status.Status.{Status}
use Rattle.nb_runner.specs.declared.status.Status.TheVariants as status
use Rattle.nb_client.specs.Snapshots.{Snapshot, StandsForProgress, FitsOutput}
use Rattle.nb_client.specs.Progressing.{AwaitsRecord, CommandRests, IsAtWork, IsFinal, most_moves, RunEndsWith, ScriptRests}
use Rattle.nb_client.specs.declared.client.Turn.{Turn}
use Rattle.nb_client.specs.declared.client.Turn.TheVariants as turn
use Rattle.nb_client.specs.declared.stage.Stage.{Stage}
use Rattle.nb_boot.specs.Following.{FollowsMachine}
use Rattle.nb_lab.specs.Labs.{LabState}
use Rattle.nb_lab.specs.Tallies.{Tally, Counts}
use Rattle.nb_labrun.specs.Delivering.{Delivers}
use Rattle.nb_labrun.specs.Keeping.{StandsInLab}
use Rattle.nb_labrun.specs.Runs.{InLab}
use Rattle.nb_labrun.specs.declared.run.StepEnd.{StepEnd}
use Rattle.nb_labrun.specs.declared.run.StepEnd.TheVariants as ending

-- these records used and put have led the client here
pub record HasLedClient (ins : List In) (outs : List Out) (c : Snapshot) : Type 0 where
  pub progress : Progress
  pub holdings : Holdings
  pub came : List Arrived
  pub stands : StandsForProgress c progress
  pub fits : FitsOutput c holdings
  pub follows : FollowsMachine ins outs progress came
  pub traced : Traced outs holdings came
  pub in_lab : StandsInLab progress.standing

-- so many records were used, and all that was put is delivered and counted
pub record InPlay (images used : ℕ) (l : LabState) (t : Tally) (c : Snapshot) : Type 0 where
  pub ins : List In
  pub outs : List Out
  pub counted : length ins ≡ used
  pub led : HasLedClient ins outs c
  pub in_lab : InLab images ins outs l
  pub counts : Counts t ins outs
  pub are_images : t.images ≡ images

-- these bytes spell what was put last, which isn't delivered and counted yet
pub record IsUndelivered (images used : ℕ) (bytes : List ℕ) (l : LabState) (t : Tally) (c : Snapshot) : Type 0 where
  pub ins : List In
  pub outs : List Out
  pub added : List Out
  pub counted : length ins ≡ used
  pub led : HasLedClient ins (outs ++ added) c
  pub arrives : (l' : LabState) → Delivers l added l' → InLab images ins (outs ++ added) l'
  pub counts : Counts t ins outs
  pub are_images : t.images ≡ images
  pub spelled : bytes ≡ out_texts added

-- the same of what a log has gathered, where it isn't short
abbrev pub GathersUndelivered : ℕ → ℕ → Logged → LabState → Tally → Snapshot → Type 0
GathersUndelivered images used log l t c = log.is_short ≡ false → IsUndelivered images used log.bytes l t c

-- a log that gathered nothing
pub record IsCleared (log : Logged) : Type 0 where
  pub none : log.bytes ≡ []
  pub whole : log.is_short ≡ false

-- how many turns are left at most
abbrev pub turns_left : Turn → Snapshot → ℕ
turns_left turn.More c = most_moves c.stage c + 1
turns_left turn.Waiting c = 0
turns_left turn.Yielded c = 0
turns_left (turn.Over s) c = 0

-- where a turn leaves the client
abbrev pub TurnLeaves : Turn → Stage → Type 0
TurnLeaves turn.More st = IsAtWork st
TurnLeaves turn.Waiting st = CommandRests st
TurnLeaves turn.Yielded st = ScriptRests st
TurnLeaves (turn.Over status.NoMemory) st = Unit {0}
TurnLeaves (turn.Over s) st = IsFinal s × RunEndsWith st s

-- what a turn put is gathered, but where memory ran out
abbrev pub TurnGathers : Turn → ℕ → ℕ → Logged → LabState → Tally → Snapshot → Type 0
TurnGathers turn.More images used log l t c = GathersUndelivered images used log l t c
TurnGathers turn.Waiting images used log l t c = GathersUndelivered images used log l t c
TurnGathers turn.Yielded images used log l t c = GathersUndelivered images used log l t c
TurnGathers (turn.Over status.NoMemory) images used log l t c = Unit {0}
TurnGathers (turn.Over s) images used log l t c = GathersUndelivered images used log l t c

-- and a step: the next record is waited for, or the run has ended
abbrev pub StepLeaves : StepEnd → Stage → Type 0
StepLeaves ending.Waits st = AwaitsRecord st
StepLeaves (ending.Over s) st = IsFinal s × RunEndsWith st s

-- why a run is over, after so many records: the client has ended it, or it waits for one more, and every number was given
abbrev pub PlayIsOver : Status → ℕ → Stage → Type 0
PlayIsOver status.HandedOff used st = RunEndsWith st status.HandedOff
PlayIsOver status.Ended used st = RunEndsWith st status.Ended
PlayIsOver status.ScriptFailed used st = RunEndsWith st status.ScriptFailed
PlayIsOver status.Unfinished used st = RunEndsWith st status.Unfinished
PlayIsOver status.TooManyRecords used st = (used ≡ 4294967295) × AwaitsRecord st
PlayIsOver _ used st = ⊥

pub record HasPlayed (s : Status) (images : ℕ) (l : LabState) (t : Tally) (c : Snapshot) : Type 0 where
  pub used : ℕ
  pub few : used ≤ 4294967295
  pub plays : InPlay images used l t c
  pub over : PlayIsOver s used c.stage
