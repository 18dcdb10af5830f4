-- What a turn of the client leaves and gathers, in a run in a lab.
use Rattle.std.proofs.Common.{◌≡◌, ℕ, ◌<◌, false, List, [], Result, Ok, Err, refl, ap, arith}
use Rattle.std.specs.Prelude.{IfOk, OnOk}
use Rattle.nb_defs.specs.Records.{In}
use Rattle.nb_record.specs.Logged.{Logged}
use Rattle.nb_runner.specs.declared.status.Status.{Status}
use Rattle.nb_runner.specs.declared.status.Status.TheVariants as status
use Rattle.nb_client.specs.Snapshots.{Snapshot}
use Rattle.nb_client.specs.Progressing.{Advances, ComesNearer, TurnsBy}
use Rattle.nb_client.specs.declared.client.Turn.{Turn}
use Rattle.nb_client.specs.declared.client.Turn.TheVariants as turn
use Rattle.nb_client.specs.declared.stage.Stage.{Stage}
use Rattle.nb_lab.specs.Labs.{LabState}
use Rattle.nb_lab.specs.Tallies.{Tally}
use Rattle.nb_labrun.specs.Playing.{GathersUndelivered, IsCleared, StepLeaves, TurnGathers, TurnLeaves, turns_left}
use Rattle.nb_labrun.specs.declared.run.StepEnd.TheVariants as ending

-- what holds of a result's value, weakened
pub on_ok : {T E : Type 0} (r : Result T E) (P Q : Type 0) → (P → Q) → OnOk r P → OnOk r Q
on_ok (Ok x) P Q f p = f p
on_ok (Err e) P Q f p = tt

pub if_ok : {T E : Type 0} (r : Result T E) (P Q : T → Type 0) → ((x : T) → P x → Q x) → IfOk r P → IfOk r Q
if_ok (Ok x) P Q f p = f x p
if_ok (Err e) P Q f p = tt

-- a log that was cleared
pub cleared : (log : Logged) (room : ℕ) → log ≡ record { bytes = []; room = room; is_short = false } → IsCleared log
cleared log room is = record { none = ap (λ (l : Logged). l.bytes) is; whole = ap (λ (l : Logged). l.is_short) is }

pub turn_leaves : (t : Turn) (used : List In) (c c' : Snapshot) (old new : Logged) → TurnsBy t used c c' old new → TurnLeaves t c'.stage
turn_leaves turn.More used c c' old new h = h.1
turn_leaves turn.Waiting used c c' old new h = h.1
turn_leaves turn.Yielded used c c' old new h = h.1
turn_leaves (turn.Over status.HandedOff) used c c' old new h = (h.0, h.2)
turn_leaves (turn.Over status.BadWords) used c c' old new h = (h.0, h.2)
turn_leaves (turn.Over status.Ended) used c c' old new h = (h.0, h.2)
turn_leaves (turn.Over status.ScriptFailed) used c c' old new h = (h.0, h.2)
turn_leaves (turn.Over status.Unfinished) used c c' old new h = (h.0, h.2)
turn_leaves (turn.Over status.BadRecord) used c c' old new h = (h.0, h.2)
turn_leaves (turn.Over status.ReadFault) used c c' old new h = (h.0, h.2)
turn_leaves (turn.Over status.WriteFault) used c c' old new h = (h.0, h.2)
turn_leaves (turn.Over status.NoMemory) used c c' old new h = tt
turn_leaves (turn.Over status.AttachFault) used c c' old new h = (h.0, h.2)
turn_leaves (turn.Over status.TooManyRecords) used c c' old new h = (h.0, h.2)

-- what comes of an advance comes of the turn, but where memory ran out
pub turn_gathers : (t : Turn) (used : List In) (c c' : Snapshot) (old new : Logged) (images count : ℕ) (l : LabState) (y : Tally) → TurnsBy t used c c' old new →
    (Advances used c c' old new → GathersUndelivered images count new l y c') → TurnGathers t images count new l y c'
turn_gathers turn.More used c c' old new images count l y h g = g h.0
turn_gathers turn.Waiting used c c' old new images count l y h g = g h.0
turn_gathers turn.Yielded used c c' old new images count l y h g = g h.0
turn_gathers (turn.Over status.HandedOff) used c c' old new images count l y h g = g h.1
turn_gathers (turn.Over status.BadWords) used c c' old new images count l y h g = g h.1
turn_gathers (turn.Over status.Ended) used c c' old new images count l y h g = g h.1
turn_gathers (turn.Over status.ScriptFailed) used c c' old new images count l y h g = g h.1
turn_gathers (turn.Over status.Unfinished) used c c' old new images count l y h g = g h.1
turn_gathers (turn.Over status.BadRecord) used c c' old new images count l y h g = g h.1
turn_gathers (turn.Over status.ReadFault) used c c' old new images count l y h g = g h.1
turn_gathers (turn.Over status.WriteFault) used c c' old new images count l y h g = g h.1
turn_gathers (turn.Over status.NoMemory) used c c' old new images count l y h g = tt
turn_gathers (turn.Over status.AttachFault) used c c' old new images count l y h g = g h.1
turn_gathers (turn.Over status.TooManyRecords) used c c' old new images count l y h g = g h.1

-- a turn with which the run is over gathers what it put, unless memory ran out
pub over_gathers : (s : Status) (images count : ℕ) (log : Logged) (l : LabState) (y : Tally) (c : Snapshot) → (s ≡ status.NoMemory → ⊥) → TurnGathers (turn.Over s) images count log l y c →
    GathersUndelivered images count log l y c
over_gathers status.HandedOff images count log l y c some g = g
over_gathers status.BadWords images count log l y c some g = g
over_gathers status.Ended images count log l y c some g = g
over_gathers status.ScriptFailed images count log l y c some g = g
over_gathers status.Unfinished images count log l y c some g = g
over_gathers status.BadRecord images count log l y c some g = g
over_gathers status.ReadFault images count log l y c some g = g
over_gathers status.WriteFault images count log l y c some g = g
over_gathers status.NoMemory images count log l y c some g = absurd (some refl)
over_gathers status.AttachFault images count log l y c some g = g
over_gathers status.TooManyRecords images count log l y c some g = g

-- so the step is over
pub over_leaves : (s : Status) (st : Stage) → (s ≡ status.NoMemory → ⊥) → TurnLeaves (turn.Over s) st → StepLeaves (ending.Over s) st
over_leaves status.HandedOff st some h = h
over_leaves status.BadWords st some h = h
over_leaves status.Ended st some h = h
over_leaves status.ScriptFailed st some h = h
over_leaves status.Unfinished st some h = h
over_leaves status.BadRecord st some h = h
over_leaves status.ReadFault st some h = h
over_leaves status.WriteFault st some h = h
over_leaves status.NoMemory st some h = absurd (some refl)
over_leaves status.AttachFault st some h = h
over_leaves status.TooManyRecords st some h = h

-- a further turn brings the end nearer
pub turns_fewer : (t : Turn) (c c' : Snapshot) → ComesNearer t c c' → turns_left t c' < turns_left turn.More c
turns_fewer turn.More c c' h = omega arith
turns_fewer turn.Waiting c c' h = omega arith
turns_fewer turn.Yielded c c' h = omega arith
turns_fewer (turn.Over s) c c' h = omega arith
