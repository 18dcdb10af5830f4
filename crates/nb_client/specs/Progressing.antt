-- What a call of the client does, by its turn: between the client and the two lists of records, those used and those written.
use Rattle.std.specs.Prelude.{◌≡◌, ℕ, ◌+◌, ◌<◌, List, [], ◌∷◌, ◌++◌, length}
use Rattle.nb_defs.specs.Records.{In, start, frame, tick, off, Out, out_text, out_texts, step, done}
use Rattle.nb_record.specs.Logged.{Logged, Puts}
use Rattle.nb_traced.specs.Plain.{without_graph}
use Rattle.nb_machine.specs.CommandRecords.{status_of, stopped_cause}
use Rattle.nb_machine.specs.Closings.{Shuts}
use Rattle.nb_machine.specs.Courses.{Progress, Standing, ready, running, waiting, reaching, yielded, handing, left, handed_off, stopped, StepBegins, Proceeds}
use Rattle.nb_runner.specs.StatusNumber.{status_number}
use Rattle.nb_runner.specs.Steps.{moves_in, moves_outside}
use Rattle.nb_runner.specs.Handings.{IsNextPiece, record_of, records_left}
use Rattle.nb_runner.specs.declared.handing.Handing.{Handing}
use Rattle.nb_runner.specs.declared.piece_record.PieceRecord.{PieceRecord}
use Rattle.nb_runner.specs.declared.status.Status.{Status}
use Rattle.nb_runner.specs.declared.status.Status.TheVariants as status
use Rattle.nb_traced.specs.Holdings.{Holdings}
use Rattle.nb_traced.specs.Outputs.{Arrived, Traced}
use Rattle.nb_network.specs.Takes.{ArrivesAt, BeginsWithEntry, ClosesFirst}
use Rattle.nb_client.specs.Snapshots.{FitsOutput, Snapshot, StandsForProgress}
use Rattle.nb_client.specs.declared.client.Turn.{Turn}
use Rattle.nb_client.specs.declared.client.Turn.TheVariants as turn
use Rattle.nb_client.specs.declared.stage.Stage.{Stage}
use Rattle.nb_client.specs.declared.stage.Stage.TheVariants as stage

-- the step isn't over
abbrev pub IsAtWork : Stage → Type 0
IsAtWork (stage.Running s) = Unit {0}
IsAtWork (stage.HandingOff h) = Unit {0}
IsAtWork (stage.Reaching s k) = Unit {0}
IsAtWork (stage.Returning s cause) = Unit {0}
IsAtWork stage.Ready = ⊥
IsAtWork (stage.Waiting s e) = ⊥
IsAtWork (stage.Yielded s) = ⊥
IsAtWork (stage.Left cause) = ⊥
IsAtWork stage.HandedOff = ⊥
IsAtWork stage.Stopped = ⊥

-- a command waits
abbrev pub CommandRests : Stage → Type 0
CommandRests (stage.Waiting s e) = Unit {0}
CommandRests stage.Ready = ⊥
CommandRests (stage.Running s) = ⊥
CommandRests (stage.Reaching s k) = ⊥
CommandRests (stage.Returning s cause) = ⊥
CommandRests (stage.Yielded s) = ⊥
CommandRests (stage.HandingOff h) = ⊥
CommandRests (stage.Left cause) = ⊥
CommandRests stage.HandedOff = ⊥
CommandRests stage.Stopped = ⊥

-- 4,096 commands began in this step, and another is to begin
abbrev pub ScriptRests : Stage → Type 0
ScriptRests (stage.Yielded s) = Unit {0}
ScriptRests stage.Ready = ⊥
ScriptRests (stage.Running s) = ⊥
ScriptRests (stage.Waiting s e) = ⊥
ScriptRests (stage.Reaching s k) = ⊥
ScriptRests (stage.Returning s cause) = ⊥
ScriptRests (stage.HandingOff h) = ⊥
ScriptRests (stage.Left cause) = ⊥
ScriptRests stage.HandedOff = ⊥
ScriptRests stage.Stopped = ⊥

-- the next record is waited for
abbrev pub AwaitsRecord : Stage → Type 0
AwaitsRecord (stage.Waiting s e) = Unit {0}
AwaitsRecord (stage.Yielded s) = Unit {0}
AwaitsRecord stage.Ready = ⊥
AwaitsRecord (stage.Running s) = ⊥
AwaitsRecord (stage.Reaching s k) = ⊥
AwaitsRecord (stage.Returning s cause) = ⊥
AwaitsRecord (stage.HandingOff h) = ⊥
AwaitsRecord (stage.Left cause) = ⊥
AwaitsRecord stage.HandedOff = ⊥
AwaitsRecord stage.Stopped = ⊥

-- the run has ended, with this status
abbrev pub RunEndsWith : Stage → Status → Type 0
RunEndsWith (stage.Left cause) s = status_number s ≡ status_of cause
RunEndsWith stage.HandedOff s = s ≡ status.HandedOff
RunEndsWith stage.Stopped s = s ≡ status.Unfinished
RunEndsWith stage.Ready s = ⊥
RunEndsWith (stage.Running r) s = ⊥
RunEndsWith (stage.Waiting r e) s = ⊥
RunEndsWith (stage.Reaching r k) s = ⊥
RunEndsWith (stage.Returning r cause) s = ⊥
RunEndsWith (stage.Yielded r) s = ⊥
RunEndsWith (stage.HandingOff h) s = ⊥

-- the record may be used: START first, and each other one where the next is waited for
abbrev pub CanUse : In → Stage → Type 0
CanUse (start s) stage.Ready = Unit {0}
CanUse (start s) (stage.Running r) = ⊥
CanUse (start s) (stage.Waiting r e) = ⊥
CanUse (start s) (stage.Reaching r k) = ⊥
CanUse (start s) (stage.Returning r cause) = ⊥
CanUse (start s) (stage.Yielded r) = ⊥
CanUse (start s) (stage.HandingOff h) = ⊥
CanUse (start s) (stage.Left cause) = ⊥
CanUse (start s) stage.HandedOff = ⊥
CanUse (start s) stage.Stopped = ⊥
CanUse (frame bytes) st = AwaitsRecord st
CanUse (tick ms) st = AwaitsRecord st
CanUse off st = AwaitsRecord st

-- the machine makes moves, one after another
pub data ProceedsTo : Progress → List Out → Progress → Type 0 where
  no_further : (p : Progress) → ProceedsTo p [] p
  one_further : (p q r : Progress) (put more : List Out) → Proceeds p put q → ProceedsTo q more r → ProceedsTo p (put ++ more) r

-- a record is used, or the machine makes moves
abbrev pub UsesOrMoves : List In → Progress → List Out → Progress → Type 0
UsesOrMoves [] p added q = ProceedsTo p added q
UsesOrMoves (r ∷ []) p added q = StepBegins p r added q
UsesOrMoves (r ∷ q ∷ rs) p added p' = ⊥

-- the progress after a step, for which the client stands
pub record LeadsToSnapshot (used : List In) (before : Progress) (added : List Out) (after : Snapshot) : Type 0 where
  pub progress : Progress
  pub steps : UsesOrMoves used before added progress
  pub stands : StandsForProgress after progress

-- what a record brings to the opens that live
abbrev pub BringsTo : In → (n : ℕ) → Standing → List Arrived → Type 0
BringsTo (start s) n p came = came ≡ []
BringsTo off n p came = came ≡ []
BringsTo (frame bytes) n (waiting s w) came = ArrivesAt s n (frame bytes) came
BringsTo (frame bytes) n (yielded s inner outer) came = ArrivesAt s n (frame bytes) came
BringsTo (frame bytes) n ready came = ⊥
BringsTo (frame bytes) n (running s inner outer) came = ⊥
BringsTo (frame bytes) n (reaching s inner outer next) came = ⊥
BringsTo (frame bytes) n (handing s rest) came = ⊥
BringsTo (frame bytes) n (left s outer cause) came = ⊥
BringsTo (frame bytes) n (handed_off s) came = ⊥
BringsTo (frame bytes) n (stopped s) came = ⊥
BringsTo (tick ms) n (waiting s w) came = ArrivesAt s n (tick ms) came
BringsTo (tick ms) n (yielded s inner outer) came = ArrivesAt s n (tick ms) came
BringsTo (tick ms) n ready came = ⊥
BringsTo (tick ms) n (running s inner outer) came = ⊥
BringsTo (tick ms) n (reaching s inner outer next) came = ⊥
BringsTo (tick ms) n (handing s rest) came = ⊥
BringsTo (tick ms) n (left s outer cause) came = ⊥
BringsTo (tick ms) n (handed_off s) came = ⊥
BringsTo (tick ms) n (stopped s) came = ⊥

-- where an open lives, these records begin with the graph's end: a port is closed
abbrev pub ShutsStanding : Standing → List Out → Type 0
ShutsStanding ready outs = Unit {0}
ShutsStanding (running s inner outer) outs = (s.live ≡ [] → ⊥) → ClosesFirst stopped_cause outs
ShutsStanding (waiting s w) outs = (s.live ≡ [] → ⊥) → ClosesFirst stopped_cause outs
ShutsStanding (reaching s inner outer next) outs = (s.live ≡ [] → ⊥) → ClosesFirst stopped_cause outs
ShutsStanding (yielded s inner outer) outs = (s.live ≡ [] → ⊥) → ClosesFirst stopped_cause outs
ShutsStanding (handing s rest) outs = (s.live ≡ [] → ⊥) → ClosesFirst stopped_cause outs
ShutsStanding (left s outer cause) outs = (s.live ≡ [] → ⊥) → ClosesFirst stopped_cause outs
ShutsStanding (handed_off s) outs = (s.live ≡ [] → ⊥) → ClosesFirst stopped_cause outs
ShutsStanding (stopped s) outs = (s.live ≡ [] → ⊥) → ClosesFirst stopped_cause outs

-- what stands first after the STEP of a record: the entry of what it brings, or nothing of the graph; of OFF, the graph's end
abbrev pub StandsFirst : In → Standing → List Arrived → List Out → Type 0
StandsFirst (start s) p came more = BeginsWithEntry came more
StandsFirst (frame bytes) p came more = BeginsWithEntry came more
StandsFirst (tick ms) p came more = BeginsWithEntry came more
StandsFirst off p came more = ShutsStanding p more

-- a step begins with STEP, and with the entry of what the record brings; or a step goes on, and nothing comes to an open
abbrev pub BeginsStep : List In → Progress → List Out → List Arrived → Type 0
BeginsStep [] p added came = came ≡ []
BeginsStep (r ∷ []) p added came =
    (more : List Out) × (added ≡ step (p.used + 1) ∷ more) × StandsFirst r p.standing came more × BringsTo r (p.used + 1) p.standing came
BeginsStep (r ∷ q ∷ rs) p added came = ⊥

-- the output has come so far with the client
pub record TracesTo (after : Snapshot) (outs : List Out) (so_far : List Arrived) : Type 0 where
  pub holdings : Holdings
  pub traced : Traced outs holdings so_far
  pub fits : FitsOutput after holdings

-- From a client, which stood for this progress, to one that stands for the progress after a step, whose records were put. The graph's records among
-- them are traced on, whatever output it stood with.
pub record AdvancesFrom (used : List In) (p : Progress) (before after : Snapshot) (old new : Logged) : Type 0 where
  pub added : List Out
  pub came : List Arrived
  pub puts : Puts old new (out_texts added)
  pub leads : LeadsToSnapshot used p (without_graph added) after
  pub begins : BeginsStep used p added came
  pub traces : (outs : List Out) (h : Holdings) (so_far : List Arrived) → Traced outs h so_far → FitsOutput before h → TracesTo after (outs ++ added) (so_far ++ came)

-- so it is for each progress for which it stood
abbrev pub Advances : List In → Snapshot → Snapshot → Logged → Logged → Type 0
Advances used before after old new = (p : Progress) → StandsForProgress before p → AdvancesFrom used p before after old new

-- the statuses with which a client ends a run
abbrev pub IsFinal : Status → Type 0
IsFinal status.HandedOff = Unit {0}
IsFinal status.Ended = Unit {0}
IsFinal status.ScriptFailed = Unit {0}
IsFinal status.Unfinished = Unit {0}
IsFinal _ = ⊥

-- A call of the client: where memory ran out nothing was put, else it went on by these records.
abbrev pub TurnsBy : Turn → List In → Snapshot → Snapshot → Logged → Logged → Type 0
TurnsBy turn.More used before after old new = Advances used before after old new × IsAtWork after.stage
TurnsBy turn.Waiting used before after old new = Advances used before after old new × CommandRests after.stage
TurnsBy turn.Yielded used before after old new = Advances used before after old new × ScriptRests after.stage
TurnsBy (turn.Over status.NoMemory) used before after old new = new ≡ old
TurnsBy (turn.Over s) used before after old new = IsFinal s × Advances used before after old new × RunEndsWith after.stage s

-- how many moves are left at most
abbrev pub most_moves : Stage → Snapshot → ℕ
most_moves (stage.Running s) c = moves_in s + moves_outside c.world.outer
most_moves (stage.HandingOff h) c = length (records_left c.world.state.images.images h) + 1
most_moves (stage.Reaching s k) c = moves_in s + moves_outside c.world.outer + 1
most_moves (stage.Returning s cause) c = moves_in s + moves_outside c.world.outer + 1
most_moves stage.Ready c = 0
most_moves (stage.Waiting s e) c = 0
most_moves (stage.Yielded s) c = 0
most_moves (stage.Left cause) c = 0
most_moves stage.HandedOff c = 0
most_moves stage.Stopped c = 0

-- a turn that goes on brings the end nearer
abbrev pub ComesNearer : Turn → Snapshot → Snapshot → Type 0
ComesNearer turn.More before after = most_moves after.stage after < most_moves before.stage before
ComesNearer turn.Waiting before after = Unit {0}
ComesNearer turn.Yielded before after = Unit {0}
ComesNearer (turn.Over s) before after = Unit {0}

-- a hand-off is under way, and this piece's record is the next
pub record HandsNext (p : PieceRecord) (c : Snapshot) : Type 0 where
  pub under_way : Handing
  pub is : c.stage ≡ stage.HandingOff under_way
  pub next : IsNextPiece c.world.state.images.images under_way p

-- there is one
abbrev pub HasNextPiece : Snapshot → Type 0
HasNextPiece c = (p : PieceRecord) × HandsNext p c

-- a client goes on as by a turn in which that record is put, into whatever log it is put
abbrev pub PassesPiece : Snapshot → Snapshot → Type 0
PassesPiece before after = (p : PieceRecord) (old new : Logged) → HandsNext p before → Puts old new (out_text (record_of p)) → TurnsBy turn.More [] before after old new

-- the output has come to where no object lives
pub record EndsEmpty (outs : List Out) (so_far : List Arrived) : Type 0 where
  pub holdings : Holdings
  pub traced : Traced outs holdings so_far
  pub none_live : holdings.living ≡ []
  pub none_wait : holdings.waits ≡ []

-- The run ends: what lives is closed, what waits is let go, and DONE has its number. No object lives then.
pub record FinishesBy (number : ℕ) (before : Snapshot) (old new : Logged) : Type 0 where
  pub closing : List Out
  pub puts : Puts old new (out_texts (closing ++ (done number ∷ [])))
  pub shuts : (p : Progress) → StandsForProgress before p → Shuts p.standing (without_graph closing)
  pub first : (p : Progress) → StandsForProgress before p → ShutsStanding p.standing closing
  pub traces : (outs : List Out) (h : Holdings) (so_far : List Arrived) → Traced outs h so_far → FitsOutput before h → EndsEmpty (outs ++ closing) so_far
