-- What a call of `netboot` shows of the machine of many opens: records used, records written, and what its status says.
use Rattle.std.specs.Prelude.{◌≡◌, ℕ, ◌<◌, ◌≤◌, ◌⊎◌, false, List, [], ◌∷◌, ◌++◌, length}
use Rattle.nb_terms.specs.declared.cause.Cause.{Cause}
use Rattle.nb_defs.specs.Records.{In, start, frame, tick, off, IsIn, in_text, in_texts, IsPartial, IsBroken, Out, out_texts, done}
use Rattle.nb_ledger.specs.GraphRun.{GraphState}
use Rattle.nb_machine.specs.CommandRecords.{status_of}
use Rattle.nb_traced.specs.Plain.{without_graph}
use Rattle.nb_record.specs.Outside.{Outside, Passes, Rose, IsAtEnd}
use Rattle.nb_runner.specs.declared.status.Status.{Status}
use Rattle.nb_runner.specs.declared.status.Status.TheVariants as status
use Rattle.nb_machine.specs.Courses.{Standing, ready, running, waiting, reaching, yielded, handing, left, handed_off, stopped, Progress, Course}
use Rattle.nb_laws.specs.Events.{Event}
use Rattle.nb_laws.specs.Histories.{IsHistory}
use Rattle.nb_laws.specs.HandOff.{HandsOff, HandsTheirs, BringTheirs, HandsDiskOff, HandsTheirBlock}
use Rattle.nb_laws.specs.Lawful.{IsLawful}
use Rattle.nb_machine.specs.States.{State}
use Rattle.nb_machine.specs.Closings.{Shuts}
use Rattle.nb_traced.specs.Entries.{IsOutside}
use Rattle.nb_traced.specs.Holdings.{Holdings}
use Rattle.nb_traced.specs.Outputs.{Arrived, Traced}
use Rattle.nb_traced.specs.Runs.{HasLedTo}
use Rattle.nb_traced.specs.Openings.{OpensHavePieces, NumbersRise, EndsAreTheirs, CommandsLeaveNone, LeavesTheirs}
use Rattle.nb_traced.specs.Places.{LowestAreTheirs, LowestAreOwn, FramesStand, TriesStandWithin, AdvancesStand, OthersStandOutside}
use Rattle.nb_boot.specs.InTurn.{MayGoOn, AreInTurn}
use Rattle.nb_boot.specs.Stepped.{AreStepped, ShutsLive}
use Rattle.nb_boot.specs.Entries.{EntriesAgree}
use Rattle.nb_boot.specs.Booting.{BootsSilently, BootsDiskSilently, SectorsAreBooted}
use Rattle.nb_traced.specs.Whose.{EventsAreTheirs, MadesAreTheirs, OpensTakeAll, PutsFollow}

-- a record other than START
abbrev pub IsOther : In → Type 0
IsOther (start s) = ⊥
IsOther (frame bytes) = Unit {0}
IsOther (tick ms) = Unit {0}
IsOther off = Unit {0}

-- a START
abbrev pub IsFirst : In → Type 0
IsFirst (start s) = Unit {0}
IsFirst (frame bytes) = ⊥
IsFirst (tick ms) = ⊥
IsFirst off = ⊥

-- the bytes begin with a record of this kind
pub record BeginsWith (bytes : List ℕ) (Kind : In → Type 0) : Type 0 where
  pub entry : In
  pub valid : IsIn entry
  pub kind : Kind entry
  pub more : List ℕ
  pub spelled : bytes ≡ in_text entry ++ more

-- the next record is waited for: by a command, or by scripts that had all the commands of a step
abbrev pub CommandWaits : Standing → Type 0
CommandWaits ready = ⊥
CommandWaits (reaching s script outer next) = ⊥
CommandWaits (running s script outer) = ⊥
CommandWaits (waiting s w) = Unit {0}
CommandWaits (yielded s script outer) = Unit {0}
CommandWaits (handing s rest) = ⊥
CommandWaits (left s outer cause) = ⊥
CommandWaits (handed_off s) = ⊥
CommandWaits (stopped s) = ⊥

-- After the records used no record may come. What is there begins none; or another than START comes first, or the
-- input ended before START. Where the next record is waited for: a second START comes, or the input ended inside one.
abbrev pub NoneMayCome : Standing → List ℕ → Outside → Type 0
NoneMayCome ready rest o = IsBroken rest ⊎ (BeginsWith rest IsOther ⊎ (IsPartial rest × IsAtEnd o))
NoneMayCome (waiting s w) rest o = IsBroken rest ⊎ (BeginsWith rest IsFirst ⊎ (IsPartial rest × (0 < length rest) × IsAtEnd o))
NoneMayCome (yielded s script outer) rest o = IsBroken rest ⊎ (BeginsWith rest IsFirst ⊎ (IsPartial rest × (0 < length rest) × IsAtEnd o))
NoneMayCome (reaching s script outer next) rest o = ⊥
NoneMayCome (running s script outer) rest o = ⊥
NoneMayCome (handing s more) rest o = ⊥
NoneMayCome (left s outer cause) rest o = ⊥
NoneMayCome (handed_off s) rest o = ⊥
NoneMayCome (stopped s) rest o = ⊥

-- Why a run that has come here has ended, with what is left after the records used, and the number of its status.
pub data EndsWhere (p : Progress) (rest : List ℕ) (o : Outside) (number : ℕ) : Type 0 where
  -- the first script was left
  was_left : (s : State) (cause : Cause) → p.standing ≡ left s [] cause → number ≡ status_of cause → EndsWhere p rest o number
  -- all was handed off
  was_handed : (s : State) → p.standing ≡ handed_off s → number ≡ 0 → EndsWhere p rest o number
  -- the power was switched off
  was_stopped : (s : State) → p.standing ≡ stopped s → number ≡ 5 → EndsWhere p rest o number
  -- the input was used to its end, where the next record is waited for
  ran_out : CommandWaits p.standing → rest ≡ [] → IsAtEnd o → number ≡ 5 → EndsWhere p rest o number
  -- no record may come
  was_bad : p.used < 4294967295 → NoneMayCome p.standing rest o → number ≡ 6 → EndsWhere p rest o number
  -- every record number was given, the next record is waited for, and another byte follows
  was_full : p.used ≡ 4294967295 → CommandWaits p.standing → 0 < length rest → number ≡ 11 → EndsWhere p rest o number

-- What closes an output: nothing while the run goes on; where it has ended, the ends of the opens that live, and DONE
-- with the run's status.
pub data ClosedBy (p : Progress) (rest : List ℕ) (o : Outside) : List Out → Type 0 where
  goes_on : ClosedBy p rest o []
  has_ended : (number : ℕ) (put : List Out) → EndsWhere p rest o number → Shuts p.standing put → ClosedBy p rest o (put ++ done number ∷ [])

-- What the records of an output say of the object graph alone. They are a legal run of it; each OPEN has the objects of its kind, made for it
-- after the last COMMAND, plugged and alive; each ENDED has the cause of the first close of a port of these, which were freed, and is the only
-- one of its open; where a COMMAND stands each object that lives is of an open that hasn't ended, and at the end of the output it is, or was made since
-- the last COMMAND; no entry runs there; each FRAME, TRY and ADVANCE stands within an entry of the lowest object of an open, or a FRAME directly
-- after a STEP, outside of all; and no other record stands within an entry. The output is put together of the calls that `Traced` has: so each
-- object is made directly before an OPEN, which takes all that was made, but for the one that waits beside a look-up; each other event is of an object
-- of an open that hasn't ended, or of that one; and what an open puts stands directly after the event by which its lowest object is entered.
pub record SaysOfGraph (outs : List Out) : Type 0 where
  pub state : GraphState
  pub legal : HasLedTo outs state
  pub leaves : LeavesTheirs outs
  pub still : IsOutside outs
  pub opens : OpensHavePieces outs
  pub rising : NumbersRise outs
  pub ends : EndsAreTheirs outs
  pub commands : CommandsLeaveNone outs
  pub lowest : LowestAreTheirs outs
  pub own : LowestAreOwn outs
  pub frames : FramesStand outs
  pub tries : TriesStandWithin outs
  pub advances : AdvancesStand outs
  pub others : OthersStandOutside outs
  pub holdings : Holdings
  pub came : List Arrived
  pub traced : Traced outs holdings came
  pub makes : MadesAreTheirs outs
  pub takes : OpensTakeAll outs
  pub events : EventsAreTheirs outs
  pub puts : PutsFollow outs

-- they have led to where no object lives
pub record LeadsToNone (outs : List Out) : Type 0 where
  pub state : GraphState
  pub led : HasLedTo outs state
  pub none : (x : ℕ) → state.live x ≡ false

-- The records used are those that the bytes read spell, up to a rest; the records written, without those of the object
-- graph, are the machine's course on them, with what closes it; those of the graph stand among them as `SaysOfGraph` has it;
-- the bytes taken are a prefix of the spelling of all.
pub record Shown (before after : Outside) : Type 0 where
  pub ins : List In
  pub outs : List Out
  pub progress : Progress
  pub rest : List ℕ
  pub closing : List Out
  pub read : List ℕ
  pub written : List ℕ
  pub lost : List ℕ
  pub passes : Passes before after read written
  pub spelled : read ≡ in_texts ins ++ rest
  pub course : Course ins (without_graph outs) progress
  pub closed : ClosedBy progress rest after (without_graph closing)
  -- records of the graph alone close nothing
  pub alone : without_graph closing ≡ [] → closing ≡ []
  pub texts : out_texts (outs ++ closing) ≡ written ++ lost
  -- each record used has a number of 32 bits
  pub few : length ins ≤ 4294967295
  -- what the records of the graph say of it
  pub traced : SaysOfGraph (outs ++ closing)
  -- both lists, without the records of the graph, have one history, and it is lawful
  pub history : List Event
  pub is_history : IsHistory ins (without_graph outs) history
  pub is_lawful : IsLawful history
  -- where servers send what they hold, each image in the list is, byte for byte, the file of the open that brought it
  pub brings : BringTheirs history
  -- all output was taken before more was read
  pub in_turn : AreInTurn before after ins outs
  -- each record's step begins as the record says, of the records of the graph too
  pub stepped : AreStepped ins outs
  -- what closes them begins with the graph's end, where an open lives
  pub shuts : (closing ≡ []) ⊎ ShutsLive history closing
  -- what enters the lowest object of each open is what came to that, and what goes down out of it is what was put
  pub contents : EntriesAgree outs closing history
  -- where no drive is hooked as a command boots, no FRAME stands after its RESULT
  pub silent : BootsSilently history
  -- nor where it boots a disk whose open has ended by then
  pub silent_disk : BootsDiskSilently history
  -- each PART of a drive's first block is of the hand-off of the disk that a command boots
  pub sectors : SectorsAreBooted history (without_graph outs)
  -- and where servers send what they hold, that block is the first one of the disk that the drive's server holds
  pub blocks : (rest : List Out) (hands : HandsDiskOff history (without_graph outs) rest) → HandsTheirBlock history (without_graph outs) rest hands

-- the run has ended, for a cause of this number, and all was taken, DONE last; no object of the graph lives then
pub record RunHasEnded (before after : Outside) (r : Shown before after) (number : ℕ) : Type 0 where
  pub ends : EndsWhere r.progress r.rest after number
  pub put : List Out
  pub shuts : Shuts r.progress.standing put
  pub closing : without_graph r.closing ≡ put ++ done number ∷ []
  pub front : List Out
  pub last : r.closing ≡ front ++ done number ∷ []
  pub none : LeadsToNone (r.outs ++ r.closing)
  pub all : r.lost ≡ []

-- a read failed between two steps: every whole record read was used, and their whole output was taken
pub record WasUnread (before after : Outside) (r : Shown before after) : Type 0 where
  pub between : MayGoOn r.progress.standing
  pub partial : IsPartial r.rest
  pub closing : r.closing ≡ []
  pub all : r.lost ≡ []
  pub rose : Rose before.read_faults after.read_faults

-- The output ends with the hand-off of all the images that the commands have left in the list, the selected one first; and
-- where servers send what they hold, each is, byte for byte, the file of the open that brought it.
abbrev pub HandsTrueFiles : (before after : Outside) → Shown before after → Type 0
HandsTrueFiles before after r = (hands : HandsOff r.history (without_graph r.outs) []) × HandsTheirs r.history (without_graph r.outs) [] hands

-- It ends with the hand-off of the first block of the disk that the last command boots; and where servers send what they hold, that is the first
-- block of the disk which the server of that open holds.
abbrev pub HandsTrueBlock : (before after : Outside) → Shown before after → Type 0
HandsTrueBlock before after r = (hands : HandsDiskOff r.history (without_graph r.outs) []) × HandsTheirBlock r.history (without_graph r.outs) [] hands

-- memory ran out: nothing closes the output, or some of it is missing
abbrev pub LeftUnclosed : (before after : Outside) → Shown before after → Type 0
LeftUnclosed before after r = (r.closing ≡ []) ⊎ (0 < length r.lost)

-- What a status says of what is shown. The output ends with DONE, and is whole, where `RunHasEnded` stands; for no other.
abbrev pub IsSaid : Status → (before after : Outside) → Shown before after → Type 0
IsSaid status.HandedOff before after r = RunHasEnded before after r 0 × (HandsTrueFiles before after r ⊎ HandsTrueBlock before after r)
IsSaid status.Ended before after r = RunHasEnded before after r 3
IsSaid status.ScriptFailed before after r = RunHasEnded before after r 4
IsSaid status.Unfinished before after r = RunHasEnded before after r 5
IsSaid status.BadRecord before after r = RunHasEnded before after r 6
IsSaid status.TooManyRecords before after r = RunHasEnded before after r 11
IsSaid status.ReadFault before after r = WasUnread before after r
IsSaid status.WriteFault before after r = Rose before.write_faults after.write_faults × (0 < length r.lost)
IsSaid status.NoMemory before after r = LeftUnclosed before after r
IsSaid status.AttachFault before after r = (r.read ≡ []) × (r.written ≡ []) × (r.closing ≡ []) × Rose before.attach_faults after.attach_faults
IsSaid status.BadWords before after r = ⊥

-- a call shows a course of which its status is true
abbrev pub ShowsCourse : Status → Outside → Outside → Type 0
ShowsCourse s before after = (r : Shown before after) × IsSaid s before after r
