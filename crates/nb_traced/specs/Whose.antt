-- Whose the objects of the graph are, by an output alone: what each was made for, whose each event is, and where in an entry stands what an open puts. Our own.
use Rattle.std.specs.Prelude.{◌≡◌, ◌⊎◌, ℕ, Bool, true, false, ◌==◌, ◌||◌, List, [], ◌∷◌, ◌++◌, Some}
use Rattle.std.specs.List.{AllByRecursion}
use Rattle.nb_terms.specs.declared.event.Event.{Event as GraphRecord}
use Rattle.nb_defs.specs.Records.{Out, step, sent, opened, tried, advanced, graph}
use Rattle.nb_ledger.specs.Flat.{flat}
use Rattle.nb_ledger.specs.declared.event.Way.{Way}
use Rattle.nb_ledger.specs.declared.event.GraphEvent.TheVariants.{Entered}
use Rattle.nb_ledger.specs.declared.port.Port.{Port}
use Rattle.nb_ledger.specs.GraphRun.{GraphState}
use Rattle.nb_frames.specs.Frames.{is_one_of}
use Rattle.nb_traced.specs.Holdings.{GraphObject, serials}
use Rattle.nb_traced.specs.LowestObjects.{graph_so_far}
use Rattle.nb_traced.specs.Openings.{HasPieces, IsMadeLast, IsOfLiving, WasMadeLast, made_record}
use Rattle.nb_traced.specs.Outputs.{MayWaitOn}
use Rattle.nb_traced.specs.Pieces.{IsOfOpen}
use Rattle.nb_traced.specs.Runs.{HasLedTo}

-- WHAT IT IS MADE FOR

-- an object is made (1), held (2) or plugged (4)
abbrev pub is_making : GraphRecord → Bool
is_making happens = (happens.event == 1) || ((happens.event == 2) || (happens.event == 4))

abbrev pub IsOfMaking : Out → Type 0
IsOfMaking (graph happens) = is_making happens ≡ true
IsOfMaking (step number) = ⊥
IsOfMaking _ = ⊥

-- The objects that an OPEN of this kind finds made since the last COMMAND: its own, and what waits on beside a look-up. All others that live are of
-- opens that have begun before it and haven't ended.
pub record TakesAllMade (before : List Out) (kind : ℕ) : Type 0 where
  pub pieces : List GraphObject
  pub has : HasPieces before kind pieces
  pub waits : List GraphObject
  pub may : MayWaitOn kind waits
  pub made : AllByRecursion (WasMadeLast before) waits
  pub state : GraphState
  pub led : HasLedTo before state
  pub theirs : (x : ℕ) → state.live x ≡ true → IsOfLiving before x ⊎ (is_one_of (serials (waits ++ pieces)) x ≡ true)

-- so does each OPEN of an output
abbrev pub OpensTakeAll : List Out → Type 0
OpensTakeAll outs = (before after : List Out) (k kind server port own : ℕ) (target : List ℕ) →
    outs ≡ before ++ (opened k kind server port own target ∷ after) → TakesAllMade before kind

-- An object is made for the OPEN that comes next, before which nothing but more making stands: it is one of the open's objects, or waits on beside a
-- look-up.
pub record IsMadeFor (before : List Out) (p : GraphObject) (after : List Out) : Type 0 where
  pub making : List Out
  pub are : AllByRecursion IsOfMaking making
  pub number : ℕ
  pub kind : ℕ
  pub server : ℕ
  pub port : ℕ
  pub own : ℕ
  pub target : List ℕ
  pub later : List Out
  pub all : after ≡ making ++ (opened number kind server port own target ∷ later)
  pub takes : TakesAllMade (before ++ (made_record p ∷ making)) kind
  pub is_its : is_one_of (serials (takes.waits ++ takes.pieces)) p.serial ≡ true

-- so is each object that an output makes
abbrev pub MadesAreTheirs : List Out → Type 0
MadesAreTheirs outs = (before after : List Out) (p : GraphObject) → outs ≡ before ++ (made_record p ∷ after) → IsMadeFor before p after

-- WHOSE AN EVENT IS

-- the object is one of an open that has begun in these records and hasn't ended, or was made since the last COMMAND, for the open that is next
abbrev pub IsTheirObject : List Out → ℕ → Type 0
IsTheirObject before x = IsOfLiving before x ⊎ IsMadeLast before x

-- so is the object of each event of an output, but for those of a making
abbrev pub EventsAreTheirs : List Out → Type 0
EventsAreTheirs outs = (before after : List Out) (happens : GraphRecord) → outs ≡ before ++ (graph happens ∷ after) → is_making happens ≡ false → IsTheirObject before happens.object

-- WHERE WHAT AN OPEN PUTS STANDS

-- Directly after an event by which the lowest object of open k is entered, with nothing between but more that it puts there.
pub record FollowsEntry (k : ℕ) (before : List Out) : Type 0 where
  pub earlier : List Out
  pub port : Port
  pub by : Way
  pub put : List Out
  pub all : before ≡ earlier ++ (graph (flat (Entered port by)) ∷ put)
  pub are : AllByRecursion (IsOfOpen k) put
  pub is_lowest : (graph_so_far earlier).lowest k ≡ Some port.obj.0

-- a FRAME does so for some open, or stands directly after a STEP
pub data FrameFollows (before : List Out) : Type 0 where
  by_entry : (k : ℕ) → FollowsEntry k before → FrameFollows before
  by_step : (earlier : List Out) (n : ℕ) → before ≡ earlier ++ (step n ∷ []) → FrameFollows before

-- each FRAME of an output does, and each TRY and ADVANCE for its own open
pub record PutsFollow (outs : List Out) : Type 0 where
  pub frames : (before after : List Out) (bytes : List ℕ) → outs ≡ before ++ (sent bytes ∷ after) → FrameFollows before
  pub tries : (before after : List Out) (k count : ℕ) → outs ≡ before ++ (tried k count ∷ after) → FollowsEntry k before
  pub advances : (before after : List Out) (k place : ℕ) → outs ≡ before ++ (advanced k place ∷ after) → FollowsEntry k before
