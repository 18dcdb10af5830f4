-- What the records of the graph in an output say of its opens: which objects each has, by which close it ends, and that nothing
-- is left over where a command begins. Our own.
use Rattle.std.specs.Prelude.{◌≡◌, ◌⊎◌, ◌<◌, ℕ, Bool, true, List, [], ◌∷◌, ◌++◌, Some}
use Rattle.std.specs.List.{AllByRecursion}
use Rattle.nb_terms.specs.declared.cause.Cause.{Cause}
use Rattle.nb_defs.specs.Records.{Out, step, command, opened, ended, graph}
use Rattle.nb_ledger.specs.Flat.{flat}
use Rattle.nb_ledger.specs.declared.event.GraphEvent.TheVariants.{Made, Freed}
use Rattle.nb_ledger.specs.GraphRun.{GraphState}
use Rattle.nb_frames.specs.Frames.{is_one_of}
use Rattle.nb_traced.specs.Holdings.{GraphObject, AreJoined, kinds, lowest_of, objects_for, serials}
use Rattle.nb_traced.specs.Pieces.{first_close_of}
use Rattle.nb_traced.specs.Outputs.{IsNewest}
use Rattle.nb_traced.specs.Runs.{HasLedTo}

abbrev pub IsCommand : Out → Type 0
IsCommand (command depth line place expanded words) = Unit {0}
IsCommand (step number) = ⊥
IsCommand _ = ⊥

-- no record of these is a COMMAND
abbrev pub HaveNoCommand : List Out → Type 0
HaveNoCommand outs = AllByRecursion (λ o. IsCommand o → ⊥) outs

-- WHICH OBJECTS IT HAS

-- the record by which this object is made, and that by which it is freed
abbrev pub made_record : GraphObject → Out
made_record p = graph (flat (Made (record { 0 = p.serial }) p.kind))

abbrev pub freed_record : ℕ → Out
freed_record x = graph (flat (Freed (record { 0 = x })))

-- this object was made in these records, after the last COMMAND of them
pub record WasMadeLast (before : List Out) (p : GraphObject) : Type 0 where
  pub earlier : List Out
  pub since : List Out
  pub all : before ≡ earlier ++ (made_record p ∷ since)
  pub none : HaveNoCommand since

-- The objects of an open of this kind that begins after these records: those that its kind has, each made for it, each plugged to the
-- next, and each alive. No object that lives was made after the lowest.
pub record HasPieces (before : List Out) (kind : ℕ) (pieces : List GraphObject) : Type 0 where
  pub of_kind : kinds pieces ≡ objects_for kind
  pub some : pieces ≡ [] → ⊥
  pub made : AllByRecursion (WasMadeLast before) pieces
  pub state : GraphState
  pub led : HasLedTo before state
  pub joined : AreJoined state (serials pieces)
  pub lives : AllByRecursion (λ p. state.live p.serial ≡ true) pieces
  pub newest : IsNewest state (lowest_of (serials pieces))

-- each OPEN of an output has its objects
abbrev pub OpensHavePieces : List Out → Type 0
OpensHavePieces outs = (before after : List Out) (k kind server port own : ℕ) (target : List ℕ) →
    outs ≡ before ++ (opened k kind server port own target ∷ after) → (pieces : List GraphObject) × HasPieces before kind pieces

-- if this record begins or ends an open, its number is below that
abbrev pub IsNumberedBelow : ℕ → Out → Type 0
IsNumberedBelow n (opened number kind server port own target) = number < n
IsNumberedBelow n (ended number cause) = number < n
IsNumberedBelow n (step number) = Unit {0}
IsNumberedBelow n _ = Unit {0}

-- each OPEN of an output has a number above all before it
abbrev pub NumbersRise : List Out → Type 0
NumbersRise outs = (before after : List Out) (k kind server port own : ℕ) (target : List ℕ) →
    outs ≡ before ++ (opened k kind server port own target ∷ after) → AllByRecursion (IsNumberedBelow k) before

-- Open k has begun in these records: its OPEN, its objects, and what stands after it.
pub record HasOpened (outs : List Out) (k : ℕ) (pieces : List GraphObject) (since : List Out) : Type 0 where
  pub before : List Out
  pub kind : ℕ
  pub server : ℕ
  pub port : ℕ
  pub own : ℕ
  pub target : List ℕ
  pub all : outs ≡ before ++ (opened k kind server port own target ∷ since)
  pub has : HasPieces before kind pieces

-- BY WHICH CLOSE IT ENDS

-- the object was freed in these records
pub record WasFreed (outs : List Out) (x : ℕ) : Type 0 where
  pub earlier : List Out
  pub since : List Out
  pub all : outs ≡ earlier ++ (freed_record x ∷ since)

-- this record isn't the ENDED of open k
abbrev pub IsNoEnd : ℕ → Out → Type 0
IsNoEnd k (ended number cause) = number ≡ k → ⊥
IsNoEnd k (step number) = Unit {0}
IsNoEnd k _ = Unit {0}

abbrev pub HasNoEnd : ℕ → List Out → Type 0
HasNoEnd k outs = AllByRecursion (IsNoEnd k) outs

-- Open k ends after these records with this cause: it began in them and hasn't ended, the first close of a port of its objects since
-- has the cause, and each of them was freed since.
pub record EndsAs (before : List Out) (k : ℕ) (cause : Cause) : Type 0 where
  pub pieces : List GraphObject
  pub since : List Out
  pub begun : HasOpened before k pieces since
  pub first : first_close_of (serials pieces) since ≡ Some cause
  pub freed : AllByRecursion (λ p. WasFreed since p.serial) pieces
  pub goes_on : HasNoEnd k before

-- each ENDED of an output stands so
abbrev pub EndsAreTheirs : List Out → Type 0
EndsAreTheirs outs = (before after : List Out) (k : ℕ) (cause : Cause) → outs ≡ before ++ (ended k cause ∷ after) → EndsAs before k cause

-- WHAT IS LEFT OVER

-- the object is one of an open that has begun in these records and hasn't ended
pub record IsOfLiving (outs : List Out) (x : ℕ) : Type 0 where
  pub number : ℕ
  pub pieces : List GraphObject
  pub since : List Out
  pub begun : HasOpened outs number pieces since
  pub is_piece : is_one_of (serials pieces) x ≡ true
  pub goes_on : HasNoEnd number outs

-- each object that lives is
pub record LeavesNone (outs : List Out) : Type 0 where
  pub state : GraphState
  pub led : HasLedTo outs state
  pub theirs : (x : ℕ) → state.live x ≡ true → IsOfLiving outs x

-- so it is before each COMMAND of an output
abbrev pub CommandsLeaveNone : List Out → Type 0
CommandsLeaveNone outs = (before after : List Out) (depth line place : ℕ) (expanded : Bool) (words : List (List ℕ)) →
    outs ≡ before ++ (command depth line place expanded words ∷ after) → LeavesNone before

-- the object was made in these records, after the last COMMAND of them
pub record IsMadeLast (outs : List Out) (x : ℕ) : Type 0 where
  pub kind : ℕ
  pub made : WasMadeLast outs (record { serial = x; kind = kind })

-- Each object that lives after these records is one of an open that has begun in them and hasn't ended, or was made since the last COMMAND, for the
-- open that is next.
pub record LeavesTheirs (outs : List Out) : Type 0 where
  pub state : GraphState
  pub led : HasLedTo outs state
  pub theirs : (x : ℕ) → state.live x ≡ true → IsOfLiving outs x ⊎ IsMadeLast outs x
