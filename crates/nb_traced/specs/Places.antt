-- Where the records of opens stand among the entries of their lowest objects. Our own.
use Rattle.std.specs.Prelude.{◌≡◌, ℕ, List, [], ◌∷◌, ◌++◌, Some}
use Rattle.nb_defs.specs.Records.{Out, step, sent, text, command, result, script, opened, tried, advanced, ended, graph, part, done}
use Rattle.nb_traced.specs.Holdings.{GraphObject, lowest_of, serials}
use Rattle.nb_traced.specs.LowestObjects.{graph_so_far}
use Rattle.nb_traced.specs.Entries.{RunsInEntry, IsOutside}
use Rattle.nb_traced.specs.Openings.{HasNoEnd, HasOpened, HasPieces}

-- what the records say is the lowest object of an open is the last of its objects
abbrev pub LowestAreTheirs : List Out → Type 0
LowestAreTheirs outs = (before after : List Out) (k kind server port own : ℕ) (target : List ℕ) →
    outs ≡ before ++ (opened k kind server port own target ∷ after) →
    (pieces : List GraphObject) × HasPieces before kind pieces × ((graph_so_far outs).lowest k ≡ Some (lowest_of (serials pieces)))

-- no two opens have the same
abbrev pub LowestAreOwn : List Out → Type 0
LowestAreOwn outs = (j k x : ℕ) → (graph_so_far outs).lowest j ≡ Some x → (graph_so_far outs).lowest k ≡ Some x → j ≡ k

-- an open of these records that hasn't ended, within whose lowest object's entry what comes next stands
pub record IsWithinOpen (k : ℕ) (outs : List Out) : Type 0 where
  pub pieces : List GraphObject
  pub since : List Out
  pub begun : HasOpened outs k pieces since
  pub goes_on : HasNoEnd k outs
  pub within : RunsInEntry k outs

-- where a FRAME stands: within an entry of the lowest object of an open; or directly after a STEP, where no entry runs
pub data FrameStands (before : List Out) : Type 0 where
  by_open : (k : ℕ) → IsWithinOpen k before → FrameStands before
  by_step : (earlier : List Out) (n : ℕ) → before ≡ earlier ++ (step n ∷ []) → IsOutside before → FrameStands before

-- each FRAME, each TRY and each ADVANCE of an output stands so
abbrev pub FramesStand : List Out → Type 0
FramesStand outs = (before after : List Out) (bytes : List ℕ) → outs ≡ before ++ (sent bytes ∷ after) → FrameStands before

abbrev pub TriesStandWithin : List Out → Type 0
TriesStandWithin outs = (before after : List Out) (k count : ℕ) → outs ≡ before ++ (tried k count ∷ after) → IsWithinOpen k before

abbrev pub AdvancesStand : List Out → Type 0
AdvancesStand outs = (before after : List Out) (k place : ℕ) → outs ≡ before ++ (advanced k place ∷ after) → IsWithinOpen k before

-- a record that is neither of the graph nor what an open puts in a call
abbrev pub IsOfNoCall : Out → Type 0
IsOfNoCall (graph happens) = ⊥
IsOfNoCall (sent bytes) = ⊥
IsOfNoCall (tried number count) = ⊥
IsOfNoCall (advanced number place) = ⊥
IsOfNoCall (step number) = Unit {0}
IsOfNoCall (text bytes) = Unit {0}
IsOfNoCall (command depth line place expanded words) = Unit {0}
IsOfNoCall (result cause) = Unit {0}
IsOfNoCall (script what depth cause) = Unit {0}
IsOfNoCall (opened number kind server port own target) = Unit {0}
IsOfNoCall (ended number cause) = Unit {0}
IsOfNoCall (part kind index offset bytes) = Unit {0}
IsOfNoCall (done status) = Unit {0}

-- where such a record stands, no entry runs: within an entry only FRAME, TRY and ADVANCE stand beside the records of the graph
abbrev pub OthersStandOutside : List Out → Type 0
OthersStandOutside outs = (before after : List Out) (o : Out) → outs ≡ before ++ (o ∷ after) → IsOfNoCall o → IsOutside before
