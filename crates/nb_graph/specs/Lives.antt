-- What objects stand for while a call runs.
use Rattle.nb_ledger.specs.Flat.{Heard}
use Rattle.std.specs.Prelude.{◌≡◌, ◌≢◌, ℕ, ◌<◌, ◌≤◌, Bool, true, false, List, [], ◌++◌, ◌∷◌, min, max, Option, Some, slice_get}
use Rattle.nb_ledger.specs.declared.event.GraphEvent.{GraphEvent}
use Rattle.nb_ledger.specs.declared.port.PortState.{PortState}
use Rattle.nb_ledger.specs.GraphRun.{OnStack}
use Rattle.nb_ledger.specs.Ledger.{Ledger, place, busy, rank}
use Rattle.nb_effects.specs.Scene.{Scene, scene_of}
use Rattle.nb_ledger.specs.Flat.{Given}
use Rattle.nb_ledger.specs.Settled.{Settles}
use Rattle.nb_effects.specs.Trace.{Nature, NodeEntry, Owes}
use Rattle.nb_effects.specs.Deeds.{Deed, Stage, Settles as Frees, events_of, told_of, trace_after}
use Rattle.nb_effects.specs.Follows.{UsesStack}
use Rattle.nb_effects.specs.Hosts.{Hosts, Suited}
use Rattle.nb_effects.specs.Whole.{Runs}
use Rattle.nb_effects.specs.Calm.{Calm, EndsEntry, SettlesTwo}
use Rattle.nb_graph.specs.Lively.{Lively, LivelyIn}
use Rattle.nb_ledger.specs.declared.port.ObjId.{ObjId}
use Rattle.nb_ledger.specs.declared.port.Port.{Port}
use Rattle.nb_effects.specs.Accounts.{Account}
use Rattle.nb_effects.specs.Flows.{Still}
use Rattle.nb_effects.specs.Moves.{Calms, Livens, always}
use Rattle.nb_effects.specs.Order.{LetsHoldsGo, frees}

-- the node of each serial, None where it is dead, what is seen of the book, and what the outside was told
pub record Seats (N : Type 0) : Type 0 where
  pub node : ℕ → Option N
  pub scene : Scene
  pub told : Heard

abbrev pub seat : {N : Type 0} → Ledger → List N → ℕ → Option N
seat l nodes x = slice_get nodes (place l x)

abbrev pub nodes_at : {N : Type 0} → Ledger → List N → Heard → Seats N
nodes_at l nodes told = record { node = seat l nodes; scene = scene_of l; told = told }

-- no node comes that wasn't there
pub record Loses {N : Type 0} (f g : ℕ → Option N) : Type 0 where
  pub back : (x : ℕ) (n : N) → g x ≡ Some n → f x ≡ Some n

-- the node of x, if it lives, stands for this trace, which lent these loads and hasn't had them back
abbrev pub NodeFits : {N L : Type 0} → (N → List (NodeEntry N L) → Type 0) → Seats N → ℕ → List (NodeEntry N L) → List L → Type 0
NodeFits {N} stands f x t w = (n : N) → f.node x ≡ Some n → stands n t × Owes [] t w

-- What happened goes from these stages to those, and each object stands for its trace continued by it; `owing` has
-- the loads that are lent before and after, and `moves` what happens to the bytes on links.
pub record StaysTraced {N L : Type 0} (stands : N → List (NodeEntry N L) → Type 0) (known : Nature N L) (now : ℕ) (f g : Seats N) (owing : ℕ → List L → List L → Type 0) (opened ended : List (Stage N L) → List (Stage N L)) (moves : List (Deed N L) → Type 0) (added : List GraphEvent) : Type 0 where
  pub deeds : List (Deed N L)
  pub events : events_of deeds ≡ added
  pub tells : Given f.told g.told (told_of deeds)
  pub follows : (st : List (Stage N L)) (ds : List (Deed N L)) (s : Scene) → UsesStack known now g.scene (ended st) ds s → UsesStack known now f.scene (opened st) (deeds ++ ds) s
  pub keeps : (x : ℕ) (t : List (NodeEntry N L)) (w v : List L) → owing x w v → NodeFits stands f x t w → NodeFits stands g x (trace_after x t deeds) v
  pub hosts : Hosts known stands f.node deeds g.node
  pub suits : (x : ℕ) (t : List (NodeEntry N L)) (w v : List L) → owing x w v → NodeFits stands f x t w → Suited x t deeds
  pub moved : moves deeds

-- the same loads are lent, and none by an object of which no entry runs
abbrev pub Same : {L : Type 0} → (ℕ → Bool) → ℕ → List L → List L → Type 0
Same busy x w v = (busy x ≡ false → w ≡ []) × (w ≡ v)

-- these loads of y come back
abbrev pub Back : {L : Type 0} → (ℕ → Bool) → ℕ → List L → ℕ → List L → List L → Type 0
Back {L} busy y ls x w v =
    (x ≡ y → (us : List L) × (vs : List L) × (w ≡ us ++ (ls ++ vs)) × (v ≡ us ++ vs)) × (x ≢ y → Same busy x w v)

-- these are all loads of y that are lent, and they come back
abbrev pub AllBack : {L : Type 0} → (ℕ → Bool) → ℕ → List L → ℕ → List L → List L → Type 0
AllBack busy y ls x w v = (x ≡ y → (w ≡ ls) × (v ≡ [])) × (x ≢ y → Same busy x w v)

-- an entry of y lends these loads
abbrev pub Lends : {L : Type 0} → ℕ → List L → ℕ → List L → List L → Type 0
Lends y ls x w v = (x ≡ y → v ≡ w ++ ls) × (x ≢ y → w ≡ v)

-- the same, of an entry that begins only where none is lent
abbrev pub LendsFirst : {L : Type 0} → ℕ → List L → ℕ → List L → List L → Type 0
LendsFirst y ls x w v = (x ≡ y → (w ≡ []) × (v ≡ ls)) × (x ≢ y → w ≡ v)

-- nothing changes
abbrev pub Stays : {L : Type 0} → ℕ → List L → List L → Type 0
Stays x w v = w ≡ v

-- the same stages
abbrev pub here : {N L : Type 0} → List (Stage N L) → List (Stage N L)
here st = st

-- a calm call, with what its objects stand for
pub record CalmFor {N L : Type 0} (stands : N → List (NodeEntry N L) → Type 0) (known : Nature N L) (now : ℕ) (old new : Ledger) (nodes more : List N) (owing : ℕ → List L → List L → Type 0) (flow : Port → Port → Account → List ℕ → List ℕ → Type 0) (opened : List (Stage N L) → List (Stage N L)) (before after : Heard) : Type 0 where
  pub calm : Calm old new before after
  pub lives : StaysTraced stands known now (nodes_at old nodes before) (nodes_at new more after) owing opened here (Calms known old new flow) calm.added

-- a call that may make objects
pub record LivelyFor {N L : Type 0} (stands : N → List (NodeEntry N L) → Type 0) (known : Nature N L) (now : ℕ) (old new : Ledger) (nodes more : List N) (owing : ℕ → List L → List L → Type 0) (due : Port → Account → List ℕ) (flow : Port → Port → Account → List ℕ → List ℕ → Type 0) (opened : List (Stage N L) → List (Stage N L)) (before after : Heard) : Type 0 where
  pub lively : Lively old new before after
  pub lives : StaysTraced stands known now (nodes_at old nodes before) (nodes_at new more after) owing opened here (Livens known old new always due flow) lively.added

-- the same in an entry of y, from these stages to those
pub record LivelyInFor {N L : Type 0} (stands : N → List (NodeEntry N L) → Type 0) (known : Nature N L) (now y : ℕ) (old new : Ledger) (nodes more : List N) (owing : ℕ → List L → List L → Type 0) (ready : Port → Account → Type 0) (due : Port → Account → List ℕ) (flow : Port → Port → Account → List ℕ → List ℕ → Type 0) (opened ended : List (Stage N L) → List (Stage N L)) (before after : Heard) : Type 0 where
  pub lively : LivelyIn y old new before after
  pub lives : StaysTraced stands known now (nodes_at old nodes before) (nodes_at new more after) owing opened ended (Livens known old new ready due flow) lively.added

-- an entry ends
pub record EndsFor {N L : Type 0} (stands : N → List (NodeEntry N L) → Type 0) (known : Nature N L) (old new : Ledger) (nodes more : List N) (before after : Heard) (y : ℕ) (was : Bool) (stack : List OnStack → List OnStack) (f : ℕ → ℕ → PortState) (opened : List (Stage N L) → List (Stage N L)) : Type 0 where
  pub ends : EndsEntry old new before after y was stack f
  pub lives : (now : ℕ) → StaysTraced stands known now (nodes_at old nodes before) (nodes_at new more after) Stays opened here (Calms known old new Still) ends.added

-- what was owed for an object is done
pub record SettlesFor {N L : Type 0} (stands : N → List (NodeEntry N L) → Type 0) (known : Nature N L) (old new : Ledger) (nodes more : List N) (before after : Heard) (y : ObjId) : Type 0 where
  pub settles : Settles old new before after y
  pub gone : List ObjId
  pub frees : settles.added ≡ frees gone
  pub loses : Loses (seat old nodes) (seat new more)
  pub lives : (now : ℕ) → StaysTraced stands known now (nodes_at old nodes before) (nodes_at new more after) Stays (λ st. Frees y.0 ∷ st) here (Calms known old new Still) settles.added

-- and for two
pub record SettlesTwoFor {N L : Type 0} (stands : N → List (NodeEntry N L) → Type 0) (known : Nature N L) (old new : Ledger) (nodes more : List N) (before after : Heard) (y z : ObjId) : Type 0 where
  pub settles : SettlesTwo old new before after y z
  pub gone : List ObjId
  pub frees : settles.added ≡ frees gone
  pub lives : (now : ℕ) → StaysTraced stands known now (nodes_at old nodes before) (nodes_at new more after) Stays (λ st. Frees (min y.0 z.0) ∷ Frees (max y.0 z.0) ∷ st) here (Calms known old new Still) settles.added

-- no entry of an object of rank r or above runs
abbrev pub IsUnder : ℕ → Ledger → Type 0
IsUnder r l = (x : ℕ) → busy l x ≡ true → rank l x < r

-- no entry of an object of a rank above r runs
abbrev pub IsBelow : ℕ → Ledger → Type 0
IsBelow r l = (x : ℕ) → busy l x ≡ true → rank l x ≤ r

-- events that are a run, with what objects stand for
pub record RunFor {N L : Type 0} (stands : N → List (NodeEntry N L) → Type 0) (known : Nature N L) (old new : Ledger) (nodes more : List N) (opened ended : List (Stage N L) → List (Stage N L)) (before after : Heard) : Type 0 where
  pub added : List GraphEvent
  pub runs : Runs old new before after added
  pub lives : (now : ℕ) → StaysTraced stands known now (nodes_at old nodes before) (nodes_at new more after) Stays opened ended (Calms known old new Still) added
  pub lets : LetsHoldsGo added
