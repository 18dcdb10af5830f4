-- What is true of a graph's book and nodes between events.
use Rattle.nb_ledger.specs.Flat.{Heard, Given, Tells, event, flat}
use Rattle.std.specs.Prelude.{◌≡◌, ℕ, ◌+◌, ◌<◌, ◌≤◌, List, [], ◌∷◌, map, true, false, Option, None, Some, length, slice_get}
use Rattle.nb_ledger.specs.declared.event.GraphEvent.{GraphEvent}
use Rattle.nb_ledger.specs.declared.event.GraphEvent.TheVariants.{Dropped}
use Rattle.nb_ledger.specs.declared.port.ObjId.{ObjId}
use Rattle.nb_ledger.specs.declared.port.Port.{Port}
use Rattle.nb_ledger.specs.declared.port.PortState.{PortState}
use Rattle.nb_ledger.specs.declared.port.PortState.TheVariants.{Linked}
use Rattle.nb_ledger.specs.GraphRun.{GraphRunOf}
use Rattle.nb_ledger.specs.Ledger.{Ledger, object_lives, rank, ranks, port, place, busy, leaves, unused, run_state}

-- a port by its object's serial and its slot
abbrev pub port_at : ℕ → ℕ → Port
port_at x k = record { obj = record { 0 = x }; slot = k }

-- links lead back, and join slot 0 of an object with a slot 1 to 3 of one of higher rank
pub record IsLinked (f : ℕ → ℕ → PortState) (r : ℕ → ℕ) : Type 0 where
  pub back : (x k : ℕ) (p : Port) → f x k ≡ Linked p → f p.obj.0 p.slot ≡ Linked (port_at x k)
  pub upper : (x : ℕ) (p : Port) → f x 0 ≡ Linked p → 1 ≤ p.slot
  pub lower : (x k : ℕ) (p : Port) → 1 ≤ k → f x k ≡ Linked p → p.slot ≡ 0
  pub falls : (x : ℕ) (p : Port) → f x 0 ≡ Linked p → r x < r p.obj.0

-- each live object has a hold, a link or an entry that runs
abbrev pub IsCounted : Ledger → Type 0
IsCounted l = (x : ℕ) → object_lives l x ≡ true → unused l x ≡ false

-- each but x is
abbrev pub CountedBut : ℕ → Ledger → Type 0
CountedBut x l = (y : ℕ) → (y ≡ x → ⊥) → object_lives l y ≡ true → unused l y ≡ false

-- each but x and z is
abbrev pub CountedButTwo : ℕ → ℕ → Ledger → Type 0
CountedButTwo x z l = (y : ℕ) → (y ≡ x → ⊥) → (y ≡ z → ⊥) → object_lives l y ≡ true → unused l y ≡ false

-- what is true of a book between events
pub record IsBookWhole (l : Ledger) : Type 0 where
  pub links : IsLinked (port l) (rank l)
  pub counted : IsCounted l
  pub small : (x : ℕ) → rank l x < 256

-- no entry runs, and no link is half closed
pub record IsQuiet (l : Ledger) : Type 0 where
  pub idle : (x : ℕ) → busy l x ≡ false
  pub settled : (x k : ℕ) → leaves (port l x k) ≡ None

-- the nodes are those of the book's objects, in order, and have room for more
pub record IsManned {N : Type 0} (rank_of : N → ℕ) (l : Ledger) (nodes : List N) (capacity : ℕ) : Type 0 where
  pub same_ranks : ranks l ≡ map rank_of nodes
  pub room : l.room ≤ capacity
  pub in_room : length l.objects ≤ l.room

-- a graph's objects: the book of them, and their nodes in the same order
pub record Objects (N : Type 0) : Type 0 where
  pub book : Ledger
  pub nodes : List N

-- these events were given, and are a run from the state before to the state after, with no entry on the stack
pub record Runs (old new : Ledger) (before after : Heard) (added : List GraphEvent) : Type 0 where
  pub told : Tells before after added
  pub run : GraphRunOf (run_state old []) added (run_state new [])

-- some events were
abbrev pub IsRun : Ledger → Ledger → Heard → Heard → Type 0
IsRun old new before after = (added : List GraphEvent) × Runs old new before after added

-- some events were, of which this was the first
abbrev pub Began : Ledger → Ledger → Heard → Heard → GraphEvent → Type 0
Began old new before after e = (rest : List GraphEvent) × Runs old new before after (e ∷ rest)

-- a graph between calls, of at most 64 objects
pub record IsGraph {N : Type 0} (rank_of : N → ℕ) (l : Ledger) (nodes : List N) (capacity : ℕ) : Type 0 where
  pub whole : IsBookWhole l
  pub quiet : IsQuiet l
  pub manned : IsManned rank_of l nodes capacity
  pub small : l.room ≤ 64

-- the node of an object, None where it is dead
abbrev pub node_of : {N : Type 0} → Objects N → ObjId → Option N
node_of g id = slice_get g.nodes (place g.book id.0)

-- the same by its serial
abbrev pub node_at : {N : Type 0} → Objects N → ℕ → Option N
node_at g x = slice_get g.nodes (place g.book x)

-- Nothing changed: not the objects, and not the outside, whether it tells what it is given or has stopped. It was
-- given nothing, neither an event nor a message.
pub record StaysSame {N O : Type 0} (notices : O → Heard) (old new : Objects N) (before after : O) : Type 0 where
  pub objects : new ≡ old
  pub outside : after ≡ before
  pub told : Given (notices before) (notices after) []

-- no object changed, and the outside was given that a message was dropped at p, and nothing else
pub record OnlyDrops {N : Type 0} (p : Port) (old new : Objects N) (before after : Heard) : Type 0 where
  pub objects : new ≡ old
  pub told : Given before after (event (flat (Dropped p)) ∷ [])

-- id is the next serial, of a live object with this node and rank
pub record IsMade {N : Type 0} (old new : Objects N) (node : N) (r : ℕ) (id : ObjId) : Type 0 where
  pub serial : id.0 ≡ old.book.made + 1
  pub lives : object_lives new.book id.0 ≡ true
  pub at_rank : rank new.book id.0 ≡ r
  pub is_node : node_of new id ≡ Some node

-- Serials only rise, none comes back, and an object that stays keeps its rank.
pub record Ages (old new : Ledger) : Type 0 where
  pub later : old.made ≤ new.made
  pub kept : (x : ℕ) → x ≤ old.made → object_lives new x ≡ true → (object_lives old x ≡ true) × (rank new x ≡ rank old x)

-- an object's rank never changes
abbrev pub KeepsRanks : Ledger → Ledger → Type 0
KeepsRanks old new = (x : ℕ) → object_lives old x ≡ true → object_lives new x ≡ true → rank new x ≡ rank old x

-- the object had a node, which gave r and left the node that the object has now
pub record Harvests {N L : Type 0} (gives : N → Option L → N → Type 0) (old new : Objects N) (id : ObjId) (r : Option L) : Type 0 where
  pub before : N
  pub after : N
  pub had : node_of old id ≡ Some before
  pub has : node_of new id ≡ Some after
  pub gave : gives before r after
