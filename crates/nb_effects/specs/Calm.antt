-- What a close, or a message that goes down, leaves, whatever it nests: events that are a run, and no object made.
use Rattle.nb_ledger.specs.Flat.{Heard}
use Rattle.std.specs.Prelude.{◌≡◌, ℕ, ◌+◌, ◌*◌, ◌≤◌, nat_lt, List, ◌∷◌, Bool, true, Option, length, min, max}
use Rattle.nb_ledger.specs.declared.port.ObjId.{ObjId}
use Rattle.nb_ledger.specs.declared.port.Port.{Port}
use Rattle.nb_ledger.specs.declared.port.PortState.{PortState}
use Rattle.nb_ledger.specs.declared.port.PortState.TheVariants.{Leaving}
use Rattle.nb_ledger.specs.declared.event.GraphEvent.{GraphEvent}
use Rattle.nb_ledger.specs.GraphRun.{OnStack, IsIdle, GraphRunOf, owed, running_entries, but_at, port_but}
use Rattle.nb_ledger.specs.Flat.{Tells}
use Rattle.nb_ledger.specs.Ledger.{Ledger, object_lives, rank, port, busy, place, leaves, opens, open_count, run_state, Agrees}
use Rattle.nb_effects.specs.Whole.{IsBookWhole, IsManned}

-- no object is made, those that stay keep their rank, ports only close, and no entry and no half-closed link ends or begins
pub record Shrinks (old new : Ledger) : Type 0 where
  pub same_made : new.made ≡ old.made
  pub same_room : new.room ≡ old.room
  pub fewer : length new.objects ≤ length old.objects
  pub same_busy : (x : ℕ) → busy new x ≡ busy old x
  pub same_leaves : (x k : ℕ) → leaves (port new x k) ≡ leaves (port old x k)
  pub kept : (x : ℕ) → object_lives new x ≡ true → (object_lives old x ≡ true) × (rank new x ≡ rank old x)
  pub opens_fall : opens new ≤ opens old
  pub closes : (x k : ℕ) → open_count (port new x k) ≤ open_count (port old x k)

-- the events are a run over any stack that the book agrees with
pub record Calm (old new : Ledger) (before after : Heard) : Type 0 where
  pub added : List GraphEvent
  pub told : Tells before after added
  pub run : (st : List OnStack) → IsIdle st → Agrees old st → GraphRunOf (run_state old st) added (run_state new st)
  pub shrinks : Shrinks old new

-- the run begins with this event
pub record Starts (old new : Ledger) (before after : Heard) (e : GraphEvent) : Type 0 where
  pub rest : List GraphEvent
  pub told : Tells before after (e ∷ rest)
  pub run : (st : List OnStack) → IsIdle st → Agrees old st → GraphRunOf (run_state old st) (e ∷ rest) (run_state new st)

-- a book and nodes between events, in mid-call too
pub record IsSteady {N : Type 0} (rank_of : N → ℕ) (l : Ledger) (nodes : List N) (capacity : ℕ) : Type 0 where
  pub whole : IsBookWhole l
  pub manned : IsManned rank_of l nodes capacity

-- how far a calm call has to go: by open ports, then by rank, then by the place in the code
abbrev pub distance : ℕ → ℕ → ℕ → ℕ
distance open_ports r place = 8192 * open_ports + 32 * r + place

-- both ends of a link are closed, and the peer's object is entered
pub record HalfCloses (old new : Ledger) (at peer : Port) : Type 0 where
  pub same_made : new.made ≡ old.made
  pub same_room : new.room ≡ old.room
  pub same_length : length new.objects ≡ length old.objects
  pub same_live : (x : ℕ) → object_lives new x ≡ object_lives old x
  pub same_rank : (x : ℕ) → rank new x ≡ rank old x
  pub busy_set : (x : ℕ) → busy new x ≡ but_at peer.obj.0 true (busy old) x
  pub ports_set : (x k : ℕ) → port new x k ≡ port_but peer (Leaving at) (port_but at (Leaving peer) (port old)) x k
  pub opens_set : opens new + 2 ≡ opens old

-- An entry ends, of the object x; `was` says whether one of it ran before. The stack was `opened st` with it, and
-- f has the ports then.
pub record EndsEntry (old new : Ledger) (before after : Heard) (x : ℕ) (was : Bool) (opened : List OnStack → List OnStack) (f : ℕ → ℕ → PortState) : Type 0 where
  pub added : List GraphEvent
  pub told : Tells before after added
  pub run : (st : List OnStack) → ((y : ℕ) → but_at x was (busy old) y ≡ nat_lt 0 (running_entries st y)) → GraphRunOf (run_state old (opened st)) added (run_state new st)
  pub same_made : new.made ≡ old.made
  pub same_room : new.room ≡ old.room
  pub fewer : length new.objects ≤ length old.objects
  pub busy_is : (y : ℕ) → busy new y ≡ but_at x was (busy old) y
  pub leaves_is : (y k : ℕ) → leaves (port new y k) ≡ leaves (f y k)
  pub kept : (y : ℕ) → object_lives new y ≡ true → (object_lives old y ≡ true) × (rank new y ≡ rank old y)
  pub opens_fall : opens new ≤ opens old
  pub closes : (y k : ℕ) → open_count (port new y k) ≤ open_count (port old y k)

-- two objects are freed where they are unused, the lower serial first
pub record SettlesTwo (old new : Ledger) (before after : Heard) (x y : ObjId) : Type 0 where
  pub added : List GraphEvent
  pub told : Tells before after added
  pub run : (st : List OnStack) → Agrees old st → GraphRunOf (owed (min x.0 y.0) (owed (max x.0 y.0) (run_state old st))) added (run_state new st)
  pub shrinks : Shrinks old new
