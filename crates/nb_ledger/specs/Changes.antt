-- What one change of a book leaves of each serial.
use Rattle.std.specs.Prelude.{◌≡◌, ◌≢◌, ℕ, ◌+◌, Bool, true, false, nat_lt, [], ◌∷◌, ◌++◌, if◌then◌else◌}
use Rattle.std.specs.List.{remove}
use Rattle.nb_ledger.specs.declared.port.Port.{Port}
use Rattle.nb_ledger.specs.declared.port.PortState.{PortState}
use Rattle.nb_ledger.specs.declared.port.PortState.TheVariants.{Closed}
use Rattle.nb_ledger.specs.GraphRun.{but_at, port_but, ports_but, new_ports}
use Rattle.nb_ledger.specs.Ledger.{Ledger, object_lives, holds, busy, rank, port, place, open_count, opens, ranks}

-- the same objects at the same places
pub record SameObjects (old new : Ledger) : Type 0 where
  pub same_made : new.made ≡ old.made
  pub same_room : new.room ≡ old.room
  pub same_live : (x : ℕ) → object_lives new x ≡ object_lives old x
  pub same_rank : (x : ℕ) → rank new x ≡ rank old x
  pub same_ranks : ranks new ≡ ranks old
  pub same_place : (x : ℕ) → place new x ≡ place old x

-- the holds of x are n
pub record SetsHolds (old new : Ledger) (x n : ℕ) : Type 0 where
  pub objects : SameObjects old new
  pub holds_set : (y : ℕ) → holds new y ≡ but_at x n (holds old) y
  pub same_busy : (y : ℕ) → busy new y ≡ busy old y
  pub same_port : (y k : ℕ) → port new y k ≡ port old y k
  pub same_opens : opens new ≡ opens old

-- the flag of x is b
pub record SetsBusy (old new : Ledger) (x : ℕ) (b : Bool) : Type 0 where
  pub objects : SameObjects old new
  pub same_holds : (y : ℕ) → holds new y ≡ holds old y
  pub busy_set : (y : ℕ) → busy new y ≡ but_at x b (busy old) y
  pub same_port : (y k : ℕ) → port new y k ≡ port old y k
  pub same_opens : opens new ≡ opens old

-- the port p is v
pub record SetsPort (old new : Ledger) (p : Port) (v : PortState) : Type 0 where
  pub objects : SameObjects old new
  pub same_holds : (y : ℕ) → holds new y ≡ holds old y
  pub same_busy : (y : ℕ) → busy new y ≡ busy old y
  pub port_set : (y k : ℕ) → port new y k ≡ port_but p v (port old) y k
  pub opens_set : opens new + open_count (port old p.obj.0 p.slot) ≡ opens old + open_count v

-- x, of this rank, is the last of the objects, with the next serial, four open ports and no hold
pub record Adds (old new : Ledger) (x r : ℕ) : Type 0 where
  pub made_set : new.made ≡ x
  pub same_room : new.room ≡ old.room
  pub live_set : (y : ℕ) → object_lives new y ≡ but_at x true (object_lives old) y
  pub rank_set : (y : ℕ) → rank new y ≡ but_at x r (rank old) y
  pub ranks_set : ranks new ≡ ranks old ++ r ∷ []
  pub place_set : (y : ℕ) → object_lives old y ≡ true → place new y ≡ place old y
  pub holds_set : (y : ℕ) → holds new y ≡ but_at x 0 (holds old) y
  pub busy_set : (y : ℕ) → busy new y ≡ but_at x false (busy old) y
  pub port_set : (y k : ℕ) → port new y k ≡ ports_but x new_ports (port old) y k

-- x is gone
pub record Removes (old new : Ledger) (x : ℕ) : Type 0 where
  pub same_made : new.made ≡ old.made
  pub same_room : new.room ≡ old.room
  pub live_set : (y : ℕ) → object_lives new y ≡ but_at x false (object_lives old) y
  pub rank_set : (y : ℕ) → rank new y ≡ but_at x 0 (rank old) y
  pub ranks_set : ranks new ≡ remove (ranks old) (place old x)
  pub place_set : (y : ℕ) → y ≢ x → place new y + (if nat_lt (place old x) (place old y) then 1 else 0) ≡ place old y
  pub holds_set : (y : ℕ) → holds new y ≡ but_at x 0 (holds old) y
  pub busy_set : (y : ℕ) → busy new y ≡ but_at x false (busy old) y
  pub port_set : (y k : ℕ) → port new y k ≡ ports_but x (λ _. Closed) (port old) y k
  pub opens_le : (n : ℕ) × (opens new + n ≡ opens old)
