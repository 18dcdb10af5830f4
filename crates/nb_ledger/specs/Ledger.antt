-- What a book says of each serial.
use Rattle.std.specs.Prelude.{◌≡◌, ℕ, ◌+◌, ◌<◌, ◌≤◌, ◌==◌, ◌&&◌, not, nat_lt, Bool, true, false, List, [], ◌∷◌, map, sum_by, length, Option, Some, None, is_some, slice_index_or, if◌then◌else◌}
use Rattle.std.specs.Option.{option_map_or}
use Rattle.nb_ledger.specs.declared.port.ObjId.{ObjId}
use Rattle.nb_ledger.specs.declared.port.Port.{Port}
use Rattle.nb_ledger.specs.declared.port.PortState.{PortState}
use Rattle.nb_ledger.specs.declared.port.PortState.TheVariants.{Open, Linked, Leaving, Closed}
use Rattle.nb_ledger.specs.declared.object.Object.{Object}
use Rattle.nb_ledger.specs.GraphRun.{GraphState, OnStack, running_entries, link_count, links}

-- a book: how many objects were made, how many may live, and those that live, by rising serial
pub record Ledger : Type 0 where
  pub made : ℕ
  pub room : ℕ
  pub objects : List Object

-- where an object stands, the list's length where it is dead
abbrev pub place_in : List Object → ℕ → ℕ
place_in [] x = 0
place_in (o ∷ os) x = if x == o.id.0 then 0 else place_in os x + 1

-- the object of that serial
abbrev pub found : List Object → ℕ → Option Object
found [] x = None
found (o ∷ os) x = if x == o.id.0 then Some o else found os x

-- serials rise, from above `low` to at most `high`, and each object has four ports
abbrev pub IsRising : ℕ → List Object → ℕ → Type 0
IsRising low [] high = low ≤ high
IsRising low (o ∷ os) high = (low < o.id.0) × (length o.ports ≡ 4) × IsRising o.id.0 os high

-- it lives
unfoldable pub object_lives : Ledger → ℕ → Bool
object_lives l x = is_some (found l.objects x)

-- its holds, 0 where it is dead
unfoldable pub holds : Ledger → ℕ → ℕ
holds l x = option_map_or (λ o. o.holds) (found l.objects x) 0

-- an entry of it runs
unfoldable pub busy : Ledger → ℕ → Bool
busy l x = option_map_or (λ o. o.busy) (found l.objects x) false

-- its rank, 0 where it is dead
unfoldable pub rank : Ledger → ℕ → ℕ
rank l x = option_map_or (λ o. o.rank) (found l.objects x) 0

-- the state of a port of an object, Closed where there is no such slot
abbrev pub object_port : ℕ → Object → PortState
object_port k o = if nat_lt k 4 then slice_index_or o.ports k Closed else Closed

-- the state of its port, Closed where it is dead or there is no such slot
unfoldable pub port : Ledger → ℕ → ℕ → PortState
port l x k = option_map_or (object_port k) (found l.objects x) Closed

-- the links of an object, of its four slots
abbrev pub object_ties : Object → ℕ
object_ties o = link_count (object_port 0 o) + link_count (object_port 1 o) + link_count (object_port 2 o) + link_count (object_port 3 o)

-- an object has no hold and no link, and no entry of it runs
abbrev pub object_unused : Object → Bool
object_unused o = (o.holds == 0) && ((object_ties o == 0) && not o.busy)

-- where it stands
abbrev pub place : Ledger → ℕ → ℕ
place l x = place_in l.objects x

-- 1 for an open port
abbrev pub open_count : PortState → ℕ
open_count Open = 1
open_count (Linked peer) = 1
open_count (Leaving peer) = 0
open_count Closed = 0

-- the open ports of an object
abbrev pub open_ports : Object → ℕ
open_ports o = sum_by open_count o.ports

-- the open ports of all objects
unfoldable pub opens : Ledger → ℕ
opens l = sum_by open_ports l.objects

-- the ranks of all objects, in order
unfoldable pub ranks : Ledger → List ℕ
ranks l = map (λ o. o.rank) l.objects

-- the state of the run that a book stands for, with this stack
abbrev pub run_state : Ledger → List OnStack → GraphState
run_state l st = record { made = l.made; live = object_lives l; holds = holds l; port = port l; stack = st }

-- the book's flags are those of the entries on the stack
abbrev pub Agrees : Ledger → List OnStack → Type 0
Agrees l st = (x : ℕ) → busy l x ≡ nat_lt 0 (running_entries st x)

-- the links of an object
unfoldable pub ties : Ledger → ℕ → ℕ
ties l x = links (run_state l []) x

-- it has no hold and no link, and no entry of it runs
unfoldable pub unused : Ledger → ℕ → Bool
unused l x = (holds l x == 0) && ((ties l x == 0) && not (busy l x))

-- the peer of a port that is closed and not unplugged
abbrev pub leaves : PortState → Option Port
leaves Open = None
leaves (Linked peer) = None
leaves (Leaving peer) = Some peer
leaves Closed = None

-- the first serial above x
abbrev pub least_above : List Object → ℕ → Option ObjId
least_above [] x = None
least_above (o ∷ os) x = if nat_lt x o.id.0 then Some o.id else least_above os x

-- i is the least live serial above x
abbrev pub IsLeastAbove : Ledger → ℕ → ObjId → Type 0
IsLeastAbove l x i = (x < i.0) × (i.0 ≤ l.made) × (object_lives l i.0 ≡ true) × ((y : ℕ) → x < y → y < i.0 → object_lives l y ≡ false)
