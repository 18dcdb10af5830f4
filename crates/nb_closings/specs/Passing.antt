-- That an object of an open ends once, and closes both the port to its user and the one below it then. Our own.
use Rattle.std.specs.Prelude.{◌≡◌, ◌⊎◌, ◌<◌, ◌≤◌, ◌-◌, ◌||◌, ℕ, Bool, true, false, not, List, [], ◌∷◌, ◌++◌, length, nat_lt}
use Rattle.nb_terms.specs.declared.cause.Cause.{Cause}
use Rattle.nb_graph.specs.Effects.{ClosesSlot}
use Rattle.nb_graph.specs.Trace.{NodeEntry, up, down, closed, time, regain}
use Rattle.nb_nodes.specs.declared.load.Load.{Load}
use Rattle.nb_nodes.specs.declared.obj.Obj.{Obj}
use Rattle.nb_nodes.specs.Standing.{ObjStands}

-- It ends by this entry: memory ran out, it asks to close a port, or the port above or below was closed.
abbrev pub ends_object : {N L : Type 0} → NodeEntry N L → Bool
ends_object (up slot m now done fx) = not done || nat_lt 0 (length fx.closes.items)
ends_object (down m now done fx) = not done || nat_lt 0 (length fx.closes.items)
ends_object (closed slot cause now fx) = nat_lt slot 2
ends_object (time now done fx) = not done || nat_lt 0 (length fx.closes.items)
ends_object (regain load) = false

-- it has ended by one of these
abbrev pub object_has_ended : {N L : Type 0} → List (NodeEntry N L) → Bool
object_has_ended [] = false
object_has_ended (e ∷ t) = ends_object e || object_has_ended t

-- both ports are closed, or none
abbrev pub ClosesBothOrNone : List (ℕ × Cause) → Type 0
ClosesBothOrNone xs = (xs ≡ []) ⊎ (ClosesSlot 0 xs × ClosesSlot 1 xs)

-- An entry closes both ports or none; where one of them was closed, it closes the other.
abbrev pub PassesEndOn : {N L : Type 0} → NodeEntry N L → Type 0
PassesEndOn (up slot m now done fx) = done ≡ true → ClosesBothOrNone fx.closes.items
PassesEndOn (down m now done fx) = done ≡ true → ClosesBothOrNone fx.closes.items
PassesEndOn (closed slot cause now fx) = (slot < 2 → ClosesSlot (1 - slot) fx.closes.items) × (2 ≤ slot → fx.closes.items ≡ [])
PassesEndOn (time now done fx) = done ≡ true → ClosesBothOrNone fx.closes.items
PassesEndOn (regain load) = Unit {0}

-- so does each entry of an object of an open that hasn't ended yet
abbrev pub ObjectsPassOn : Type 0
ObjectsPassOn = (n : Obj) (t : List (NodeEntry Obj Load)) (e : NodeEntry Obj Load) → ObjStands n (t ++ e ∷ []) → object_has_ended t ≡ false → PassesEndOn e
