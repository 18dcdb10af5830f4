-- What a port's state says of its object.
use Rattle.std.proofs.Common.{◌≡◌, ℕ, ◌<◌, true, false, Option, Some, None, is_some, arith, refl, subst, sym, inl, inr}
use Rattle.std.proofs.lemmas.Bool.{cases_Bool}
use Rattle.std.specs.Option.{option_map_or}
use Rattle.std.proofs.lemmas.Bool.Decides.{nat_tests}
use Rattle.nb_ledger.specs.declared.object.Object.{Object}
use Rattle.nb_ledger.specs.declared.port.PortState.TheVariants.{Open, Linked, Leaving, Closed}
use Rattle.nb_ledger.specs.declared.port.PortState.{PortState}
use Rattle.nb_ledger.specs.Ledger.{Ledger, found, object_lives, holds, busy, port, ties, unused, object_port, object_unused}
use Rattle.nb_ledger.specs.GraphRun.{IsOpen}

-- a state other than Closed
abbrev pub IsUsed : PortState → Type 0
IsUsed Open = Unit {0}
IsUsed (Linked p) = Unit {0}
IsUsed (Leaving p) = Unit {0}
IsUsed Closed = ⊥

found_used : (o : Option Object) (k : ℕ) → IsUsed (option_map_or (object_port k) o Closed) → (is_some o ≡ true) × (k < 4)
found_used None k h = absurd h
found_used (Some o) k h = (refl, grind (arith, nat_tests))

-- a port that isn't closed is a slot of a live object
pub used-live : (l : Ledger) (x k : ℕ) → IsUsed (port l x k) → (object_lives l x ≡ true) × (k < 4)
unfolding object_lives port
used-live l x k h = found_used (found l.objects x) k h

-- the same, of a port that is known to be so
pub live_by : (l : Ledger) (x k : ℕ) (v : PortState) → IsUsed v → port l x k ≡ v → (object_lives l x ≡ true) × (k < 4)
live_by l x k v u h = used-live l x k (subst IsUsed (sym h) u)

found_busy : (o : Option Object) → option_map_or (λ w. w.busy) o false ≡ true → is_some o ≡ true
found_busy None h = absurd (cc)
found_busy (Some o) h = refl

-- an object of which an entry runs lives
pub busy-live : (l : Ledger) (x : ℕ) → busy l x ≡ true → object_lives l x ≡ true
unfolding object_lives busy
busy-live l x h = found_busy (found l.objects x) h

open_used : (v : PortState) → IsOpen v → IsUsed v
open_used Open h = tt
open_used (Linked p) h = tt
open_used (Leaving p) h = absurd h
open_used Closed h = absurd h

-- so does one with an open port
pub open-live : (l : Ledger) (x k : ℕ) → IsOpen (port l x k) → object_lives l x ≡ true
open-live l x k h = (used-live l x k (open_used (port l x k) h)).0

-- a dead object has no holds
pub dead_holds : (l : Ledger) (x : ℕ) → object_lives l x ≡ false → holds l x ≡ 0
unfolding object_lives holds
dead_holds l x h = no_holds (found l.objects x) h
  where
    no_holds : (o : Option Object) → is_some o ≡ false → option_map_or (λ w. w.holds) o 0 ≡ 0
    no_holds None e = refl
    no_holds (Some o) e = absurd (cc)

-- an object with a hold lives
pub held-live : (l : Ledger) (x : ℕ) → 0 < holds l x → object_lives l x ≡ true
held-live l x h = elim (cases_Bool (object_lives l x)) [ inl e ↦ e | inr e ↦ absurd (let z = dead_holds l x e in omega arith) ]

-- an object that is found is unused as its entry says
pub unused-some : (l : Ledger) (x : ℕ) (o : Object) → found l.objects x ≡ Some o → object_unused o ≡ unused l x
unfolding holds busy port ties unused
unused-some l x o h = rw h refl

-- a dead object has nothing that is counted
pub unused-none : (l : Ledger) (x : ℕ) → found l.objects x ≡ None → true ≡ unused l x
unfolding holds busy port ties unused
unused-none l x h = rw h refl
