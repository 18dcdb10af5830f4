-- What stands at a place, and at that of a serial.
use Rattle.std.proofs.Common.{◌≡◌, ℕ, ◌<◌, true, List, [], ◌∷◌, length, get_or, slice_get, Option, Some, None, zero, suc, is_some, refl, ap, sym, subst, ◌∙◌, arith, add-one, eqb, inl, inr}
use Rattle.std.specs.Option.{IfSome}
use Rattle.std.proofs.lemmas.Bool.{eq-eqb, ne_eqb, cases_Bool}
use Rattle.nb_ledger.specs.declared.object.Object.{Object}
use Rattle.nb_ledger.specs.Ledger.{Ledger, object_lives, place_in, found, IsRising}
use Rattle.nb_ledger.proofs.PlaceLemmas.{found-place, found-serial, live-stands}

-- each object in the list has a serial above the lowest
rising-above : (low high : ℕ) (os : List Object) (i : ℕ) (o : Object) → IsRising low os high → slice_get os i ≡ Some o → low < o.id.0
rising-above low high [] i o r h = absurd (cc)
rising-above low high (p ∷ os) zero o r h = let e : p ≡ o = cc in rw (← e) r.0
rising-above low high (p ∷ os) (suc i) o r h = let e = rising-above p.id.0 high os i o r.2 h in omega (arith, e, r.0)

-- what stands at a place has that place
pub stands-place : (low high : ℕ) (os : List Object) (i : ℕ) (o : Object) → IsRising low os high → slice_get os i ≡ Some o → place_in os o.id.0 ≡ i
stands-place low high [] i o r h = absurd (cc)
stands-place low high (p ∷ os) zero o r h = let e : p ≡ o = cc in rw (eq-eqb o.id.0 p.id.0 (ap (λ z. z.id.0) (sym e))) refl
stands-place low high (p ∷ os) (suc i) o r h =
    let e = rising-above p.id.0 high os i o r.2 h in
    let z = stands-place p.id.0 high os i o r.2 h in
    rw (ne_eqb o.id.0 p.id.0 (λ j. absurd (omega (arith, e, j)))) (omega (arith, z))

-- the same where its serial is known
pub some-place : (low high : ℕ) (os : List Object) (i x : ℕ) (r : Option Object) → IsRising low os high → slice_get os i ≡ r → IfSome r (λ o. o.id.0 ≡ x) → is_some r ≡ true → place_in os x ≡ i
some-place low high os i x None r h e s = absurd (cc)
some-place low high os i x (Some o) r h e s = ap (place_in os) (sym e) ∙ stands-place low high os i o r h

-- what stands at the place of a serial is what is found
pub get-place : (os : List Object) (x : ℕ) → slice_get os (place_in os x) ≡ found os x
get-place [] x = refl
get-place (o ∷ os) x = elim (cases_Bool (eqb x o.id.0)) [
  | inl t ↦ rw t refl
  | inr t ↦ rw (t, add-one) (get-place os x)
]

-- the object of a serial stands in the list of the fields
pub stands-in : (l m : Ledger) (x : ℕ) → m ≡ l → object_lives l x ≡ true → place_in m.objects x < length m.objects
stands-in l m x e h = subst (λ b. place_in b.objects x < length b.objects) (sym e) (live-stands l x h)

-- what is read at the place of a serial is what is found
pub found-at : (os : List Object) (x i : ℕ) (o : Object) → i ≡ place_in os x → place_in os x < length os → o ≡ get_or os i o → found os x ≡ Some o
found-at os x i o e h is = found-place os x o h ∙ ap Some (sym (is ∙ ap (λ j. get_or os j o) e))

-- and it stands there
pub own-place : (os : List Object) (x i : ℕ) (o : Object) → i ≡ place_in os x → found os x ≡ Some o → place_in os o.id.0 ≡ i
own-place os x i o e f = ap (place_in os) (found-serial os x o f) ∙ sym e
