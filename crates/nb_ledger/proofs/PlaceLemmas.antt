-- Where objects stand in the book's list, and what is found there after an edit.
use Rattle.std.proofs.Common.{◌≡◌, ◌≢◌, ℕ, ◌+◌, ◌<◌, ◌≤◌, Bool, true, false, cond, eqb, ltb, List, [], ◌∷◌, ◌++◌, length, get_or, set, Option, Some, None, zero, suc, is_some, refl, ap, sym, ◌∙◌, arith, add-one, inl, inr}
use Rattle.std.specs.List.{remove}
use Rattle.std.specs.Borrow.{Bor}
use Rattle.std.specs.Option.{option_map_or, option_copied, IfNone, IfSome}
use Rattle.std.proofs.lemmas.Bool.Decides.{nat_tests}
use Rattle.std.proofs.lemmas.Bool.{eqb-true, eq-eqb, ne_eqb, cases_Bool, cases_lt, false≢true, lt-ltb, le-ltb}
use Rattle.nb_ledger.specs.declared.port.ObjId.{ObjId}
use Rattle.nb_ledger.specs.declared.object.Object.{Object}
use Rattle.nb_ledger.specs.Ledger.{Ledger, object_lives, least_above, place_in, found, IsRising}

-- a place is within the list, or at its end
pub place_in-le : (os : List Object) (x : ℕ) → place_in os x ≤ length os
place_in-le [] x = omega arith
place_in-le (o ∷ os) x = let h = place_in-le os x in grind (arith, nat_tests)

-- what is found stands at its place
pub found-place : (os : List Object) (x : ℕ) (d : Object) → place_in os x < length os → found os x ≡ Some (get_or os (place_in os x) d)
found-place [] x d h = absurd (omega arith)
found-place (o ∷ os) x d h = let r = found-place os x d in grind (arith, nat_tests)

-- what stands at its place has the serial
pub serial-place : (os : List Object) (x : ℕ) (d : Object) → place_in os x < length os → (get_or os (place_in os x) d).id.0 ≡ x
serial-place [] x d h = absurd (omega arith)
serial-place (o ∷ os) x d h = let r = serial-place os x d in grind (arith, nat_tests)

-- a serial that is found has a place
pub place_found : (os : List Object) (x : ℕ) → is_some (found os x) ≡ true → place_in os x < length os
place_found [] x h = absurd (cc)
place_found (o ∷ os) x h = let r = place_found os x in grind (arith, nat_tests)

-- what is found has the serial
pub found-serial : (os : List Object) (x : ℕ) (o : Object) → found os x ≡ Some o → o.id.0 ≡ x
found-serial [] x o h = absurd (cc)
found-serial (p ∷ os) x o h = let r = found-serial os x o in grind (arith, nat_tests)

-- after a write over the object of a serial by one of that serial
pub found-set : (os : List Object) (v : Object) (y : ℕ) → place_in os v.id.0 < length os → found (set os (place_in os v.id.0) v) y ≡ cond (eqb y v.id.0) (Some v) (found os y)
found-set [] v y h = absurd (omega arith)
found-set (o ∷ os) v y h = let r = found-set os v y in grind (arith, nat_tests)

-- the places stay
pub place-set : (os : List Object) (v : Object) (y : ℕ) → place_in os v.id.0 < length os → place_in (set os (place_in os v.id.0) v) y ≡ place_in os y
place-set [] v y h = absurd (omega arith)
place-set (o ∷ os) v y h = let r = place-set os v y in grind (arith, nat_tests)

-- the serials go on rising
pub IsRising_set : (low high : ℕ) (os : List Object) (v : Object) → place_in os v.id.0 < length os → length v.ports ≡ 4 → IsRising low os high → IsRising low (set os (place_in os v.id.0) v) high
IsRising_set low high [] v h n r = absurd (omega arith)
IsRising_set low high (o ∷ os) v h n r = let e = IsRising_set o.id.0 high os v in grind (arith, nat_tests)

-- the lowest is at most the highest
pub IsRising-le : (low high : ℕ) (os : List Object) → IsRising low os high → low ≤ high
IsRising-le low high [] r = r
IsRising-le low high (o ∷ os) r = let e = IsRising-le o.id.0 high os r.2 in omega (arith, r.0)

-- no serial above the highest is found
pub found-above : (low high : ℕ) (os : List Object) (x : ℕ) → IsRising low os high → high < x → found os x ≡ None
found-above low high [] x r h = refl
found-above low high (o ∷ os) x r h =
    let e = found-above o.id.0 high os x r.2 h in
    let b = IsRising-le o.id.0 high os r.2 in
    grind (arith, nat_tests)

-- and none at or below the lowest
pub found-below : (low high : ℕ) (os : List Object) (x : ℕ) → IsRising low os high → x ≤ low → found os x ≡ None
found-below low high [] x r h = refl
found-below low high (o ∷ os) x r h =
    let e = found-below o.id.0 high os x r.2 (omega arith) in
    grind (arith, nat_tests)

-- a live object was made
pub live-made : (l : Ledger) (x : ℕ) → IsRising 0 l.objects l.made → object_lives l x ≡ true → x ≤ l.made
unfolding object_lives
live-made l x r h = elim (cases_lt l.made x) [
  | inl a ↦ absurd (false≢true (sym (ap is_some (found-above 0 l.made l.objects x r a)) ∙ h))
  | inr b ↦ b
]

-- after an object of a new serial is put at the end
pub found-push : (os : List Object) (v : Object) (y : ℕ) → found os v.id.0 ≡ None → found (os ++ v ∷ []) y ≡ cond (eqb y v.id.0) (Some v) (found os y)
found-push [] v y h = refl
found-push (o ∷ os) v y h = let r = found-push os v y in grind (arith, nat_tests)

-- a new serial stands at the end
pub place-push : (os : List Object) (v : Object) → found os v.id.0 ≡ None → place_in (os ++ v ∷ []) v.id.0 ≡ length os
place-push [] v h = grind (arith, nat_tests)
place-push (o ∷ os) v h = let r = place-push os v in grind (arith, nat_tests)

-- those that were found stand where they stood
pub place-stays : (os : List Object) (v : Object) (y : ℕ) → is_some (found os y) ≡ true → place_in (os ++ v ∷ []) y ≡ place_in os y
place-stays [] v y h = absurd (cc)
place-stays (o ∷ os) v y h = let r = place-stays os v y in grind (arith, nat_tests)

-- the serials go on rising
pub IsRising-push : (low high : ℕ) (os : List Object) (v : Object) → IsRising low os high → high < v.id.0 → length v.ports ≡ 4 → IsRising low (os ++ v ∷ []) v.id.0
IsRising-push low high [] v r h n = (omega arith, n, omega arith)
IsRising-push low high (o ∷ os) v r h n = (r.0, r.1, IsRising-push o.id.0 high os v r.2 h n)

-- the highest may be raised
pub IsRising-raise : (low high top : ℕ) (os : List Object) → IsRising low os high → high ≤ top → IsRising low os top
IsRising-raise low high top [] r h = omega arith
IsRising-raise low high top (o ∷ os) r h = (r.0, r.1, IsRising-raise o.id.0 high top os r.2 h)

-- and the lowest lowered
pub IsRising-lower : (low high below : ℕ) (os : List Object) → IsRising low os high → below ≤ low → IsRising below os high
IsRising-lower low high below [] r h = omega arith
IsRising-lower low high below (o ∷ os) r h = (omega (arith, r.0), r.1, r.2)

-- after the object of a serial is taken out
pub found-remove : (low high : ℕ) (os : List Object) (x y : ℕ) → IsRising low os high → place_in os x < length os → found (remove os (place_in os x)) y ≡ cond (eqb y x) None (found os y)
found-remove low high [] x y r h = absurd (omega arith)
found-remove low high (o ∷ os) x y r h =
    let e = found-remove o.id.0 high os x y r.2 in
    let c : remove (o ∷ os) (place_in os x + 1) ≡ o ∷ remove os (place_in os x) = rw add-one refl in
    let z : remove (o ∷ os) 0 ≡ os = refl in
    let b = found-below o.id.0 high os y r.2 in
    grind (arith, nat_tests)

-- those after it move up by one
pub place-remove : (os : List Object) (x y : ℕ) → place_in os x < length os → y ≢ x → place_in (remove os (place_in os x)) y + cond (ltb (place_in os x) (place_in os y)) 1 0 ≡ place_in os y
place-remove [] x y h n = absurd (omega arith)
place-remove (o ∷ os) x y h n =
    let e = place-remove os x y in
    let c : remove (o ∷ os) (place_in os x + 1) ≡ o ∷ remove os (place_in os x) = rw add-one refl in
    let z : remove (o ∷ os) 0 ≡ os = refl in
    grind (arith, nat_tests)

-- the serials go on rising
pub IsRising-remove : (low high : ℕ) (os : List Object) (i : ℕ) → IsRising low os high → i < length os → IsRising low (remove os i) high
IsRising-remove low high [] i r h = absurd (omega arith)
IsRising-remove low high (o ∷ os) zero r h = IsRising-lower o.id.0 high low os r.2 (omega (arith, r.0))
IsRising-remove low high (o ∷ os) (suc i) r h = (r.0, r.1, IsRising-remove o.id.0 high os i r.2 (omega arith))

-- a reading of a choice is the choice of the readings
pub read-cond : {A : Type 0} (f : Object → A) (d : A) (b : Bool) (p q : Option Object) → option_map_or f (cond b p q) d ≡ cond b (option_map_or f p d) (option_map_or f q d)
read-cond f d true p q = refl
read-cond f d false p q = refl

-- writing what is there
pub same-cond : {A : Type 0} (f : Object → A) (d : A) (os : List Object) (v o : Object) (y : ℕ) → found os v.id.0 ≡ Some o → f v ≡ f o → cond (eqb y v.id.0) (f v) (option_map_or f (found os y) d) ≡ option_map_or f (found os y) d
same-cond f d os v o y h e =
    elim (cases_Bool (eqb y v.id.0)) [
      | inl t ↦ let q : y ≡ v.id.0 = eqb-true y v.id.0 t in rw (t, q, h, e) refl
      | inr t ↦ rw t refl
    ]

-- what is read of the object that is found, after a write over one
pub read-set : {A : Type 0} (f : Object → A) (d : A) (os : List Object) (v o : Object) (y : ℕ) → found os v.id.0 ≡ Some o → option_map_or f (found (set os (place_in os v.id.0) v) y) d ≡ cond (eqb y v.id.0) (f v) (option_map_or f (found os y) d)
read-set f d os v o y h =
    ap (λ w. option_map_or f w d) (found-set os v y (place_found os v.id.0 (ap is_some h))) ∙ read-cond f d (eqb y v.id.0) (Some v) (found os y)

-- a reading that the write doesn't change
pub read-same : {A : Type 0} (f : Object → A) (d : A) (os : List Object) (v o : Object) (y : ℕ) → found os v.id.0 ≡ Some o → f v ≡ f o → option_map_or f (found (set os (place_in os v.id.0) v) y) d ≡ option_map_or f (found os y) d
read-same f d os v o y h e =
    read-set f d os v o y h ∙ same-cond f d os v o y h e

-- what is read after an object of a new serial is put at the end
pub read-push : {A : Type 0} (f : Object → A) (d : A) (os : List Object) (v : Object) (y : ℕ) → found os v.id.0 ≡ None → option_map_or f (found (os ++ v ∷ []) y) d ≡ cond (eqb y v.id.0) (f v) (option_map_or f (found os y) d)
read-push f d os v y h = ap (λ w. option_map_or f w d) (found-push os v y h) ∙ read-cond f d (eqb y v.id.0) (Some v) (found os y)

-- what is read after the object of a serial is taken out
pub read-remove : {A : Type 0} (f : Object → A) (d : A) (low high : ℕ) (os : List Object) (x y : ℕ) → IsRising low os high → place_in os x < length os → option_map_or f (found (remove os (place_in os x)) y) d ≡ cond (eqb y x) d (option_map_or f (found os y) d)
read-remove f d low high os x y r h = ap (λ w. option_map_or f w d) (found-remove low high os x y r h) ∙ read-cond f d (eqb y x) None (found os y)

-- an object lives where its place is within the list
pub live_place : (os : List Object) (x : ℕ) → ltb (place_in os x) (length os) ≡ is_some (found os x)
live_place [] x = grind (arith, nat_tests)
live_place (o ∷ os) x = let r = live_place os x in grind (arith, nat_tests)

-- what is found has four ports
pub found-slots : (low high : ℕ) (os : List Object) (x : ℕ) (o : Object) → IsRising low os high → found os x ≡ Some o → length o.ports ≡ 4
found-slots low high [] x o r h = absurd (cc)
found-slots low high (p ∷ os) x o r h =
    let e = found-slots p.id.0 high os x o r.2 in
    let q = r.1 in
    grind (arith, nat_tests)

-- the same of a reference to it
pub some-slots : (low high : ℕ) (os : List Object) (x : ℕ) (r : Option (Bor Object)) → IsRising low os high → option_copied r ≡ found os x → IfSome r (λ o. length o.now.ports ≡ 4)
some-slots low high os x None i h = tt
some-slots low high os x (Some b) i h = found-slots low high os x b.now i (sym h)

-- a live object stands in the list
pub live-stands : (l : Ledger) (x : ℕ) → object_lives l x ≡ true → place_in l.objects x < length l.objects
unfolding object_lives
live-stands l x h = place_found l.objects x h

none-step : (o : Object) (os : List Object) (x : ℕ) → o.id.0 ≤ x → (i : Option ObjId) → IfNone i ((y : ℕ) → x < y → is_some (found os y) ≡ false) → IfNone i ((y : ℕ) → x < y → is_some (found (o ∷ os) y) ≡ false)
none-step o os x h None f = λ y l. rw (ne_eqb y o.id.0 (λ e. absurd (omega arith))) (f y l)
none-step o os x h (Some i) f = tt

-- where no serial is above x, none of those is found
pub least-none : (os : List Object) (x : ℕ) → IfNone (least_above os x) ((y : ℕ) → x < y → is_some (found os y) ≡ false)
least-none [] x = λ y h. refl
least-none (o ∷ os) x = elim (cases_lt x o.id.0) [
  | inl h ↦ rw (lt-ltb x o.id.0 h) tt
  | inr h ↦ rw (le-ltb x o.id.0 h) (none-step o os x h (least_above os x) (least-none os x))
]

-- i is the least serial above x that is found
abbrev pub IsLeast : List Object → ℕ → ℕ → ObjId → Type 0
IsLeast os x high i = (x < i.0) × (i.0 ≤ high) × (is_some (found os i.0) ≡ true) × ((y : ℕ) → x < y → y < i.0 → is_some (found os y) ≡ false)

some-step : (o : Object) (os : List Object) (x high : ℕ) → o.id.0 ≤ x → (i : Option ObjId) → IfSome i (IsLeast os x high) → IfSome i (IsLeast (o ∷ os) x high)
some-step o os x high h None f = tt
some-step o os x high h (Some i) f =
    let above : x < i.0 = f.0 in
    (f.0, f.1, rw (ne_eqb i.0 o.id.0 (λ e. absurd (omega arith))) f.2, λ y l u. rw (ne_eqb y o.id.0 (λ e. absurd (omega arith))) (f.3 y l u))

-- the first serial above x is found, and none between
pub least-some : (low high : ℕ) (os : List Object) (x : ℕ) → IsRising low os high → IfSome (least_above os x) (IsLeast os x high)
least-some low high [] x r = tt
least-some low high (o ∷ os) x r = elim (cases_lt x o.id.0) [
  | inl h ↦ rw (lt-ltb x o.id.0 h) (h, IsRising-le o.id.0 high os r.2, rw (eq-eqb o.id.0 o.id.0 refl) refl, λ y l u. rw (ne_eqb y o.id.0 (λ e. absurd (omega arith))) (ap is_some (found-below o.id.0 high os y r.2 (omega arith))))
  | inr h ↦ rw (le-ltb x o.id.0 h) (some-step o os x high h (least_above os x) (least-some o.id.0 high os x r.2))
]
