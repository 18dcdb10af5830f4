-- What is held at a place: by where it lies, and by its mark.
use Rattle.std.proofs.Common.{◌≡◌, ℕ, ◌+◌, ◌-◌, ◌<◌, ◌≤◌, ◌==◌, ◌&&◌, ◌||◌, nat_lt, nat_le, Bool, true, false, cond, Option, Some, None, refl, sym, ap, ◌∙◌, arith}
use Rattle.std.proofs.lemmas.Bool.{ltb-true, ltb-false, false≢true}
use Rattle.std.proofs.lemmas.Bool.Decides.{nat_tests}
use Rattle.std.specs.Option.{is_some}
use Rattle.nb_streams.proofs.StreamLaws.{either}
use Rattle.nb_reasm.specs.Rings.{capacity, slot_of, ring_byte, ring_mark, is_held, held_byte}
use Rattle.nb_reasm.specs.declared.ring.Ring.{Ring}
use Rattle.nb_reasm.proofs.MarkLemmas.{mark_bit}

abbrev test : ℕ → ℕ → ℕ → ℕ → ℕ → Bool
test base next top mark p = nat_le base p && (nat_lt p next || (nat_lt p top && (mark == 1)))

test_below : (base next top mark p : ℕ) → p < base → test base next top mark p ≡ false
test_below base next top mark p h = grind (arith, nat_tests)

test_front : (base next top mark p : ℕ) → base ≤ p → p < next → test base next top mark p ≡ true
test_front base next top mark p h l = grind (arith, nat_tests)

test_marked : (base next top mark p : ℕ) → base ≤ p → p < top → mark ≡ 1 → test base next top mark p ≡ true
test_marked base next top mark p h l m = grind (arith, nat_tests)

test_free : (base next top mark p : ℕ) → next ≤ p → mark ≡ 0 → test base next top mark p ≡ false
test_free base next top mark p h m = grind (arith, nat_tests)

test_above : (base next top mark p : ℕ) → next ≤ p → top ≤ p → test base next top mark p ≡ false
test_above base next top mark p h l = grind (arith, nat_tests)

held_if : (r : Ring) (p : ℕ) (b : Bool) → is_held r p ≡ b → held_byte r p ≡ cond b (Some (ring_byte r p)) None
unfolding held_byte
held_if r p b e = ap (λ (t : Bool). cond t (Some (ring_byte r p)) None) e

-- a place is held where a byte is held at it
pub held_test : (r : Ring) (p : ℕ) → is_some (held_byte r p) ≡ is_held r p
unfolding held_byte
held_test r p = tests (is_held r p) (ring_byte r p)
  where
    tests : (t : Bool) (b : ℕ) → is_some (cond t (Some b) None) ≡ t
    tests true b = refl
    tests false b = refl

pub held_alike : (r s : Ring) (p : ℕ) → held_byte s p ≡ held_byte r p → is_held s p ≡ true → is_held r p ≡ true
held_alike r s p same h = sym (held_test r p) ∙ ap (λ (o : Option ℕ). is_some o) (sym same) ∙ held_test s p ∙ h

pub held_below : (r : Ring) (p : ℕ) → p < r.base → held_byte r p ≡ None
held_below r p h = held_if r p false (test_below r.base r.next (r.base + capacity r) (ring_mark r p) p h)

pub held_front : (r : Ring) (p : ℕ) → r.base ≤ p → p < r.next → held_byte r p ≡ Some (ring_byte r p)
held_front r p h l = held_if r p true (test_front r.base r.next (r.base + capacity r) (ring_mark r p) p h l)

pub held_marked : (r : Ring) (p : ℕ) → r.base ≤ p → p < r.base + capacity r → ring_mark r p ≡ 1 → held_byte r p ≡ Some (ring_byte r p)
held_marked r p h l m = held_if r p true (test_marked r.base r.next (r.base + capacity r) (ring_mark r p) p h l m)

pub held_free : (r : Ring) (p : ℕ) → r.next ≤ p → ring_mark r p ≡ 0 → held_byte r p ≡ None
held_free r p h m = held_if r p false (test_free r.base r.next (r.base + capacity r) (ring_mark r p) p h m)

pub held_above : (r : Ring) (p : ℕ) → r.next ≤ p → r.base + capacity r ≤ p → held_byte r p ≡ None
held_above r p h l = held_if r p false (test_above r.base r.next (r.base + capacity r) (ring_mark r p) p h l)

test_from : (base next top mark p : ℕ) → test base next top mark p ≡ true → base ≤ p
test_from base next top mark p h = grind (arith, nat_tests)

test_to : (base next top mark p : ℕ) → next ≤ top → test base next top mark p ≡ true → p < top
test_to base next top mark p n h = grind (arith, nat_tests)

pub held_from : (r : Ring) (p : ℕ) → is_held r p ≡ true → r.base ≤ p
held_from r p h = test_from r.base r.next (r.base + capacity r) (ring_mark r p) p h

pub held_to : (r : Ring) (p : ℕ) → r.next ≤ r.base + capacity r → is_held r p ≡ true → p < r.base + capacity r
held_to r p n h = test_to r.base r.next (r.base + capacity r) (ring_mark r p) p n h

pub held_in_front : (r : Ring) (p : ℕ) → r.base ≤ p → p < r.next → is_held r p ≡ true
held_in_front r p h l = test_front r.base r.next (r.base + capacity r) (ring_mark r p) p h l

pub held_nothing : (r : Ring) (p : ℕ) → held_byte r p ≡ None → is_held r p ≡ true → ⊥
held_nothing r p none h = false≢true (sym (ap (λ (o : Option ℕ). is_some o) none) ∙ held_test r p ∙ h)

-- where a place lies
pub data Spot (r : Ring) (p : ℕ) : Type 0 where
  is_below : p < r.base → Spot r p
  is_front : r.base ≤ p → p < r.next → Spot r p
  is_marked : r.base ≤ p → r.next ≤ p → p < r.base + capacity r → ring_mark r p ≡ 1 → Spot r p
  is_unmarked : r.base ≤ p → r.next ≤ p → p < r.base + capacity r → ring_mark r p ≡ 0 → Spot r p
  is_above : r.base ≤ p → r.next ≤ p → r.base + capacity r ≤ p → Spot r p

pub spot : (r : Ring) (p : ℕ) → Spot r p
spot r p = either (nat_lt p r.base) (λ t. is_below (ltb-true p r.base t)) (λ b.
    either (nat_lt p r.next) (λ t. is_front (ltb-false p r.base b) (ltb-true p r.next t)) (λ n.
    either (nat_lt p (r.base + capacity r)) (λ t.
    either (ring_mark r p == 0)
    (λ z. is_unmarked (ltb-false p r.base b) (ltb-false p r.next n) (ltb-true p (r.base + capacity r) t) (zero_mark (ring_mark r p) z))
    (λ o. is_marked (ltb-false p r.base b) (ltb-false p r.next n) (ltb-true p (r.base + capacity r) t) (one_mark (ring_mark r p) o (mark_bit r.marks.words.items (slot_of r (p - r.base))))))
    (λ f. is_above (ltb-false p r.base b) (ltb-false p r.next n) (ltb-false p (r.base + capacity r) f))))
  where
    zero_mark : (m : ℕ) → (m == 0) ≡ true → m ≡ 0
    zero_mark m z = grind (arith, nat_tests)

    one_mark : (m : ℕ) → (m == 0) ≡ false → m < 2 → m ≡ 1
    one_mark m o l = grind (arith, nat_tests)

-- The same window, a run that reached over marked places, and the same bytes and later marks: the same is held.
pub held_kept : (r s : Ring) → s.base ≡ r.base → capacity s ≡ capacity r → r.base ≤ r.next → r.next ≤ s.next → s.next ≤ r.base + capacity r → (p : ℕ)
    → (r.base ≤ p → p < r.base + capacity r → ring_byte s p ≡ ring_byte r p)
    → (s.next ≤ p → p < r.base + capacity r → ring_mark s p ≡ ring_mark r p)
    → (r.next ≤ p → p < s.next → ring_mark r p ≡ 1)
    → held_byte s p ≡ held_byte r p
held_kept r s base size from grown to p bytes marks joined = elim (spot s p) [
  | is_below l ↦ held_below s p l ∙ sym (held_below r p (omega (arith, l, base)))
  | is_front h l ↦ either (nat_lt p r.next)
      (λ t. held_front s p h l ∙ ap (λ (b : ℕ). Some b) (bytes (omega (arith, h, base)) (omega (arith, l, to))) ∙ sym (held_front r p (omega (arith, h, base)) (ltb-true p r.next t)))
      (λ f. held_front s p h l ∙ ap (λ (b : ℕ). Some b) (bytes (omega (arith, h, base)) (omega (arith, l, to))) ∙ sym (held_marked r p (omega (arith, h, base)) (omega (arith, l, to)) (joined (ltb-false p r.next f) l)))
  | is_marked h n l m ↦ held_marked s p h l m ∙ ap (λ (b : ℕ). Some b) (bytes (omega (arith, h, base)) (omega (arith, l, base, size))) ∙ sym (held_marked r p (omega (arith, h, base)) (omega (arith, l, base, size)) (sym (marks n (omega (arith, l, base, size))) ∙ m))
  | is_unmarked h n l m ↦ held_free s p n m ∙ sym (held_free r p (omega (arith, n, grown)) (sym (marks n (omega (arith, l, base, size))) ∙ m))
  | is_above h n l ↦ held_above s p n l ∙ sym (held_above r p (omega (arith, n, grown)) (omega (arith, l, base, size)))
]
