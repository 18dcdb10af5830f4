-- What a put holds, by whether a place lies in the window and holds a byte.
use Rattle.std.proofs.Common.{◌≡◌, ℕ, ◌+◌, ◌-◌, ◌<◌, ◌≤◌, ◌⊎◌, inl, inr, ◌&&◌, min, max, nat_lt, nat_le, Bool, true, false, cond, Option, Some, None, List, length, get_or, refl, sym, ap, ◌∙◌, arith}
use Rattle.std.specs.Option.{option_or, is_none}
use Rattle.std.specs.List.{slice_get}
use Rattle.std.proofs.lemmas.Bool.{ltb-true, ltb-false}
use Rattle.std.proofs.lemmas.Bool.Decides.{nat_tests}
use Rattle.std.proofs.lemmas.Option.{slice_get_past, slice_get-get_or}
use Rattle.nb_streams.proofs.StreamLaws.{either}
use Rattle.nb_reasm.specs.Rings.{capacity, held_byte, ring_byte, IsJoinable}
use Rattle.nb_reasm.specs.Windows.{HeldWindow, window_of, is_inside, window_byte, is_new, new_count, places_count}
use Rattle.nb_reasm.specs.declared.ring.Ring.{Ring}
use Rattle.nb_reasm.proofs.SpotLemmas.{held_front}
use Rattle.nb_reasm.proofs.CountLemmas.{count_between}

pub byte_if : (w : HeldWindow) (pos : ℕ) (bytes : List ℕ) (p : ℕ) (t : Bool) → is_inside w p && nat_le pos p ≡ t → window_byte w pos bytes p ≡ cond t (slice_get bytes (p - pos)) None
byte_if w pos bytes p t e = ap (λ (b : Bool). cond b (slice_get bytes (p - pos)) None) e

pub le_of : (a : Bool) (m n : ℕ) → a && nat_le m n ≡ true → m ≤ n
le_of a m n e = grind (arith, nat_tests)

pub or_none : (o : Option ℕ) → option_or o None ≡ o
or_none None = refl
or_none (Some x) = refl

test_true : (base top pos p : ℕ) → base ≤ p → p < top → pos ≤ p → (nat_le base p && nat_lt p top) && nat_le pos p ≡ true
test_true base top pos p a b c = grind (arith, nat_tests)

test_below : (base top pos p : ℕ) → p < base → (nat_le base p && nat_lt p top) && nat_le pos p ≡ false
test_below base top pos p a = grind (arith, nat_tests)

test_above : (base top pos p : ℕ) → top ≤ p → (nat_le base p && nat_lt p top) && nat_le pos p ≡ false
test_above base top pos p a = grind (arith, nat_tests)

test_before : (base top pos p : ℕ) → p < pos → (nat_le base p && nat_lt p top) && nat_le pos p ≡ false
test_before base top pos p a = grind (arith, nat_tests)

module _ (r : Ring) (pos : ℕ) (bytes : List ℕ) (p : ℕ) where
  pub byte_below : p < r.base → window_byte (window_of r) pos bytes p ≡ None
  byte_below l = byte_if (window_of r) pos bytes p false (test_below r.base (r.base + capacity r) pos p l)

  pub byte_above : r.base + capacity r ≤ p → window_byte (window_of r) pos bytes p ≡ None
  byte_above h = byte_if (window_of r) pos bytes p false (test_above r.base (r.base + capacity r) pos p h)

  pub byte_before : p < pos → window_byte (window_of r) pos bytes p ≡ None
  byte_before l = byte_if (window_of r) pos bytes p false (test_before r.base (r.base + capacity r) pos p l)

  pub byte_here : r.base ≤ p → p < r.base + capacity r → pos ≤ p → p < pos + length bytes → window_byte (window_of r) pos bytes p ≡ Some (get_or bytes (p - pos) 0)
  byte_here h l from few =
      byte_if (window_of r) pos bytes p true (test_true r.base (r.base + capacity r) pos p h l from)
      ∙ slice_get-get_or bytes (p - pos) 0 (omega (arith, from, few))

  pub byte_past : pos + length bytes ≤ p → window_byte (window_of r) pos bytes p ≡ None
  byte_past h = either (is_inside (window_of r) p && nat_le pos p)
      (λ t. byte_if (window_of r) pos bytes p true t ∙ slice_get_past bytes (p - pos) (omega (arith, h)))
      (λ f. byte_if (window_of r) pos bytes p false f)

not_inside : (base top p : ℕ) (c : Bool) → p < base → (nat_le base p && nat_lt p top) && c ≡ false
not_inside base top p c l = grind (arith, nat_tests)

not_above : (base top p : ℕ) (c : Bool) → top ≤ p → (nat_le base p && nat_lt p top) && c ≡ false
not_above base top p c l = grind (arith, nat_tests)

not_empty : (a : Bool) → a && false ≡ false
not_empty true = refl
not_empty false = refl

is_inside_then : (base top p : ℕ) → base ≤ p → p < top → (nat_le base p && nat_lt p top) && true ≡ true
is_inside_then base top p h l = grind (arith, nat_tests)

pub old_by : (r : Ring) (p : ℕ) (b : ℕ) → held_byte r p ≡ Some b → is_new (window_of r) p ≡ false
old_by r p b e = ap (λ (o : Option ℕ). is_inside (window_of r) p && is_none o) e ∙ not_empty (is_inside (window_of r) p)

pub new_by : (r : Ring) (p : ℕ) → r.base ≤ p → p < r.base + capacity r → held_byte r p ≡ None → is_new (window_of r) p ≡ true
new_by r p h l e = ap (λ (o : Option ℕ). is_inside (window_of r) p && is_none o) e ∙ is_inside_then r.base (r.base + capacity r) p h l

pub old_above : (r : Ring) (p : ℕ) → r.base + capacity r ≤ p → is_new (window_of r) p ≡ false
old_above r p l = not_above r.base (r.base + capacity r) p (is_none (held_byte r p)) l

pub old_below : (r : Ring) (p : ℕ) → p < r.next → is_new (window_of r) p ≡ false
old_below r p l = either (nat_lt p r.base)
    (λ t. not_inside r.base (r.base + capacity r) p (is_none (held_byte r p)) (ltb-true p r.base t))
    (λ f. old_by r p (ring_byte r p) (held_front r p (ltb-false p r.base f) l))

-- of the bytes those between two places were held, where none was
pub record Scatters (r s : Ring) (pos from at : ℕ) (bytes : List ℕ) : Type 0 where
  pub joinable : IsJoinable r
  pub first : from ≡ max pos r.next
  pub low : from < at → at ≤ min (pos + length bytes) (r.base + capacity r)
  pub high : min (pos + length bytes) (r.base + capacity r) ≤ at
  pub some : from ≤ at
  pub inside : (p : ℕ) → from ≤ p → p < at → held_byte s p ≡ option_or (held_byte r p) (Some (get_or bytes (p - pos) 0))
  pub outside : (p : ℕ) → (p < from) ⊎ (at ≤ p) → held_byte s p ≡ held_byte r p

module _ (r s : Ring) (pos from at : ℕ) (bytes : List ℕ) (is : Scatters r s pos from at bytes) where
  -- a byte that isn't to be held changes nothing
  left_out : (p : ℕ) → held_byte s p ≡ held_byte r p → window_byte (window_of r) pos bytes p ≡ None → held_byte s p ≡ option_or (held_byte r p) (window_byte (window_of r) pos bytes p)
  left_out p same none = same ∙ sym (ap (λ (o : Option ℕ). option_or (held_byte r p) o) none ∙ or_none (held_byte r p))

  before : (p : ℕ) → p < from → held_byte s p ≡ option_or (held_byte r p) (window_byte (window_of r) pos bytes p)
  before p l = either (nat_lt p pos)
      (λ t. left_out p (is.outside p (inl l)) (byte_before r pos bytes p (ltb-true p pos t)))
      (λ f. either (nat_lt p r.base)
      (λ t. left_out p (is.outside p (inl l)) (byte_below r pos bytes p (ltb-true p r.base t)))
      (λ g. is.outside p (inl l) ∙ held (ltb-false p r.base g) (omega (arith, l, is.first, ltb-false p pos f))))
    where
      held : r.base ≤ p → p < r.next → held_byte r p ≡ option_or (held_byte r p) (window_byte (window_of r) pos bytes p)
      held h n = held_front r p h n ∙ sym (ap (λ (o : Option ℕ). option_or o (window_byte (window_of r) pos bytes p)) (held_front r p h n))

  between : (p : ℕ) → from ≤ p → p < at → held_byte s p ≡ option_or (held_byte r p) (window_byte (window_of r) pos bytes p)
  between p h l =
      is.inside p h l
      ∙ sym (ap (λ (o : Option ℕ). option_or (held_byte r p) o) (byte_here r pos bytes p (omega (arith, h, is.first, is.joinable.from)) (omega (arith, l, top)) (omega (arith, h, is.first)) (omega (arith, l, top))))
    where
      top : at ≤ min (pos + length bytes) (r.base + capacity r)
      top = is.low (omega (arith, h, l))

  after : (p : ℕ) → at ≤ p → held_byte s p ≡ option_or (held_byte r p) (window_byte (window_of r) pos bytes p)
  after p h = either (nat_lt p (r.base + capacity r))
      (λ t. left_out p (is.outside p (inr h)) (byte_past r pos bytes p (omega (arith, h, is.high, ltb-true p (r.base + capacity r) t))))
      (λ f. left_out p (is.outside p (inr h)) (byte_above r pos bytes p (ltb-false p (r.base + capacity r) f)))

  pub scatters_held : (p : ℕ) → held_byte s p ≡ option_or (held_byte r p) (window_byte (window_of r) pos bytes p)
  scatters_held p = either (nat_lt p from)
      (λ t. before p (ltb-true p from t))
      (λ f. either (nat_lt p at)
      (λ t. between p (ltb-false p from f) (ltb-true p at t))
      (λ g. after p (ltb-false p at g)))

  pub scatters_count : new_count (window_of r) pos bytes ≡ places_count (is_new (window_of r)) from (at - from)
  scatters_count =
      count_between (window_of r) from at pos bytes (λ p h l. old_below r p (omega (arith, h, l, is.first))) (λ p h l. old_above r p (omega (arith, h, l, is.high)))
      (either (nat_lt from at) (λ t. some (is.low (ltb-true from at t))) (λ f. none (ltb-false from at f)))
      ∙ ap (λ (q : ℕ). places_count (is_new (window_of r)) q (at - q)) last
    where
      last : max pos from ≡ from
      last = omega (arith, is.first)

      some : at ≤ min (pos + length bytes) (r.base + capacity r) → at ≤ max (pos + length bytes) from
      some h = omega (arith, h)

      none : at ≤ from → at ≤ max (pos + length bytes) from
      none h = omega (arith, h)
