-- Bytes that come in order are put as a run: it is as if they were put one by one.
use Rattle.std.proofs.Common.{◌≡◌, ℕ, ◌+◌, ◌-◌, ◌<◌, ◌≤◌, ◌&&◌, min, max, nat_lt, nat_le, Bool, true, false, Option, Some, None, List, [], ◌∷◌, length, drop, get_or, refl, sym, ap, ◌∙◌, arith}
use Rattle.std.specs.Option.{option_or, is_none}
use Rattle.std.proofs.lemmas.Bool.{ltb-true, ltb-false}
use Rattle.std.proofs.lemmas.Bool.Decides.{nat_tests}
use Rattle.std.proofs.lemmas.List.{get_or-drop, length-drop}
use Rattle.std.proofs.lemmas.Option.{slice_get_past, slice_get-get_or}
use Rattle.nb_streams.proofs.StreamLaws.{either}
use Rattle.nb_reasm.specs.Rings.{capacity, held_byte, IsJoinable}
use Rattle.nb_reasm.specs.Windows.{HeldWindow, window_of, is_inside, window_byte, is_new, new_count}
use Rattle.nb_reasm.specs.declared.ring.Ring.{Ring}
use Rattle.nb_reasm.proofs.SpotLemmas.{held_below, held_front}
use Rattle.nb_reasm.proofs.RunLemmas.{free_after}
use Rattle.nb_reasm.proofs.PutLemmas.{byte_if}
use Rattle.nb_reasm.proofs.CountLemmas.{one_if}

pub record Runs (r s : Ring) (pos held n : ℕ) (bytes : List ℕ) : Type 0 where
  pub joinable : IsJoinable r
  pub none : r.end ≤ r.next
  pub from : pos ≤ r.next
  pub held_is : held ≡ min (length bytes) (r.next - pos)
  pub count : n ≡ min (length (drop held bytes)) ((r.base + capacity r) - r.next)
  pub kept : (p : ℕ) → p < r.next → held_byte s p ≡ held_byte r p
  pub fresh : (k : ℕ) → k < n → held_byte s (r.next + k) ≡ Some (get_or (drop held bytes) k 0)
  pub free : (p : ℕ) → r.next + n ≤ p → held_byte s p ≡ None

test_true : (base top pos p : ℕ) → base ≤ p → p < top → pos ≤ p → (nat_le base p && nat_lt p top) && nat_le pos p ≡ true
test_true base top pos p a b c = grind (arith, nat_tests)

test_below : (base top pos p : ℕ) → p < base → (nat_le base p && nat_lt p top) && nat_le pos p ≡ false
test_below base top pos p a = grind (arith, nat_tests)

test_above : (base top pos p : ℕ) → top ≤ p → (nat_le base p && nat_lt p top) && nat_le pos p ≡ false
test_above base top pos p a = grind (arith, nat_tests)

pub runs_held : (r s : Ring) (pos held n : ℕ) (bytes : List ℕ) → Runs r s pos held n bytes → (p : ℕ) → held_byte s p ≡ option_or (held_byte r p) (window_byte (window_of r) pos bytes p)
runs_held r s pos held n bytes is p = either (nat_lt p r.next)
    (λ t. before (ltb-true p r.next t))
    (λ f. after (ltb-false p r.next f))
  where
    top : ℕ
    top = r.base + capacity r

    before : p < r.next → held_byte s p ≡ option_or (held_byte r p) (window_byte (window_of r) pos bytes p)
    before l = is.kept p l ∙ either (nat_lt p r.base)
        (λ t. held_below r p (ltb-true p r.base t)
        ∙ sym (ap (λ (o : Option ℕ). option_or o (window_byte (window_of r) pos bytes p)) (held_below r p (ltb-true p r.base t))
        ∙ byte_if (window_of r) pos bytes p false (test_below r.base (r.base + capacity r) pos p (ltb-true p r.base t))))
        (λ f. held_front r p (ltb-false p r.base f) l
        ∙ sym (ap (λ (o : Option ℕ). option_or o (window_byte (window_of r) pos bytes p)) (held_front r p (ltb-false p r.base f) l)))

    shift : r.next ≤ p → p < r.next + n → r.next + (p - r.next) ≡ p
    shift h l = omega (arith, h)

    long : length (drop held bytes) ≡ length bytes - held
    long = length-drop held bytes

    whole : r.next ≤ p → p < r.next + n → held + (p - r.next) ≡ p - pos
    whole h l = omega (arith, h, l, is.held_is, is.count, is.from, long)

    given : r.next ≤ p → p < r.next + n → held_byte s p ≡ window_byte (window_of r) pos bytes p
    given h l =
        ap (λ (q : ℕ). held_byte s q) (sym (shift h l))
        ∙ is.fresh (p - r.next) (omega (arith, h, l))
        ∙ ap (λ (b : ℕ). Some b) (get_or-drop held bytes (p - r.next) 0 ∙ ap (λ (k : ℕ). get_or bytes k 0) (whole h l))
        ∙ sym (slice_get-get_or bytes (p - pos) 0 (omega (arith, h, l, is.held_is, is.count, is.from, long)))
        ∙ sym (byte_if (window_of r) pos bytes p true (test_true r.base (r.base + capacity r) pos p (omega (arith, h, is.joinable.from)) (omega (arith, h, l, is.count)) (omega (arith, h, is.from))))

    past : r.next ≤ p → r.next + n ≤ p → window_byte (window_of r) pos bytes p ≡ None
    past h l = either (nat_lt p (r.base + capacity r))
        (λ t. byte_if (window_of r) pos bytes p true (test_true r.base (r.base + capacity r) pos p (omega (arith, h, is.joinable.from)) (ltb-true p (r.base + capacity r) t) (omega (arith, h, is.from)))
        ∙ slice_get_past bytes (p - pos) (omega (arith, h, l, ltb-true p (r.base + capacity r) t, is.held_is, is.count, is.from, long)))
        (λ f. byte_if (window_of r) pos bytes p false (test_above r.base (r.base + capacity r) pos p (ltb-false p (r.base + capacity r) f)))

    after : r.next ≤ p → held_byte s p ≡ option_or (held_byte r p) (window_byte (window_of r) pos bytes p)
    after h = either (nat_lt p (r.next + n))
        (λ t. given h (ltb-true p (r.next + n) t))
        (λ f. is.free p (ltb-false p (r.next + n) f) ∙ sym (past h (ltb-false p (r.next + n) f)))
        ∙ sym (ap (λ (o : Option ℕ). option_or o (window_byte (window_of r) pos bytes p)) (free_after r p is.joinable is.none h))

-- where all below a place is held and nothing from it on
count_run : (w : HeldWindow) (next pos : ℕ) (bytes : List ℕ) → ((p : ℕ) → p < next → is_new w p ≡ false) → ((p : ℕ) → next ≤ p → p < w.base + w.size → is_new w p ≡ true) → ((p : ℕ) → w.base + w.size ≤ p → is_new w p ≡ false)
    → new_count w pos bytes ≡ min (pos + length bytes) (w.base + w.size) - max pos next
count_run w next pos [] held free above = omega arith
count_run w next pos (b ∷ bytes) held free above =
    let later : new_count w (pos + 1) bytes ≡ min ((pos + 1) + length bytes) (w.base + w.size) - max (pos + 1) next = count_run w next (pos + 1) bytes held free above in
    either (nat_lt pos next)
    (λ t. let l : pos < next = ltb-true pos next t in let none : one_if (is_new w pos) ≡ 0 = ap (λ (c : Bool). one_if c) (held pos l) in omega (arith, later, none, l))
    (λ f. let h : next ≤ pos = ltb-false pos next f in either (nat_lt pos (w.base + w.size))
    (λ t. let l : pos < w.base + w.size = ltb-true pos (w.base + w.size) t in let one : one_if (is_new w pos) ≡ 1 = ap (λ (c : Bool). one_if c) (free pos h l) in omega (arith, later, one, h, l))
    (λ g. let l : w.base + w.size ≤ pos = ltb-false pos (w.base + w.size) g in let none : one_if (is_new w pos) ≡ 0 = ap (λ (c : Bool). one_if c) (above pos l) in omega (arith, later, none, h, l)))

pub runs_count : (r s : Ring) (pos held n : ℕ) (bytes : List ℕ) → Runs r s pos held n bytes → n ≡ new_count (window_of r) pos bytes
runs_count r s pos held n bytes is =
    let count : new_count (window_of r) pos bytes ≡ min (pos + length bytes) (r.base + capacity r) - max pos r.next = count_run (window_of r) r.next pos bytes below inside above in
    omega (arith, count, is.count, is.held_is, is.from, is.joinable.to, length-drop held bytes)
  where
    not_inside : (base top p : ℕ) (c : Bool) → p < base → (nat_le base p && nat_lt p top) && c ≡ false
    not_inside base top p c l = grind (arith, nat_tests)

    not_above : (base top p : ℕ) (c : Bool) → top ≤ p → (nat_le base p && nat_lt p top) && c ≡ false
    not_above base top p c l = grind (arith, nat_tests)

    not_empty : (a : Bool) → a && false ≡ false
    not_empty true = refl
    not_empty false = refl

    is_inside_then : (base top p : ℕ) → base ≤ p → p < top → (nat_le base p && nat_lt p top) && true ≡ true
    is_inside_then base top p h l = grind (arith, nat_tests)

    below : (p : ℕ) → p < r.next → is_new (window_of r) p ≡ false
    below p l = either (nat_lt p r.base)
        (λ t. not_inside r.base (r.base + capacity r) p (is_none (held_byte r p)) (ltb-true p r.base t))
        (λ f. ap (λ (o : Option ℕ). is_inside (window_of r) p && is_none o) (held_front r p (ltb-false p r.base f) l) ∙ not_empty (is_inside (window_of r) p))

    inside : (p : ℕ) → r.next ≤ p → p < r.base + capacity r → is_new (window_of r) p ≡ true
    inside p h l = ap (λ (o : Option ℕ). is_inside (window_of r) p && is_none o) (free_after r p is.joinable is.none h) ∙ is_inside_then r.base (r.base + capacity r) p (omega (arith, h, is.joinable.from)) l

    above : (p : ℕ) → r.base + capacity r ≤ p → is_new (window_of r) p ≡ false
    above p l = not_above r.base (r.base + capacity r) p (is_none (held_byte r p)) l
