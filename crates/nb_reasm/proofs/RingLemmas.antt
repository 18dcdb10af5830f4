-- Runs of places: their slots, and what the ring holds once the marks of one were taken over.
use Rattle.std.proofs.Common.{◌≡◌, ℕ, ◌+◌, ◌-◌, ◌<◌, ◌≤◌, ◌==◌, ◌⊎◌, inl, inr, nat_lt, true, false, vec_len, sym, ap, subst, ◌∙◌, arith}
use Rattle.std.proofs.lemmas.Bool.{ltb-true, ltb-false}
use Rattle.std.proofs.lemmas.Bool.Decides.{nat_tests}
use Rattle.nb_streams.proofs.StreamLaws.{either}
use Rattle.nb_reasm.specs.Slots.{slot_mark}
use Rattle.nb_reasm.specs.Memories.{memory_byte, IsWritten}
use Rattle.nb_reasm.specs.Rings.{capacity, slot_of, ring_mark, is_held, held_byte, IsJoinable}
use Rattle.nb_reasm.specs.declared.memory.Memory.{Memory}
use Rattle.nb_reasm.specs.declared.ring.Ring.{Ring}
use Rattle.nb_reasm.proofs.SlotLemmas.{slots_apart, slot_beside, slots_same}
use Rattle.nb_reasm.proofs.SpotLemmas.{held_kept, held_alike}

-- two places of a window have two slots
pub places_apart : (r : Ring) (p q : ℕ) → IsJoinable r → r.base ≤ p → p < r.base + capacity r → r.base ≤ q → q < r.base + capacity r → (p ≡ q → ⊥) → slot_of r (p - r.base) ≡ slot_of r (q - r.base) → ⊥
places_apart r p q is hp lp hq lq apart = slots_apart (capacity r) r.start (p - r.base) (q - r.base) is.start (omega (arith, hp, lp)) (omega (arith, hq, lq)) (λ e. apart (omega (arith, e, hp, hq)))

equal_test : (a b : ℕ) → a ≡ b → (a == b) ≡ true
equal_test a b e = grind (arith, nat_tests)

pub unequal : (a b : ℕ) → (a == b) ≡ false → a ≡ b → ⊥
unequal a b f e = let t : (a == b) ≡ true = equal_test a b e in cc

-- n places from one on, whose slots stand side by side
pub record Beside (r : Ring) (place slot n : ℕ) : Type 0 where
  pub joinable : IsJoinable r
  pub from : r.next ≤ place
  pub to : place + n ≤ r.base + capacity r
  pub first : slot ≡ slot_of r (place - r.base)
  pub piece : slot + n ≤ capacity r

pub beside_slot : (r : Ring) (place slot n : ℕ) → Beside r place slot n → (k : ℕ) → k < n → slot_of r ((place + k) - r.base) ≡ slot + k
beside_slot r place slot n is k l =
    ap (λ (m : ℕ). slot_of r m) offset
    ∙ slot_beside (capacity r) r.start (place - r.base) k is.joinable.start (omega (arith, l, is.to, is.from, is.joinable.from)) (omega (arith, l, is.piece, is.first))
    ∙ ap (λ (m : ℕ). m + k) (sym is.first)
  where
    offset : (place + k) - r.base ≡ (place - r.base) + k
    offset = omega (arith, is.from, is.joinable.from)

-- the slot of another place is none of theirs
pub beside_other : (r : Ring) (place slot n : ℕ) → Beside r place slot n → (p : ℕ) → r.base ≤ p → p < r.base + capacity r → (p < place) ⊎ (place + n ≤ p) → (slot_of r (p - r.base) < slot) ⊎ (slot + n ≤ slot_of r (p - r.base))
beside_other r place slot n is p h l outside = either (nat_lt (slot_of r (p - r.base)) slot)
    (λ t. inl (ltb-true (slot_of r (p - r.base)) slot t))
    (λ f. either (nat_lt (slot_of r (p - r.base)) (slot + n))
    (λ t. absurd (inside (slot_of r (p - r.base) - slot) (omega (arith, ltb-false (slot_of r (p - r.base)) slot f, ltb-true (slot_of r (p - r.base)) (slot + n) t)) (omega (arith, ltb-false (slot_of r (p - r.base)) slot f))))
    (λ g. inr (ltb-false (slot_of r (p - r.base)) (slot + n) g)))
  where
    apart : (k : ℕ) → k < n → (p < place) ⊎ (place + n ≤ p) → p ≡ place + k → ⊥
    apart k few (inl below) e = omega (arith, below, e)
    apart k few (inr above) e = omega (arith, above, e, few)

    inside : (k : ℕ) → k < n → slot_of r (p - r.base) ≡ slot + k → ⊥
    inside k few e = places_apart r p (place + k) is.joinable h l (omega (arith, is.from, is.joinable.from)) (omega (arith, few, is.to)) (apart k few outside) (e ∙ sym (beside_slot r place slot n is k few))

-- a ring with the same window whose marks were turned in those places alone
pub record Turns (r s : Ring) (place slot n : ℕ) : Type 0 where
  pub beside : Beside r place slot n
  pub size : capacity s ≡ capacity r
  pub start : s.start ≡ r.start
  pub base : s.base ≡ r.base
  pub words : vec_len s.marks.words ≡ vec_len r.marks.words
  pub turned : (i : ℕ) → slot ≤ i → i < slot + n → slot_mark s.marks.words.items i + slot_mark r.marks.words.items i ≡ 1
  pub others : (i : ℕ) → (i < slot) ⊎ (slot + n ≤ i) → slot_mark s.marks.words.items i ≡ slot_mark r.marks.words.items i

pub turns_slot : (r s : Ring) (place slot n : ℕ) → Turns r s place slot n → (k : ℕ) → k < n → slot_of s ((place + k) - s.base) ≡ slot + k
turns_slot r s place slot n is k l = slots_same r s is.start is.base is.size (place + k) ∙ beside_slot r place slot n is.beside k l

pub turns_mark : (r s : Ring) (place slot n : ℕ) → Turns r s place slot n → (k : ℕ) → k < n → ring_mark s (place + k) + slot_mark r.marks.words.items (slot + k) ≡ 1
turns_mark r s place slot n is k l =
    ap (λ (i : ℕ). slot_mark s.marks.words.items i + slot_mark r.marks.words.items (slot + k)) (turns_slot r s place slot n is k l)
    ∙ is.turned (slot + k) (omega arith) (omega (arith, l))

pub turns_other : (r s : Ring) (place slot n : ℕ) → Turns r s place slot n → (p : ℕ) → r.base ≤ p → p < r.base + capacity r → (p < place) ⊎ (place + n ≤ p) → ring_mark s p ≡ ring_mark r p
turns_other r s place slot n is p h l outside =
    ap (λ (i : ℕ). slot_mark s.marks.words.items i) (slots_same r s is.start is.base is.size p)
    ∙ is.others (slot_of r (p - r.base)) (beside_other r place slot n is.beside p h l outside)

-- the place so far on
pub place_at : (place p : ℕ) → place ≤ p → place + (p - place) ≡ p
place_at place p h = omega (arith, h)

-- the first places after the run are marked: they are taken over
pub record Joins (r s : Ring) (slot n : ℕ) : Type 0 where
  pub turns : Turns r s r.next slot n
  pub some : 0 < n
  pub marked : (k : ℕ) → k < n → slot_mark r.marks.words.items (slot + k) ≡ 1
  pub memory : s.memory ≡ r.memory
  pub next : s.next ≡ r.next + n
  pub end : s.end ≡ r.end

-- a marked place lies below the end
marked_below_end : (r : Ring) (p : ℕ) → IsJoinable r → r.base ≤ p → p < r.base + capacity r → ring_mark r p ≡ 1 → p < r.end
marked_below_end r p is h l m = either (nat_lt p r.end) (λ t. ltb-true p r.end t) (λ f. absurd (one_zero (is.rest p h l (ltb-false p r.end f))))
  where
    one_zero : ring_mark r p ≡ 0 → ⊥
    one_zero z = omega (arith, m, z)

joined_mark : (r s : Ring) (slot n : ℕ) → Joins r s slot n → (p : ℕ) → r.next ≤ p → p < r.next + n → ring_mark s p ≡ 0
joined_mark r s slot n j p h l =
    let one : ring_mark s (r.next + (p - r.next)) + slot_mark r.marks.words.items (slot + (p - r.next)) ≡ 1 = turns_mark r s r.next slot n j.turns (p - r.next) (omega (arith, h, l)) in
    ap (λ (q : ℕ). ring_mark s q) (sym (place_at r.next p h)) ∙ omega (arith, one, j.marked (p - r.next) (omega (arith, h, l)))

was_marked : (r s : Ring) (slot n : ℕ) → Joins r s slot n → (p : ℕ) → r.next ≤ p → p < r.next + n → ring_mark r p ≡ 1
was_marked r s slot n j p h l =
    ap (λ (q : ℕ). ring_mark r q) (sym (place_at r.next p h))
    ∙ ap (λ (i : ℕ). slot_mark r.marks.words.items i) (beside_slot r r.next slot n j.turns.beside (p - r.next) (omega (arith, h, l)))
    ∙ j.marked (p - r.next) (omega (arith, h, l))

pub joins_held : (r s : Ring) (slot n : ℕ) → Joins r s slot n → (p : ℕ) → held_byte s p ≡ held_byte r p
joins_held r s slot n j p =
    held_kept r s j.turns.base j.turns.size is.from (omega (arith, j.next)) (omega (arith, j.next, j.turns.beside.to)) p
    (λ h l. ap (λ (m : Memory). memory_byte m (slot_of s (p - s.base))) j.memory ∙ ap (λ (i : ℕ). memory_byte r.memory i) (slots_same r s j.turns.start j.turns.base j.turns.size p))
    (λ n l. turns_other r s r.next slot _ j.turns p (omega (arith, n, j.next, is.from)) l (inr (omega (arith, n, j.next))))
    (λ n l. was_marked r s slot _ j p n (omega (arith, l, j.next)))
  where
    is : IsJoinable r
    is = j.turns.beside.joinable

pub joins_joinable : (r s : Ring) (slot n : ℕ) → Joins r s slot n → IsJoinable s
joins_joinable r s slot n j = record {
  some = omega (arith, is.some, size);
  most = omega (arith, is.most, size);
  start = omega (arith, is.start, size, j.turns.start);
  from = omega (arith, is.from, j.turns.base, j.next);
  to = omega (arith, j.turns.beside.to, j.turns.base, j.next, size);
  small = omega (arith, j.next, is.end_small, last);
  end_small = omega (arith, is.end_small, j.end);
  words = omega (arith, is.words, size, j.turns.words);
  front = λ p h l. front p (omega (arith, h, j.turns.base)) (omega (arith, l, j.next));
  rest = λ p h l e. rest p (omega (arith, h, j.turns.base)) (omega (arith, l, j.turns.base, size)) (omega (arith, e, j.end));
  written = λ p h. written p h;
}
  where
    is : IsJoinable r
    is = j.turns.beside.joinable

    size : capacity s ≡ capacity r
    size = j.turns.size

    last : r.next + n ≤ r.end
    last =
        let below : r.next + (n - 1) < r.end = marked_below_end r (r.next + (n - 1)) is (omega (arith, is.from)) (omega (arith, j.some, j.turns.beside.to)) (was_marked r s slot n j (r.next + (n - 1)) (omega arith) (omega (arith, j.some))) in
        omega (arith, below, j.some)

    front : (p : ℕ) → r.base ≤ p → p < r.next + n → ring_mark s p ≡ 0
    front p h l = either (nat_lt p r.next)
        (λ t. turns_other r s r.next slot n j.turns p h (omega (arith, ltb-true p r.next t, is.to)) (inl (ltb-true p r.next t)) ∙ is.front p h (ltb-true p r.next t))
        (λ f. joined_mark r s slot n j p (ltb-false p r.next f) l)

    rest : (p : ℕ) → r.base ≤ p → p < r.base + capacity r → r.end ≤ p → ring_mark s p ≡ 0
    rest p h l e = turns_other r s r.next slot n j.turns p h l (inr (omega (arith, e, last))) ∙ is.rest p h l e

    written : (p : ℕ) → is_held s p ≡ true → IsWritten s.memory (slot_of s (p - s.base))
    written p h =
        subst (λ (m : Memory). IsWritten m (slot_of s (p - s.base))) (sym j.memory)
        (subst (λ (i : ℕ). IsWritten r.memory i) (sym (slots_same r s j.turns.start j.turns.base size p)) (is.written p (held_alike r s p (joins_held r s slot n j p) h)))
