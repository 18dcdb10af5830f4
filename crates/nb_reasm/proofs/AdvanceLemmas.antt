-- The window moves on over places that are held.
use Rattle.std.proofs.Common.{◌≡◌, ℕ, ◌+◌, ◌-◌, ◌<◌, ◌≤◌, nat_lt, true, Some, None, List, vec_len, sym, ap, subst, ◌∙◌, arith}
use Rattle.std.proofs.lemmas.Bool.{ltb-true, ltb-false}
use Rattle.nb_streams.proofs.StreamLaws.{either}
use Rattle.nb_reasm.specs.Slots.{slot_mark, wrapped_slot}
use Rattle.nb_reasm.specs.Memories.{memory_size, memory_byte, IsWritten}
use Rattle.nb_reasm.specs.Rings.{capacity, slot_of, ring_byte, ring_mark, is_held, held_byte, IsRing}
use Rattle.nb_reasm.specs.declared.memory.Memory.{Memory}
use Rattle.nb_reasm.specs.declared.ring.Ring.{Ring}
use Rattle.nb_reasm.proofs.SlotLemmas.{turn, same_turn, next_turn, slot_after, slot_around}
use Rattle.nb_reasm.proofs.SpotLemmas.{held_alike, held_from, held_to, held_front, held_marked, held_free, held_above, spot, is_below, is_front, is_marked, is_unmarked, is_above}

pub record Advances (r s : Ring) (count : ℕ) : Type 0 where
  pub ring : IsRing r
  pub held : r.base + count ≤ r.next
  pub memory : s.memory ≡ r.memory
  pub words : s.marks.words.items ≡ r.marks.words.items
  pub room : vec_len s.marks.words ≡ vec_len r.marks.words
  pub start : s.start ≡ wrapped_slot (capacity r) (r.start + count)
  pub base : s.base ≡ r.base + count
  pub next : s.next ≡ r.next
  pub end : s.end ≡ r.end

start_within : (size start count : ℕ) → start < size → count ≤ size → wrapped_slot size (start + count) < size
start_within size start count s c = elim (turn size (start + count)) [
  | same_turn l is ↦ omega (arith, l, is)
  | next_turn l is ↦ omega (arith, l, is, s, c)
]

-- a place of both windows keeps its slot
slot_kept : (r s : Ring) (count : ℕ) → Advances r s count → (p : ℕ) → s.base ≤ p → p < r.base + capacity r → slot_of s (p - s.base) ≡ slot_of r (p - r.base)
slot_kept r s count a p h l =
    ap (λ (n : ℕ). wrapped_slot n (s.start + (p - s.base))) (ap (λ (m : Memory). memory_size m) a.memory)
    ∙ ap (λ (n : ℕ). wrapped_slot (capacity r) (n + (p - s.base))) a.start
    ∙ slot_after (capacity r) r.start count (p - s.base) a.ring.joinable.start (omega (arith, h, l, a.base))
    ∙ ap (λ (n : ℕ). slot_of r n) offset
  where
    offset : count + (p - s.base) ≡ p - r.base
    offset = omega (arith, h, a.base)

-- a new place has the slot of one that was left
slot_reused : (r s : Ring) (count : ℕ) → Advances r s count → (p : ℕ) → r.base + capacity r ≤ p → p < s.base + capacity s → slot_of s (p - s.base) ≡ slot_of r ((p - capacity r) - r.base)
slot_reused r s count a p h l =
    ap (λ (n : ℕ). wrapped_slot n (s.start + (p - s.base))) size
    ∙ ap (λ (n : ℕ). wrapped_slot (capacity r) (n + (p - s.base))) a.start
    ∙ ap (λ (n : ℕ). wrapped_slot (capacity r) (wrapped_slot (capacity r) (r.start + count) + n)) offset
    ∙ slot_around (capacity r) r.start count ((p - capacity r) - r.base) a.ring.joinable.start (omega (arith, h, l, a.base, size)) most
  where
    size : capacity s ≡ capacity r
    size = ap (λ (m : Memory). memory_size m) a.memory

    most : count ≤ capacity r
    most = omega (arith, a.held, a.ring.joinable.to)

    offset : p - s.base ≡ (capacity r - count) + ((p - capacity r) - r.base)
    offset = omega (arith, h, a.base, most)

mark_by : (r s : Ring) (count : ℕ) → Advances r s count → (p q : ℕ) → slot_of s (p - s.base) ≡ slot_of r (q - r.base) → ring_mark s p ≡ ring_mark r q
mark_by r s count a p q e = ap (λ (i : ℕ). slot_mark s.marks.words.items i) e ∙ ap (λ (w : List ℕ). slot_mark w (slot_of r (q - r.base))) a.words

byte_kept : (r s : Ring) (count : ℕ) → Advances r s count → (p : ℕ) → s.base ≤ p → p < r.base + capacity r → ring_byte s p ≡ ring_byte r p
byte_kept r s count a p h l = ap (λ (i : ℕ). memory_byte s.memory i) (slot_kept r s count a p h l) ∙ ap (λ (m : Memory). memory_byte m (slot_of r (p - r.base))) a.memory

new_unmarked : (r s : Ring) (count : ℕ) → Advances r s count → (p : ℕ) → r.base + capacity r ≤ p → p < s.base + capacity s → ring_mark s p ≡ 0
new_unmarked r s count a p h l =
    mark_by r s count a p (p - capacity r) (slot_reused r s count a p h l)
    ∙ a.ring.joinable.front (p - capacity r) (omega (arith, h)) (omega (arith, h, l, a.base, a.held, size))
  where
    size : capacity s ≡ capacity r
    size = ap (λ (m : Memory). memory_size m) a.memory

pub advances_held : (r s : Ring) (count : ℕ) → Advances r s count → (p : ℕ) → s.base ≤ p → held_byte s p ≡ held_byte r p
advances_held r s count a p h = elim (spot r p) [
  | is_below l ↦ absurd (omega (arith, l, h, a.base))
  | is_front b l ↦ held_front s p h (omega (arith, l, a.next)) ∙ ap (λ (b : ℕ). Some b) (byte_kept r s count a p h (omega (arith, l, a.ring.joinable.to))) ∙ sym (held_front r p b l)
  | is_marked b n l m ↦ held_marked s p h (omega (arith, l, a.base, size)) (mark_by r s count a p p (slot_kept r s count a p h l) ∙ m) ∙ ap (λ (b : ℕ). Some b) (byte_kept r s count a p h l) ∙ sym (held_marked r p b l m)
  | is_unmarked b n l m ↦ held_free s p (omega (arith, n, a.next)) (mark_by r s count a p p (slot_kept r s count a p h l) ∙ m) ∙ sym (held_free r p n m)
  | is_above b n l ↦ above n l ∙ sym (held_above r p n l)
]
  where
    size : capacity s ≡ capacity r
    size = ap (λ (m : Memory). memory_size m) a.memory

    above : r.next ≤ p → r.base + capacity r ≤ p → held_byte s p ≡ None
    above n l = either (nat_lt p (s.base + capacity s))
        (λ t. held_free s p (omega (arith, n, a.next)) (new_unmarked r s count a p l (ltb-true p (s.base + capacity s) t)))
        (λ f. held_above s p (omega (arith, n, a.next)) (ltb-false p (s.base + capacity s) f))

pub advances_ring : (r s : Ring) (count : ℕ) → Advances r s count → IsRing s
advances_ring r s count a = record {
  joinable = record {
    some = omega (arith, a.ring.joinable.some, size);
    most = omega (arith, a.ring.joinable.most, size);
    start = starts;
    from = omega (arith, a.held, a.base, a.next);
    to = omega (arith, a.ring.joinable.to, a.base, a.next, size);
    small = omega (arith, a.ring.joinable.small, a.next);
    end_small = omega (arith, a.ring.joinable.end_small, a.end);
    words = omega (arith, a.ring.joinable.words, a.room, size);
    front = λ p h l. front p h l;
    rest = λ p h l e. rest p h l e;
    written = λ p h. written p h;
  };
  here = λ l. here l;
}
  where
    size : capacity s ≡ capacity r
    size = ap (λ (m : Memory). memory_size m) a.memory

    starts : s.start < capacity s
    starts = omega (arith, size, a.start, start_within (capacity r) r.start count a.ring.joinable.start (omega (arith, a.held, a.ring.joinable.to)))

    front : (p : ℕ) → s.base ≤ p → p < s.next → ring_mark s p ≡ 0
    front p h l =
        let inside : p < r.base + capacity r = omega (arith, l, a.next, a.ring.joinable.to) in
        mark_by r s count a p p (slot_kept r s count a p h inside) ∙ a.ring.joinable.front p (omega (arith, h, a.base)) (omega (arith, l, a.next))

    rest : (p : ℕ) → s.base ≤ p → p < s.base + capacity s → s.end ≤ p → ring_mark s p ≡ 0
    rest p h l e = either (nat_lt p (r.base + capacity r))
        (λ t. mark_by r s count a p p (slot_kept r s count a p h (ltb-true p (r.base + capacity r) t)) ∙ a.ring.joinable.rest p (omega (arith, h, a.base)) (ltb-true p (r.base + capacity r) t) (omega (arith, e, a.end)))
        (λ f. new_unmarked r s count a p (ltb-false p (r.base + capacity r) f) l)

    here : s.next < s.base + capacity s → ring_mark s s.next ≡ 0
    here l = either (nat_lt r.next (r.base + capacity r))
        (λ t. mark_by r s count a s.next s.next (slot_kept r s count a s.next (omega (arith, a.held, a.base, a.next)) (omega (arith, ltb-true r.next (r.base + capacity r) t, a.next))) ∙ ap (λ (q : ℕ). ring_mark r q) a.next ∙ a.ring.here (ltb-true r.next (r.base + capacity r) t))
        (λ f. new_unmarked r s count a s.next (omega (arith, ltb-false r.next (r.base + capacity r) f, a.next)) l)

    written : (p : ℕ) → is_held s p ≡ true → IsWritten s.memory (slot_of s (p - s.base))
    written p h =
        let was : is_held r p ≡ true = held_alike r s p (advances_held r s count a p (held_from s p h)) h in
        subst (λ (m : Memory). IsWritten m (slot_of s (p - s.base))) (sym a.memory)
        (subst (λ (i : ℕ). IsWritten r.memory i) (sym (slot_kept r s count a p (held_from s p h) (held_to r p a.ring.joinable.to was))) (a.ring.joinable.written p was))
