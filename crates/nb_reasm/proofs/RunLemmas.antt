-- A run is put at the end of what is held, or read from the start.
use Rattle.std.proofs.Common.{◌≡◌, ℕ, ◌+◌, ◌-◌, ◌^◌, ◌<◌, ◌≤◌, nat_lt, true, Some, None, List, length, take, get_or, sym, ap, ◌∙◌, subst, arith}
use Rattle.std.proofs.lemmas.Bool.{ltb-true, ltb-false}
use Rattle.std.proofs.lemmas.List.{get_or-take, length-take}
use Rattle.nb_streams.proofs.StreamLaws.{either}
use Rattle.nb_reasm.specs.Slots.{slot_mark, wrapped_slot}
use Rattle.nb_reasm.specs.Memories.{memory_byte, IsWritten}
use Rattle.nb_reasm.specs.Rings.{capacity, slot_of, ring_byte, ring_mark, is_held, held_byte, IsJoinable, IsRing}
use Rattle.nb_reasm.specs.declared.marks.Marks.{Marks}
use Rattle.nb_reasm.specs.declared.ring.Ring.{Ring}
use Rattle.nb_reasm.proofs.SlotLemmas.{slot_after, slot_around, slots_same}
use Rattle.nb_reasm.proofs.SpotLemmas.{held_below, held_front, held_free, held_above, held_alike, held_in_front, held_nothing}

-- where no later place is marked, none is held
pub free_after : (r : Ring) (p : ℕ) → IsJoinable r → r.end ≤ r.next → r.next ≤ p → held_byte r p ≡ None
free_after r p is none n = either (nat_lt p (r.base + capacity r))
    (λ t. held_free r p n (is.rest p (omega (arith, n, is.from)) (ltb-true p (r.base + capacity r) t) (omega (arith, n, none))))
    (λ f. held_above r p n (ltb-false p (r.base + capacity r) f))

-- the slot so far on from that of the next place, round the end
abbrev slot_on : Ring → ℕ → ℕ
slot_on r k = wrapped_slot (capacity r) (slot_of r (r.next - r.base) + k)

-- n bytes are put from the next place on
pub record Appends (r s : Ring) (bytes : List ℕ) (n : ℕ) : Type 0 where
  pub joinable : IsJoinable r
  pub none : r.end ≤ r.next
  pub room : r.next < r.base + capacity r
  pub fits : r.next + n ≤ r.base + capacity r
  pub small : r.next + n < 2 ^ 31
  pub size : capacity s ≡ capacity r
  pub start : s.start ≡ r.start
  pub base : s.base ≡ r.base
  pub next : s.next ≡ r.next + n
  pub end : s.end ≡ r.end
  pub marks : s.marks ≡ r.marks
  pub copied : (k : ℕ) → k < n → memory_byte s.memory (slot_on r k) ≡ get_or bytes k 0
  pub others : (k : ℕ) → n ≤ k → k < capacity r → memory_byte s.memory (slot_on r k) ≡ memory_byte r.memory (slot_on r k)
  pub written : (k : ℕ) → k < n → IsWritten s.memory (slot_on r k)
  pub still : (i : ℕ) → IsWritten r.memory i → IsWritten s.memory i

module _ (r s : Ring) (bytes : List ℕ) (n : ℕ) (a : Appends r s bytes n) where
  slots : (p : ℕ) → slot_of s (p - s.base) ≡ slot_of r (p - r.base)
  slots p = slots_same r s a.start a.base a.size p

  next_slot : (k : ℕ) → k < n → slot_of s ((r.next + k) - s.base) ≡ slot_on r k
  next_slot k l =
      slots (r.next + k)
      ∙ ap (λ (i : ℕ). slot_of r i) offset
      ∙ sym (slot_after (capacity r) r.start (r.next - r.base) k a.joinable.start (omega (arith, l, a.fits, a.joinable.from)))
    where
      offset : (r.next + k) - r.base ≡ (r.next - r.base) + k
      offset = omega (arith, a.joinable.from)

  same_mark : (p : ℕ) → ring_mark s p ≡ ring_mark r p
  same_mark p = ap (λ (i : ℕ). slot_mark s.marks.words.items i) (slots p) ∙ ap (λ (m : Marks). slot_mark m.words.items (slot_of r (p - r.base))) a.marks

  pub appends_fresh : (k : ℕ) → k < n → held_byte s (r.next + k) ≡ Some (get_or bytes k 0)
  appends_fresh k l =
      held_front s (r.next + k) (omega (arith, a.joinable.from, a.base)) (omega (arith, l, a.next))
      ∙ ap (λ (b : ℕ). Some b) (ap (λ (i : ℕ). memory_byte s.memory i) (next_slot k l) ∙ a.copied k l)

  around : (p : ℕ) → r.base ≤ p → p < r.next → slot_on r ((capacity r - (r.next - r.base)) + (p - r.base)) ≡ slot_of r (p - r.base)
  around p h l = slot_around (capacity r) r.start (r.next - r.base) (p - r.base) a.joinable.start (omega (arith, h, l)) (omega (arith, a.joinable.to, a.joinable.from))

  same_byte : (p : ℕ) → r.base ≤ p → p < r.next → ring_byte s p ≡ ring_byte r p
  same_byte p h l =
      ap (λ (i : ℕ). memory_byte s.memory i) (slots p ∙ sym (around p h l))
      ∙ a.others ((capacity r - (r.next - r.base)) + (p - r.base)) (omega (arith, a.fits, a.joinable.from, h)) (omega (arith, h, l, a.joinable.to, a.joinable.from))
      ∙ ap (λ (i : ℕ). memory_byte r.memory i) (around p h l)

  pub appends_kept : (p : ℕ) → p < r.next → held_byte s p ≡ held_byte r p
  appends_kept p l = either (nat_lt p r.base)
      (λ t. held_below s p (omega (arith, ltb-true p r.base t, a.base)) ∙ sym (held_below r p (ltb-true p r.base t)))
      (λ f. front (ltb-false p r.base f))
    where
      front : r.base ≤ p → held_byte s p ≡ held_byte r p
      front h =
          held_front s p (omega (arith, h, a.base)) (omega (arith, l, a.next))
          ∙ ap (λ (b : ℕ). Some b) (same_byte p h l)
          ∙ sym (held_front r p h l)

  none_marked : (p : ℕ) → r.next ≤ p → p < r.base + capacity r → ring_mark s p ≡ 0
  none_marked p h l = same_mark p ∙ a.joinable.rest p (omega (arith, h, a.joinable.from)) l (omega (arith, h, a.none))

  pub appends_free : (p : ℕ) → r.next + n ≤ p → held_byte s p ≡ None
  appends_free p h = either (nat_lt p (r.base + capacity r))
      (λ t. held_free s p (omega (arith, h, a.next)) (none_marked p (omega (arith, h)) (ltb-true p (r.base + capacity r) t)))
      (λ f. held_above s p (omega (arith, h, a.next)) (omega (arith, ltb-false p (r.base + capacity r) f, a.base, a.size)))

  place_on : (p : ℕ) → r.next ≤ p → r.next + (p - r.next) ≡ p
  place_on p h = omega (arith, h)

  now_written : (p : ℕ) → r.next ≤ p → p < r.next + n → IsWritten s.memory (slot_of s (p - s.base))
  now_written p h l =
      subst (λ (q : ℕ). IsWritten s.memory (slot_of s (q - s.base))) (place_on p h)
      (subst (λ (i : ℕ). IsWritten s.memory i) (sym (next_slot (p - r.next) (omega (arith, h, l)))) (a.written (p - r.next) (omega (arith, h, l))))

  all_written : (p : ℕ) → is_held s p ≡ true → IsWritten s.memory (slot_of s (p - s.base))
  all_written p h = either (nat_lt p r.next)
      (λ t. subst (λ (i : ℕ). IsWritten s.memory i) (sym (slots p)) (a.still (slot_of r (p - r.base)) (a.joinable.written p (held_alike r s p (appends_kept p (ltb-true p r.next t)) h))))
      (λ f. either (nat_lt p (r.next + n))
      (λ t. now_written p (ltb-false p r.next f) (ltb-true p (r.next + n) t))
      (λ g. absurd (held_nothing s p (appends_free p (ltb-false p (r.next + n) g)) h)))

  front_marks : (p : ℕ) → r.base ≤ p → p < r.next + n → ring_mark s p ≡ 0
  front_marks p h l = either (nat_lt p r.next)
      (λ t. same_mark p ∙ a.joinable.front p h (ltb-true p r.next t))
      (λ f. none_marked p (ltb-false p r.next f) (omega (arith, l, a.fits)))

  pub appends_ring : IsRing s
  appends_ring = record {
    joinable = record {
      some = omega (arith, a.joinable.some, a.size);
      most = omega (arith, a.joinable.most, a.size);
      start = omega (arith, a.joinable.start, a.size, a.start);
      from = omega (arith, a.joinable.from, a.base, a.next);
      to = omega (arith, a.fits, a.base, a.next, a.size);
      small = omega (arith, a.small, a.next);
      end_small = omega (arith, a.joinable.end_small, a.end);
      words = omega (arith, a.joinable.words, a.size, ap (λ (m : Marks). m.words.len) a.marks);
      front = λ p h l. front_marks p (omega (arith, h, a.base)) (omega (arith, l, a.next));
      rest = λ p h l e. same_mark p ∙ a.joinable.rest p (omega (arith, h, a.base)) (omega (arith, l, a.base, a.size)) (omega (arith, e, a.end));
      written = all_written;
    };
    here = λ l. none_marked s.next (omega (arith, a.next)) (omega (arith, l, a.base, a.size));
  }

-- what the copy of a run into the slots made
pub appends_of : (r s : Ring) (bytes : List ℕ) (n slot : ℕ) → IsJoinable r → r.end ≤ r.next → r.next < r.base + capacity r → r.next + n ≤ r.base + capacity r → n ≤ length bytes → r.next + n < 2 ^ 31
    → slot ≡ slot_of r (r.next - r.base) → capacity s ≡ capacity r → s.start ≡ r.start → s.base ≡ r.base → s.next ≡ r.next + n → s.end ≡ r.end → s.marks ≡ r.marks
    → ((k : ℕ) → k < length (take n bytes) → memory_byte s.memory (wrapped_slot (capacity r) (slot + k)) ≡ get_or (take n bytes) k 0)
    → ((k : ℕ) → length (take n bytes) ≤ k → k < capacity r → memory_byte s.memory (wrapped_slot (capacity r) (slot + k)) ≡ memory_byte r.memory (wrapped_slot (capacity r) (slot + k)))
    → ((k : ℕ) → k < length (take n bytes) → IsWritten s.memory (wrapped_slot (capacity r) (slot + k)))
    → ((i : ℕ) → IsWritten r.memory i → IsWritten s.memory i)
    → Appends r s bytes n
appends_of r s bytes n slot is none room fits enough small slot_is size start base next end marks copied others written still = record {
  joinable = is;
  none = none;
  room = room;
  fits = fits;
  small = small;
  size = size;
  start = start;
  base = base;
  next = next;
  end = end;
  marks = marks;
  copied = λ k l. ap (λ (i : ℕ). memory_byte s.memory i) (at k) ∙ copied k (omega (arith, l, long)) ∙ get_or-take n bytes k 0 l;
  others = λ k h l. ap (λ (i : ℕ). memory_byte s.memory i) (at k) ∙ others k (omega (arith, h, long)) l ∙ ap (λ (i : ℕ). memory_byte r.memory i) (sym (at k));
  written = λ k l. subst (λ (i : ℕ). IsWritten s.memory i) (sym (at k)) (written k (omega (arith, l, long)));
  still = still;
}
  where
    long : length (take n bytes) ≡ n
    long = omega (arith, enough, length-take n bytes)

    at : (k : ℕ) → slot_on r k ≡ wrapped_slot (capacity r) (slot + k)
    at k = ap (λ (m : ℕ). wrapped_slot (capacity r) (m + k)) (sym slot_is)

-- the run that is held, from the start
pub front_byte : (r : Ring) (k b : ℕ) → IsJoinable r → r.base + k < r.next → b ≡ memory_byte r.memory (wrapped_slot (capacity r) (r.start + k)) → held_byte r (r.base + k) ≡ Some b
front_byte r k b is l e =
    held_front r (r.base + k) (omega arith) l
    ∙ ap (λ (b : ℕ). Some b) (ap (λ (o : ℕ). memory_byte r.memory (slot_of r o)) offset ∙ sym e)
  where
    offset : (r.base + k) - r.base ≡ k
    offset = omega arith

pub front_written : (r : Ring) → IsJoinable r → (k : ℕ) → k < r.next - r.base → IsWritten r.memory (wrapped_slot (capacity r) (r.start + k))
front_written r is k l = subst (λ (o : ℕ). IsWritten r.memory (slot_of r o)) offset (is.written (r.base + k) (held_in_front r (r.base + k) (omega arith) (omega (arith, l))))
  where
    offset : (r.base + k) - r.base ≡ k
    offset = omega arith
