-- Bytes are held at the places of a run that held none.
use Rattle.std.proofs.Common.{◌≡◌, ℕ, ◌+◌, ◌-◌, ◌^◌, ◌<◌, ◌≤◌, ◌⊎◌, inl, inr, max, nat_lt, true, Some, List, length, get_or, sym, ap, ◌∙◌, subst, arith}
use Rattle.std.proofs.lemmas.Bool.{ltb-true, ltb-false}
use Rattle.nb_streams.proofs.StreamLaws.{either}
use Rattle.nb_reasm.specs.Slots.{slot_mark}
use Rattle.nb_reasm.specs.Memories.{memory_byte, IsWritten}
use Rattle.nb_reasm.specs.Rings.{capacity, slot_of, ring_byte, ring_mark, is_held, held_byte, IsJoinable}
use Rattle.nb_reasm.specs.declared.ring.Ring.{Ring}
use Rattle.nb_reasm.proofs.SlotLemmas.{slots_same}
use Rattle.nb_reasm.proofs.SpotLemmas.{held_marked, held_kept, held_alike}
use Rattle.nb_reasm.proofs.RingLemmas.{Turns, turns_slot, turns_mark, turns_other, beside_slot, beside_other, place_at}

-- the bytes were written into the slots, and their marks set
pub record Fills (r s : Ring) (place slot : ℕ) (bytes : List ℕ) : Type 0 where
  pub turns : Turns r s place slot (length bytes)
  pub some : 0 < length bytes
  pub unmarked : (k : ℕ) → k < length bytes → slot_mark r.marks.words.items (slot + k) ≡ 0
  pub next : s.next ≡ r.next
  pub end : s.end ≡ max r.end (place + length bytes)
  pub small : place + length bytes < 2 ^ 31
  pub copied : (k : ℕ) → k < length bytes → memory_byte s.memory (slot + k) ≡ get_or bytes k 0
  pub others : (i : ℕ) → (i < slot) ⊎ (slot + length bytes ≤ i) → memory_byte s.memory i ≡ memory_byte r.memory i
  pub written : (k : ℕ) → k < length bytes → IsWritten s.memory (slot + k)
  pub still : (i : ℕ) → IsWritten r.memory i → IsWritten s.memory i

module _ (r s : Ring) (place slot : ℕ) (bytes : List ℕ) (f : Fills r s place slot bytes) where
  is : IsJoinable r
  is = f.turns.beside.joinable

  from : r.next ≤ place
  from = f.turns.beside.from

  now_marked : (k : ℕ) → k < length bytes → ring_mark s (place + k) ≡ 1
  now_marked k l = omega (arith, turns_mark r s place slot (length bytes) f.turns k l, f.unmarked k l)

  was_unmarked : (p : ℕ) → place ≤ p → p < place + length bytes → ring_mark r p ≡ 0
  was_unmarked p h l =
      ap (λ (q : ℕ). ring_mark r q) (sym (place_at place p h))
      ∙ ap (λ (i : ℕ). slot_mark r.marks.words.items i) (beside_slot r place slot (length bytes) f.turns.beside (p - place) (omega (arith, h, l)))
      ∙ f.unmarked (p - place) (omega (arith, h, l))

  pub fills_fresh : (k : ℕ) → k < length bytes → held_byte s (place + k) ≡ Some (get_or bytes k 0)
  fills_fresh k l =
      held_marked s (place + k) (omega (arith, from, is.from, f.turns.base)) (omega (arith, l, f.turns.beside.to, f.turns.base, f.turns.size)) (now_marked k l)
      ∙ ap (λ (b : ℕ). Some b) (ap (λ (i : ℕ). memory_byte s.memory i) (turns_slot r s place slot (length bytes) f.turns k l) ∙ f.copied k l)

  same_byte : (p : ℕ) → (p < place) ⊎ (place + length bytes ≤ p) → r.base ≤ p → p < r.base + capacity r → ring_byte s p ≡ ring_byte r p
  same_byte p outside h l =
      ap (λ (i : ℕ). memory_byte s.memory i) (slots_same r s f.turns.start f.turns.base f.turns.size p)
      ∙ f.others (slot_of r (p - r.base)) (beside_other r place slot (length bytes) f.turns.beside p h l outside)

  pub fills_kept : (p : ℕ) → (p < place) ⊎ (place + length bytes ≤ p) → held_byte s p ≡ held_byte r p
  fills_kept p outside =
      held_kept r s f.turns.base f.turns.size is.from (omega (arith, f.next)) (omega (arith, f.next, is.to)) p
      (λ h l. same_byte p outside h l)
      (λ n l. turns_other r s place slot (length bytes) f.turns p (omega (arith, n, f.next, is.from)) l outside)
      (λ n l. absurd (omega (arith, n, l, f.next)))

  joinable_front : (p : ℕ) → r.base ≤ p → p < r.next → ring_mark s p ≡ 0
  joinable_front p h l = turns_other r s place slot (length bytes) f.turns p h (omega (arith, l, is.to)) (inl (omega (arith, l, from))) ∙ is.front p h l

  joinable_rest : (p : ℕ) → r.base ≤ p → p < r.base + capacity r → max r.end (place + length bytes) ≤ p → ring_mark s p ≡ 0
  joinable_rest p h l e = turns_other r s place slot (length bytes) f.turns p h l (inr (omega (arith, e))) ∙ is.rest p h l (omega (arith, e))

  written_before : (p : ℕ) → (p < place) ⊎ (place + length bytes ≤ p) → is_held s p ≡ true → IsWritten s.memory (slot_of s (p - s.base))
  written_before p outside h =
      subst (λ (i : ℕ). IsWritten s.memory i) (sym (slots_same r s f.turns.start f.turns.base f.turns.size p))
      (f.still (slot_of r (p - r.base)) (is.written p (held_alike r s p (fills_kept p outside) h)))

  written_now : (p : ℕ) → place ≤ p → p < place + length bytes → IsWritten s.memory (slot_of s (p - s.base))
  written_now p h l =
      subst (λ (q : ℕ). IsWritten s.memory (slot_of s (q - s.base))) (place_at place p h)
      (subst (λ (i : ℕ). IsWritten s.memory i) (sym (turns_slot r s place slot (length bytes) f.turns (p - place) (omega (arith, h, l)))) (f.written (p - place) (omega (arith, h, l))))

  all_written : (p : ℕ) → is_held s p ≡ true → IsWritten s.memory (slot_of s (p - s.base))
  all_written p h = either (nat_lt p place)
      (λ t. written_before p (inl (ltb-true p place t)) h)
      (λ g. either (nat_lt p (place + length bytes))
      (λ t. written_now p (ltb-false p place g) (ltb-true p (place + length bytes) t))
      (λ a. written_before p (inr (ltb-false p (place + length bytes) a)) h))

  pub fills_joinable : IsJoinable s
  fills_joinable = record {
    some = omega (arith, is.some, f.turns.size);
    most = omega (arith, is.most, f.turns.size);
    start = omega (arith, is.start, f.turns.size, f.turns.start);
    from = omega (arith, is.from, f.turns.base, f.next);
    to = omega (arith, is.to, f.turns.base, f.next, f.turns.size);
    small = omega (arith, is.small, f.next);
    end_small = omega (arith, is.end_small, f.end, f.small);
    words = omega (arith, is.words, f.turns.size, f.turns.words);
    front = λ p h l. joinable_front p (omega (arith, h, f.turns.base)) (omega (arith, l, f.next));
    rest = λ p h l e. joinable_rest p (omega (arith, h, f.turns.base)) (omega (arith, l, f.turns.base, f.turns.size)) (omega (arith, e, f.end));
    written = all_written;
  }
