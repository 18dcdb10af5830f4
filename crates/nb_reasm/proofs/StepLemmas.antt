-- A run of places is held already, or filled; what is held and counted grows by it.
use Rattle.std.proofs.Common.{◌≡◌, ℕ, ◌+◌, ◌-◌, ◌<◌, ◌≤◌, ◌⊎◌, inl, inr, ◌&&◌, not, nat_lt, nat_le, Bool, true, false, Option, Some, None, List, length, take, drop, get_or, refl, sym, ap, ◌∙◌, arith}
use Rattle.std.specs.Option.{option_or, is_none}
use Rattle.std.proofs.lemmas.Bool.{ltb-true, ltb-false, false≢true}
use Rattle.std.proofs.lemmas.List.{get_or-take, get_or-drop, length-take, length-drop}
use Rattle.nb_streams.proofs.StreamLaws.{either}
use Rattle.nb_reasm.specs.Slots.{slot_mark, mark_of}
use Rattle.nb_reasm.specs.Rings.{capacity, ring_byte, ring_mark, held_byte, IsJoinable, IsRunAt, SameWindow}
use Rattle.nb_reasm.specs.Windows.{window_of, is_inside, is_new, places_count}
use Rattle.nb_reasm.specs.declared.ring.Ring.{Ring}
use Rattle.nb_reasm.specs.declared.ring.Run.{Run}
use Rattle.nb_reasm.proofs.SpotLemmas.{held_marked, held_free}
use Rattle.nb_reasm.proofs.RingLemmas.{Beside, beside_slot, place_at}
use Rattle.nb_reasm.proofs.CountLemmas.{count_split, count_same, count_all, count_none}
use Rattle.nb_reasm.proofs.PutLemmas.{old_by, new_by}

pub not_marked : (b : Bool) → not b ≡ true → b ≡ false
not_marked true e = absurd (false≢true e)
not_marked false e = refl

pub is_marked : (b : Bool) → not b ≡ false → b ≡ true
is_marked true e = refl
is_marked false e = absurd (false≢true (sym e))

-- a run from a place past the first ones on
pub record RunOf (r : Ring) (at to : ℕ) (run : Run) : Type 0 where
  pub joinable : IsJoinable r
  pub from : r.next ≤ at
  pub high : to ≤ r.base + capacity r
  pub is_run : IsRunAt r at to run

module _ (r : Ring) (at to : ℕ) (run : Run) (is : RunOf r at to run) where
  pub run_beside : Beside r at run.slot run.len
  run_beside = record {
    joinable = is.joinable;
    from = is.from;
    to = omega (arith, is.is_run.within, is.high);
    first = is.is_run.slot;
    piece = is.is_run.piece;
  }

  pub run_mark : (p : ℕ) → at ≤ p → p < at + run.len → ring_mark r p ≡ mark_of run.marked
  run_mark p h l =
      ap (λ (q : ℕ). ring_mark r q) (sym (place_at at p h))
      ∙ ap (λ (i : ℕ). slot_mark r.marks.words.items i) (beside_slot r at run.slot run.len run_beside (p - at) (omega (arith, h, l)))
      ∙ is.is_run.alike (p - at) (omega (arith, h, l))

  low : (p : ℕ) → at ≤ p → r.base ≤ p
  low p h = omega (arith, h, is.from, is.joinable.from)

  high : (p : ℕ) → p < at + run.len → p < r.base + capacity r
  high p l = omega (arith, l, is.is_run.within, is.high)

  pub run_held : run.marked ≡ true → (p : ℕ) → at ≤ p → p < at + run.len → held_byte r p ≡ Some (ring_byte r p)
  run_held marked p h l = held_marked r p (low p h) (high p l) (run_mark p h l ∙ ap (λ (b : Bool). mark_of b) marked)

  pub run_free : run.marked ≡ false → (p : ℕ) → at ≤ p → p < at + run.len → held_byte r p ≡ None
  run_free unmarked p h l = held_free r p (omega (arith, h, is.from)) (run_mark p h l ∙ ap (λ (b : Bool). mark_of b) unmarked)

  -- a run that is held stays as it is, and no place of it counts
  pub run_kept : run.marked ≡ true → (p : ℕ) → at ≤ p → p < at + run.len → (b : ℕ) → held_byte r p ≡ option_or (held_byte r p) (Some b)
  run_kept marked p h l b = run_held marked p h l ∙ sym (ap (λ (o : Option ℕ). option_or o (Some b)) (run_held marked p h l))

  pub none_new : run.marked ≡ true → places_count (is_new (window_of r)) at run.len ≡ 0
  none_new marked = count_none (is_new (window_of r)) at run.len (λ k l. old_by r (at + k) (ring_byte r (at + k)) (run_held marked (at + k) (omega arith) (omega (arith, l))))

  -- each place of one that isn't counts
  pub all_new : run.marked ≡ false → places_count (is_new (window_of r)) at run.len ≡ run.len
  all_new unmarked = count_all (is_new (window_of r)) at run.len (λ k l. new_by r (at + k) (low (at + k) (omega arith)) (high (at + k) (omega (arith, l))) (run_free unmarked (at + k) (omega arith) (omega (arith, l))))

-- the bytes of a run, cut out of those of a put
pub cut_byte : (bytes : List ℕ) (n start k : ℕ) → k < n → get_or (take n (drop start bytes)) k 0 ≡ get_or bytes (start + k) 0
cut_byte bytes n start k l = get_or-take n (drop start bytes) k 0 l ∙ get_or-drop start bytes k 0

pub cut_length : (bytes : List ℕ) (n start : ℕ) → start + n ≤ length bytes → length (take n (drop start bytes)) ≡ n
cut_length bytes n start few = omega (arith, few, length-take n (drop start bytes), length-drop start bytes)

-- they are held at its places
pub run_filled : (r s : Ring) (at to : ℕ) (run : Run) → RunOf r at to run → run.marked ≡ false → (pos n start : ℕ) (bytes : List ℕ) → pos ≤ at → n ≡ run.len → start ≡ at - pos → start + n ≤ length bytes
    → ((k : ℕ) → k < length (take n (drop start bytes)) → held_byte s (at + k) ≡ Some (get_or (take n (drop start bytes)) k 0))
    → (p : ℕ) → at ≤ p → p < at + run.len → held_byte s p ≡ option_or (held_byte r p) (Some (get_or bytes (p - pos) 0))
run_filled r s at to run is unmarked pos n start bytes first n_is start_is few fresh p h l =
    ap (λ (q : ℕ). held_byte s q) (sym (place_at at p h))
    ∙ fresh (p - at) (omega (arith, h, l, n_is, cut_length bytes n start few))
    ∙ ap (λ (b : ℕ). Some b) (cut_byte bytes n start (p - at) (omega (arith, h, l, n_is)) ∙ ap (λ (k : ℕ). get_or bytes k 0) offset)
    ∙ sym (ap (λ (o : Option ℕ). option_or o (Some (get_or bytes (p - pos) 0))) (run_free r at to run is unmarked p h l))
  where
    offset : start + (p - at) ≡ p - pos
    offset = omega (arith, h, start_is, first)

pub run_outside : (r s : Ring) (at len n start : ℕ) (bytes : List ℕ) → n ≡ len → start + n ≤ length bytes
    → ((p : ℕ) → (p < at) ⊎ (at + length (take n (drop start bytes)) ≤ p) → held_byte s p ≡ held_byte r p)
    → (p : ℕ) → (p < at) ⊎ (at + len ≤ p) → held_byte s p ≡ held_byte r p
run_outside r s at len n start bytes n_is few kept p (inl l) = kept p (inl l)
run_outside r s at len n start bytes n_is few kept p (inr h) = kept p (inr (omega (arith, h, n_is, cut_length bytes n start few)))

-- what a loop over runs has held and counted, and then one more
pub grown_inside : (r m s : Ring) (from at len : ℕ) (byte : ℕ → ℕ) → ((p : ℕ) → from ≤ p → p < at → held_byte m p ≡ option_or (held_byte r p) (Some (byte p))) → ((p : ℕ) → (p < from) ⊎ (at ≤ p) → held_byte m p ≡ held_byte r p)
    → ((p : ℕ) → at ≤ p → p < at + len → held_byte s p ≡ option_or (held_byte m p) (Some (byte p))) → ((p : ℕ) → (p < at) ⊎ (at + len ≤ p) → held_byte s p ≡ held_byte m p)
    → (p : ℕ) → from ≤ p → p < at + len → held_byte s p ≡ option_or (held_byte r p) (Some (byte p))
grown_inside r m s from at len byte before outside now kept p h l = either (nat_lt p at)
    (λ t. kept p (inl (ltb-true p at t)) ∙ before p h (ltb-true p at t))
    (λ f. now p (ltb-false p at f) l ∙ ap (λ (o : Option ℕ). option_or o (Some (byte p))) (outside p (inr (ltb-false p at f))))

pub grown_outside : (r m s : Ring) (from at len : ℕ) → from ≤ at → ((p : ℕ) → (p < from) ⊎ (at ≤ p) → held_byte m p ≡ held_byte r p) → ((p : ℕ) → (p < at) ⊎ (at + len ≤ p) → held_byte s p ≡ held_byte m p)
    → (p : ℕ) → (p < from) ⊎ (at + len ≤ p) → held_byte s p ≡ held_byte r p
grown_outside r m s from at len order outside kept p (inl l) = kept p (inl (omega (arith, l, order))) ∙ outside p (inl l)
grown_outside r m s from at len order outside kept p (inr h) = kept p (inr h) ∙ outside p (inr (omega (arith, h)))

new_same : (r m : Ring) (p : ℕ) → SameWindow r m → held_byte m p ≡ held_byte r p → is_new (window_of m) p ≡ is_new (window_of r) p
new_same r m p same held =
    ap (λ (b : ℕ). (nat_le b p && nat_lt p (b + capacity m)) && is_none (held_byte m p)) same.0
    ∙ ap (λ (n : ℕ). (nat_le r.base p && nat_lt p (r.base + n)) && is_none (held_byte m p)) same.1
    ∙ ap (λ (o : Option ℕ). is_inside (window_of r) p && is_none o) held

pub grown_count : (r m : Ring) (from at len count more : ℕ) → SameWindow r m → from ≤ at → ((p : ℕ) → (p < from) ⊎ (at ≤ p) → held_byte m p ≡ held_byte r p)
    → count ≡ places_count (is_new (window_of r)) from (at - from) → more ≡ places_count (is_new (window_of m)) at len
    → count + more ≡ places_count (is_new (window_of r)) from ((at + len) - from)
grown_count r m from at len count more same order outside count_is more_is =
    let later : places_count (is_new (window_of m)) at len ≡ places_count (is_new (window_of r)) at len = count_same (is_new (window_of m)) (is_new (window_of r)) at len (λ k l. new_same r m (at + k) same (outside (at + k) (inr (omega arith)))) in
    let split : places_count (is_new (window_of r)) from ((at - from) + len) ≡ places_count (is_new (window_of r)) from (at - from) + places_count (is_new (window_of r)) (from + (at - from)) len = count_split (is_new (window_of r)) from (at - from) len in
    let place : places_count (is_new (window_of r)) (from + (at - from)) len ≡ places_count (is_new (window_of r)) at len = ap (λ (q : ℕ). places_count (is_new (window_of r)) q len) (place_at from at order) in
    let whole : places_count (is_new (window_of r)) from ((at - from) + len) ≡ places_count (is_new (window_of r)) from ((at + len) - from) = ap (λ (n : ℕ). places_count (is_new (window_of r)) from n) total in
    omega (arith, count_is, more_is, later, split, place, whole)
  where
    total : (at - from) + len ≡ (at + len) - from
    total = omega (arith, order)
