-- The window moves on over places that it never held.
use Rattle.std.proofs.Common.{◌≡◌, ℕ, ◌+◌, ◌-◌, ◌<◌, ◌≤◌, ◌&&◌, ◌^◌, nat_le, true, false, Option, Some, None, List, ◌++◌, length, sym, ap, ◌∙◌, arith}
use Rattle.std.specs.Option.{is_some, option_or}
use Rattle.std.proofs.lemmas.Bool.{false≢true}
use Rattle.std.proofs.lemmas.Option.{slice_get_past}
use Rattle.nb_streams.specs.Streams.{byte_at}
use Rattle.nb_streams.proofs.StreamLaws.{either}
use Rattle.nb_reasm.specs.Slots.{slot_mark}
use Rattle.nb_reasm.specs.Rings.{capacity, slot_of, ring_mark, held_byte, IsRing}
use Rattle.nb_reasm.specs.Windows.{HeldWindow, is_inside, window_byte, window_pairs, HoldsPairs}
use Rattle.nb_reasm.specs.declared.ring.Ring.{Ring}
use Rattle.nb_reasm.proofs.SpotLemmas.{held_below, held_free, held_above, held_marked, held_nothing, spot, is_below, is_front, is_marked, is_unmarked, is_above}
use Rattle.nb_reasm.proofs.PutLemmas.{byte_if}
use Rattle.nb_reasm.proofs.WindowLemmas.{byte_at-append, pairs_byte}

-- the ring so many places on
abbrev pub passed : Ring → ℕ → Ring
passed r count = record r { base = r.next + count; next = r.next + count }

pub record IsEmpty (r : Ring) : Type 0 where
  pub ring : IsRing r
  pub front : r.base ≡ r.next
  pub none : (p : ℕ) → r.next ≤ p → held_byte r p ≡ None

some_none : (o : Option ℕ) (b : ℕ) → o ≡ Some b → o ≡ None → ⊥
some_none o b s n = false≢true (sym (ap (λ (x : Option ℕ). is_some x) n) ∙ ap (λ (x : Option ℕ). is_some x) s)

-- no slot of it is marked
unmarked : (r : Ring) → IsEmpty r → (p : ℕ) → r.base ≤ p → p < r.base + capacity r → ring_mark r p ≡ 0
unmarked r is p h l = elim (spot r p) [
  | is_below b ↦ absurd (omega (arith, b, h))
  | is_front b n ↦ absurd (omega (arith, b, n, is.front))
  | is_marked b n t m ↦ absurd (some_none (held_byte r p) _ (held_marked r p b t m) (is.none p n))
  | is_unmarked b n t m ↦ m
  | is_above b n t ↦ absurd (omega (arith, t, l))
]

-- the places so far on have the slots that those places had
mark_back : (r : Ring) (count p : ℕ) → ring_mark (passed r count) p ≡ ring_mark r (r.base + (p - (r.next + count)))
mark_back r count p = ap (λ (n : ℕ). slot_mark r.marks.words.items (slot_of r n)) (back r.base (p - (r.next + count)))
  where
    back : (a n : ℕ) → n ≡ (a + n) - a
    back a n = omega arith

pub passed_unmarked : (r : Ring) (count : ℕ) → IsEmpty r → (p : ℕ) → r.next + count ≤ p → p < r.next + count + capacity r → ring_mark (passed r count) p ≡ 0
passed_unmarked r count is p h l = mark_back r count p ∙ unmarked r is (r.base + (p - (r.next + count))) (omega arith) (omega (arith, h, l))

pub passed_none : (r : Ring) (count : ℕ) → IsEmpty r → (p : ℕ) → held_byte (passed r count) p ≡ None
passed_none r count is p = elim (spot (passed r count) p) [
  | is_below b ↦ held_below (passed r count) p b
  | is_front b n ↦ absurd (omega (arith, b, n))
  | is_marked b n t m ↦ absurd (apart (passed_unmarked r count is p b t) m)
  | is_unmarked b n t m ↦ held_free (passed r count) p n m
  | is_above b n t ↦ held_above (passed r count) p n t
]
  where
    apart : ring_mark (passed r count) p ≡ 0 → ring_mark (passed r count) p ≡ 1 → ⊥
    apart z o = omega (arith, z, o)

pub passed_ring : (r : Ring) (count : ℕ) → IsEmpty r → r.next + count < 2 ^ 31 → IsRing (passed r count)
passed_ring r count is small = record {
  joinable = record {
    some = is.ring.joinable.some;
    most = is.ring.joinable.most;
    start = is.ring.joinable.start;
    from = omega arith;
    to = omega arith;
    small = small;
    end_small = is.ring.joinable.end_small;
    words = is.ring.joinable.words;
    front = λ p h l. absurd (never p h l);
    rest = λ p h l e. passed_unmarked r count is p h l;
    written = λ p h. absurd (held_nothing (passed r count) p (passed_none r count is p) h);
  };
  here = λ l. passed_unmarked r count is (r.next + count) (omega arith) l;
}
  where
    never : (p : ℕ) → r.next + count ≤ p → p < r.next + count → ⊥
    never p h l = omega (arith, h, l)

-- bytes that end before a place have none for it
pub none_past : (w : HeldWindow) (pos : ℕ) (bytes : List ℕ) (p : ℕ) → pos + length bytes ≤ p → window_byte w pos bytes p ≡ None
none_past w pos bytes p h = either (is_inside w p && nat_le pos p)
    (λ t. byte_if w pos bytes p true t ∙ slice_get_past bytes (p - pos) (omega (arith, h)))
    (λ f. byte_if w pos bytes p false f)

pub pass_stands : (w v : HeldWindow) (bytes : List ℕ) → w.base ≡ w.next → ((p : ℕ) → w.next ≤ p → w.at p ≡ None) → v.base ≡ w.base + length bytes → ((p : ℕ) → v.at p ≡ None)
    → (pairs : List (ℕ × ℕ)) → HoldsPairs w pairs → HoldsPairs v (pairs ++ window_pairs w w.next bytes)
pass_stands w v bytes front none base nothing pairs holds p h =
    nothing p
    ∙ sym (none_past w w.next bytes p (omega (arith, h, front, base)))
    ∙ ap (λ (o : Option ℕ). option_or o (window_byte w w.next bytes p)) (sym (none p (omega (arith, h, front, base))) ∙ holds p (omega (arith, h, base)))
    ∙ ap (λ (o : Option ℕ). option_or (byte_at p pairs) o) (sym (pairs_byte w w.next bytes p))
    ∙ sym (byte_at-append p pairs (window_pairs w w.next bytes))
