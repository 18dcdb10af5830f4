-- Runs of bits in words: those that are alike, and those that are turned.
use Rattle.std.proofs.Common.{◌≡◌, ℕ, ◌+◌, ◌-◌, ◌*◌, ◌/◌, ◌%◌, ◌^◌, ◌<◌, ◌≤◌, ◌⊎◌, inl, inr, ◌==◌, nat_lt, nat_eq, eq-eqb, zero, suc, [], ◌∷◌, List, length, get_or, set, replicate, Bool, true, false, cond, w64, refl, sym, ap, ◌∙◌, arith}
use Rattle.std.specs.Int.{bit_at, trailing_zeros}
use Rattle.std.specs.Int.RustNames.{bit_xor}
use Rattle.std.proofs.Math.Nat.{div-div-eq-div-mul, div-le_self, mod-eq_of_lt, suc-mul, pow-le-pow_right}
use Rattle.std.proofs.lemmas.Nat.{pow-add, pow_pos}
use Rattle.std.proofs.lemmas.Bool.{eqb-true, ltb-true, ltb-false}
use Rattle.std.proofs.lemmas.Bool.Decides.{nat_tests}
use Rattle.std.proofs.lemmas.List.{get_or-set_same, get_or-set_other}
use Rattle.std.proofs.lemmas.Nat.Bits.{bit_at_xor, bit_at_ones, bit_at_ones_above, bit_at_cat_low, bit_at_cat_high, bit_at-zero, bit_at-lt, bit_at-trailing_zeros, ones_shr}
use Rattle.nb_streams.proofs.StreamLaws.{either}
use Rattle.nb_reasm.specs.Slots.{slot_mark, mark_of}

-- past no end the value for a missing element doesn't matter
pub get_or_any : (xs : List ℕ) (i d e : ℕ) → i < length xs → get_or xs i d ≡ get_or xs i e
get_or_any [] i d e below = absurd (omega (arith, below))
get_or_any (x ∷ xs) zero d e below = refl
get_or_any (x ∷ xs) (suc i) d e below = get_or_any xs i d e (omega (arith, below))

pub mark_bit : (words : List ℕ) (i : ℕ) → slot_mark words i < 2
unfolding slot_mark
mark_bit words i = bit_at-lt (get_or words (i / 64) 0) (i % 64)

pub bit_tested : (m : ℕ) → m < 2 → m ≡ mark_of (m == 1)
bit_tested m l = grind (arith, nat_tests)

-- a word that is shifted
pub bit_shifted : (n a k : ℕ) → bit_at (n / 2 ^ a) k ≡ bit_at n (a + k)
bit_shifted n a k = ap (λ (m : ℕ). m % 2) (div-div-eq-div-mul n (2 ^ a) (2 ^ k) ∙ ap (λ (m : ℕ). n / m) (sym (pow-add 2 a k)))

pub zeros_first : (n i : ℕ) → n < 2 ^ 64 → i < trailing_zeros w64 n → bit_at n i ≡ 0
zeros_first n i fits l = either (nat_lt 0 n)
    (λ t. let h = bit_at-trailing_zeros w64 n (ltb-true 0 n t) fits in h.2 i l)
    (λ f. ap (λ (m : ℕ). bit_at m i) (none (ltb-false 0 n f)) ∙ bit_at-zero i)
  where
    none : n ≤ 0 → n ≡ 0
    none h = omega (arith, h)

-- so many ones from a bit on
abbrev mask : ℕ → ℕ → ℕ
mask off len = (2 ^ 64 - 1) / 2 ^ (64 - len) * 2 ^ off % 2 ^ 64

mask_is : (off len : ℕ) → off + len ≤ 64 → mask off len ≡ (2 ^ len - 1) * 2 ^ off + 0
mask_is off len word =
    let back : 64 - (64 - len) ≡ len = omega (arith, word) in
    let two : 0 < 2 = omega arith in
    let less : len + off ≤ 64 = omega (arith, word) in
    let most : 2 ^ (len + off) ≤ 2 ^ 64 = pow-le-pow_right two less in
    let ones : (2 ^ 64 - 1) / 2 ^ (64 - len) ≡ 2 ^ len - 1 = ones_shr 64 (64 - len) (omega arith) ∙ ap (λ (k : ℕ). 2 ^ k - 1) back in
    ap (λ (m : ℕ). m * 2 ^ off % 2 ^ 64) ones ∙ small (2 ^ len) (2 ^ off) (sym (pow-add 2 len off)) (pow_pos len) (pow_pos off) most
  where
    none : (m : ℕ) → m ≡ m + 0
    none m = omega arith

    small : (a b : ℕ) → a * b ≡ 2 ^ (len + off) → 0 < a → 0 < b → 2 ^ (len + off) ≤ 2 ^ 64 → (a - 1) * b % 2 ^ 64 ≡ (a - 1) * b + 0
    small a b e p q le =
        let one_less : a ≡ suc (a - 1) = omega (arith, p) in
        let rows : a * b ≡ (a - 1) * b + b = ap (λ (m : ℕ). m * b) one_less ∙ suc-mul (a - 1) b in
        let fits : (a - 1) * b < 2 ^ 64 = omega (arith, rows, e, q, le) in
        mod-eq_of_lt fits ∙ none ((a - 1) * b)

mask_inside : (off len i : ℕ) → off + len ≤ 64 → off ≤ i → i < off + len → bit_at (mask off len) i ≡ 1
mask_inside off len i word h l = ap (λ (m : ℕ). bit_at m i) (mask_is off len word) ∙ bit_at_cat_high (2 ^ len - 1) off 0 i (pow_pos off) h ∙ bit_at_ones len (i - off) (omega (arith, h, l))

mask_below : (off len i : ℕ) → off + len ≤ 64 → i < off → bit_at (mask off len) i ≡ 0
mask_below off len i word l = ap (λ (m : ℕ). bit_at m i) (mask_is off len word) ∙ bit_at_cat_low (2 ^ len - 1) off 0 i l ∙ bit_at-zero i

mask_above : (off len i : ℕ) → off + len ≤ 64 → off + len ≤ i → bit_at (mask off len) i ≡ 0
mask_above off len i word h = ap (λ (m : ℕ). bit_at m i) (mask_is off len word) ∙ bit_at_cat_high (2 ^ len - 1) off 0 i (pow_pos off) (omega (arith, h)) ∙ bit_at_ones_above len (i - off) (omega (arith, h))

bit_turned : (w m i : ℕ) → bit_at m i ≡ 1 → bit_at (bit_xor w m) i + bit_at w i ≡ 1
bit_turned w m i one = omega (arith, bit_at_xor w m i, bit_at-lt w i, one)

bit_kept : (w m i : ℕ) → bit_at m i ≡ 0 → bit_at (bit_xor w m) i ≡ bit_at w i
bit_kept w m i none = omega (arith, bit_at_xor w m i, bit_at-lt w i, none)

-- the words with a mask turned in one of them
abbrev turned_words : List ℕ → ℕ → ℕ → ℕ → List ℕ
turned_words words s w len = set words (s / 64) (bit_xor w (mask (s % 64) len))

read_is : (words : List ℕ) (s w : ℕ) → s < 64 * length words → w ≡ get_or words (s / 64) w → w ≡ get_or words (s / 64) 0
read_is words s w room is = is ∙ get_or_any words (s / 64) w 0 (omega (arith, room))

changed_mark : (words : List ℕ) (s v i : ℕ) → s < 64 * length words → i / 64 ≡ s / 64 → slot_mark (set words (s / 64) v) i ≡ bit_at v (i % 64)
unfolding slot_mark
changed_mark words s v i room e =
    ap (λ (q : ℕ). bit_at (get_or (set words (s / 64) v) q 0) (i % 64)) e
    ∙ ap (λ (w : ℕ). bit_at w (i % 64)) (get_or-set_same words (s / 64) v 0 (omega (arith, room)))

old_mark : (words : List ℕ) (s w i : ℕ) → i / 64 ≡ s / 64 → w ≡ get_or words (s / 64) 0 → slot_mark words i ≡ bit_at w (i % 64)
unfolding slot_mark
old_mark words s w i e is = ap (λ (q : ℕ). bit_at (get_or words q 0) (i % 64)) e ∙ ap (λ (v : ℕ). bit_at v (i % 64)) (sym is)

other_mark : (words : List ℕ) (s v i : ℕ) → (i / 64 ≡ s / 64 → ⊥) → slot_mark (set words (s / 64) v) i ≡ slot_mark words i
unfolding slot_mark
other_mark words s v i apart = ap (λ (w : ℕ). bit_at w (i % 64)) (get_or-set_other words (s / 64) (i / 64) v 0 apart)

-- the marks in the mask are turned, the others stay
pub turned_here : (words : List ℕ) (s len w i : ℕ) → s < 64 * length words → s % 64 + len ≤ 64 → w ≡ get_or words (s / 64) w → s ≤ i → i < s + len
    → slot_mark (turned_words words s w len) i + slot_mark words i ≡ 1
turned_here words s len w i room word is h l =
    let e : i / 64 ≡ s / 64 = omega (arith, h, l, word) in
    let new : slot_mark (turned_words words s w len) i ≡ bit_at (bit_xor w (mask (s % 64) len)) (i % 64) = changed_mark words s (bit_xor w (mask (s % 64) len)) i room e in
    let old : slot_mark words i ≡ bit_at w (i % 64) = old_mark words s w i e (read_is words s w room is) in
    let one : bit_at (bit_xor w (mask (s % 64) len)) (i % 64) + bit_at w (i % 64) ≡ 1 = bit_turned w (mask (s % 64) len) (i % 64) (mask_inside (s % 64) len (i % 64) word (omega (arith, h, e)) (omega (arith, h, l, e))) in
    omega (arith, new, old, one)

pub turned_there : (words : List ℕ) (s len w i : ℕ) → s < 64 * length words → s % 64 + len ≤ 64 → w ≡ get_or words (s / 64) w → (i < s) ⊎ (s + len ≤ i)
    → slot_mark (turned_words words s w len) i ≡ slot_mark words i
turned_there words s len w i room word is outside = either (nat_eq (i / 64) (s / 64))
    (λ t. let e : i / 64 ≡ s / 64 = eqb-true (i / 64) (s / 64) t in
    changed_mark words s (bit_xor w (mask (s % 64) len)) i room e
    ∙ bit_kept w (mask (s % 64) len) (i % 64) (none e outside)
    ∙ sym (old_mark words s w i e (read_is words s w room is)))
    (λ f. other_mark words s (bit_xor w (mask (s % 64) len)) i (λ e. let t : nat_eq (i / 64) (s / 64) ≡ true = eq-eqb (i / 64) (s / 64) e in cc))
  where
    none : i / 64 ≡ s / 64 → (i < s) ⊎ (s + len ≤ i) → bit_at (mask (s % 64) len) (i % 64) ≡ 0
    none e (inl l) = mask_below (s % 64) len (i % 64) word (omega (arith, l, e))
    none e (inr h) = mask_above (s % 64) len (i % 64) word (omega (arith, h, e))

abbrev pub unlike_bit : Bool → ℕ → ℕ
unlike_bit marked b = cond marked (1 - b) b

-- the first bits of what is left of a word that differ from a mark in nothing
pub run_marks : (words : List ℕ) (s k w u rest : ℕ) (marked : Bool) → s < 64 * length words → w ≡ get_or words (s / 64) w → s % 64 + k < 64
    → ((i : ℕ) → i < 64 → bit_at u i ≡ unlike_bit marked (bit_at w i)) → u < 2 ^ 64 → rest ≡ u / 2 ^ (s % 64) → k < trailing_zeros w64 rest → slot_mark words (s + k) ≡ mark_of marked
run_marks words s k w u rest marked room is word unlike fits e l =
    let at : (s + k) / 64 ≡ s / 64 = omega (arith, word) in
    let off : (s + k) % 64 ≡ s % 64 + k = omega (arith, word) in
    old_mark words s w (s + k) at (read_is words s w room is)
    ∙ ap (λ (i : ℕ). bit_at w i) off
    ∙ by_mark marked (bit_at w (s % 64 + k)) (bit_at-lt w (s % 64 + k)) (sym (unlike (s % 64 + k) word) ∙ sym (bit_shifted u (s % 64) k) ∙ ap (λ (m : ℕ). bit_at m k) (sym e) ∙ zeros_first rest k (omega (arith, e, fits, div-le_self u (2 ^ (s % 64)))) l)
  where
    by_mark : (marked : Bool) (b : ℕ) → b < 2 → unlike_bit marked b ≡ 0 → b ≡ mark_of marked
    by_mark true b l e = omega (arith, l, e)
    by_mark false b l e = e

-- a run grows by one of the same mark
pub run_grown : (words : List ℕ) (slot at len : ℕ) (marked : Bool) → ((i : ℕ) → slot ≤ i → i < at → slot_mark words i ≡ mark_of marked) → ((k : ℕ) → k < len → slot_mark words (at + k) ≡ mark_of marked)
    → (i : ℕ) → slot ≤ i → i < at + len → slot_mark words i ≡ mark_of marked
run_grown words slot at len marked before run i h l = either (nat_lt i at)
    (λ t. before i h (ltb-true i at t))
    (λ f. ap (λ (j : ℕ). slot_mark words j) (shift (ltb-false i at f)) ∙ run (i - at) (omega (arith, l, ltb-false i at f)))
  where
    shift : at ≤ i → i ≡ at + (i - at)
    shift h = omega (arith, h)

pub run_first : (words : List ℕ) (slot : ℕ) (marked : Bool) → slot_mark words slot ≡ mark_of marked → (i : ℕ) → slot ≤ i → i < slot + 1 → slot_mark words i ≡ mark_of marked
run_first words slot marked is i h l = ap (λ (j : ℕ). slot_mark words j) (only h l) ∙ is
  where
    only : slot ≤ i → i < slot + 1 → i ≡ slot
    only h l = omega (arith, h, l)

-- what is turned grows by what is turned next
pub turn_grown : (old mid new : List ℕ) (slot at len : ℕ) → slot ≤ at → ((i : ℕ) → slot ≤ i → i < at → slot_mark mid i + slot_mark old i ≡ 1) → ((i : ℕ) → (i < slot) ⊎ (at ≤ i) → slot_mark mid i ≡ slot_mark old i)
    → ((i : ℕ) → at ≤ i → i < at + len → slot_mark new i + slot_mark mid i ≡ 1) → ((i : ℕ) → (i < at) ⊎ (at + len ≤ i) → slot_mark new i ≡ slot_mark mid i)
    → (i : ℕ) → slot ≤ i → i < at + len → slot_mark new i + slot_mark old i ≡ 1
turn_grown old mid new slot at len from turned others next kept i h l = either (nat_lt i at)
    (λ t. omega (arith, turned i h (ltb-true i at t), kept i (inl (ltb-true i at t))))
    (λ f. omega (arith, next i (ltb-false i at f) l, others i (inr (ltb-false i at f))))

pub turn_outside : (old mid new : List ℕ) (slot at len : ℕ) → slot ≤ at → ((i : ℕ) → (i < slot) ⊎ (at ≤ i) → slot_mark mid i ≡ slot_mark old i) → ((i : ℕ) → (i < at) ⊎ (at + len ≤ i) → slot_mark new i ≡ slot_mark mid i)
    → (i : ℕ) → (i < slot) ⊎ (at + len ≤ i) → slot_mark new i ≡ slot_mark old i
turn_outside old mid new slot at len from others kept i (inl l) = kept i (inl (omega (arith, l, from))) ∙ others i (inl l)
turn_outside old mid new slot at len from others kept i (inr h) = kept i (inr h) ∙ others i (inr (omega (arith, h)))

abbrev zeros : ℕ → List ℕ
zeros n = replicate n 0

get_or-zeros : (n i : ℕ) → get_or (zeros n) i 0 ≡ 0
get_or-zeros zero i = refl
get_or-zeros (suc n) zero = refl
get_or-zeros (suc n) (suc i) = get_or-zeros n i

pub none_marked : (n i : ℕ) → slot_mark (replicate n 0) i ≡ 0
unfolding slot_mark
none_marked n i = ap (λ (w : ℕ). bit_at w (i % 64)) (get_or-zeros n (i / 64)) ∙ bit_at-zero (i % 64)
