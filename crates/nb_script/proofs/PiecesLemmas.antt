-- What the pieces of a text are, where its first separator is known.
use Rattle.std.proofs.Common.{◌≡◌, ℕ, zero, suc, ◌+◌, ◌<◌, ◌≤◌, Bool, true, false, not, cond, List, [], ◌∷◌, length, take, drop, Some, None, refl, ap, arith}
use Rattle.std.specs.Prelude.{position, filter, ltb, unwrap_or}
use Rattle.std.specs.List.{slice_split, onto_first as std_onto_first, position_or_len}
use Rattle.std.proofs.lemmas.List.Splits.{slice_split_first}
use Rattle.std.proofs.lemmas.Bool.Decides.{nat_tests}
use Rattle.nb_defs.specs.ScriptText.{pieces, onto_first, is_some_byte}

onto_first_same : (b : ℕ) (parts : List (List ℕ)) → onto_first b parts ≡ std_onto_first b parts
onto_first_same b [] = refl
onto_first_same b (p ∷ ps) = refl

-- the pieces are what std's `split` gives
pub pieces_is : (sep : ℕ → Bool) (xs : List ℕ) → pieces sep xs ≡ slice_split sep xs
unfolding pieces
pieces_is sep [] = refl
pieces_is sep (b ∷ xs) =
    rw (pieces_is sep xs) (ap (λ x. cond (sep b) ([] ∷ slice_split sep xs) x) (onto_first_same b (slice_split sep xs)))

-- up to the first separator, and the pieces after it
pub pieces_first : (sep : ℕ → Bool) (xs : List ℕ) → position_or_len sep xs < length xs → pieces sep xs ≡ take (position_or_len sep xs) xs ∷ pieces sep (drop (position_or_len sep xs + 1) xs)
pieces_first sep xs h =
    rw (pieces_is sep xs, pieces_is sep (drop (position_or_len sep xs + 1) xs)) (slice_split_first sep xs 0 h)

position_of : (t : Bool) (k n : ℕ) → cond t (Some k) None ≡ Some n → (t ≡ true) × (k ≡ n)
position_of true k n h = (refl, cc)
position_of false k n h = cc

no_position : (t : Bool) (k : ℕ) → cond t (Some k) None ≡ None → t ≡ false
no_position true k h = cc
no_position false k h = refl

-- the first separator, as `position` tells it
pub position_some : (sep : ℕ → Bool) (xs : List ℕ) (n : ℕ) → position sep xs ≡ Some n → (position_or_len sep xs ≡ n) × (n < length xs)
position_some sep xs n h =
    let at = position_of (ltb (position_or_len sep xs) (length xs)) (position_or_len sep xs) n h in
    (at.1, grind (arith, nat_tests))

pub position_none : (sep : ℕ → Bool) (xs : List ℕ) → position sep xs ≡ None → length xs ≤ position_or_len sep xs
position_none sep xs h =
    let none = no_position (ltb (position_or_len sep xs) (length xs)) (position_or_len sep xs) h in
    grind (arith, nat_tests)

pub pieces_some : (sep : ℕ → Bool) (xs : List ℕ) (n : ℕ) → position sep xs ≡ Some n → pieces sep xs ≡ take n xs ∷ pieces sep (drop (n + 1) xs)
pieces_some sep xs n h =
    let at = position_some sep xs n h in
    let e = at.0 in
    rw (← e) (pieces_first sep xs (omega arith))

at_separator : (sep : ℕ → Bool) (b : ℕ) (xs : List ℕ) (t : Bool) → sep b ≡ t → (length xs ≤ position_or_len sep xs → pieces sep xs ≡ xs ∷ []) → suc (length xs) ≤ cond (not (sep b)) (1 + position_or_len sep xs) 0 → pieces sep (b ∷ xs) ≡ (b ∷ xs) ∷ []
unfolding pieces
at_separator sep b xs true e ih h = absurd (omega (arith, rw e at h))
at_separator sep b xs false e ih h =
    let past : suc (length xs) ≤ 1 + position_or_len sep xs = rw e at h in
    rw e (rw (ih (omega arith)) refl)

-- with no separator the text is the one piece
pub pieces_none : (sep : ℕ → Bool) (xs : List ℕ) → length xs ≤ position_or_len sep xs → pieces sep xs ≡ xs ∷ []
unfolding pieces
pieces_none sep [] h = refl
pieces_none sep (b ∷ xs) h = at_separator sep b xs (sep b) refl (pieces_none sep xs) h

more_pieces : (sep : ℕ → Bool) (b : ℕ) (xs : List ℕ) (t : Bool) → sep b ≡ t → (q : List ℕ) × (qs : List (List ℕ)) × (pieces sep xs ≡ q ∷ qs) → (q : List ℕ) × (qs : List (List ℕ)) × (pieces sep (b ∷ xs) ≡ q ∷ qs)
unfolding pieces
more_pieces sep b xs true e ih = ([], pieces sep xs, rw e refl)
more_pieces sep b xs false e ih = (b ∷ ih.0, ih.1, rw e (rw ih.2 refl))

-- there is a piece
pub pieces_cons : (sep : ℕ → Bool) (xs : List ℕ) → (q : List ℕ) × (qs : List (List ℕ)) × (pieces sep xs ≡ q ∷ qs)
unfolding pieces
pieces_cons sep [] = ([], [], refl)
pieces_cons sep (b ∷ xs) = more_pieces sep b xs (sep b) refl (pieces_cons sep xs)

-- the words into which separators cut a text
abbrev pub words_by : (ℕ → Bool) → List ℕ → List (List ℕ)
words_by sep xs = filter is_some_byte (pieces sep xs)

skip_step : (sep : ℕ → Bool) (b : ℕ) (xs : List ℕ) (k : ℕ) (t : Bool) → sep b ≡ t → words_by sep xs ≡ words_by sep (drop k xs) → words_by sep (b ∷ xs) ≡ words_by sep (drop (cond (not (not (sep b))) (1 + k) 0) (b ∷ xs))
unfolding pieces
skip_step sep b xs k true e ih =
    let one : 1 + k ≡ suc k = omega arith in
    rw (e, one) ih
skip_step sep b xs k false e ih = rw (e, e) refl

-- separators at the front are nothing
pub words_by_skip : (sep : ℕ → Bool) (xs : List ℕ) → words_by sep xs ≡ words_by sep (drop (position_or_len (λ b. not (sep b)) xs) xs)
unfolding pieces
words_by_skip sep [] = refl
words_by_skip sep (b ∷ xs) = skip_step sep b xs _ (sep b) refl (words_by_skip sep xs)

pub prefix_fits : (sep : ℕ → Bool) (xs : List ℕ) → position_or_len sep xs ≤ length xs
prefix_fits sep [] = omega arith
prefix_fits sep (b ∷ xs) =
    let ih = prefix_fits sep xs in
    elim (sep b) as (λ t. cond (not t) (1 + position_or_len sep xs) 0 ≤ suc (length xs)) [ true ↦ omega arith | false ↦ omega arith ]

or_length : (t : Bool) (k n : ℕ) → ltb k n ≡ t → k ≤ n → unwrap_or (cond t (Some k) None) n ≡ k
or_length true k n e h = refl
or_length false k n e h = grind (arith, nat_tests)

-- `position`, and the length where there is none
pub position_or : (sep : ℕ → Bool) (xs : List ℕ) → unwrap_or (position sep xs) (length xs) ≡ position_or_len sep xs
position_or sep xs =
    let fits = prefix_fits sep xs in
    or_length (ltb (position_or_len sep xs) (length xs)) (position_or_len sep xs) (length xs) refl fits

-- a piece, and the pieces after it as words
pub record Cuts (sep : ℕ → Bool) (xs : List ℕ) (n : ℕ) : Type 0 where
  pub behind : List (List ℕ)
  pub pieces_are : pieces sep xs ≡ take n xs ∷ behind
  pub rest_words : filter is_some_byte behind ≡ words_by sep (drop n xs)

cuts_step : (sep : ℕ → Bool) (b : ℕ) (xs : List ℕ) (k : ℕ) (t : Bool) → sep b ≡ t → Cuts sep xs k → Cuts sep (b ∷ xs) (cond (not (sep b)) (1 + k) 0)
unfolding pieces
cuts_step sep b xs k true e c = record {
  behind = pieces sep xs;
  pieces_are = rw e refl;
  rest_words = rw (e, e) refl;
}
cuts_step sep b xs k false e c =
    let one : 1 + k ≡ suc k = omega arith in
    record {
      behind = c.behind;
      pieces_are = rw (e, one) (rw c.pieces_are refl);
      rest_words = rw (e, one) c.rest_words;
    }

pub cuts_at : (sep : ℕ → Bool) (xs : List ℕ) → Cuts sep xs (position_or_len sep xs)
unfolding pieces
cuts_at sep [] = record { behind = []; pieces_are = refl; rest_words = refl }
cuts_at sep (b ∷ xs) = cuts_step sep b xs _ (sep b) refl (cuts_at sep xs)

some_byte : (n : ℕ) (xs : List ℕ) → 0 < n → n ≤ length xs → is_some_byte (take n xs) ≡ true
some_byte zero xs h l = absurd (omega arith)
some_byte (suc n) [] h l = absurd (omega arith)
some_byte (suc n) (x ∷ xs) h l = refl

-- the first word, where no separator stands at the front
pub words_by_cut : (sep : ℕ → Bool) (xs : List ℕ) → 0 < position_or_len sep xs → words_by sep xs ≡ take (position_or_len sep xs) xs ∷ words_by sep (drop (position_or_len sep xs) xs)
words_by_cut sep xs h =
    let c = cuts_at sep xs in
    rw (c.pieces_are, some_byte (position_or_len sep xs) xs h (prefix_fits sep xs)) (ap (λ ws. take (position_or_len sep xs) xs ∷ ws) c.rest_words)

starts_step : (sep : ℕ → Bool) (b : ℕ) (xs : List ℕ) (k : ℕ) (t : Bool) → sep b ≡ t → (k < length xs → 0 < position_or_len sep (drop k xs)) → cond (not (not (sep b))) (1 + k) 0 < suc (length xs) → 0 < position_or_len sep (drop (cond (not (not (sep b))) (1 + k) 0) (b ∷ xs))
starts_step sep b xs k true e ih h =
    let one : 1 + k ≡ suc k = omega arith in
    let below : 1 + k < suc (length xs) = rw e at h in
    rw (e, one) (ih (omega arith))
starts_step sep b xs k false e ih h = rw e (rw e (omega arith))

-- at the first byte that is no separator a word begins
pub starts_at : (sep : ℕ → Bool) (xs : List ℕ) → position_or_len (λ b. not (sep b)) xs < length xs → 0 < position_or_len sep (drop (position_or_len (λ b. not (sep b)) xs) xs)
starts_at sep [] h = absurd (omega arith)
starts_at sep (b ∷ xs) h = starts_step sep b xs _ (sep b) refl (starts_at sep xs) h
