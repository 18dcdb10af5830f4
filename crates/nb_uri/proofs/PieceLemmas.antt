-- Laws of the pieces of a text.
use Rattle.std.proofs.Common.{◌≡◌, ℕ, ◌+◌, ◌-◌, ◌<◌, ◌≤◌, List, [], ◌∷◌, ◌++◌, Some, None, Bool, true, false, not, refl, ap, sym, ◌∙◌, arith, eqb, ltb, ltb-true, ltb-false, take, drop, length, get_or, length-drop}
use Rattle.std.proofs.Math.Seq.{take-length}
use Rattle.std.proofs.lemmas.List.Sums.{suffix_len_is, fails_before_first}
use Rattle.std.proofs.lemmas.List.Splits.{slice_split_first, slice_split_none}
use Rattle.std.proofs.lemmas.Option.{none-some, some_pair_parts}
use Rattle.std.proofs.lemmas.List.{drop_all}
use Rattle.std.specs.List.{after_last, after_first, before_first, position_or_len, slice_split, suffix_len}
use Rattle.nb_uri.specs.Pieces.{cut_at_first, is_slash, HasNoSlashFrom}

-- either answer of a test
pub either_way : {P : Type 0} (b : Bool) → (b ≡ true → P) → (b ≡ false → P) → P
either_way true on off = on refl
either_way false on off = off refl

-- all that is left is the rest
pub take_rest : (text : List ℕ) (from : ℕ) → take (length text - from) (drop from text) ≡ drop from text
take_rest text from = rw (← length-drop from text) (take-length (drop from text))

not_slash : (path : List ℕ) (k : ℕ) → is_slash (get_or path k 0) ≡ false → not (is_slash (get_or path k 0)) ≡ true
not_slash path k off = ap not off

-- what stands after the last slash, at its place
pub after_last-at : (path : List ℕ) (slash : ℕ) → slash < length path → is_slash (get_or path slash 0) ≡ true → HasNoSlashFrom (slash + 1) path → drop (slash + 1) path ≡ after_last is_slash path
after_last-at path slash within there last =
    let len : suffix_len (λ x. not (is_slash x)) path ≡ length path - (slash + 1) = suffix_len_is (λ x. not (is_slash x)) path (slash + 1) 0 (omega arith)
    (λ k from below. not_slash path k (last k from below))
    (λ some. let same : slash + 1 - 1 ≡ slash = omega arith in rw same (ap not there)) in
    let start : length path - (length path - (slash + 1)) ≡ slash + 1 = omega arith in
    rw (len, start) refl

-- where there is no slash it is the path
pub after_last-none : (path : List ℕ) → HasNoSlashFrom 0 path → path ≡ after_last is_slash path
after_last-none path none =
    let len : suffix_len (λ x. not (is_slash x)) path ≡ length path - 0 = suffix_len_is (λ x. not (is_slash x)) path 0 0 (omega arith)
    (λ k from below. not_slash path k (none k from below))
    (λ some. absurd (omega arith)) in
    let start : length path - (length path - 0) ≡ 0 = omega arith in
    rw (len, start) refl

-- a separator that is found
pub cut_found : (separator : ℕ) (text front behind : List ℕ) → Some (front, behind) ≡ cut_at_first separator text → (position_or_len (λ b. eqb b separator) text < length text) × (before_first (λ b. eqb b separator) text ≡ front) × (after_first (λ b. eqb b separator) text ≡ behind)
cut_found separator text front behind is =
    let at = position_or_len (λ b. eqb b separator) text in
    either_way (ltb at (length text))
    (λ on.
    let pair = some_pair_parts (take at text) front (drop (at + 1) text) behind (sym (rw on at is)) in
    (ltb-true at (length text) on, pair.0, pair.1))
    (λ off. absurd (none-some (front, behind) (sym (rw off at is))))

-- no separator
pub cut_none : (separator : ℕ) (text : List ℕ) → None ≡ cut_at_first separator text → length text ≤ position_or_len (λ b. eqb b separator) text
cut_none separator text is =
    let at = position_or_len (λ b. eqb b separator) text in
    either_way (ltb at (length text))
    (λ on. absurd (none-some (take at text, drop (at + 1) text) (rw on at is)))
    (λ off. ltb-false at (length text) off)

-- what stands before a separator is the first part
pub parts_cut : (separator : ℕ) (text front behind : List ℕ) → Some (front, behind) ≡ cut_at_first separator text → slice_split (λ b. eqb b separator) text ≡ front ∷ slice_split (λ b. eqb b separator) behind
parts_cut separator text front behind is =
    let found = cut_found separator text front behind is in
    slice_split_first (λ b. eqb b separator) text 0 found.0
    ∙ ap (λ part. part ∷ slice_split (λ b. eqb b separator) (after_first (λ b. eqb b separator) text)) found.1
    ∙ ap (λ rest. front ∷ slice_split (λ b. eqb b separator) rest) found.2

-- a text without separator is one part
pub parts_whole : (separator : ℕ) (text : List ℕ) → None ≡ cut_at_first separator text → slice_split (λ b. eqb b separator) text ≡ text ∷ []
parts_whole separator text is =
    let past = cut_none separator text is in
    slice_split_none (λ b. eqb b separator) text (λ k d below. fails_before_first (λ b. eqb b separator) text k d (omega arith))

-- without separator nothing stands after it
pub after_first-none : (separator : ℕ) (text : List ℕ) → None ≡ cut_at_first separator text → after_first (λ b. eqb b separator) text ≡ []
after_first-none separator text is =
    let past = cut_none separator text is in
    drop_all (position_or_len (λ b. eqb b separator) text + 1) text (omega arith)
