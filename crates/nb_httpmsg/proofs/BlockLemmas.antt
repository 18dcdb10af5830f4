-- The first line by its LF, and the first block by its lines.
use Rattle.std.proofs.Common.{◌≡◌, ◌≤◌, ◌<◌, ℕ, zero, suc, ◌+◌, ◌-◌, List, [], ◌∷◌, ◌++◌, length, take, drop, get_or, Some, None, true, false, if◌then◌else◌, refl, ap, ◌∙◌, sym, arith, append_assoc, eqb, eq-eqb, add-one}
use Rattle.std.proofs.lemmas.List.{take_all, length-drop}
use Rattle.std.proofs.lemmas.Bool.{ne_eqb}
use Rattle.nb_responses.specs.Lines.{first_line, is_empty, LineBlock, whole, unfinished, crowded, with_line, first_block}

pub line_at : (text : List ℕ) (i : ℕ) → i < length text → get_or text i 0 ≡ 10 → ((k : ℕ) → k < i → get_or text k 0 ≡ 10 → ⊥)
    → first_line text ≡ Some (record { line = take (suc i) text; rest = drop (suc i) text })
line_at [] i l at none = absurd (none_below i l)
  where
    none_below : (k : ℕ) → k < 0 → ⊥
    none_below k l = omega (arith, l)
line_at (b ∷ bs) zero l at none = let on : eqb b 10 ≡ true = eq-eqb b 10 at in rw on refl
line_at (b ∷ bs) (suc i) l at none =
    let off : eqb b 10 ≡ false = ne_eqb b 10 (none 0 (omega arith)) in
    let later : first_line bs ≡ Some (record { line = take (suc i) bs; rest = drop (suc i) bs }) = line_at bs i (omega (arith, l)) at (λ k below e. none (suc k) (omega (arith, below)) e) in
    rw (off, later) refl

pub no_line : (text : List ℕ) → ((k : ℕ) → k < length text → get_or text k 0 ≡ 10 → ⊥) → first_line text ≡ None
no_line [] none = refl
no_line (b ∷ bs) none =
    let off : eqb b 10 ≡ false = ne_eqb b 10 (none 0 (omega arith)) in
    let later : first_line bs ≡ None = no_line bs (λ k below e. none (suc k) (omega (arith, below)) e) in
    rw (off, later) refl

pub with_no_line : (k : LineBlock) → with_line [] k ≡ k
with_no_line (whole block rest) = refl
with_no_line unfinished = refl
with_no_line crowded = refl

pub with_two_lines : (a b : List ℕ) (k : LineBlock) → with_line a (with_line b k) ≡ with_line (a ++ b) k
with_two_lines a b (whole block rest) = ap (λ ys. whole ys rest) (sym (append_assoc a b block))
with_two_lines a b unfinished = refl
with_two_lines a b crowded = refl

pub line_here : (text : List ℕ) (i : ℕ) → i < length text → get_or text i 0 ≡ 10 → ((k : ℕ) → k < i → get_or text k 0 ≡ 10 → ⊥)
    → first_line text ≡ Some (record { line = take (i + 1) text; rest = drop (i + 1) text })
line_here text i l at none = line_at text i l at none ∙ ap (λ n. Some (record { line = take n text; rest = drop n text })) (sym (add-one i))

pub take_plus : (n m : ℕ) (xs : List ℕ) → take (n + m) xs ≡ take n xs ++ take m (drop n xs)
take_plus zero m xs = let e : 0 + m ≡ m = omega arith in ap (λ k. take k xs) e
take_plus (suc n) zero [] = let e : suc n + 0 ≡ suc n = omega arith in ap (λ k. take k []) e
take_plus (suc n) (suc m) [] = let e : suc n + suc m ≡ suc (n + suc m) = omega arith in ap (λ k. take k []) e
take_plus (suc n) m (x ∷ xs) = let e : suc n + m ≡ suc (n + m) = omega arith in ap (λ k. take k (x ∷ xs)) e ∙ ap (λ ys. x ∷ ys) (take_plus n m xs)

drop_plus : (n m : ℕ) (xs : List ℕ) → drop (n + m) xs ≡ drop m (drop n xs)
drop_plus zero m xs = let e : 0 + m ≡ m = omega arith in ap (λ k. drop k xs) e
drop_plus (suc n) zero [] = let e : suc n + 0 ≡ suc n = omega arith in ap (λ k. drop k []) e
drop_plus (suc n) (suc m) [] = let e : suc n + suc m ≡ suc (n + suc m) = omega arith in ap (λ k. drop k []) e
drop_plus (suc n) m (x ∷ xs) = let e : suc n + m ≡ suc (n + m) = omega arith in ap (λ k. drop k (x ∷ xs)) e ∙ drop_plus n m xs

-- what the search knows after i lines of at bytes
abbrev pub Passed : ℕ → List ℕ → ℕ → ℕ → Type 0
Passed most text i at = first_block most text ≡ with_line (take at text) (first_block (most - i) (drop at text))

abbrev pub LineOf : List ℕ → ℕ → Type 0
LineOf text len = first_line text ≡ Some (record { line = take len text; rest = drop len text })

pub none_passed : (most : ℕ) (text : List ℕ) → Passed most text 0 0
none_passed most text = let e : most ≡ most - 0 = omega arith in ap (λ n. first_block n text) e ∙ sym (with_no_line (first_block (most - 0) text))

next_line : (n len : ℕ) (rest : List ℕ) → LineOf rest len → first_block (suc n) rest ≡ (if is_empty (take len rest) then whole (take len rest) (drop len rest) else with_line (take len rest) (first_block n (drop len rest)))
next_line n len rest line = rw line refl

one_left : (most i : ℕ) → i < most → most - i ≡ suc (most - (i + 1))
one_left most i l = omega (arith, l)

pub one_passed : (most i at len : ℕ) (text : List ℕ) → i < most → LineOf (drop at text) len → is_empty (take len (drop at text)) ≡ false → Passed most text i at → Passed most text (i + 1) (at + len)
one_passed most i at len text l line full passed =
    let rest : List ℕ = drop at text in
    let step : first_block (suc (most - (i + 1))) rest ≡ with_line (take len rest) (first_block (most - (i + 1)) (drop len rest)) = next_line (most - (i + 1)) len rest line ∙ (rw full refl) in
    passed ∙ ap (λ n. with_line (take at text) (first_block n rest)) (one_left most i l) ∙ ap (with_line (take at text)) step
    ∙ with_two_lines (take at text) (take len rest) (first_block (most - (i + 1)) (drop len rest))
    ∙ ap (λ ys. with_line ys (first_block (most - (i + 1)) (drop len rest))) (sym (take_plus at len text))
    ∙ ap (λ ys. with_line (take (at + len) text) (first_block (most - (i + 1)) ys)) (sym (drop_plus at len text))

pub passed_to_end : (most i at len : ℕ) (text : List ℕ) → i < most → LineOf (drop at text) len → is_empty (take len (drop at text)) ≡ true → Passed most text i at
    → first_block most text ≡ whole (take (at + len) text) (drop (at + len) text)
passed_to_end most i at len text l line empty passed =
    let rest : List ℕ = drop at text in
    let step : first_block (suc (most - (i + 1))) rest ≡ whole (take len rest) (drop len rest) = next_line (most - (i + 1)) len rest line ∙ (rw empty refl) in
    passed ∙ ap (λ n. with_line (take at text) (first_block n rest)) (one_left most i l) ∙ ap (with_line (take at text)) step
    ∙ ap (λ ys. whole ys (drop len rest)) (sym (take_plus at len text)) ∙ ap (whole (take (at + len) text)) (sym (drop_plus at len text))

pub passed_to_no_line : (most i at : ℕ) (text : List ℕ) → i < most → first_line (drop at text) ≡ None → Passed most text i at → first_block most text ≡ unfinished
passed_to_no_line most i at text l none passed =
    let step : first_block (suc (most - (i + 1))) (drop at text) ≡ unfinished = rw none refl in
    passed ∙ ap (λ n. with_line (take at text) (first_block n (drop at text))) (one_left most i l) ∙ ap (with_line (take at text)) step

pub all_passed : (most i at : ℕ) (text : List ℕ) → most ≤ i → Passed most text i at → first_block most text ≡ crowded
all_passed most i at text l passed = let e : most - i ≡ 0 = omega (arith, l) in passed ∙ ap (λ n. with_line (take at text) (first_block n (drop at text))) e

-- the rest of a text, as a slice of it
pub rest_all : (at : ℕ) (text : List ℕ) → take (length text - at) (drop at text) ≡ drop at text
rest_all at text = take_all (length text - at) (drop at text) (omega (arith, length-drop at text))

-- the first of a list's first
pub take_within : (k n : ℕ) (xs : List ℕ) → k ≤ n → take k (take n xs) ≡ take k xs
take_within zero n xs l = refl
take_within (suc k) zero xs l = absurd (above k l)
  where
    above : (k : ℕ) → suc k ≤ 0 → ⊥
    above k l = omega (arith, l)
take_within (suc k) (suc n) [] l = refl
take_within (suc k) (suc n) (x ∷ xs) l = ap (λ ys. x ∷ ys) (take_within k n xs (omega (arith, l)))
