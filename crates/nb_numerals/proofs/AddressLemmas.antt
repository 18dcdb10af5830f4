-- Addresses as four decimals.
use Rattle.std.proofs.Common.{◌≡◌, ℕ, zero, suc, ◌+◌, ◌<◌, ◌≤◌, ◌==◌, Bool, true, false, ◌&&◌, cond, ltb, List, [], ◌∷◌, length, take, drop, get_or, position, Option, Some, None, option_and_then, refl, sym, ap, ◌∙◌, arith}
use Rattle.std.specs.Char.{is_digit}
use Rattle.std.specs.List.{list_all, position_or_len, slice_split}
use Rattle.std.specs.Option.{option_map}
use Rattle.std.proofs.lemmas.Bool.{ltb-true, ltb-false, eqb-true}
use Rattle.std.proofs.lemmas.Bool.Decides.{nat_tests}
use Rattle.std.proofs.lemmas.List.Quantifiers.{position-Some}
use Rattle.std.proofs.lemmas.List.Splits.{slice_split_first, slice_split_none, length-slice_split}
use Rattle.std.proofs.lemmas.List.Sums.{fails_before_first}
use Rattle.nb_defs.specs.Commands.{has_no_leading_zero, digits_value}
use Rattle.nb_numerals.specs.Numbers.{below}
use Rattle.nb_numerals.specs.Addresses.{decimal_byte, decimal_bytes, decimals, decimal_and_dot, is_dot}

-- so many decimals and dots, and a last decimal
abbrev pub chain : ℕ → List ℕ → Option (List ℕ)
chain zero text = option_map (λ byte. byte ∷ []) (decimal_byte text)
chain (suc n) text = option_and_then (λ read. option_map (λ bytes. read.0 ∷ bytes) (chain n read.1)) (decimal_and_dot text)

pub chain_none : (n : ℕ) (text : List ℕ) → decimal_and_dot text ≡ None → chain (suc n) text ≡ None
chain_none n text h = rw h refl

abbrev pub read_to : ℕ → List ℕ → ℕ × List ℕ
read_to byte behind = (byte, behind)

pub chain_some : (n : ℕ) (text : List ℕ) (byte : ℕ) (behind : List ℕ) → decimal_and_dot text ≡ Some (read_to byte behind) → chain (suc n) text ≡ option_map (λ bytes. byte ∷ bytes) (chain n behind)
chain_some n text byte behind h = rw h refl

dot_at : (t : Bool) (k i : ℕ) → cond t (Some k) None ≡ Some i → (t ≡ true) × (k ≡ i)
dot_at true k i h = (refl, cc)
dot_at false k i h = cc

no_dot_at : (t : Bool) (k : ℕ) → cond t (Some k) None ≡ None → t ≡ false
no_dot_at true k h = cc
no_dot_at false k h = refl

-- the parts of a text, by the place of its first dot
split_some : (text : List ℕ) (i : ℕ) → position is_dot text ≡ Some i → slice_split is_dot text ≡ take i text ∷ slice_split is_dot (drop (i + 1) text)
split_some text i h =
    let at = dot_at (ltb (position_or_len is_dot text) (length text)) (position_or_len is_dot text) i h in
    let within : position_or_len is_dot text < length text = ltb-true (position_or_len is_dot text) (length text) at.0 in
    slice_split_first is_dot text 0 within ∙ ap (λ k. take k text ∷ slice_split is_dot (drop (k + 1) text)) at.1

split_none : (text : List ℕ) → position is_dot text ≡ None → slice_split is_dot text ≡ text ∷ []
split_none text h =
    let past = ltb-false (position_or_len is_dot text) (length text) (no_dot_at (ltb (position_or_len is_dot text) (length text)) (position_or_len is_dot text) h) in
    slice_split_none is_dot text (λ k d within. fails_before_first is_dot text k d (omega (arith, past, within)))

-- a text with a dot is no decimal
digit_fails : (text : List ℕ) (i : ℕ) → i < length text → is_digit (get_or text i 0) 10 ≡ false → list_all (λ c. is_digit c 10) text ≡ false
digit_fails [] i within h = absurd (omega arith)
digit_fails (c ∷ text) zero within h = rw h refl
digit_fails (c ∷ text) (suc i) within h =
    let rest = digit_fails text i (omega arith) h in
    elim (is_digit c 10) as (λ t. (t && list_all (λ d. is_digit d 10) text) ≡ false) [ true ↦ rest | false ↦ refl ]

no_digits : (some all plain : Bool) (v : Option ℕ) → all ≡ false → below 256 (cond plain (cond (some && all) v None) None) ≡ None
no_digits true all true v h = rw h refl
no_digits true all false v h = refl
no_digits false all true v h = refl
no_digits false all false v h = refl

dotted : (text : List ℕ) (i : ℕ) → position is_dot text ≡ Some i → decimal_byte text ≡ None
dotted text i h =
    let at = position-Some is_dot text i 0 h in
    let dot : get_or text i 0 ≡ 46 = eqb-true (get_or text i 0) 46 at.1 in
    let off : is_digit (get_or text i 0) 10 ≡ false = rw dot refl in
    no_digits (ltb 0 (length text)) (list_all (λ c. is_digit c 10) text) (has_no_leading_zero text) (Some (digits_value 10 text)) (digit_fails text i at.0 off)

-- the parts from the first on
last_part : (byte : Option ℕ) → option_map (λ b. b ∷ []) byte ≡ option_and_then (λ b. option_map (λ bytes. b ∷ bytes) (Some [])) byte
last_part None = refl
last_part (Some b) = refl

next_part : (byte : Option ℕ) (behind : List ℕ) (more : List ℕ → Option (List ℕ)) → option_and_then (λ read. option_map (λ bytes. read.0 ∷ bytes) (more read.1)) (option_map (λ b. read_to b behind) byte) ≡ option_and_then (λ b. option_map (λ bytes. b ∷ bytes) (more behind)) byte
next_part None behind more = refl
next_part (Some b) behind more = refl

counted : (test : Bool) (byte : Option ℕ) (rest : Option (List ℕ)) → option_and_then (λ b. option_map (λ bytes. b ∷ bytes) (cond test rest None)) byte ≡ cond test (option_and_then (λ b. option_map (λ bytes. b ∷ bytes) rest) byte) None
counted true byte rest = refl
counted false None rest = refl
counted false (Some b) rest = refl

one_more : (m n : ℕ) → (suc m == suc n) ≡ (m == n)
one_more m n = grind (arith, nat_tests)

parts_some : (text : List ℕ) → 0 < length (slice_split is_dot text)
parts_some text = omega (arith, length-slice_split is_dot text)

by_dot : {P : Type 0} (found : Option ℕ) → (found ≡ None → P) → ((i : ℕ) → found ≡ Some i → P) → P
by_dot None none some = none refl
by_dot (Some i) none some = some i refl

-- read so, it is the decimals between the dots
pub chain-decimals : (n : ℕ) (text : List ℕ) → chain n text ≡ decimals (suc n) (slice_split is_dot text)
chain-decimals zero text = by_dot (position is_dot text)
    (λ none. last_part (decimal_byte text) ∙ ap (decimals 1) (sym (split_none text none)))
    (λ i some.
    let rest = slice_split is_dot (drop (i + 1) text) in
    let many : (suc (length rest) == 1) ≡ false = grind (arith, nat_tests, parts_some (drop (i + 1) text)) in
    ap (option_map (λ byte. byte ∷ [])) (dotted text i some) ∙ sym (ap (decimals 1) (split_some text i some) ∙ rw many refl))
chain-decimals (suc n) text = by_dot (position is_dot text)
    (λ none.
    let few : (1 == suc (suc n)) ≡ false = grind (arith, nat_tests) in
    let nothing : chain (suc n) text ≡ None = rw none refl in
    nothing ∙ sym (ap (decimals (suc (suc n))) (split_none text none) ∙ rw few refl))
    (λ i some.
    let behind = drop (i + 1) text in
    let rest = slice_split is_dot behind in
    let byte = decimal_byte (take i text) in
    let first : chain (suc n) text ≡ option_and_then (λ b. option_map (λ bytes. b ∷ bytes) (chain n behind)) byte = rw some (next_part byte behind (chain n)) in
    let second : option_and_then (λ b. option_map (λ bytes. b ∷ bytes) (chain n behind)) byte ≡ cond (length rest == suc n) (option_and_then (λ b. option_map (λ bytes. b ∷ bytes) (decimal_bytes rest)) byte) None
    = rw (chain-decimals n behind) (counted (length rest == suc n) byte (decimal_bytes rest)) in
    first ∙ second ∙ sym (ap (decimals (suc (suc n))) (split_some text i some) ∙ rw (one_more (length rest) (suc n)) refl))
