-- A number's text reads back as the number.
use Rattle.std.proofs.Common.{◌≡◌, ◌≢◌, ℕ, zero, suc, ◌^◌, ◌<◌, ◌==◌, true, false, ◌&&◌, List, [], ◌∷◌, ◌++◌, length, take, get_or, codes, nat_eq, Some, ℤ, pos, negsuc, neg_ℤ, refl, sym, ap, ◌∙◌, arith}
use Rattle.std.specs.Char.{digit_value, is_digit}
use Rattle.std.specs.Cmp.Lexicographic.{pointwise}
use Rattle.std.specs.Fmt.{decimal, digits, signed_decimal}
use Rattle.std.specs.List.{list_all, starts_with}
use Rattle.std.specs.Option.{option_map}
use Rattle.std.specs.Str.Parse.{AllDigits, IsNumeral}
use Rattle.std.specs.Str.Parse as std
use Rattle.std.proofs.lemmas.Bool.{lt-ltb, ne_eqb}
use Rattle.std.proofs.lemmas.Bool.Decides.{nat_tests}
use Rattle.std.proofs.lemmas.Fmt.{decimal_is_IsNumeral, digits_is_IsNumeral, decimal_digit, first_decimal}
use Rattle.nb_defs.specs.Commands.{number_of, has_no_leading_zero}
use Rattle.nb_numerals.specs.Numbers.{digits_number, decimal_number}
use Rattle.nb_expand.specs.Numbers.{signed_number_of}
use Rattle.nb_numerals.proofs.NumberLemmas.{value_after, number_of-hex, number_of-decimal}

-- digits pass the test
digits_pass : (base : ℕ) (text : List ℕ) → AllDigits base text → list_all (λ c. is_digit c base) text ≡ true
digits_pass base [] h = refl
digits_pass base (c ∷ text) h = rw (lt-ltb (digit_value c) base h.0, digits_pass base text h.1) refl

numeral_number : (base n : ℕ) (text : List ℕ) → IsNumeral base text → std.digits_value base text ≡ n → digits_number base text ≡ Some n
numeral_number base n text numeral is =
    let value = value_after base 0 text in
    rw (lt-ltb 0 (length text) numeral.0, digits_pass base text numeral.1, value, is) refl

-- no zero stands first
first_not_zero : (text : List ℕ) → 48 < get_or text 0 0 → has_no_leading_zero text ≡ true
first_not_zero [] h = absurd (omega arith)
first_not_zero (c ∷ text) h =
    let off : (48 == c) ≡ false = ne_eqb 48 c (omega arith) in
    rw off refl

no_zero : (n : ℕ) → n < 2 ^ 64 → has_no_leading_zero (decimal n) ≡ true
no_zero zero h = rw (decimal_digit 0 (omega arith)) refl
no_zero (suc n) h = first_not_zero (decimal (suc n)) (first_decimal (suc n) (omega arith) h)

pub decimal_number-decimal : (n : ℕ) → n < 2 ^ 64 → decimal_number (decimal n) ≡ Some n
decimal_number-decimal n h =
    let numeral = decimal_is_IsNumeral n h in
    rw (no_zero n h) (numeral_number 10 n (decimal n) numeral.0 numeral.1)

-- decimal digits are no `0x`
second_not : (text : List ℕ) → AllDigits 10 text → pointwise nat_eq (take 2 text) (codes "0x") ≡ false
second_not [] h = refl
second_not (c ∷ []) h = elim (nat_eq c 48) as (λ t. (t && false) ≡ false) [ true ↦ refl | false ↦ refl ]
second_not (c ∷ d ∷ text) h =
    let other : d ≢ 120 = λ e. not_x d e h.1.0 in
    let off : nat_eq d 120 ≡ false = ne_eqb d 120 other in
    rw off (elim (nat_eq c 48) as (λ t. (t && (false && true)) ≡ false) [ true ↦ refl | false ↦ refl ])
  where
    not_x : (d : ℕ) → d ≡ 120 → digit_value d < 10 → ⊥
    not_x d e h = grind (arith, nat_tests)

pub number_of-printed : (n : ℕ) → n < 2 ^ 64 → number_of (decimal n) ≡ Some n
number_of-printed n h = number_of-decimal (decimal n) (second_not (decimal n) (decimal_is_IsNumeral n h).0.1) ∙ decimal_number-decimal n h

pub number_of-printed_hex : (n : ℕ) → n < 2 ^ 32 → number_of (codes "0x" ++ digits 16 false n) ≡ Some n
number_of-printed_hex n h =
    let numeral = digits_is_IsNumeral 16 false (omega arith) (omega arith) n (omega arith) in
    number_of-hex (codes "0x" ++ digits 16 false n) (digits 16 false n) refl refl ∙ numeral_number 16 n (digits 16 false n) numeral.0 numeral.1

-- signs
not_minus : (text : List ℕ) → IsNumeral 10 text → starts_with nat_eq text (codes "-") ≡ false
not_minus [] h = absurd (omega (arith, h.0))
not_minus (c ∷ text) h =
    let other : 45 ≢ c = λ e. no_digit c (sym e) h.1.0 in
    rw (ne_eqb 45 c other) refl
  where
    no_digit : (c : ℕ) → c ≡ 45 → digit_value c < 10 → ⊥
    no_digit c e h = grind (arith, nat_tests)

abbrev pub IsSmall : ℤ → Type 0
IsSmall (pos n) = n < 2 ^ 63
IsSmall (negsuc n) = n < 2 ^ 63

pub signed_number_of-printed : (z : ℤ) → IsSmall z → signed_number_of (signed_decimal z) ≡ Some z
signed_number_of-printed (pos n) h =
    rw (not_minus (decimal n) (decimal_is_IsNumeral n (omega arith)).0, number_of-printed n (omega arith)) refl
signed_number_of-printed (negsuc n) h = ap (option_map (λ m. neg_ℤ (pos m))) (number_of-printed (suc n) (omega arith))
