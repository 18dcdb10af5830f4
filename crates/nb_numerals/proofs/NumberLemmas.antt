-- Numbers of digits: their test, their value, and bounds on it.
use Rattle.std.proofs.Common.{◌≡◌, ℕ, zero, suc, ◌+◌, ◌*◌, ◌^◌, ◌<◌, ◌≤◌, Bool, true, false, ◌&&◌, cond, List, [], ◌∷◌, length, take, drop, get_or, codes, nat_eq, ltb, Option, Some, None, Result, Ok, Err, refl, sym, subst, ap, ◌∙◌, arith}
use Rattle.std.specs.Prelude.{fold}
use Rattle.std.specs.Char.{digit_value, is_digit}
use Rattle.std.specs.List.{list_all, starts_with}
use Rattle.std.specs.Cmp.Lexicographic.{pointwise}
use Rattle.std.specs.Result.{OkIff, MatchResult, result_ok}
use Rattle.std.specs.Str.{IsAscii, IsUtf8}
use Rattle.std.specs.Str.Parse.{AllDigits, IsNumeral, ParsesUnsigned, without_leading_plus}
use Rattle.std.specs.Str.Parse as std
use Rattle.std.proofs.Math.Logic.{⊎_elim}
use Rattle.std.proofs.lemmas.Bool.{and_parts, cases_lt, ltb-true, lt-ltb, le-ltb, eqb-true}
use Rattle.std.proofs.lemmas.Bool.Decides.{nat_tests}
use Rattle.std.proofs.lemmas.Str.Parse.{without_leading_plus_none}
use Rattle.nb_defs.specs.Commands.{number_of, are_digits, has_no_leading_zero, digits_value}
use Rattle.nb_numerals.specs.Numbers.{below, digits_number, decimal_number}

-- the two spellings of a value
pub value_after : (base n : ℕ) (text : List ℕ) → fold (λ m d. m * base + digit_value d) n text ≡ std.digits_value_after base n text
value_after base n [] = refl
value_after base n (c ∷ text) = value_after base (n * base + digit_value c) text

-- digits that pass the test
pub all_digits : (base : ℕ) (text : List ℕ) → list_all (λ c. is_digit c base) text ≡ true → AllDigits base text
all_digits base [] h = tt
all_digits base (c ∷ text) h =
    let parts = and_parts (is_digit c base) (list_all (λ d. is_digit d base) text) h in
    (ltb-true (digit_value c) base parts.0, all_digits base text parts.1)

small_digit : (base c : ℕ) → base ≤ 16 → digit_value c < base → c < 128
small_digit base c few h = grind (arith, nat_tests)

pub digits-ascii : (base : ℕ) (text : List ℕ) → base ≤ 16 → AllDigits base text → IsAscii text
digits-ascii base [] few h i = omega arith
digits-ascii base (c ∷ text) few h zero = small_digit base c few h.0
digits-ascii base (c ∷ text) few h (suc i) = digits-ascii base text few h.1 i

no_plus : (base : ℕ) (text : List ℕ) → base ≤ 16 → AllDigits base text → get_or text 0 0 ≡ 43 → ⊥
no_plus base [] few h e = omega arith
no_plus base (c ∷ text) few h e = grind (arith, nat_tests, h.0)

-- what is below a bound, by the test of digits that all pass
digits_below : (base bound : ℕ) (text : List ℕ) → list_all (λ c. is_digit c base) text ≡ true → 0 < length text → std.digits_value base text < bound → below bound (digits_number base text) ≡ Some (std.digits_value base text)
digits_below base bound text all some small =
    let value = value_after base 0 text in
    rw (lt-ltb 0 (length text) some, all, value, lt-ltb (std.digits_value base text) bound small) refl

digits_none : (base bound : ℕ) (text : List ℕ) → list_all (λ c. is_digit c base) text ≡ true → (0 < length text → std.digits_value base text < bound → ⊥) → below bound (digits_number base text) ≡ None
digits_none base bound text all never = ⊎_elim
    (λ some. ⊎_elim
    (λ small. absurd (never some small))
    (λ large. let value = value_after base 0 text in rw (lt-ltb 0 (length text) some, all, value, le-ltb (std.digits_value base text) bound large) refl)
    (cases_lt (std.digits_value base text) bound))
    (λ empty. rw (le-ltb 0 (length text) empty) refl)
    (cases_lt 0 (length text))

-- what std reads of digits
pub parsed-digits : {E : Type 0} (base : ℕ) (text : List ℕ) (r : Result ℕ E) → base ≤ 16 → list_all (λ c. is_digit c base) text ≡ true → ParsesUnsigned 32 base text r → result_ok r ≡ below (2 ^ 32) (digits_number base text)
parsed-digits base text (Ok x) few all parses =
    let digits = all_digits base text all in
    let plain = without_leading_plus_none text (no_plus base text few digits) in
    let read : OkIff {E = Unit {0}} (Ok x) (IsNumeral base text × (std.digits_value base text < 2 ^ 32)) (std.digits_value base text) = rw plain at parses in
    ap Some read.1 ∙ sym (digits_below base (2 ^ 32) text all read.0.0.0 read.0.1)
parsed-digits base text (Err e) few all parses =
    let digits = all_digits base text all in
    let plain = without_leading_plus_none text (no_plus base text few digits) in
    let never = rw plain at parses in
    sym (digits_none base (2 ^ 32) text all (λ some small. never ((some, digits), small)))

-- NUMBERS

eqb_sym : (m n : ℕ) → nat_eq m n ≡ nat_eq n m
eqb_sym m n = grind (arith, nat_tests)

pointwise_sym : (xs ys : List ℕ) → pointwise nat_eq xs ys ≡ pointwise nat_eq ys xs
pointwise_sym [] [] = refl
pointwise_sym [] (y ∷ ys) = refl
pointwise_sym (x ∷ xs) [] = refl
pointwise_sym (x ∷ xs) (y ∷ ys) = rw (eqb_sym x y, pointwise_sym xs ys) refl

hex_branch : (hex digits16 digits10 plain : Bool) (v w : Option ℕ) → hex ≡ true → digits10 ≡ false → cond (hex && digits16) v (cond (digits10 && plain) w None) ≡ cond digits16 v None
hex_branch hex digits16 digits10 plain v w is other = rw (is, other) refl

decimal_branch : (hex digits16 digits10 plain : Bool) (v w : Option ℕ) → hex ≡ false → cond (hex && digits16) v (cond (digits10 && plain) w None) ≡ cond plain (cond digits10 w None) None
decimal_branch hex digits16 true true v w is = rw is refl
decimal_branch hex digits16 true false v w is = rw is refl
decimal_branch hex digits16 false true v w is = rw is refl
decimal_branch hex digits16 false false v w is = rw is refl

third_false : (p q r s : Bool) → r ≡ false → (p && (q && (r && s))) ≡ false
third_false true true r s h = rw h refl
third_false true false r s h = refl
third_false false q r s h = refl

-- `x` is no decimal digit
not_decimal : (text : List ℕ) → pointwise nat_eq (take 2 text) (codes "0x") ≡ true → are_digits 10 text ≡ false
not_decimal [] h = refl
not_decimal (a ∷ []) h = cc (and_parts (nat_eq a 48) false h).1
not_decimal (a ∷ b ∷ rest) h =
    let parts = and_parts (nat_eq a 48) (nat_eq b 120 && true) h in
    let second = and_parts (nat_eq b 120) true parts.1 in
    let is : b ≡ 120 = eqb-true b 120 second.0 in
    let off : is_digit b 10 ≡ false = rw is refl in
    third_false (ltb 0 (suc (suc (length rest)))) (is_digit a 10) (is_digit b 10) (list_all (λ d. is_digit d 10) rest) off

-- after `0x` stand hexadecimal digits
pub number_of-hex : (text behind : List ℕ) → pointwise nat_eq (take 2 text) (codes "0x") ≡ true → behind ≡ drop 2 text → number_of text ≡ digits_number 16 behind
unfolding number_of
number_of-hex text behind h is =
    let hex : starts_with nat_eq text (codes "0x") ≡ true = pointwise_sym (codes "0x") (take 2 text) ∙ h in
    hex_branch (starts_with nat_eq text (codes "0x")) (are_digits 16 (drop 2 text)) (are_digits 10 text) (has_no_leading_zero text) (Some (digits_value 16 (drop 2 text))) (Some (digits_value 10 text)) hex (not_decimal text h)
    ∙ ap (digits_number 16) (sym is)

pub number_of-decimal : (text : List ℕ) → pointwise nat_eq (take 2 text) (codes "0x") ≡ false → number_of text ≡ decimal_number text
unfolding number_of
number_of-decimal text h =
    let plain : starts_with nat_eq text (codes "0x") ≡ false = pointwise_sym (codes "0x") (take 2 text) ∙ h in
    decimal_branch (starts_with nat_eq text (codes "0x")) (are_digits 16 (drop 2 text)) (are_digits 10 text) (has_no_leading_zero text) (Some (digits_value 16 (drop 2 text))) (Some (digits_value 10 text)) plain

-- TEXTS

-- a text that is UTF-8 is taken as it is
pub utf8_taken : {T E : Type 0} (r : Result T E) (text : List ℕ) (P : T → Type 0) (Q : E → Type 0) → MatchResult r P (λ e. (IsUtf8 text → ⊥) × Q e) → IsUtf8 text → result_ok r ≡ None → ⊥
utf8_taken (Ok x) text P Q h utf8 none = cc
utf8_taken (Err e) text P Q h utf8 none = h.0 utf8

pub taken : {T E : Type 0} (r : Result T E) (x : T) (P : T → Type 0) (Q : E → Type 0) → MatchResult r P Q → result_ok r ≡ Some x → P x
taken (Ok y) x P Q h some = let same : y ≡ x = cc in subst P same h
taken (Err e) x P Q h some = cc
