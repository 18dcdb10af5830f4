-- Numbers of 16 bits as digits.
use Rattle.std.proofs.Common.{◌≡◌, ℕ, ◌^◌, ◌<◌, ◌≤◌, true, ◌&&◌, ltb, List, [], ◌∷◌, length, get_or, Some, None, Result, Ok, Err, refl, sym, ap, ◌∙◌, arith}
use Rattle.std.specs.Char.{digit_value, is_digit}
use Rattle.std.specs.List.{list_all}
use Rattle.std.specs.Result.{OkIff, result_ok}
use Rattle.std.specs.Str.Parse.{AllDigits, IsNumeral, ParsesUnsigned, digits_value}
use Rattle.std.proofs.Math.Logic.{⊎_elim}
use Rattle.std.proofs.lemmas.Bool.{and_parts, cases_lt, cases_Bool, ltb-true, lt-ltb, le-ltb}
use Rattle.std.proofs.lemmas.Option.{none-some}
use Rattle.std.proofs.lemmas.Bool.Decides.{nat_tests}
use Rattle.std.proofs.lemmas.Str.Parse.{without_leading_plus_none}
use Rattle.nb_uri.specs.IscsiNames.{word_number}

-- digits that pass the test, and the other way round
pub all_digits : (base : ℕ) (text : List ℕ) → list_all (λ d. is_digit d base) text ≡ true → AllDigits base text
all_digits base [] h = tt
all_digits base (c ∷ text) h =
    let parts = and_parts (is_digit c base) (list_all (λ d. is_digit d base) text) h in
    (ltb-true (digit_value c) base parts.0, all_digits base text parts.1)

pub digits_pass : (base : ℕ) (text : List ℕ) → AllDigits base text → list_all (λ d. is_digit d base) text ≡ true
digits_pass base [] h = refl
digits_pass base (c ∷ text) h = rw (lt-ltb (digit_value c) base h.0, digits_pass base text h.1) refl

no_plus : (base : ℕ) (text : List ℕ) → base ≤ 16 → AllDigits base text → get_or text 0 0 ≡ 43 → ⊥
no_plus base [] few h e = omega arith
no_plus base (c ∷ text) few h e = grind (arith, nat_tests, h.0)

-- digits whose number 16 bits hold, and others
pub word_number-some : (base : ℕ) (text : List ℕ) → IsNumeral base text → digits_value base text < 65536 → word_number base text ≡ Some (digits_value base text)
word_number-some base text numeral small =
    rw (lt-ltb 0 (length text) numeral.0, digits_pass base text numeral.1, lt-ltb (digits_value base text) 65536 small) refl

word_number-none : (base : ℕ) (text : List ℕ) → list_all (λ d. is_digit d base) text ≡ true → (0 < length text → digits_value base text < 65536 → ⊥) → word_number base text ≡ None
word_number-none base text all never = ⊎_elim
    (λ some. ⊎_elim
    (λ small. absurd (never some small))
    (λ large. rw (lt-ltb 0 (length text) some, all, le-ltb (digits_value base text) 65536 large) refl)
    (cases_lt (digits_value base text) 65536))
    (λ empty. rw (le-ltb 0 (length text) empty) refl)
    (cases_lt 0 (length text))

-- what was read
pub word_number-read : (base : ℕ) (text : List ℕ) (n : ℕ) → word_number base text ≡ Some n → IsNumeral base text × (digits_value base text ≡ n) × (digits_value base text < 65536)
word_number-read base text n is = ⊎_elim
    (λ on.
    let first = and_parts (ltb 0 (length text) && list_all (λ d. is_digit d base) text) (ltb (digits_value base text) 65536) on in
    let second = and_parts (ltb 0 (length text)) (list_all (λ d. is_digit d base) text) first.0 in
    let same : digits_value base text ≡ n = cc (rw on at is) in
    ((ltb-true 0 (length text) second.0, all_digits base text second.1), same, ltb-true (digits_value base text) 65536 first.1))
    (λ off. absurd (none-some n (rw off at is)))
    (cases_Bool (ltb 0 (length text) && list_all (λ d. is_digit d base) text && ltb (digits_value base text) 65536))

-- what std reads of digits
pub parsed-word : {E : Type 0} (base : ℕ) (text : List ℕ) (r : Result ℕ E) → base ≤ 16 → list_all (λ d. is_digit d base) text ≡ true → ParsesUnsigned 16 base text r → result_ok r ≡ word_number base text
parsed-word base text (Ok x) few all parses =
    let digits = all_digits base text all in
    let plain = without_leading_plus_none text (no_plus base text few digits) in
    let read : OkIff {E = Unit {0}} (Ok x) (IsNumeral base text × (digits_value base text < 2 ^ 16)) (digits_value base text) = rw plain at parses in
    ap Some read.1 ∙ sym (word_number-some base text read.0.0 (omega (arith, read.0.1)))
parsed-word base text (Err e) few all parses =
    let digits = all_digits base text all in
    let plain = without_leading_plus_none text (no_plus base text few digits) in
    let never = rw plain at parses in
    sym (word_number-none base text all (λ some small. never ((some, digits), omega (arith, small))))
