-- Ports in decimal, and what `parse` reads of them.
use Rattle.std.proofs.Common.{◌≡◌, ◌↔◌, ◌≢◌, ℕ, zero, suc, ◌^◌, ◌<◌, true, List, get_or, Result, Ok, Err, decimal, refl, sym, ap, ◌∙◌, arith}
use Rattle.std.specs.Result.{OkIff, is_ok}
use Rattle.std.specs.Str.Parse.{ParsesUnsigned, IsNumeral, digits_value}
use Rattle.std.proofs.lemmas.Fmt.{decimal-digits_value, decimal_is_IsNumeral, decimal_digit, first_decimal}
use Rattle.std.proofs.lemmas.Str.Parse.{numerals_by_value, tells_digits, without_leading_plus_none}
use Rattle.nb_boot.specs.Words.{IsPortText}

-- no port begins with a byte below the digit one
pub port-first : (text : List ℕ) → IsPortText text → 48 < get_or text 0 0
port-first text is = rw is.spelled (first_decimal is.port is.low (omega (arith, is.high)))

positive : (n : ℕ) (text : List ℕ) → decimal n ≡ text → get_or text 0 0 ≢ 48 → 0 < n
positive zero text same first = absurd (first (ap (λ ds. get_or ds 0 0) (sym same ∙ decimal_digit 0 (omega arith))))
positive (suc n) text same first = omega arith

-- what is read of a text that begins with neither a plus nor a zero
pub port-read : {E : Type 0} (text : List ℕ) (r : Result ℕ E) → ParsesUnsigned 16 10 text r → get_or text 0 0 ≢ 43 → get_or text 0 0 ≢ 48 → (is_ok r ≡ true) ↔ IsPortText text
port-read {E = E} text (Ok n) parses plus first =
    let read : OkIff {E = E} (Ok n) (IsNumeral 10 text × (digits_value 10 text < 2 ^ 16)) (digits_value 10 text) = rw (without_leading_plus_none text plus) at parses in
    let same = decimal-digits_value (numerals_by_value _ tells_digits) text read.0.0.1 read.0.0.0 (λ e. absurd (first e)) (omega (arith, read.0.1)) in
    (λ _. record { port = digits_value 10 text; low = positive (digits_value 10 text) text same first; high = omega (arith, read.0.1); spelled = sym same }, λ _. refl)
port-read {E = E} text (Err e) parses plus first =
    let read : OkIff {E = E} (Err e) (IsNumeral 10 text × (digits_value 10 text < 2 ^ 16)) (digits_value 10 text) = rw (without_leading_plus_none text plus) at parses in
    let never : IsPortText text → ⊥ = λ is.
    let numeral = decimal_is_IsNumeral is.port (omega (arith, is.high)) in
    let digits : IsNumeral 10 text = rw is.spelled numeral.0 in
    let value : digits_value 10 text ≡ is.port = ap (digits_value 10) is.spelled ∙ numeral.1 in
    read (digits, omega (arith, value, is.high)) in
    (λ h. absurd (cc h), λ is. absurd (never is))
