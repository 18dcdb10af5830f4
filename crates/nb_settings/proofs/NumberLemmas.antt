-- The numbers of options and their decimals.
use Rattle.std.proofs.Common.{◌≡◌, ℕ, zero, suc, ◌^◌, ◌<◌, ◌≤◌, List, Option, Some, None, true, length, get_or, Ok, Err, refl, ap, ◌∙◌, sym, arith, rules, subst}
use Rattle.std.specs.Char.{is_ascii_digit}
use Rattle.std.specs.Fmt.{decimal}
use Rattle.std.specs.Int.{IsInRange}
use Rattle.std.specs.List.{list_all}
use Rattle.std.specs.declared.result.Result.{Result}
use Rattle.std.specs.Borrow.{Bor}
use Rattle.std.specs.Result.{OkIff, MatchResult, result_ok}
use Rattle.std.specs.Str.{bytes_eq, IsUtf8}
use Rattle.std.specs.Str.Parse.{digits_value, ParsesUnsigned}
use Rattle.std.proofs.lemmas.Fmt.{decimal_injective, first_decimal, digits_decimal, decimal-digits_value, parse-decimal, IsAscii-decimal, decimal_digit, decimal_nonempty, decimal_is_IsNumeral}
use Rattle.std.proofs.lemmas.Str.{IsUtf8-from_ascii}
use Rattle.std.proofs.lemmas.Str.Parse.{IsNumeralModel, numerals_by_value, parse_plain, digit_at}
use Rattle.std.proofs.lemmas.Option.{same_Some}
use Rattle.std.proofs.lemmas.Slice.Eq.{bytes_eq-Decides}
use Rattle.nb_settings.specs.Names.{IsNumber, number_read}
use Rattle.nb_settings.proofs.FindLemmas.{find-in_range, find-of_range}

own : IsNumeralModel (λ ds. list_all is_ascii_digit ds ≡ true) (digits_value 10)
own = numerals_by_value _ (search rules)

pub decimal_digits : (n : ℕ) → IsNumber n → list_all is_ascii_digit (decimal n) ≡ true
decimal_digits n is = digits_decimal own n (omega (arith, is.1))

-- a number is read from its decimal
pub number_read-decimal : (text : List ℕ) (n : ℕ) → IsNumber n → text ≡ decimal n → number_read text ≡ Some n
unfolding number_read
number_read-decimal text n is same =
    find-of_range (λ k. bytes_eq text (decimal k)) 1 254 n is.0 (omega (arith, is.1)) ((bytes_eq-Decides text (decimal n)).1 same)
    (λ k low high passes. decimal_injective k n (omega arith) (omega (arith, is.1)) (sym ((bytes_eq-Decides text (decimal k)).0 passes) ∙ same))

-- and from nothing else
pub number_read-some : (text : List ℕ) (n : ℕ) → number_read text ≡ Some n → IsNumber n × (text ≡ decimal n)
unfolding number_read
number_read-some text n is =
    let found = find-in_range (λ k. bytes_eq text (decimal k)) 1 254 n is in
    ((found.0, omega (arith, found.1)), (bytes_eq-Decides text (decimal n)).0 found.2)

none_by : (text : List ℕ) (read : Option ℕ) → ((n : ℕ) → read ≡ Some n → ⊥) → read ≡ None
none_by text None other = refl
none_by text (Some n) other = absurd (other n refl)

pub number_read-none : (text : List ℕ) → ((n : ℕ) → IsNumber n → text ≡ decimal n → ⊥) → number_read text ≡ None
number_read-none text other =
    none_by text (number_read text) (λ n is. let read = number_read-some text n is in other n read.0 read.1)

-- zero alone has a decimal that begins with `0`
positive : (n : ℕ) (text : List ℕ) → text ≡ decimal n → 48 < get_or text 0 0 → 1 ≤ n
positive zero text same first =
    let is : get_or text 0 0 ≡ 48 = ap (λ (t : List ℕ). get_or t 0 0) (same ∙ decimal_digit 0 (omega arith)) in
    absurd (omega arith)
positive (suc n) text same first = omega arith

parsed_at : (text : List ℕ) (n : ℕ) → ((list_all is_ascii_digit text ≡ true) × (0 < length text) × (digits_value 10 text < 2 ^ 8)) × (n ≡ digits_value 10 text) → 48 < get_or text 0 0 → n ≤ 254 → IsNumber n × (text ≡ decimal n)
parsed_at text n read first small =
    let written : decimal (digits_value 10 text) ≡ text = decimal-digits_value own text read.0.0 read.0.1 (λ zero. absurd (omega arith)) (omega (arith, read.0.2)) in
    let same : text ≡ decimal n = sym (ap decimal read.1 ∙ written) in
    ((positive n text same first, small), same)

-- what `parse` reads where no zero and no plus stands in front
pub parsed_is : {E : Type 0} (text : List ℕ) (n : ℕ) (r : Result ℕ E) → ParsesUnsigned 8 10 text r → r ≡ Ok n → 48 < get_or text 0 0 → n ≤ 254 → IsNumber n × (text ≡ decimal n)
parsed_is text n r parses is first small =
    let plain = parse_plain own 8 text r parses (λ plus. omega arith) in
    parsed_at text n (subst (λ q. OkIff q ((list_all is_ascii_digit text ≡ true) × (0 < length text) × (digits_value 10 text < 2 ^ 8)) (digits_value 10 text)) is plain) first small

-- and it reads each number from its decimal
pub parsed_from : {E : Type 0} (text : List ℕ) (n : ℕ) (r : Result ℕ E) → ParsesUnsigned 8 10 text r → IsNumber n → text ≡ decimal n → r ≡ Ok n
parsed_from text n r parses is same = parse-decimal 8 n text r (omega (arith, is.1)) (omega (arith, is.1)) same parses

-- the first byte of a number's decimal
pub decimal_first : (text : List ℕ) (n : ℕ) → IsNumber n → text ≡ decimal n → (48 < get_or text 0 0) × (get_or text 0 0 ≤ 57)
decimal_first text n is same =
    let first : 48 < get_or (decimal n) 0 0 = first_decimal n is.0 (omega (arith, is.1)) in
    let some : 0 < length (decimal n) = decimal_nonempty n (omega (arith, is.1)) in
    let digit : IsInRange 48 57 (get_or (decimal n) 0 0) = digit_at (decimal n) 0 (decimal_is_IsNumeral n (omega (arith, is.1))).0.1 some in
    let at : get_or text 0 0 ≡ get_or (decimal n) 0 0 = ap (λ (t : List ℕ). get_or t 0 0) same in
    (omega arith, omega (arith, digit))

pub decimal_utf8 : (text : List ℕ) (n : ℕ) → IsNumber n → text ≡ decimal n → IsUtf8 text
decimal_utf8 text n is same = subst IsUtf8 (sym same) (IsUtf8-from_ascii (decimal n) (IsAscii-decimal n (omega (arith, is.1))))

-- what an `ok()` says of its result
pub ok_some : {T E : Type 0} (r : Result T E) (x : T) → Some x ≡ result_ok r → r ≡ Ok x
ok_some (Ok y) x is = ap Ok (sym (same_Some x y is))
ok_some (Err e) x is = absurd cc

pub ok_none : {T E : Type 0} (r : Result T E) (x : T) → None ≡ result_ok r → r ≡ Ok x → ⊥
ok_none (Ok y) x is same = absurd cc
ok_none (Err e) x is same = absurd cc

-- the text of bytes, where they are one
pub text_is : {E : Type 0} (V : E → Type 0) (r : Result (Bor (List ℕ)) E) (t : Bor (List ℕ)) (text : List ℕ) → MatchResult r (λ s. (s.now ≡ text) × IsUtf8 text) (λ e. ¬ (IsUtf8 text) × V e) → Some t ≡ result_ok r → t.now ≡ text
text_is V (Ok s) t text cases is = ap (λ (u : Bor (List ℕ)). u.now) (same_Some t s is) ∙ cases.0
text_is V (Err e) t text cases is = absurd cc

pub no_text : {E : Type 0} (V : E → Type 0) (r : Result (Bor (List ℕ)) E) (text : List ℕ) → MatchResult r (λ s. (s.now ≡ text) × IsUtf8 text) (λ e. ¬ (IsUtf8 text) × V e) → None ≡ result_ok r → IsUtf8 text → ⊥
no_text V (Ok s) text cases is utf8 = absurd cc
no_text V (Err e) text cases is utf8 = cases.0 utf8
