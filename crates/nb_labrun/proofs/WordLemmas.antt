-- The words `lab N`, and what `parse` reads of N; and the other words of the program.
use Rattle.std.proofs.Common.{◌≡◌, ◌≢◌, ◌↔◌, inl, inr, ℕ, zero, suc, ◌^◌, ◌<◌, ◌≤◌, List, [], ◌∷◌, length, map, get_or, Result, Ok, Err, Option, None, Some, IfSome, codes, decimal, refl, sym, ap, ◌∙◌, subst, arith}
use Rattle.std.specs.Result.{OkIff}
use Rattle.std.specs.Str.Parse.{ParsesUnsigned, IsNumeral, digits_value}
use Rattle.std.proofs.lemmas.Fmt.{decimal_injective, decimal-digits_value, decimal_is_IsNumeral, decimal_digit, first_decimal}
use Rattle.std.proofs.lemmas.Str.Parse.{numerals_by_value, tells_digits, without_leading_plus_none}
use Rattle.nb_boot.specs.Words.{AreWords}
use Rattle.nb_labrun.specs.Words.{IsLabNumber, NamesLab, AreLabWords, AreProgramWords}

-- no number begins with a byte below the digit one
pub number-first : (text : List ℕ) (n : ℕ) → IsLabNumber text n → 48 < get_or text 0 0
number-first text n is = rw is.spelled (first_decimal n is.low (omega (arith, is.high)))

positive : (n : ℕ) (text : List ℕ) → decimal n ≡ text → get_or text 0 0 ≢ 48 → 0 < n
positive zero text same first = absurd (first (ap (λ ds. get_or ds 0 0) (sym same ∙ decimal_digit 0 (omega arith))))
positive (suc n) text same first = omega arith

-- what is read of a text that begins with neither a plus nor a zero
pub number-read : {E : Type 0} (text : List ℕ) (n : ℕ) (r : Result ℕ E) → ParsesUnsigned 8 10 text r → r ≡ Ok n → get_or text 0 0 ≢ 43 → get_or text 0 0 ≢ 48 → n ≤ 64 → IsLabNumber text n
number-read {E = E} text n (Ok m) parses is plus first few =
    let read : OkIff {E = E} (Ok m) (IsNumeral 10 text × (digits_value 10 text < 2 ^ 8)) (digits_value 10 text) = rw (without_leading_plus_none text plus) at parses in
    let same = decimal-digits_value (numerals_by_value _ tells_digits) text read.0.0.1 read.0.0.0 (λ e. absurd (first e)) (omega (arith, read.0.1)) in
    let value : n ≡ digits_value 10 text = cc (is, read.1) in
    record { low = rw value (positive (digits_value 10 text) text same first); high = few; spelled = rw value (sym same) }
number-read {E = E} text n (Err e) parses is plus first few = absurd (cc is)

-- a number is read as itself
pub number-reads : {E : Type 0} (text : List ℕ) (n : ℕ) (r : Result ℕ E) → ParsesUnsigned 8 10 text r → get_or text 0 0 ≢ 43 → IsLabNumber text n → r ≡ Ok n
number-reads {E = E} text n (Ok m) parses plus is =
    let read : OkIff {E = E} (Ok m) (IsNumeral 10 text × (digits_value 10 text < 2 ^ 8)) (digits_value 10 text) = rw (without_leading_plus_none text plus) at parses in
    let numeral = decimal_is_IsNumeral n (omega (arith, is.high)) in
    ap Ok (read.1 ∙ ap (digits_value 10) is.spelled ∙ numeral.1)
number-reads {E = E} text n (Err e) parses plus is =
    let read : OkIff {E = E} (Err e) (IsNumeral 10 text × (digits_value 10 text < 2 ^ 8)) (digits_value 10 text) = rw (without_leading_plus_none text plus) at parses in
    let numeral = decimal_is_IsNumeral n (omega (arith, is.high)) in
    let digits : IsNumeral 10 text = rw is.spelled numeral.0 in
    let value : digits_value 10 text ≡ n = ap (digits_value 10) is.spelled ∙ numeral.1 in
    absurd (read (digits, omega (arith, value, is.high)))

-- two words
pub two : {A B : Type 0} (f : A → B) (words : List A) (x y : A) → 2 ≤ length words → length words < 3 → x ≡ get_or words 0 x → y ≡ get_or words 1 y → map f words ≡ f x ∷ f y ∷ []
two f [] x y least most first second = absurd (omega arith)
two f (a ∷ []) x y least most first second = absurd (omega arith)
two f (a ∷ b ∷ []) x y least most first second = rw (first, second) refl
two f (a ∷ b ∷ c ∷ more) x y least most first second = absurd (omega arith)

-- two words, of which the second writes a number
pub named : (r : Option ℕ) (text : List ℕ) (words : List (List ℕ)) → IfSome r (IsLabNumber text) → words ≡ codes "lab" ∷ text ∷ [] → IfSome r (NamesLab words)
named None text words h are = tt
named (Some n) text words h are = record { text = text; numbered = h; are = are }

-- words name one number
pub one_number : (words : List (List ℕ)) (m n : ℕ) → NamesLab words m → NamesLab words n → m ≡ n
one_number words m n a b =
    let texts : a.text ≡ b.text = ap (λ (ws : List (List ℕ)). get_or ws 1 []) (sym a.are ∙ b.are) in
    decimal_injective m n (omega (arith, a.numbered.high)) (omega (arith, b.numbered.high)) (sym a.numbered.spelled ∙ texts ∙ b.numbered.spelled)

-- words for a lab are of no other form
pub one_form : (words : List (List ℕ)) (n : ℕ) → NamesLab words n → AreWords words → ⊥
one_form words n named are =
    let both : AreWords (codes "lab" ∷ named.text ∷ []) = subst AreWords named.are are in
    let second : 97 ≡ 105 = ap (λ (ds : List ℕ). get_or ds 1 0) both.0 in
    absurd (omega (arith, second))

-- where words aren't for a lab, those of no other form are invalid
pub no_form : (words : List (List ℕ)) (P : Type 0) → (AreLabWords words → ⊥) → P ↔ (AreWords words → ⊥) → P ↔ (AreProgramWords words → ⊥)
no_form words P none bad = (λ p either. elim either [ inl are ↦ bad.0 p are | inr lab ↦ none lab ], λ no. bad.1 (λ are. no (inl are)))
