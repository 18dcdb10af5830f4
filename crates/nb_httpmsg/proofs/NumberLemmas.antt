-- Decimals without leading zeros are the same number only where they are the same digits.
use Rattle.std.proofs.Common.{◌≡◌, ◌≤◌, ◌<◌, ℕ, zero, suc, ◌+◌, ◌*◌, ◌&&◌, List, [], ◌∷◌, length, get_or, Bool, true, false, refl, ap, ◌∙◌, sym, arith, eqb, ltb, leb}
use Rattle.std.specs.List.{list_all}
use Rattle.std.specs.Char.{is_ascii_digit, digit_value}
use Rattle.std.specs.Str.Parse.{digits_value, digits_value_after}
use Rattle.std.specs.Int.{IsInRange}
use Rattle.std.proofs.lemmas.Bool.{false≢true, leb-true, and_parts, ltb-true, ltb-false, eqb-true, eqb-false, and_from, eq-eqb, ne_eqb}
use Rattle.std.proofs.lemmas.Str.{digit_value_digit}
use Rattle.std.specs.Bool.{Decides}
use Rattle.std.specs.Str.{bytes_eq}
use Rattle.std.proofs.lemmas.Slice.Eq.{bytes_eq-Decides}
use Rattle.nb_responses.specs.Heads.{is_decimal, has_decimal_value}

abbrev AreDigits : List ℕ → Type 0
AreDigits ds = list_all is_ascii_digit ds ≡ true

either : {Z : Type 0} (b : Bool) → (b ≡ true → Z) → (b ≡ false → Z) → Z
either true f g = f refl
either false f g = g refl

pub first_digit : (d : ℕ) (ds : List ℕ) → AreDigits (d ∷ ds) → digit_value d + 48 ≡ d
first_digit d ds are = digit_value_digit d (in_range d (and_parts _ _ are).0)
  where
    in_range : (d : ℕ) → is_ascii_digit d ≡ true → IsInRange 48 57 d
    in_range d is = let parts : (leb 48 d ≡ true) × (leb d 57 ≡ true) = and_parts _ _ is in (leb-true 48 d parts.0, leb-true d 57 parts.1)

small_digit : (d : ℕ) (ds : List ℕ) → AreDigits (d ∷ ds) → digit_value d ≤ 9
small_digit d ds are = let last : d ≤ 57 = leb-true d 57 (and_parts _ _ (and_parts _ _ are).0).1 in omega (arith, last, first_digit d ds are)

more_digits : (d : ℕ) (ds : List ℕ) → AreDigits (d ∷ ds) → AreDigits ds
more_digits d ds are = (and_parts _ _ are).1

-- after a larger number, as many digits make a larger number
larger_after : (xs ys : List ℕ) (n m : ℕ) → length xs ≡ length ys → AreDigits xs → AreDigits ys → n < m → digits_value_after 10 n xs < digits_value_after 10 m ys
larger_after [] [] n m same are also l = l
larger_after [] (y ∷ ys) n m same are also l = absurd (apart (length ys) same)
  where
    apart : (k : ℕ) → 0 ≡ suc k → ⊥
    apart k e = omega (arith, e)
larger_after (x ∷ xs) [] n m same are also l = absurd (apart (length xs) same)
  where
    apart : (k : ℕ) → suc k ≡ 0 → ⊥
    apart k e = omega (arith, e)
larger_after (x ∷ xs) (y ∷ ys) n m same are also l =
    larger_after xs ys (n * 10 + digit_value x) (m * 10 + digit_value y) (omega (arith, same)) (more_digits x xs are) (more_digits y ys also)
    (omega (arith, l, small_digit x xs are))

-- more digits after a number that isn't 0 make a larger number
pub longer_larger : (xs ys : List ℕ) (m : ℕ) → length xs ≤ length ys → 0 < m → AreDigits xs → AreDigits ys → digits_value_after 10 0 xs < digits_value_after 10 m ys
longer_larger xs [] m short l are also = larger_after xs [] 0 m (omega (arith, short)) are also l
longer_larger xs (y ∷ ys) m short l are also = either (eqb (length xs) (suc (length ys)))
    (λ on. larger_after xs (y ∷ ys) 0 m (eqb-true _ _ on) are also l)
    (λ off. longer_larger xs ys (m * 10 + digit_value y) (less (length xs) (length ys) short (eqb-false _ _ off)) (omega (arith, l)) are (more_digits y ys also))
  where
    less : (a b : ℕ) → a ≤ suc b → (a ≡ suc b → ⊥) → a ≤ b
    less a b l apart = omega (arith, l, apart)

same_after : (xs ys : List ℕ) (n : ℕ) → length xs ≡ length ys → AreDigits xs → AreDigits ys → digits_value_after 10 n xs ≡ digits_value_after 10 n ys → xs ≡ ys
same_after [] [] n same are also e = refl
same_after [] (y ∷ ys) n same are also e = absurd (apart (length ys) same)
  where
    apart : (k : ℕ) → 0 ≡ suc k → ⊥
    apart k e = omega (arith, e)
same_after (x ∷ xs) [] n same are also e = absurd (apart (length xs) same)
  where
    apart : (k : ℕ) → suc k ≡ 0 → ⊥
    apart k e = omega (arith, e)
same_after (x ∷ xs) (y ∷ ys) n same are also e =
    let long : length xs ≡ length ys = omega (arith, same) in
    let more : AreDigits xs = more_digits x xs are in
    let more_too : AreDigits ys = more_digits y ys also in
    either (ltb (digit_value x) (digit_value y))
    (λ less. absurd (not_less _ _ (larger_after xs ys (n * 10 + digit_value x) (n * 10 + digit_value y) long more more_too (omega (arith, ltb-true _ _ less))) e))
    (λ no. either (ltb (digit_value y) (digit_value x))
    (λ less. absurd (not_less _ _ (larger_after ys xs (n * 10 + digit_value y) (n * 10 + digit_value x) (sym long) more_too more (omega (arith, ltb-true _ _ less))) (sym e)))
    (λ nor.
    let value : digit_value x ≡ digit_value y = omega (arith, ltb-false _ _ no, ltb-false _ _ nor) in
    let digit : x ≡ y = omega (arith, value, first_digit x xs are, first_digit y ys also) in
    let rest : xs ≡ ys = same_after xs ys (n * 10 + digit_value y) long more more_too (ap (λ d. digits_value_after 10 (n * 10 + d) xs) (sym value) ∙ e) in
    ap (λ d. d ∷ xs) digit ∙ ap (λ ds. y ∷ ds) rest))
  where
    not_less : (a b : ℕ) → a < b → a ≡ b → ⊥
    not_less a b l e = omega (arith, l, e)

shorter_less : (xs ys : List ℕ) → length xs < length ys → AreDigits xs → AreDigits ys → (get_or ys 0 0 ≡ 48 → ⊥) → digits_value 10 xs < digits_value 10 ys
shorter_less xs [] short are also first = absurd (none_below (length xs) short)
  where
    none_below : (k : ℕ) → k < 0 → ⊥
    none_below k l = omega (arith, l)
shorter_less xs (y ∷ ys) short are also first =
    longer_larger xs ys (0 * 10 + digit_value y) (omega (arith, short)) (positive y (digit_value y) (first_digit y ys also) first) are (more_digits y ys also)
  where
    positive : (y d : ℕ) → d + 48 ≡ y → (y ≡ 48 → ⊥) → 0 < 0 * 10 + d
    positive y d e apart = omega (arith, e, apart)

pub same_digits : (xs ys : List ℕ) → AreDigits xs → AreDigits ys → (get_or xs 0 0 ≡ 48 → ⊥) → (get_or ys 0 0 ≡ 48 → ⊥) → digits_value 10 xs ≡ digits_value 10 ys → xs ≡ ys
same_digits xs ys are also first first_too e = either (ltb (length xs) (length ys))
    (λ less. absurd (not_less _ _ (shorter_less xs ys (ltb-true _ _ less) are also first_too) e))
    (λ no. either (ltb (length ys) (length xs))
    (λ less. absurd (not_less _ _ (shorter_less ys xs (ltb-true _ _ less) also are first) (sym e)))
    (λ nor. same_after xs ys 0 (omega (arith, ltb-false _ _ no, ltb-false _ _ nor)) are also e))
  where
    not_less : (a b : ℕ) → a < b → a ≡ b → ⊥
    not_less a b l e = omega (arith, l, e)

pub digit_here : (ds : List ℕ) (i : ℕ) → AreDigits ds → i < length ds → digit_value (get_or ds i 0) + 48 ≡ get_or ds i 0
digit_here [] i are l = absurd (none_below i l)
  where
    none_below : (k : ℕ) → k < 0 → ⊥
    none_below k l = omega (arith, l)
digit_here (d ∷ ds) zero are l = first_digit d ds are
digit_here (d ∷ ds) (suc i) are l = digit_here ds i (more_digits d ds are) (omega (arith, l))

pub same_number : (text number xs ys : List ℕ) (r : Bool) → is_decimal text ≡ true → AreDigits xs → AreDigits ys → (get_or xs 0 0 ≡ 48 → ⊥) → (get_or ys 0 0 ≡ 48 → ⊥)
    → digits_value 10 xs ≡ digits_value 10 text → digits_value 10 ys ≡ digits_value 10 number → r ≡ bytes_eq xs ys → r ≡ has_decimal_value (digits_value 10 number) text
same_number text number xs ys r decimal are also first first_too value value_too is =
    let decides : Decides (bytes_eq xs ys) (xs ≡ ys) = bytes_eq-Decides xs ys in
    is ∙ either (bytes_eq xs ys)
    (λ on. let e : digits_value 10 text ≡ digits_value 10 number = sym value ∙ ap (digits_value 10) (decides.0 on) ∙ value_too in
    on ∙ sym (and_from _ _ decimal (eq-eqb _ _ e)))
    (λ off. let apart : eqb (digits_value 10 text) (digits_value 10 number) ≡ false = ne_eqb _ _ (λ e. false≢true (sym off ∙ decides.1 (same_digits xs ys are also first first_too (value ∙ e ∙ sym value_too)))) in
    off ∙ sym (ap (λ b. is_decimal text && b) apart ∙ ap (λ b. b && false) decimal))
