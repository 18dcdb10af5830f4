-- Laws of decimals.
use Rattle.std.proofs.Common.{◌≡◌, ℕ, ◌+◌, ◌-◌, ◌*◌, ◌/◌, ◌%◌, ◌^◌, ◌<◌, ◌≤◌, List, [], ◌∷◌, ◌++◌, Option, Some, None, true, false, cond, ◌&&◌, refl, ap, ◌∙◌, sym, arith, eqb, ltb, drop, get_or, length, suc, map, lit≤, append_assoc}
use Rattle.std.specs.Char.{is_ascii_digit, digit_value}
use Rattle.std.specs.Int.{IsInRange}
use Rattle.std.specs.Int.Digits.{digits_of}
use Rattle.std.specs.List.{list_all}
use Rattle.std.specs.Str.Parse.{digits_value_after}
use Rattle.std.proofs.Math.Dec.{eqb-suc-zero}
use Rattle.std.proofs.lemmas.Bool.{false≢true, ne_eqb, eqb-true, eqb-false, lt-ltb, le-ltb, ltb-true, ltb-false}
use Rattle.std.proofs.lemmas.Int.Digits.{digits_of_step, length-digits_of-le}
use Rattle.std.proofs.lemmas.List.{drop_more, drop_all, map-append, length-map, length-append}
use Rattle.std.proofs.lemmas.Str.{digit_value_digit}
use Rattle.nb_tftpmsg.specs.Texts.{decimal, decimal_text}
use Rattle.nb_tftpmsg.proofs.TextLemmas.{either_way}

-- what the rest of a text gives after digits of a value
abbrev pub decimal_after : ℕ → ℕ → List ℕ → Option ℕ
decimal_after bound value rest = cond (list_all is_ascii_digit rest && ltb (digits_value_after 10 value rest) bound) (Some (digits_value_after 10 value rest)) None

pub digits_value_after-ge : (value : ℕ) (rest : List ℕ) → value ≤ digits_value_after 10 value rest
digits_value_after-ge value [] = omega arith
digits_value_after-ge value (c ∷ cs) =
    let more : value * 10 + digit_value c ≤ digits_value_after 10 (value * 10 + digit_value c) cs = digits_value_after-ge (value * 10 + digit_value c) cs in
    omega arith

-- a number that is too large stays so
pub decimal_after-large : (bound value : ℕ) (rest : List ℕ) → bound ≤ value → decimal_after bound value rest ≡ None
decimal_after-large bound value rest large =
    let more : value ≤ digits_value_after 10 value rest = digits_value_after-ge value rest in
    let off : ltb (digits_value_after 10 value rest) bound ≡ false = le-ltb (digits_value_after 10 value rest) bound (omega arith) in
    either_way (list_all is_ascii_digit rest) (λ digits. rw (digits, off) refl) (λ other. rw other refl)

-- a text that isn't empty is read from its front on
pub decimal-front : (bound : ℕ) (text : List ℕ) → eqb (length text) 0 ≡ false → decimal bound text ≡ decimal_after bound 0 text
decimal-front bound [] off = cc
decimal-front bound (c ∷ cs) off = rw (lt-ltb 0 (suc (length cs)) (omega arith)) refl

pub decimal-empty : (bound : ℕ) (text : List ℕ) → eqb (length text) 0 ≡ true → decimal bound text ≡ None
decimal-empty bound [] on = refl
decimal-empty bound (c ∷ cs) on = absurd (false≢true (sym (eqb-suc-zero (length cs)) ∙ on))

at_place : (bound value : ℕ) (text : List ℕ) (i : ℕ) → i < length text → decimal_after bound value (drop i text) ≡ decimal_after bound value (get_or text i 0 ∷ drop (i + 1) text)
at_place bound value text i within = ap (λ rest. decimal_after bound value rest) (drop_more text i 0 within)

pub decimal_after-other : (bound value : ℕ) (text : List ℕ) (i : ℕ) → i < length text → is_ascii_digit (get_or text i 0) ≡ false → decimal_after bound value (drop i text) ≡ None
decimal_after-other bound value text i within other = at_place bound value text i within ∙ rw other refl

pub decimal_after-digit : (bound value : ℕ) (text : List ℕ) (i : ℕ) → i < length text → is_ascii_digit (get_or text i 0) ≡ true → IsInRange 48 57 (get_or text i 0) → decimal_after bound value (drop i text) ≡ decimal_after bound (value * 10 + (get_or text i 0 - 48)) (drop (i + 1) text)
decimal_after-digit bound value text i within digit range =
    let same : digit_value (get_or text i 0) + 48 ≡ get_or text i 0 = digit_value_digit (get_or text i 0) range in
    let is : get_or text i 0 - 48 ≡ digit_value (get_or text i 0) = omega arith in
    at_place bound value text i within ∙ rw (digit, is) refl

pub decimal_after-end : (bound value : ℕ) (text : List ℕ) (i : ℕ) → length text ≤ i → value < bound → decimal_after bound value (drop i text) ≡ Some value
decimal_after-end bound value text i past small = rw (drop_all i text past, lt-ltb value bound small) refl

positive_is : (n : ℕ) → 0 < n → decimal_text n ≡ map (λ digit. 48 + digit) (digits_of 10 n)
positive_is n some =
    let off : eqb n 0 ≡ false = ne_eqb n 0 (λ zero. omega arith) in
    rw off refl

-- one digit less at the end
pub decimal_text-more : (n : ℕ) → 10 ≤ n → decimal_text n ≡ decimal_text (n / 10) ++ (48 + n % 10) ∷ []
decimal_text-more n large =
    let some : 0 < n = omega arith in
    let more : 0 < n / 10 = omega arith in
    positive_is n some
    ∙ ap (λ digits. map (λ digit. 48 + digit) digits) (digits_of_step 10 n (lit≤ tt) some)
    ∙ map-append (λ digit. 48 + digit) (digits_of 10 (n / 10)) ((n % 10) ∷ [])
    ∙ ap (λ front. front ++ (48 + n % 10) ∷ []) (sym (positive_is (n / 10) more))

pub decimal_text-last : (n : ℕ) → n < 10 → decimal_text n ≡ (48 + n) ∷ []
decimal_text-last n small = either_way (eqb n 0)
    (λ on. let zero : n ≡ 0 = eqb-true n 0 on in rw zero refl)
    (λ off.
    let other : n ≡ 0 → ⊥ = eqb-false n 0 off in
    let some : 0 < n = omega arith in
    let none : n / 10 ≡ 0 = omega arith in
    let last : n % 10 ≡ n = omega arith in
    positive_is n some
    ∙ ap (λ digits. map (λ digit. 48 + digit) digits)
    (digits_of_step 10 n (lit≤ tt) some
    ∙ ap (λ m. digits_of 10 m ++ (n % 10) ∷ []) none
    ∙ ap (λ d. d ∷ []) last))

pub length-decimal_text : (n : ℕ) → n < 2 ^ 32 → length (decimal_text n) ≤ 10
length-decimal_text n small = either_way (eqb n 0)
    (λ on. rw on (lit≤ tt))
    (λ off. rw off (rw (length-map (digits_of 10 n) (λ digit. 48 + digit)) (length-digits_of-le 10 10 n (lit≤ tt) (omega arith))))

pub length-decimal_text-5 : (n : ℕ) → n < 2 ^ 16 → length (decimal_text n) ≤ 5
length-decimal_text-5 n small = either_way (eqb n 0)
    (λ on. rw on (lit≤ tt))
    (λ off. rw off (rw (length-map (digits_of 10 n) (λ digit. 48 + digit)) (length-digits_of-le 10 5 n (lit≤ tt) (omega arith))))

pub length-decimal_text-some : (n : ℕ) → 1 ≤ length (decimal_text n)
length-decimal_text-some n = either_way (ltb n 10)
    (λ on. rw (decimal_text-last n (ltb-true n 10 on)) (lit≤ tt))
    (λ off. rw (decimal_text-more n (ltb-false n 10 off), length-append) (omega arith))

-- while digits are left there is room for one more
pub room_for_digit : (number rest : ℕ) (digits : List ℕ) → number < 2 ^ 32 → decimal_text number ≡ decimal_text rest ++ digits → length digits < 10
room_for_digit number rest digits small is =
    let all : length (decimal_text number) ≤ 10 = length-decimal_text number small in
    let some : 1 ≤ length (decimal_text rest) = length-decimal_text-some rest in
    let same : length (decimal_text number) ≡ length (decimal_text rest) + length digits = ap length is ∙ length-append (decimal_text rest) digits in
    omega arith

-- one digit more in front
pub digits-more : (number rest : ℕ) (digits new : List ℕ) → 10 ≤ rest → new ≡ (48 + rest % 10) ∷ digits → decimal_text number ≡ decimal_text rest ++ digits → decimal_text number ≡ decimal_text (rest / 10) ++ new
digits-more number rest digits new large put is =
    is ∙ ap (λ front. front ++ digits) (decimal_text-more rest large) ∙ append_assoc (decimal_text (rest / 10)) ((48 + rest % 10) ∷ []) digits ∙ ap (λ back. decimal_text (rest / 10) ++ back) (sym put)
