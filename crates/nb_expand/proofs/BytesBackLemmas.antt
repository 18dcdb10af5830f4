-- The bytes of the number of some bytes are those bytes.
use Rattle.std.proofs.Common.{◌≡◌, ℕ, zero, suc, ◌+◌, ◌*◌, ◌-◌, ◌/◌, ◌^◌, ◌<◌, ◌≤◌, false, List, [], ◌∷◌, ◌++◌, drop, get_or, codes, Some, ℤ, pos, negsuc, refl, ap, ◌∙◌, arith}
use Rattle.std.specs.Fmt.{signed_decimal, digits}
use Rattle.std.specs.Int.{cast_signed, cast_unsigned, from_be_bytes, to_be_bytes, w32}
use Rattle.std.proofs.Math.Logic.{⊎_elim}
use Rattle.std.proofs.lemmas.Bool.{cases_lt, lt-ltb, le-ltb, le-leb, lt-leb}
use Rattle.std.proofs.lemmas.Bool.Decides.{nat_tests}
use Rattle.std.proofs.lemmas.Int.{of_z-to_z}
use Rattle.std.proofs.lemmas.Nat.{be_bytes_4}
use Rattle.nb_expand.specs.Numbers.{sign_fill, signed_of, printed_signed, printed_unsigned, within, number_bytes, parsed_signed, parsed_unsigned}
use Rattle.nb_expand.proofs.NumberBackLemmas.{IsSmall, signed_number_of-printed, number_of-printed_hex}

abbrev pub AreBytes : List ℕ → Type 0
AreBytes bytes = (i : ℕ) → get_or bytes i 0 < 256

four_small : (a b c d : ℕ) → a < 256 → b < 256 → c < 256 → d < 256 → AreBytes (a ∷ b ∷ c ∷ d ∷ [])
four_small a b c d ha hb hc hd zero = ha
four_small a b c d ha hb hc hd (suc zero) = hb
four_small a b c d ha hb hc hd (suc (suc zero)) = hc
four_small a b c d ha hb hc hd (suc (suc (suc zero))) = hd
four_small a b c d ha hb hc hd (suc (suc (suc (suc i)))) = omega arith

abbrev word_of : ℕ → ℕ → ℕ → ℕ → ℕ
word_of a b c d = from_be_bytes w32 (a ∷ b ∷ c ∷ d ∷ [])

word_is : (a b c d : ℕ) → word_of a b c d ≡ a * 16777216 + b * 65536 + c * 256 + d
word_is a b c d = omega arith

word_bytes : (a b c d : ℕ) → a < 256 → b < 256 → c < 256 → d < 256 → to_be_bytes w32 (word_of a b c d) ≡ a ∷ b ∷ c ∷ d ∷ []
word_bytes a b c d ha hb hc hd = be_bytes_4 (a ∷ b ∷ c ∷ d ∷ []) (word_of a b c d) refl (four_small a b c d ha hb hc hd) refl

-- the number of four bytes in two's complement has their bytes
signed_bytes : (a b c d : ℕ) → a < 256 → b < 256 → c < 256 → d < 256 → to_be_bytes w32 (cast_unsigned w32 (cast_signed w32 (word_of a b c d))) ≡ a ∷ b ∷ c ∷ d ∷ []
signed_bytes a b c d ha hb hc hd =
    let fits : word_of a b c d < 2 ^ 32 = omega (arith, word_is a b c d) in
    ap (to_be_bytes w32) (of_z-to_z w32 (word_of a b c d) fits) ∙ word_bytes a b c d ha hb hc hd

-- in which range a number of so many bytes lies
abbrev IsIn : ℕ → ℤ → Type 0
IsIn bound (pos n) = n < bound
IsIn bound (negsuc n) = n < bound

within-in : (bound : ℕ) (z : ℤ) → IsIn bound z → within bound (Some z) ≡ Some z
within-in bound (pos n) h = rw (lt-ltb n bound h) refl
within-in bound (negsuc n) h = rw (lt-ltb n bound h) refl

in_small : (bound : ℕ) (z : ℤ) → bound ≤ 2 ^ 31 → IsIn bound z → IsSmall z
in_small bound (pos n) fits h = omega arith
in_small bound (negsuc n) fits h = omega arith

-- a word below a bound, or above all but a bound
low_in : (bound m : ℕ) → bound ≤ 2 ^ 31 → m < bound → IsIn bound (cast_signed w32 m)
low_in bound m fits h = rw (lt-ltb m (2 ^ 31) (omega arith)) h

high_in : (bound m : ℕ) → bound ≤ 2 ^ 31 → m < 2 ^ 32 → 2 ^ 32 - bound ≤ m → IsIn bound (cast_signed w32 m)
high_in bound m fits small h = rw (le-ltb m (2 ^ 31) (omega arith)) (omega arith)

-- what is printed of a number that lies in the range is read as its bytes
signed_back : (size : ℕ) (z : ℤ) → 256 ^ size / 2 ≤ 2 ^ 31 → IsIn (256 ^ size / 2) z → parsed_signed size (signed_decimal z) ≡ Some (number_bytes size (cast_unsigned w32 z))
signed_back size z fits h =
    rw (signed_number_of-printed z (in_small (256 ^ size / 2) z fits h), within-in (256 ^ size / 2) z h) refl

fill_small : (bytes : List ℕ) → sign_fill bytes < 256
fill_small bytes = grind (arith, nat_tests)

filled_one : (a : ℕ) → a < 256 → IsIn 128 (signed_of (a ∷ []))
filled_one a h = ⊎_elim
    (λ (low : a < 128). rw (lt-leb 128 a low) (low_in 128 (word_of 0 0 0 a) (omega arith) (omega (arith, word_is 0 0 0 a))))
    (λ (high : 128 ≤ a). rw (le-leb 128 a high) (high_in 128 (word_of 255 255 255 a) (omega arith) (omega (arith, word_is 255 255 255 a)) (omega (arith, word_is 255 255 255 a))))
    (cases_lt a 128)

filled_two : (a b : ℕ) → a < 256 → b < 256 → IsIn 32768 (signed_of (a ∷ b ∷ []))
filled_two a b ha hb = ⊎_elim
    (λ (low : a < 128). rw (lt-leb 128 a low) (low_in 32768 (word_of 0 0 a b) (omega arith) (omega (arith, word_is 0 0 a b))))
    (λ (high : 128 ≤ a). rw (le-leb 128 a high) (high_in 32768 (word_of 255 255 a b) (omega arith) (omega (arith, word_is 255 255 a b)) (omega (arith, word_is 255 255 a b))))
    (cases_lt a 128)

filled_four : (a b c d : ℕ) → a < 256 → b < 256 → c < 256 → d < 256 → IsIn (2 ^ 31) (signed_of (a ∷ b ∷ c ∷ d ∷ []))
filled_four a b c d ha hb hc hd = ⊎_elim
    (λ (low : word_of a b c d < 2 ^ 31). low_in (2 ^ 31) (word_of a b c d) (omega arith) low)
    (λ (high : 2 ^ 31 ≤ word_of a b c d). high_in (2 ^ 31) (word_of a b c d) (omega arith) (omega (arith, word_is a b c d)) (omega (arith, high)))
    (cases_lt (word_of a b c d) (2 ^ 31))

pub signed_one_back : (a : ℕ) → a < 256 → parsed_signed 1 (printed_signed 1 (a ∷ [])) ≡ Some (a ∷ [])
signed_one_back a h =
    let fill = sign_fill (a ∷ []) in
    let small = fill_small (a ∷ []) in
    signed_back 1 (signed_of (a ∷ [])) (omega arith) (filled_one a h) ∙ ap (λ t. Some (drop 3 t)) (signed_bytes fill fill fill a small small small h)

pub signed_two_back : (a b : ℕ) → a < 256 → b < 256 → parsed_signed 2 (printed_signed 2 (a ∷ b ∷ [])) ≡ Some (a ∷ b ∷ [])
signed_two_back a b ha hb =
    let fill = sign_fill (a ∷ b ∷ []) in
    let small = fill_small (a ∷ b ∷ []) in
    signed_back 2 (signed_of (a ∷ b ∷ [])) (omega arith) (filled_two a b ha hb) ∙ ap (λ t. Some (drop 2 t)) (signed_bytes fill fill a b small small ha hb)

pub signed_four_back : (a b c d : ℕ) → a < 256 → b < 256 → c < 256 → d < 256 → parsed_signed 4 (printed_signed 4 (a ∷ b ∷ c ∷ d ∷ [])) ≡ Some (a ∷ b ∷ c ∷ d ∷ [])
signed_four_back a b c d ha hb hc hd =
    signed_back 4 (signed_of (a ∷ b ∷ c ∷ d ∷ [])) (omega arith) (filled_four a b c d ha hb hc hd) ∙ ap Some (signed_bytes a b c d ha hb hc hd)

-- and of a number without a sign
unsigned_back : (size m : ℕ) → m < 256 ^ size → m < 2 ^ 32 → parsed_unsigned size (codes "0x" ++ digits 16 false m) ≡ Some (number_bytes size m)
unsigned_back size m h small = rw (number_of-printed_hex m small, lt-ltb m (256 ^ size) h) refl

pub unsigned_one_back : (a : ℕ) → a < 256 → parsed_unsigned 1 (printed_unsigned 1 (a ∷ [])) ≡ Some (a ∷ [])
unsigned_one_back a h =
    let zero_small : 0 < 256 = omega arith in
    let is = word_is 0 0 0 a in
    unsigned_back 1 (word_of 0 0 0 a) (omega (arith, is, h)) (omega (arith, is, h)) ∙ ap (λ t. Some (drop 3 t)) (word_bytes 0 0 0 a zero_small zero_small zero_small h)

pub unsigned_two_back : (a b : ℕ) → a < 256 → b < 256 → parsed_unsigned 2 (printed_unsigned 2 (a ∷ b ∷ [])) ≡ Some (a ∷ b ∷ [])
unsigned_two_back a b ha hb =
    let zero_small : 0 < 256 = omega arith in
    let is = word_is 0 0 a b in
    unsigned_back 2 (word_of 0 0 a b) (omega (arith, is, ha, hb)) (omega (arith, is, ha, hb)) ∙ ap (λ t. Some (drop 2 t)) (word_bytes 0 0 a b zero_small zero_small ha hb)

pub unsigned_four_back : (a b c d : ℕ) → a < 256 → b < 256 → c < 256 → d < 256 → parsed_unsigned 4 (printed_unsigned 4 (a ∷ b ∷ c ∷ d ∷ [])) ≡ Some (a ∷ b ∷ c ∷ d ∷ [])
unsigned_four_back a b c d ha hb hc hd =
    let is = word_is a b c d in
    unsigned_back 4 (word_of a b c d) (omega (arith, is, ha, hb, hc, hd)) (omega (arith, is, ha, hb, hc, hd)) ∙ ap Some (word_bytes a b c d ha hb hc hd)
