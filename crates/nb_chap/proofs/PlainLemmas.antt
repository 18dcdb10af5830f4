-- The texts of binary values hold no zero byte, for those who put them into messages.
use Rattle.std.proofs.Common.{◌≡◌, ◌<◌, ◌/◌, ◌%◌, ◌||◌, ℕ, zero, suc, List, [], ◌∷◌, ◌++◌, Some, Bool, true, false, slice_index, refl, subst, arith, eqb}
use Rattle.std.specs.List.{list_any}
use Rattle.std.specs.Int.{to_le_bytes, to_be_bytes, w32}
use Rattle.std.proofs.lemmas.Bool.{or_from, eqb-true}
use Rattle.hex.specs.Hex.{encode_with, encode_lower, lower_digits, hex_digit_value}
use Rattle.hex.proofs.HexLemmas.{IsDigits-lower_digits}
use Rattle.md5.specs.Md5.{md5, digest_bytes}
use Rattle.nb_chap.specs.Responses.{chap_response}
use Rattle.nb_chap.specs.Values.{binary_text}

abbrev pub holds_zero : List ℕ → Bool
holds_zero bytes = list_any (λ byte. eqb byte 0) bytes

abbrev pub AreBytes : List ℕ → Type 0
AreBytes [] = Unit {0}
AreBytes (byte ∷ bytes) = (byte < 256) × AreBytes bytes

pub bytes-append : (a b : List ℕ) → AreBytes a → AreBytes b → AreBytes (a ++ b)
bytes-append [] b first second = second
bytes-append (byte ∷ a) b first second = (first.0, bytes-append a b first.1 second)

low-first : (n : ℕ) → AreBytes (to_le_bytes w32 n)
low-first n = (omega arith, (omega arith, (omega arith, (omega arith, tt))))

pub high-first : (n : ℕ) → AreBytes (to_be_bytes w32 n)
high-first n = (omega arith, (omega arith, (omega arith, (omega arith, tt))))

digest-bytes : (h : List ℕ) (n : ℕ) → AreBytes (digest_bytes h n)
unfolding digest_bytes
digest-bytes h zero = tt
digest-bytes h (suc n) = bytes-append (digest_bytes h n) (to_le_bytes w32 (slice_index h n)) (digest-bytes h n) (low-first (slice_index h n))

pub response-bytes : (identifier : ℕ) (secret challenge : List ℕ) → AreBytes (chap_response identifier secret challenge)
unfolding chap_response md5
response-bytes identifier secret challenge = digest-bytes _ 4

not-so : (b : Bool) → (b ≡ true → ⊥) → b ≡ false
not-so true never = absurd (never refl)
not-so false never = refl

-- none of the sixteen digits is zero
digit-plain : (d : ℕ) → d < 16 → eqb (slice_index lower_digits d) 0 ≡ false
digit-plain d few = not-so (eqb (slice_index lower_digits d) 0)
    (λ on.
    let none : hex_digit_value 0 ≡ Some d = subst (λ (n : ℕ). hex_digit_value n ≡ Some d) (eqb-true (slice_index lower_digits d) 0 on) (IsDigits-lower_digits d few) in
    absurd cc)

digits-plain : (bytes : List ℕ) → AreBytes bytes → holds_zero (encode_lower bytes) ≡ false
unfolding encode_with
digits-plain [] fits = refl
digits-plain (byte ∷ bytes) fits =
    let small : byte < 256 = fits.0 in
    or_from (eqb (slice_index lower_digits (byte / 16)) 0) _ (digit-plain (byte / 16) (omega arith))
    (or_from (eqb (slice_index lower_digits (byte % 16)) 0) _ (digit-plain (byte % 16) (omega arith)) (digits-plain bytes fits.1))

pub binary-plain : (bytes : List ℕ) → AreBytes bytes → holds_zero (binary_text bytes) ≡ false
binary-plain bytes fits = digits-plain bytes fits
