-- Big-endian numbers of two and four bytes, by their bytes.
use Rattle.std.proofs.Common.{◌≡◌, ℕ, zero, suc, ◌+◌, ◌*◌, ◌/◌, ◌%◌, ◌<◌, List, [], ◌∷◌, ◌++◌, length, get_or, drop, drop-cons, refl, sym, ap, ◌∙◌, arith}
use Rattle.std.specs.Int.{w16, w32, to_be_bytes, from_be_bytes}
use Rattle.std.specs.List.{AllByRecursion}
use Rattle.std.proofs.lemmas.List.{drop_all}
use Rattle.std.proofs.lemmas.Nat.{be_bytes_4}
use Rattle.nb_wire.specs.Checksum.{SameSum}
use Rattle.nb_wire.proofs.BytesLaws.{IsBytes}

pub be16_bytes : (n x y : ℕ) → x < 256 → y < 256 → n ≡ 256 * x + y → to_be_bytes w16 n ≡ x ∷ y ∷ []
be16_bytes n x y hx hy e =
    let high : n / 256 % 256 ≡ x = omega arith in
    let low : n % 256 ≡ y = omega arith in
    ap (λ (k : ℕ). k ∷ n % 256 ∷ []) high ∙ ap (λ (k : ℕ). x ∷ k ∷ []) low

four_fit : (a b c d : ℕ) → a < 256 → b < 256 → c < 256 → d < 256 → IsBytes (a ∷ b ∷ c ∷ d ∷ [])
four_fit a b c d ha hb hc hd zero = ha
four_fit a b c d ha hb hc hd (suc zero) = hb
four_fit a b c d ha hb hc hd (suc (suc zero)) = hc
four_fit a b c d ha hb hc hd (suc (suc (suc zero))) = hd
four_fit a b c d ha hb hc hd (suc (suc (suc (suc i)))) = omega arith

pub be32_bytes : (n a b c d : ℕ) → a < 256 → b < 256 → c < 256 → d < 256 → n ≡ from_be_bytes w32 (a ∷ b ∷ c ∷ d ∷ []) → to_be_bytes w32 n ≡ a ∷ b ∷ c ∷ d ∷ []
be32_bytes n a b c d ha hb hc hd e = be_bytes_4 (a ∷ b ∷ c ∷ d ∷ []) n refl (four_fit a b c d ha hb hc hd) e

-- n elements of a list, from place i on
abbrev pub elements : ℕ → ℕ → List ℕ → List ℕ
elements zero i xs = []
elements (suc n) i xs = get_or xs i 0 ∷ elements n (suc i) xs

pub elements-drop : (n i : ℕ) (xs : List ℕ) → length xs ≡ i + n → elements n i xs ≡ drop i xs
elements-drop zero i xs len = sym (drop_all i xs (omega arith))
elements-drop (suc n) i xs len =
    ap (λ (x : List ℕ). get_or xs i 0 ∷ x) (elements-drop n (suc i) xs (omega arith)) ∙ sym (drop-cons xs i 0 (omega arith))

pub bytes_of : (xs : List ℕ) → AllByRecursion (λ x. x < 256) xs → IsBytes xs
bytes_of [] all i = omega arith
bytes_of (x ∷ xs) all zero = all.0
bytes_of (x ∷ xs) all (suc i) = bytes_of xs all.1 i

-- some bytes before others
pub bytes_onto : (xs ys : List ℕ) → AllByRecursion (λ x. x < 256) xs → IsBytes ys → IsBytes (xs ++ ys)
bytes_onto [] ys all rest i = rest i
bytes_onto (x ∷ xs) ys all rest zero = all.0
bytes_onto (x ∷ xs) ys all rest (suc i) = bytes_onto xs ys all.1 rest i

pub same_of : {m n : ℕ} → m ≡ n → SameSum m n
same_of e = (ap (λ k. k % 65535) e, λ z. sym e ∙ z, λ z. e ∙ z)
