-- Eight bytes as one little-endian number.
use Rattle.std.proofs.Common.{◌≡◌, ℕ, Bool, true, false, ◌+◌, ◌*◌, ◌/◌, ◌%◌, ◌<◌, List, [], ◌∷◌, ◌++◌, length, take, drop, sum, ap, ◌∙◌, arith}
use Rattle.std.proofs.lemmas.List.{take-append-drop, length-append, length-drop}
use Rattle.nb_wire.proofs.ChecksumLaws.{sum-words-append}
use Rattle.std.specs.Int.{w64, from_le_bytes, from_bool}
use Rattle.nb_wire.specs.Checksum.{words, SameSum}

pub turned_sum : (xs : List ℕ) → length xs ≡ 8 → SameSum (256 * from_le_bytes w64 xs) (sum (words xs))
turned_sum [] h = absurd (omega arith)
turned_sum (a ∷ []) h = absurd (omega arith)
turned_sum (a ∷ b ∷ []) h = absurd (omega arith)
turned_sum (a ∷ b ∷ c ∷ []) h = absurd (omega arith)
turned_sum (a ∷ b ∷ c ∷ d ∷ []) h = absurd (omega arith)
turned_sum (a ∷ b ∷ c ∷ d ∷ e ∷ []) h = absurd (omega arith)
turned_sum (a ∷ b ∷ c ∷ d ∷ e ∷ f ∷ []) h = absurd (omega arith)
turned_sum (a ∷ b ∷ c ∷ d ∷ e ∷ f ∷ g ∷ []) h = absurd (omega arith)
turned_sum (a ∷ b ∷ c ∷ d ∷ e ∷ f ∷ g ∷ i ∷ []) h = (omega arith, λ z. omega arith, λ z. omega arith)
turned_sum (a ∷ b ∷ c ∷ d ∷ e ∷ f ∷ g ∷ i ∷ j ∷ xs) h = absurd (omega arith)

-- a front that is summed goes from what is left to the sum
pub turned_step : (n : ℕ) (rest front after : List ℕ) (t u s : ℕ) → n % 2 ≡ 0 → front ≡ take n rest → after ≡ drop n rest → length after + n ≡ length rest → SameSum (256 * u) (256 * t + sum (words front)) → SameSum (256 * t + sum (words rest)) s → SameSum (256 * u + sum (words after)) s
turned_step n rest front after t u s even f a len same all =
    let whole : length (take n rest ++ drop n rest) ≡ length rest = ap length (take-append-drop n rest) in
    let front_len : length (take n rest) ≡ n = omega (arith, whole, length-append (take n rest) (drop n rest), ap length a, len) in
    let cut : sum (words (take n rest ++ drop n rest)) ≡ sum (words (take n rest)) + sum (words (drop n rest)) = sum-words-append (take n rest) (drop n rest) (ap (λ k. k % 2) front_len ∙ even) in
    let joined : sum (words (take n rest ++ drop n rest)) ≡ sum (words rest) = ap (λ l. sum (words l)) (take-append-drop n rest) in
    let front_sum : sum (words front) ≡ sum (words (take n rest)) = ap (λ l. sum (words l)) f in
    let after_sum : sum (words after) ≡ sum (words (drop n rest)) = ap (λ l. sum (words l)) a in
    let e : sum (words rest) ≡ sum (words front) + sum (words after) = omega (arith, cut, joined, front_sum, after_sum) in
    (omega (arith, e, same.0, all.0), λ z. all.1 (omega (arith, e, z, same.1 (omega (arith, z)))), λ z. omega (arith, e, all.2 z, same.2 (omega (arith, e, all.2 z))))

-- all whole words of what is left
pub turned_split : (n : ℕ) (rest front last : List ℕ) (t u s : ℕ) → n ≡ length rest / 8 * 8 → front ≡ take n rest → last ≡ drop n rest → SameSum (256 * u) (256 * t + sum (words front)) → SameSum (256 * t + sum (words rest)) s → SameSum (256 * u + sum (words last)) s
turned_split n rest front last t u s is f a same all =
    turned_step n rest front last t u s (omega (arith, is)) f a (omega (arith, is, ap length a, length-drop n rest)) same all

-- a carry out of 64 bits counts as 1
pub carry_counts : (total : ℕ) (carry : Bool) (n : ℕ) → total + 18446744073709551616 * from_bool carry ≡ n → SameSum (total + from_bool carry) n
carry_counts total false n e = (omega (arith, e), λ z. omega (arith, e, z), λ z. omega (arith, e, z))
carry_counts total true n e = (omega (arith, e), λ z. omega (arith, e, z), λ z. omega (arith, e, z))

-- and it finds room at the bottom
pub carry_fits : (total : ℕ) (carry : Bool) (t w : ℕ) → total < 18446744073709551616 → t < 18446744073709551616 → w < 18446744073709551616 → total + 18446744073709551616 * from_bool carry ≡ t + w → total + from_bool carry < 18446744073709551616
carry_fits total false t w h a b e = omega (arith, h)
carry_fits total true t w h a b e = omega (arith, a, b, e)

-- a word is added to the sum
pub turned_added : (u t w x : ℕ) → SameSum u (t + w) → SameSum (256 * w) x → SameSum (256 * u) (256 * t + x)
turned_added u t w x sum word =
    (omega (arith, sum.0, word.0), λ z. omega (arith, sum.1 (omega (arith, z)), word.1 (omega (arith, sum.1 (omega (arith, z))))), λ z. omega (arith, sum.2 (omega (arith, z, word.2 (omega (arith, z))))))

-- the sum with its bytes turned back, and what is left
pub turned_end : (t f l r s : ℕ) → f % 65535 ≡ t % 65535 → (f ≡ 0 → t ≡ 0) → (t ≡ 0 → f ≡ 0) → SameSum r l → SameSum (256 * t + l) s → SameSum (256 * f + r) s
turned_end t f l r s same zero none rest all =
    (omega (arith, same, rest.0, all.0), λ z. all.1 (omega (arith, zero (omega (arith, z)), rest.1 (omega (arith, z)))), λ z. omega (arith, none (omega (arith, all.2 z)), rest.2 (omega (arith, all.2 z))))

-- the sum of what is left
pub turned_last : (t r l s : ℕ) → SameSum r l → SameSum (256 * t + l) s → SameSum (256 * t + r) s
turned_last t r l s rest all =
    (omega (arith, rest.0, all.0), λ z. all.1 (omega (arith, z, rest.1 (omega (arith, z)))), λ z. omega (arith, all.2 z, rest.2 (omega (arith, all.2 z))))

-- a sum that isn't turned, with another before it, is turned and added
pub turned_whole : (u t r before s : ℕ) → SameSum u (t + 256 * (before + r)) → SameSum (256 * t + r) s → SameSum (256 * u) (before + s)
turned_whole u t r before s sum all =
    (omega (arith, sum.0, all.0), λ z. omega (arith, sum.1 (omega (arith, z)), all.1 (omega (arith, sum.1 (omega (arith, z))))), λ z. omega (arith, sum.2 (omega (arith, z, all.2 (omega (arith, z))))))

-- what is left has no byte where all were taken
pub turned_all : (rest : List ℕ) (t s : ℕ) → length rest < 8 → length rest % 8 ≡ 0 → SameSum (256 * t + sum (words rest)) s → SameSum (256 * t) s
turned_all [] t s short eights all = (omega (arith, all.0), λ z. all.1 (omega (arith, z)), λ z. omega (arith, all.2 z))
turned_all (x ∷ rest) t s short eights all = absurd (omega arith)
