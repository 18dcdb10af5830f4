-- The ones' complement sum by the plain sum, and what a checksum field does to it.
use Rattle.std.proofs.Common.{◌≡◌, ℕ, zero, suc, ◌+◌, ◌*◌, ◌-◌, ◌%◌, ◌<◌, List, [], ◌∷◌, ◌++◌, length, sum, refl, sym, ap, ◌∙◌, arith, inl, inr, ◌⊎◌}
use Rattle.std.specs.Prelude.{fold}
use Rattle.std.specs.List.{AllByRecursion}
use Rattle.std.proofs.lemmas.Bool.{cases_lt}
use Rattle.std.proofs.lemmas.List.{get_or_append_left, get_or-append_right}
use Rattle.std.proofs.lemmas.List.Sums.{sum_by-cons, sum_by-append}
use Rattle.nb_wire.proofs.BytesLaws.{IsBytes}
use Rattle.nb_wire.specs.Checksum.{words, add_with_carry, checksum, SameSum, sum_word}

sum_word-same : (a b : ℕ) → SameSum a b → sum_word a ≡ sum_word b
sum_word-same zero zero s = refl
sum_word-same zero (suc b) s = absurd (omega (arith, s.1 refl))
sum_word-same (suc a) zero s = absurd (omega (arith, s.2 refl))
sum_word-same (suc a) (suc b) s = ap suc (omega (arith, s.0))

sum_word-word : (a : ℕ) → a < 65536 → sum_word a ≡ a
sum_word-word zero h = refl
sum_word-word (suc a) h = ap suc (omega arith)

same_step : (a w t : ℕ) → a < 65536 → w < 65536 → SameSum (add_with_carry a w + t) (a + (w + t))
same_step a w t ha hw = (omega arith, λ e. omega arith, λ e. omega arith)

carry_fits : (a w : ℕ) → a < 65536 → w < 65536 → add_with_carry a w < 65536
carry_fits a w ha hw = omega arith

sum-cons : (w : ℕ) (ws : List ℕ) → sum (w ∷ ws) ≡ w + sum ws
sum-cons w ws = sum_by-cons (λ x. x) w ws

-- the carries taken one after another are those of the plain sum
carries : (ws : List ℕ) (a : ℕ) → AllByRecursion (λ w. w < 65536) ws → a < 65536 → fold add_with_carry a ws ≡ sum_word (a + sum ws)
carries [] a fits ha = sym (sum_word-word a ha) ∙ ap sum_word (omega arith)
carries (w ∷ ws) a fits ha =
    carries ws (add_with_carry a w) fits.1 (carry_fits a w ha fits.0)
    ∙ sum_word-same _ _ (same_step a w (sum ws) ha fits.0)
    ∙ ap (λ n. sum_word (a + n)) (sym (sum-cons w ws))

words_fit : (bytes : List ℕ) → IsBytes bytes → AllByRecursion (λ w. w < 65536) (words bytes)
words_fit [] fits = tt
words_fit (high ∷ []) fits = (omega (arith, fits 0), tt)
words_fit (high ∷ low ∷ rest) fits = (omega (arith, fits 0, fits 1), words_fit rest (λ i. fits (suc (suc i))))

-- a checksum by the plain sum of the words
pub checksum-sum : (bytes : List ℕ) (n : ℕ) → IsBytes bytes → SameSum n (sum (words bytes)) → checksum bytes ≡ 65535 - sum_word n
unfolding checksum
checksum-sum bytes n fits same =
    ap (λ k. 65535 - k)
    (carries (words bytes) 0 (words_fit bytes fits) (omega arith)
    ∙ ap sum_word (omega arith)
    ∙ sym (sum_word-same n (sum (words bytes)) same))

-- words are not cut by an even number of bytes in front
pub words-append : (a b : List ℕ) → length a % 2 ≡ 0 → words (a ++ b) ≡ words a ++ words b
words-append [] b even = refl
words-append (x ∷ []) b even = absurd (omega arith)
words-append (x ∷ y ∷ a) b even = ap (λ ws. (256 * x + y) ∷ ws) (words-append a b (omega arith))

pub sum-words-append : (a b : List ℕ) → length a % 2 ≡ 0 → sum (words (a ++ b)) ≡ sum (words a) + sum (words b)
sum-words-append a b even = ap sum (words-append a b even) ∙ sum_by-append (λ x. x) (words a) (words b)

pub IsBytes-append : (a b : List ℕ) → IsBytes a → IsBytes b → IsBytes (a ++ b)
IsBytes-append a b p q i =
    elim (cases_lt i (length a)) [
      | inl lt ↦ rw (get_or_append_left a b 0 i lt) (p i)
      | inr le ↦ rw (get_or-append_right a b (length a) i 0 refl le) (q (i - length a))
    ]

-- a number for each of two parts stands for both
pub SameSum-parts : (a b : List ℕ) (m n : ℕ) → length a % 2 ≡ 0 → SameSum m (sum (words a)) → SameSum n (sum (words b)) → SameSum (m + n) (sum (words (a ++ b)))
SameSum-parts a b m n even first second =
    let e = sum-words-append a b even in
    (omega (arith, e, first.0, second.0), λ z. omega (arith, e, first.1 (omega arith), second.1 (omega arith)), λ z. omega (arith, e, first.2 (omega (arith, e)), second.2 (omega (arith, e))))

pub SameSum-refl : (a : ℕ) → SameSum a a
SameSum-refl a = (refl, λ z. z, λ z. z)

pub SameSum-trans : (a b c : ℕ) → SameSum a b → SameSum b c → SameSum a c
SameSum-trans a b c first second = (first.0 ∙ second.0, λ z. second.1 (first.1 z), λ z. first.2 (second.2 z))

-- the checksum of two parts, from a number for each of them
pub checksum-parts : (a b : List ℕ) (m n : ℕ) → IsBytes a → IsBytes b → length a % 2 ≡ 0 → SameSum m (sum (words a)) → SameSum n (sum (words b)) → checksum (a ++ b) ≡ 65535 - sum_word (m + n)
checksum-parts a b m n p q even first second =
    checksum-sum (a ++ b) (m + n) (IsBytes-append a b p q) (SameSum-parts a b m n even first second)

-- a word between an even number of bytes and the rest adds itself
pub sum-word-between : (before after : List ℕ) (high low : ℕ) → length before % 2 ≡ 0 → sum (words (before ++ high ∷ low ∷ after)) ≡ sum (words (before ++ 0 ∷ 0 ∷ after)) + (256 * high + low)
sum-word-between before after high low even =
    let e = sum-words-append before (high ∷ low ∷ after) even in
    let z = sum-words-append before (0 ∷ 0 ∷ after) even in
    omega (arith, e, z, sum-cons (256 * high + low) (words after), sum-cons (256 * 0 + 0) (words after))

sum_word-full : (n k : ℕ) → n ≡ k → 0 < k → k % 65535 ≡ 0 → 65535 - sum_word n ≡ 0
sum_word-full zero k e p h = absurd (omega arith)
sum_word-full (suc n) k e p h = omega arith

sum_word-left : (n : ℕ) → ((n ≡ 0) × (65535 - sum_word n ≡ 65535)) ⊎ ((0 < n) × ((n + (65535 - sum_word n)) % 65535 ≡ 0))
sum_word-left zero = inl (refl, refl)
sum_word-left (suc n) = inr (omega arith, omega arith)

pub checksum-zero : (bytes : List ℕ) → IsBytes bytes → checksum bytes ≡ 65535 - sum_word (sum (words bytes))
checksum-zero bytes fits = checksum-sum bytes (sum (words bytes)) fits (refl, λ e. e, λ e. e)

-- a checksum that is put in the place of a zero word makes the checksum of the whole 0
pub checksum-closes : (before after : List ℕ) (high low : ℕ) → length before % 2 ≡ 0 → IsBytes (before ++ high ∷ low ∷ after) → IsBytes (before ++ 0 ∷ 0 ∷ after) → 256 * high + low ≡ checksum (before ++ 0 ∷ 0 ∷ after) → checksum (before ++ high ∷ low ∷ after) ≡ 0
checksum-closes before after high low even fits zeros field =
    let total = sum (words (before ++ 0 ∷ 0 ∷ after)) in
    let open_is : checksum (before ++ 0 ∷ 0 ∷ after) ≡ 65535 - sum_word total = checksum-zero (before ++ 0 ∷ 0 ∷ after) zeros in
    let closed_is : checksum (before ++ high ∷ low ∷ after) ≡ 65535 - sum_word (sum (words (before ++ high ∷ low ∷ after))) = checksum-zero (before ++ high ∷ low ∷ after) fits in
    let added : sum (words (before ++ high ∷ low ∷ after)) ≡ total + (256 * high + low) = sum-word-between before after high low even in
    closed_is
    ∙ elim (sum_word-left total) [
      | inl none ↦ sum_word-full _ (total + (256 * high + low)) added (omega (arith, none.1)) (omega (arith, none.0, none.1))
      | inr some ↦ sum_word-full _ (total + (256 * high + low)) added (omega (arith, some.0)) (omega (arith, some.1))
    ]

-- where the checksum over a zero word is 0, all ones in that place make the checksum 0 too
pub checksum-ones : (before after : List ℕ) → length before % 2 ≡ 0 → IsBytes (before ++ 255 ∷ 255 ∷ after) → IsBytes (before ++ 0 ∷ 0 ∷ after) → checksum (before ++ 0 ∷ 0 ∷ after) ≡ 0 → checksum (before ++ 255 ∷ 255 ∷ after) ≡ 0
checksum-ones before after even fits zeros none =
    let total = sum (words (before ++ 0 ∷ 0 ∷ after)) in
    let open_is : checksum (before ++ 0 ∷ 0 ∷ after) ≡ 65535 - sum_word total = checksum-zero (before ++ 0 ∷ 0 ∷ after) zeros in
    let closed_is : checksum (before ++ 255 ∷ 255 ∷ after) ≡ 65535 - sum_word (sum (words (before ++ 255 ∷ 255 ∷ after))) = checksum-zero (before ++ 255 ∷ 255 ∷ after) fits in
    let added : sum (words (before ++ 255 ∷ 255 ∷ after)) ≡ total + 65535 = omega (arith, sum-word-between before after 255 255 even) in
    closed_is
    ∙ elim (sum_word-left total) [
      | inl none-set ↦ absurd (omega (arith, none-set.1))
      | inr some ↦ sum_word-full _ (total + 65535) added (omega arith) (omega (arith, some.1))
    ]
