-- RFC 1071, section 1: the internet checksum
use Rattle.std.specs.Prelude.{◌≡◌, ℕ, zero, suc, ◌+◌, ◌*◌, ◌-◌, ◌/◌, ◌%◌, ◌<◌, List, [], ◌∷◌, fold, length, slice_index, sum}

-- the 16-bit words of the bytes, the last one with a zero byte after it where their number is odd
abbrev pub words : List ℕ → List ℕ
words [] = []
words (high ∷ []) = 256 * high ∷ []
words (high ∷ low ∷ rest) = (256 * high + low) ∷ words rest

-- the ones' complement sum of two words: a carry out of the top bit is added at the bottom
abbrev pub add_with_carry : ℕ → ℕ → ℕ
add_with_carry a b = (a + b) % 65536 + (a + b) / 65536

-- the ones' complement of the ones' complement sum of the bytes' words
unfoldable pub checksum : List ℕ → ℕ
checksum bytes = 65535 - fold add_with_carry 0 (words bytes)

-- two numbers whose words have the same ones' complement sum: 65536 counts as 1, and 0 is apart from 65535
abbrev pub SameSum : ℕ → ℕ → Type 0
SameSum a b = (a % 65535 ≡ b % 65535) × (a ≡ 0 → b ≡ 0) × (b ≡ 0 → a ≡ 0)

-- the one word, with all carries taken, that stands for a plain sum of words: 0 for 0 alone, else 1 to 65535
abbrev pub sum_word : ℕ → ℕ
sum_word zero = 0
sum_word (suc n) = suc (n % 65535)

-- bytes, even in number, whose words have the same ones' complement sum as this number
pub record HasSum (bytes : List ℕ) (n : ℕ) : Type 0 where
  pub even : length bytes % 2 ≡ 0
  pub fits : (i : ℕ) → slice_index bytes i < 256
  pub same : SameSum n (sum (words bytes))
