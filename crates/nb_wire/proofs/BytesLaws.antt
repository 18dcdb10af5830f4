-- Lists of a known length by their elements, and lists that are joined and cut again.
use Rattle.std.proofs.Common.{◌≡◌, ℕ, ◌+◌, ◌<◌, ◌^◌, List, [], ◌∷◌, ◌++◌, length, get_or, take, drop, refl, sym, ap, ◌∙◌, arith, inl, inr}
use Rattle.std.specs.Int.{w16, w32, to_be_bytes, from_be_bytes}
use Rattle.std.proofs.lemmas.Bool.{cases_lt}
use Rattle.std.proofs.lemmas.List.{take-append-drop, length-append, get_or-append-add, get_or_append_left, get_or_past}
use Rattle.std.proofs.lemmas.Nat.{from_be_bytes-to_be_bytes_2, from_be_bytes-to_be_bytes_4}

-- each element of the list is a byte
abbrev pub IsBytes : List ℕ → Type 0
IsBytes bytes = (i : ℕ) → get_or bytes i 0 < 256

pub six : (xs : List ℕ) → length xs ≡ 6 → get_or xs 0 0 ∷ get_or xs 1 0 ∷ get_or xs 2 0 ∷ get_or xs 3 0 ∷ get_or xs 4 0 ∷ get_or xs 5 0 ∷ [] ≡ xs
six [] h = absurd (omega arith)
six (a ∷ []) h = absurd (omega arith)
six (a ∷ b ∷ []) h = absurd (omega arith)
six (a ∷ b ∷ c ∷ []) h = absurd (omega arith)
six (a ∷ b ∷ c ∷ d ∷ []) h = absurd (omega arith)
six (a ∷ b ∷ c ∷ d ∷ e ∷ []) h = absurd (omega arith)
six (a ∷ b ∷ c ∷ d ∷ e ∷ f ∷ []) h = refl
six (a ∷ b ∷ c ∷ d ∷ e ∷ f ∷ g ∷ xs) h = absurd (omega arith)

pub four : (xs : List ℕ) → length xs ≡ 4 → get_or xs 0 0 ∷ get_or xs 1 0 ∷ get_or xs 2 0 ∷ get_or xs 3 0 ∷ [] ≡ xs
four [] h = absurd (omega arith)
four (a ∷ []) h = absurd (omega arith)
four (a ∷ b ∷ []) h = absurd (omega arith)
four (a ∷ b ∷ c ∷ []) h = absurd (omega arith)
four (a ∷ b ∷ c ∷ d ∷ []) h = refl
four (a ∷ b ∷ c ∷ d ∷ e ∷ xs) h = absurd (omega arith)

pub two : (xs : List ℕ) → length xs ≡ 2 → get_or xs 0 0 ∷ get_or xs 1 0 ∷ [] ≡ xs
two [] h = absurd (omega arith)
two (a ∷ []) h = absurd (omega arith)
two (a ∷ b ∷ []) h = refl
two (a ∷ b ∷ c ∷ xs) h = absurd (omega arith)

pub length_join : (a b : List ℕ) (m n : ℕ) → length a ≡ m → length b ≡ n → length (a ++ b) ≡ m + n
length_join a b m n p q = omega (arith, length-append a b)

-- bytes are a prefix of n bytes, and what is after it
pub record Splits (n : ℕ) (bytes front rest : List ℕ) : Type 0 where
  pub parts : bytes ≡ front ++ rest
  pub len : length front ≡ n

pub splits_of : (n : ℕ) (bytes front rest : List ℕ) → front ≡ take n bytes → rest ≡ drop n bytes → length rest + n ≡ length bytes → Splits n bytes front rest
splits_of n bytes front rest f r len =
    let parts : bytes ≡ front ++ rest = sym (take-append-drop n bytes) ∙ ap (λ (x : List ℕ). x ++ drop n bytes) (sym f) ∙ ap (λ (y : List ℕ). front ++ y) (sym r) in
    record { parts = parts; len = omega (arith, ap length parts, length-append front rest) }

-- what two joined lists are, where the fronts are as long as one another
pub append_one : (a b c d : List ℕ) → length a ≡ length c → a ++ b ≡ c ++ d → (a ≡ c) × (b ≡ d)
append_one [] b [] d len e = (refl, e)
append_one [] b (y ∷ c) d len e = absurd (omega arith)
append_one (x ∷ a) b [] d len e = absurd (omega arith)
append_one (x ∷ a) b (y ∷ c) d len e =
    let r = append_one a b c d (omega arith) cc in
    (let head : x ≡ y = cc in let tail : a ≡ c = r.0 in cc, r.1)

pub be16_one : (m n : ℕ) → m < 2 ^ 16 → n < 2 ^ 16 → to_be_bytes w16 m ≡ to_be_bytes w16 n → m ≡ n
be16_one m n hm hn e = sym (from_be_bytes-to_be_bytes_2 m hm) ∙ ap (λ (b : List ℕ). from_be_bytes w16 b) e ∙ from_be_bytes-to_be_bytes_2 n hn

pub be32_one : (m n : ℕ) → m < 2 ^ 32 → n < 2 ^ 32 → to_be_bytes w32 m ≡ to_be_bytes w32 n → m ≡ n
be32_one m n hm hn e = sym (from_be_bytes-to_be_bytes_4 m hm) ∙ ap (λ (b : List ℕ). from_be_bytes w32 b) e ∙ from_be_bytes-to_be_bytes_4 n hn

pub IsBytes-rest : (n : ℕ) (bytes front rest : List ℕ) → Splits n bytes front rest → IsBytes bytes → IsBytes rest
IsBytes-rest n bytes front rest s fits i =
    let e : get_or bytes (length front + i) 0 ≡ get_or rest i 0 = ap (λ (b : List ℕ). get_or b (length front + i) 0) s.parts ∙ get_or-append-add front rest i 0 in
    omega (arith, e, fits (length front + i))

pub IsBytes-front : (n : ℕ) (bytes front rest : List ℕ) → Splits n bytes front rest → IsBytes bytes → IsBytes front
IsBytes-front n bytes front rest s fits i =
    elim (cases_lt i (length front)) [
      | inl lt ↦ let e : get_or bytes i 0 ≡ get_or front i 0 = ap (λ (b : List ℕ). get_or b i 0) s.parts ∙ get_or_append_left front rest 0 i lt in omega (arith, e, fits i)
      | inr le ↦ omega (arith, get_or_past front i 0 le)
    ]
