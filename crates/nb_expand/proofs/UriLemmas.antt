-- The set of bytes that are escaped is all but the unreserved characters.
use Rattle.std.proofs.Common.{◌≡◌, ℕ, zero, suc, ◌<◌, ◌≤◌, Bool, true, false, not, ◌&&◌, inl, inr, List, [], ◌∷◌, refl, sym, ◌∙◌, arith}
use Rattle.std.proofs.Math.Logic.{⊎_elim}
use Rattle.std.proofs.lemmas.Bool.{and_parts, cases_lt, cases_Bool}
use Rattle.std.proofs.lemmas.Bool.Decides.{nat_tests}
use Rattle.percent_encoding.specs.AsciiSet.{should_percent_encode}
use Rattle.percent_encoding.specs.Percent.{percent_encode}
use Rattle.percent_encoding.proofs.PercentLemmas.{percent_encode-nil, percent_encode_escaped, percent_encode_kept}
use Rattle.nb_expand.specs.declared.printing.TheConstants.{RESERVED}
use Rattle.nb_expand.specs.Uris.{is_unescaped, printed_uri}

abbrev same : Bool → Bool → Bool
same true b = b
same false b = not b

same-eq : (a b : Bool) → same a b ≡ true → a ≡ b
same-eq true true h = refl
same-eq true false h = sym h
same-eq false true h = h
same-eq false false h = refl

-- the test of the first n bytes, which computes
abbrev agree_below : ℕ → Bool
agree_below zero = true
agree_below (suc n) = same (should_percent_encode RESERVED n) (not (is_unescaped n)) && agree_below n

agrees : agree_below 128 ≡ true
unfolding should_percent_encode
agrees = refl

agree_at : (n b : ℕ) → agree_below n ≡ true → b < n → should_percent_encode RESERVED b ≡ not (is_unescaped b)
agree_at zero b h below = absurd (omega arith)
agree_at (suc n) b h below =
    let parts = and_parts (same (should_percent_encode RESERVED n) (not (is_unescaped n))) (agree_below n) h in
    elim (cases_lt b n) [
      | inl lower ↦ agree_at n b parts.1 lower
      | inr top ↦
          let e : b ≡ n = omega arith in
          rw e (same-eq _ _ parts.0)
    ]

outside : (b : ℕ) → 128 ≤ b → should_percent_encode RESERVED b ≡ not (is_unescaped b)
unfolding should_percent_encode
outside b h = grind (arith, nat_tests)

escapes : (b : ℕ) → should_percent_encode RESERVED b ≡ not (is_unescaped b)
escapes b = ⊎_elim (agree_at 128 b agrees) (outside b) (cases_lt b 128)

flip_false : (a b : Bool) → a ≡ not b → a ≡ false → b ≡ true
flip_false a true e h = refl
flip_false a false e h = cc

flip_true : (a b : Bool) → a ≡ not b → a ≡ true → b ≡ false
flip_true a true e h = cc
flip_true a false e h = refl

unreserved : (b : ℕ) → should_percent_encode RESERVED b ≡ false → is_unescaped b ≡ true
unreserved b h = flip_false (should_percent_encode RESERVED b) (is_unescaped b) (escapes b) h

reserved : (b : ℕ) → should_percent_encode RESERVED b ≡ true → is_unescaped b ≡ false
reserved b h = flip_true (should_percent_encode RESERVED b) (is_unescaped b) (escapes b) h

-- escaping by the set is the printing of a URI's text
pub percent_encode-reserved : (bytes : List ℕ) → percent_encode RESERVED bytes ≡ printed_uri bytes
percent_encode-reserved [] = percent_encode-nil RESERVED
percent_encode-reserved (b ∷ bytes) = ⊎_elim
    (λ e. percent_encode_escaped RESERVED b bytes e ∙ rw (reserved b e, percent_encode-reserved bytes) refl)
    (λ e. percent_encode_kept RESERVED b bytes e ∙ rw (unreserved b e, percent_encode-reserved bytes) refl)
    (cases_Bool (should_percent_encode RESERVED b))
