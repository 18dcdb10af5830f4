-- Own: the texts gathered while a text is expanded, as one text with the places of its open parts
use Rattle.std.specs.Prelude.{◌≡◌, ◌⊎◌, ℕ, ◌+◌, ◌-◌, ◌*◌, ◌<◌, ◌≤◌, List, [], ◌∷◌, ◌++◌, length, take, drop, Option, Result, codes}
use Rattle.nb_expand.specs.declared.token.Token.{Token}
use Rattle.nb_expand.specs.declared.error.ExpandError.{ExpandError}
use Rattle.nb_expand.specs.Expansion.{put_back, expansion_from, expansion_answer}

-- the text of the innermost open part, or of the result where no part is open, and the texts around it,
-- from the inside out
pub record Parts : Type 0 where
  pub inner : List ℕ
  pub around : List (List ℕ)

-- the same as one text, and the places at which the texts of open parts begin, from the inside out
abbrev pub inner_at : List ℕ → List ℕ → List ℕ
inner_at text [] = text
inner_at text (place ∷ places) = drop place text

abbrev pub around_at : List ℕ → List ℕ → List (List ℕ)
around_at text [] = []
around_at text (place ∷ places) = inner_at (take (place - 2) text) places ∷ around_at (take (place - 2) text) places

abbrev pub parts_at : List ℕ → List ℕ → Parts
parts_at text places = record { inner = inner_at text places; around = around_at text places }

-- Each place has a `${` before it, after the texts around. A word and a byte, and for each open part a
-- name, a byte and `${`, are all that a text keeps.
abbrev pub IsGathered : List ℕ → List ℕ → Type 0
IsGathered text [] = length text ≤ 4097
IsGathered text (place ∷ places) =
    (2 ≤ place) × (place ≤ length text) × (text ≡ take (place - 2) text ++ codes "${" ++ drop place text)
    × (length text ≤ 4097 + 204 * length (place ∷ places)) × IsGathered (take (place - 2) text) places

-- with more at the end of the innermost text
abbrev pub with_more : Parts → List ℕ → Parts
with_more parts more = record { inner = parts.inner ++ more; around = parts.around }

-- The innermost text is longer than any name, and all texts are together longer than any word: if it is
-- closed, it is no name, and if it is put back, the word is too long.
abbrev pub IsDecided : Parts → Type 0
IsDecided parts = (201 < length parts.inner) × (4096 < length (put_back parts.inner parts.around))

-- the same texts, or two of which the answer is the same
abbrev pub IsAlike : Parts → Parts → Type 0
IsAlike parts kept = (kept ≡ parts) ⊎ ((kept.around ≡ parts.around) × IsDecided parts × IsDecided kept)

-- the answer for what was gathered and what is left of a text
abbrev pub answer_from : (List ℕ → Option (List ℕ)) → Parts → List Token → Result (List ℕ) ExpandError
answer_from value parts rest = expansion_answer (expansion_from value parts.inner parts.around rest)
