-- Where the texts of a table stand.
use Rattle.std.specs.Prelude.{◌≡◌, ℕ, ◌+◌, List, [], ◌∷◌, ◌++◌, length, slice_index}
use Rattle.nb_ibft.specs.Tables.{kept}

-- a text stands at a place among the bytes, as it is kept
pub record IsTextKeptAt (bytes : List ℕ) (at : ℕ) (text : List ℕ) : Type 0 where
  pub before : List ℕ
  pub after : List ℕ
  pub spelled : bytes ≡ before ++ (kept text ++ after)
  pub place : length before ≡ at

-- texts stand one after another, the first at this place
abbrev pub AllStandAt : List ℕ → ℕ → List (List ℕ) → Type 0
AllStandAt bytes at [] = Unit {0}
AllStandAt bytes at (text ∷ texts) = IsTextKeptAt bytes at text × AllStandAt bytes (at + length (kept text)) texts

-- the four bytes that stand at a place, in which a text's length and place are kept
abbrev pub slots : List ℕ → ℕ → List ℕ
slots part at = slice_index part at ∷ slice_index part (at + 1) ∷ slice_index part (at + 2) ∷ slice_index part (at + 3) ∷ []
