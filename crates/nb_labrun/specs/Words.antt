-- The words of the program for a lab: `lab N`; and all of its words.
use Rattle.std.specs.Prelude.{◌≡◌, ◌⊎◌, ℕ, ◌<◌, ◌≤◌, List, [], ◌∷◌, codes}
use Rattle.std.specs.Fmt.{decimal}
use Rattle.nb_boot.specs.Words.{AreWords}

-- a number from 1 to 64 in decimal, without leading zeros
pub record IsLabNumber (text : List ℕ) (n : ℕ) : Type 0 where
  pub low : 0 < n
  pub high : n ≤ 64
  pub spelled : text ≡ decimal n

-- `lab` and so many images
pub record NamesLab (words : List (List ℕ)) (images : ℕ) : Type 0 where
  pub text : List ℕ
  pub numbered : IsLabNumber text images
  pub are : words ≡ codes "lab" ∷ text ∷ []

abbrev pub AreLabWords : List (List ℕ) → Type 0
AreLabWords words = (images : ℕ) × NamesLab words images

-- of one of the three forms: `replay IN OUT`, `live PEER` and `lab N`
abbrev pub AreProgramWords : List (List ℕ) → Type 0
AreProgramWords words = AreWords words ⊎ AreLabWords words
