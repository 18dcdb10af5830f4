-- RFC 2132, section 2: which bytes of a field are which options; RFC 3396: a value that is joined from several
use Rattle.std.specs.Prelude.{◌≡◌, ◌<◌, ◌==◌, ℕ, Bool, List, [], ◌∷◌, ◌++◌, length, if◌then◌else◌}
use Rattle.std.specs.List.{flat_map, list_any}

pub record TagValue : Type 0 where
  pub tag : ℕ
  pub value : List ℕ

abbrev pub tag_value : ℕ → List ℕ → TagValue
tag_value tag value = record { tag = tag; value = value }

-- 0 is padding, 255 ends the options, and what follows it isn't read
pub data AreOptions : List ℕ → List TagValue → Type 0 where
  none_left : (bytes : List ℕ) → bytes ≡ [] → AreOptions bytes []
  end_mark : (bytes behind : List ℕ) → bytes ≡ 255 ∷ behind → AreOptions bytes []
  padding : (bytes rest : List ℕ) (os : List TagValue) → bytes ≡ 0 ∷ rest → AreOptions rest os → AreOptions bytes os
  option : (bytes : List ℕ) (tag : ℕ) (value rest : List ℕ) (os : List TagValue) → bytes ≡ tag ∷ length value ∷ (value ++ rest) →
      0 < tag → tag < 255 → AreOptions rest os → AreOptions bytes (tag_value tag value ∷ os)

-- both are the same options
abbrev pub SameOptions : List ℕ → List ℕ → Type 0
SameOptions a b = (os : List TagValue) → (AreOptions a os → AreOptions b os) × (AreOptions b os → AreOptions a os)

abbrev pub value_of_option : ℕ → TagValue → List ℕ
value_of_option tag o = if o.tag == tag then o.value else []

-- the values of one tag, one after the other
abbrev pub joined : ℕ → List TagValue → List ℕ
joined tag os = flat_map (value_of_option tag) os

-- an option has the tag
abbrev pub is_there : ℕ → List TagValue → Bool
is_there tag os = list_any (λ o. o.tag == tag) os
