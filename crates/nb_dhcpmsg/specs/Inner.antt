-- RFC 2132, section 2: the options within a value, by the bytes that they are written in
use Rattle.std.specs.Prelude.{◌≡◌, ◌<◌, ℕ, List, [], ◌∷◌, length}
use Rattle.std.specs.List.{flat_map, AllByRecursion}
use Rattle.nb_dhcpmsg.specs.Options.{TagValue}

-- an option as it is written: its tag, the length of its value, and its value
abbrev pub option_text : TagValue → List ℕ
option_text o = o.tag ∷ length o.value ∷ o.value

abbrev pub inner_options_text : List TagValue → List ℕ
inner_options_text os = flat_map option_text os

-- 0 and 255 are no tags
abbrev pub HasTag : TagValue → Type 0
HasTag o = (0 < o.tag) × (o.tag < 255)

abbrev pub HaveTags : List TagValue → Type 0
HaveTags os = AllByRecursion HasTag os

-- an option without its length, or with fewer bytes than its length says
pub data IsCutOff (bytes : List ℕ) : Type 0 where
  no_length : (tag : ℕ) → bytes ≡ tag ∷ [] → 0 < tag → tag < 255 → IsCutOff bytes
  too_short : (tag len : ℕ) (rest : List ℕ) → bytes ≡ tag ∷ len ∷ rest → 0 < tag → tag < 255 → length rest < len → IsCutOff bytes
