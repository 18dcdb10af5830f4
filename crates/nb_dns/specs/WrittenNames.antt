-- RFC 1035, sections 2.3.1 and 2.3.4: the labels of a name as it is written
use Rattle.std.specs.Prelude.{◌≤◌, ◌-◌, ◌==◌, ◌&&◌, ℕ, Bool, List, [], ◌∷◌, length, take, nat_le, nat_lt, slice_index, if◌then◌else◌}
use Rattle.std.specs.List.{AllByRecursion, list_all}
use Rattle.nb_dnsmsg.specs.Names.{IsLabel}

-- the text without a dot (46) at its end
abbrev pub without_final_dot : List ℕ → List ℕ
without_final_dot text = if slice_index text (length text - 1) == 46 then take (length text - 1) text else text

abbrev pub before_first : ℕ → List (List ℕ) → List (List ℕ)
before_first byte [] = []
before_first byte (label ∷ labels) = (byte ∷ label) ∷ labels

-- what stands before, between and after dots
abbrev pub labels_at_dots : List ℕ → List (List ℕ)
labels_at_dots [] = [] ∷ []
labels_at_dots (byte ∷ bytes) = if byte == 46 then [] ∷ labels_at_dots bytes else before_first byte (labels_at_dots bytes)

-- the labels of a name, one dot at its end aside
abbrev pub name_labels : List ℕ → List (List ℕ)
name_labels text = labels_at_dots (without_final_dot text)

-- a name that can be looked up: no label is empty or has more than 63 bytes, and without the dot at its
-- end it has at most 253
pub record IsLookupName (text : List ℕ) : Type 0 where
  pub are : AllByRecursion IsLabel (name_labels text)
  pub short : length (without_final_dot text) ≤ 253

-- a label has 1 to 63 bytes
abbrev pub has_label_length : List ℕ → Bool
has_label_length label = nat_lt 0 (length label) && nat_le (length label) 63

-- the test for a name that can be looked up
abbrev pub is_lookup_name : List ℕ → Bool
is_lookup_name text = list_all has_label_length (name_labels text) && nat_le (length (without_final_dot text)) 253
