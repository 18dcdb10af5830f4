-- RFC 1035, sections 3.1 and 4.1.4: which bytes of a message are which name
use Rattle.std.specs.Prelude.{◌≡◌, ◌<◌, ◌≤◌, ◌+◌, ◌-◌, ◌*◌, ℕ, List, [], ◌∷◌, ◌++◌, length, drop}
use Rattle.std.specs.List.{AllByRecursion}

-- a label has 1 to 63 bytes
pub record IsLabel (label : List ℕ) : Type 0 where
  pub some : 0 < length label
  pub few : length label < 64

-- the text of a name: each label after its length, and at last the root's, which is empty
abbrev pub name_text : List (List ℕ) → List ℕ
name_text [] = 0 ∷ []
name_text (label ∷ labels) = length label ∷ (label ++ name_text labels)

-- the text of a name within the limits: it has at most 255 bytes
pub record IsDnsName (name : List ℕ) : Type 0 where
  pub labels : List (List ℕ)
  pub are : AllByRecursion IsLabel labels
  pub text : name ≡ name_text labels
  pub short : length name ≤ 255

-- What stands at a place of a message, in the part of a name that began at `part`: the rest of the
-- name as a text, and where it ends in the message. It is the root, a label before more of the part, or
-- a pointer of two bytes, which ends the part: the name goes on at a place before the part.
pub data IsRestAt (message : List ℕ) : ℕ → ℕ → List ℕ → ℕ → Type 0 where
  root_here : (part place : ℕ) (rest : List ℕ) (end : ℕ) (after : List ℕ) →
      drop place message ≡ 0 ∷ after → rest ≡ 0 ∷ [] → end ≡ place + 1 → IsRestAt message part place rest end
  label_here : (part place : ℕ) (rest : List ℕ) (end : ℕ) (label more after : List ℕ) → IsLabel label →
      drop place message ≡ length label ∷ (label ++ after) → rest ≡ length label ∷ (label ++ more) →
      IsRestAt message part (place + (1 + length label)) more end → IsRestAt message part place rest end
  pointer_here : (part place : ℕ) (rest : List ℕ) (end high low target last : ℕ) (after : List ℕ) →
      drop place message ≡ high ∷ low ∷ after → 192 ≤ high → target ≡ (high - 192) * 256 + low → target < part →
      IsRestAt message target target rest last → end ≡ place + 2 → IsRestAt message part place rest end

-- At this place of the message stands the name of this text, up to that place. Its pointers go
-- strictly backwards, and it has at most 255 bytes.
pub record IsNameAt (message : List ℕ) (place : ℕ) (name : List ℕ) (end : ℕ) : Type 0 where
  pub spelled : IsRestAt message place place name end
  pub short : length name ≤ 255
