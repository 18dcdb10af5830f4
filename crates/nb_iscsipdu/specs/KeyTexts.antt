-- RFC 7143, section 6.1: texts `name=value`, with zero bytes between them
use Rattle.std.specs.Prelude.{ℕ, ◌==◌, List, [], ◌∷◌, Option, Some, None, if◌then◌else◌}
use Rattle.std.specs.Option.{option_or}

-- a byte before the first of some texts
abbrev pub longer : ℕ → List (List ℕ) → List (List ℕ)
longer byte [] = (byte ∷ []) ∷ []
longer byte (text ∷ texts) = (byte ∷ text) ∷ texts

-- the texts between zero bytes: before the first one, between each two, and after the last
abbrev pub texts_between : List ℕ → List (List ℕ)
texts_between [] = [] ∷ []
texts_between (byte ∷ bytes) = if byte == 0 then [] ∷ texts_between bytes else longer byte (texts_between bytes)

-- what stands after `=`
abbrev pub after_equals : List ℕ → Option (List ℕ)
after_equals [] = None
after_equals (byte ∷ bytes) = if byte == 61 then Some bytes else None

-- the value of a text, where it is the name, `=` and the value
abbrev pub value_in : List ℕ → List ℕ → Option (List ℕ)
value_in [] text = after_equals text
value_in (letter ∷ name) [] = None
value_in (letter ∷ name) (byte ∷ text) = if byte == letter then value_in name text else None

abbrev pub first_value : List ℕ → List (List ℕ) → Option (List ℕ)
first_value name [] = None
first_value name (text ∷ texts) = option_or (value_in name text) (first_value name texts)

-- the value of the first text with this name
abbrev pub key_value : List ℕ → List ℕ → Option (List ℕ)
key_value name bytes = first_value name (texts_between bytes)
