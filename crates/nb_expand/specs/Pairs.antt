-- RFC 4648, section 8: bytes as pairs of hexadecimal digits, with a separator between them
use Rattle.std.specs.Prelude.{ℕ, ◌+◌, ◌*◌, ◌==◌, List, [], ◌∷◌, drop, Option, Some, None, option_and_then, if◌then◌else◌}
use Rattle.std.specs.List.{flat_map}
use Rattle.std.specs.Option.{option_map}
use Rattle.hex.specs.Hex.{encode_lower, hex_digit_value}

-- each pair after a separator, less the first separator
abbrev pub printed_pairs : ℕ → List ℕ → List ℕ
printed_pairs separator bytes = drop 1 (flat_map (λ b. separator ∷ encode_lower (b ∷ [])) bytes)

-- the byte of two digits of either case
abbrev pub byte_of_digits : ℕ → ℕ → Option ℕ
byte_of_digits high low = option_and_then (λ h. option_map (λ l. h * 16 + l) (hex_digit_value low)) (hex_digit_value high)

-- the byte of the pair that a text begins with, and what stands after it
abbrev pub pair_at : List ℕ → Option (ℕ × List ℕ)
pair_at [] = None
pair_at (high ∷ []) = None
pair_at (high ∷ low ∷ rest) = option_map (λ byte. (byte, rest)) (byte_of_digits high low)

-- the same after a separator
abbrev pub pair_behind : ℕ → List ℕ → Option (ℕ × List ℕ)
pair_behind separator [] = None
pair_behind separator (first ∷ rest) = if first == separator then pair_at rest else None

-- the bytes of pairs that each stand after a separator
abbrev pub pairs_behind : ℕ → List ℕ → Option (List ℕ)
pairs_behind separator [] = Some []
pairs_behind separator (s ∷ []) = None
pairs_behind separator (s ∷ high ∷ []) = None
pairs_behind separator (s ∷ high ∷ low ∷ rest) =
    if s == separator
    then option_and_then (λ byte. option_map (λ bytes. byte ∷ bytes) (pairs_behind separator rest)) (byte_of_digits high low)
    else None

-- the bytes of pairs with a separator between them; no pairs are no bytes
abbrev pub parsed_pairs : ℕ → List ℕ → Option (List ℕ)
parsed_pairs separator [] = Some []
parsed_pairs separator (b ∷ text) = pairs_behind separator (separator ∷ b ∷ text)
