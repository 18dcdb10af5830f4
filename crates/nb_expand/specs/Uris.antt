-- RFC 3986, sections 2.1 and 2.3: all bytes but the unreserved ones as `%` and two upper-case digits
use Rattle.std.specs.Prelude.{ℕ, ◌==◌, ◌||◌, Bool, List, [], ◌∷◌, if◌then◌else◌}
use Rattle.std.specs.Char.{is_ascii_alphanumeric}
use Rattle.std.specs.List.{flat_map}
use Rattle.percent_encoding.specs.Percent.{percent_encode_byte}

-- letters, digits, and `-`, `.`, `_` and `~`
abbrev pub is_unescaped : ℕ → Bool
is_unescaped b = is_ascii_alphanumeric b || (b == 45) || (b == 46) || (b == 95) || (b == 126)

abbrev pub printed_uri : List ℕ → List ℕ
printed_uri bytes = flat_map (λ b. if is_unescaped b then b ∷ [] else percent_encode_byte b) bytes
