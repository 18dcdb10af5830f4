-- RFC 3986, section 3.2.2: an IPv4 address as four decimals from 0 to 255 without leading zeros, with dots between them
use Rattle.std.specs.Prelude.{ℕ, ◌+◌, ◌==◌, Bool, take, drop, position, List, [], ◌∷◌, length, Option, Some, None, option_and_then, if◌then◌else◌}
use Rattle.std.specs.List.{slice_split}
use Rattle.std.specs.Option.{option_map}
use Rattle.nb_numerals.specs.Numbers.{below, decimal_number}

-- the byte that a decimal writes
abbrev pub decimal_byte : List ℕ → Option ℕ
decimal_byte text = below 256 (decimal_number text)

-- the bytes that texts write, each a decimal
abbrev pub decimal_bytes : List (List ℕ) → Option (List ℕ)
decimal_bytes [] = Some []
decimal_bytes (text ∷ texts) = option_and_then (λ byte. option_map (λ bytes. byte ∷ bytes) (decimal_bytes texts)) (decimal_byte text)

abbrev pub is_dot : ℕ → Bool
is_dot b = b == 46

-- so many decimals
abbrev pub decimals : ℕ → List (List ℕ) → Option (List ℕ)
decimals count texts = if length texts == count then decimal_bytes texts else None

-- the four bytes of an address
abbrev pub parsed_address : List ℕ → Option (List ℕ)
parsed_address text = decimals 4 (slice_split is_dot text)

-- the byte of the decimal before the first dot, and what stands after the dot
abbrev pub decimal_and_dot : List ℕ → Option (ℕ × List ℕ)
decimal_and_dot text =
    option_and_then (λ dot. option_map (λ byte. (byte, drop (dot + 1) text)) (decimal_byte (take dot text))) (position is_dot text)
