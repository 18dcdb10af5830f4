-- RFC 7143, section 6.1: numbers and binary values as the texts of keys
use Rattle.std.specs.Prelude.{ℕ, ◌==◌, ◌&&◌, ◌||◌, nat_lt, nat_le, Bool, List, [], ◌∷◌, length, Option, Some, None, option_and_then, if◌then◌else◌}
use Rattle.std.specs.Option.{option_map_or}
use Rattle.std.specs.Result.{result_ok}
use Rattle.hex.specs.Hex.{decode_of, encode_lower}
use Rattle.base64.specs.Engines.{standard}
use Rattle.base64.specs.GeneralPurpose.{decoded_of}
use Rattle.nb_numerals.specs.Numbers.{below, digits_number, decimal_number}

-- what stands after `0x` or `0X`
abbrev pub hexadecimal_in : List ℕ → Option (List ℕ)
hexadecimal_in [] = None
hexadecimal_in (zero_digit ∷ []) = None
hexadecimal_in (zero_digit ∷ letter ∷ digits) =
    if (zero_digit == 48) && ((letter == 120) || (letter == 88)) then Some digits else None

-- what stands after `0b` or `0B`
abbrev pub base64_in : List ℕ → Option (List ℕ)
base64_in [] = None
base64_in (zero_digit ∷ []) = None
base64_in (zero_digit ∷ letter ∷ text) =
    if (zero_digit == 48) && ((letter == 98) || (letter == 66)) then Some text else None

-- a number: hexadecimal digits after their mark, or decimal digits without leading zeros
abbrev pub number_in : List ℕ → Option ℕ
number_in text = option_map_or (digits_number 16) (hexadecimal_in text) (decimal_number text)

-- a number of one byte
unfoldable pub byte_in : List ℕ → Option ℕ
byte_in text = below 256 (number_in text)

-- the bytes of hexadecimal digits or of base64, each after its mark
unfoldable pub encoded_in : List ℕ → Option (List ℕ)
encoded_in text =
    option_map_or (λ digits. result_ok (decode_of digits)) (hexadecimal_in text) (option_and_then (decoded_of standard) (base64_in text))

abbrev pub has_binary_length : List ℕ → Bool
has_binary_length bytes = nat_lt 0 (length bytes) && nat_le (length bytes) 1024

abbrev pub of_binary_length : List ℕ → Option (List ℕ)
of_binary_length bytes = if has_binary_length bytes then Some bytes else None

-- a binary value: 1 to 1,024 bytes
unfoldable pub binary_in : List ℕ → Option (List ℕ)
binary_in text = option_and_then of_binary_length (encoded_in text)

-- bytes as `0x` and lower-case digits
abbrev pub binary_text : List ℕ → List ℕ
binary_text bytes = 48 ∷ 120 ∷ encode_lower bytes
