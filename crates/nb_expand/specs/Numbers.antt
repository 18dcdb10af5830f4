-- Own: numbers in settings, big-endian in two's complement, and as text
use Rattle.std.specs.Prelude.{ℕ, ◌-◌, ◌/◌, ◌^◌, false, nat_lt, nat_le, nat_eq, List, [], ◌∷◌, ◌++◌, length, drop, replicate, slice_index, Option, Some, None, ℤ, pos, negsuc, neg_ℤ, if◌then◌else◌, codes}
use Rattle.std.specs.Fmt.{digits, signed_decimal}
use Rattle.std.specs.Int.{cast_signed, cast_unsigned, from_be_bytes, to_be_bytes, w32}
use Rattle.std.specs.List.{starts_with}
use Rattle.std.specs.Option.{option_map}
use Rattle.nb_defs.specs.Commands.{number_of}
use Rattle.nb_numerals.specs.Numbers.{below}

-- the last bytes of a value, at most so many
abbrev pub last_bytes : ℕ → List ℕ → List ℕ
last_bytes count bytes = drop (length bytes - count) bytes

-- four bytes, with fill before those there are
abbrev pub filled : ℕ → List ℕ → List ℕ
filled fill bytes = replicate (4 - length bytes) fill ++ bytes

-- what a value is extended by where it has a sign
abbrev pub sign_fill : List ℕ → ℕ
sign_fill bytes = if nat_le 128 (slice_index bytes 0) then 255 else 0

-- the number of at most four bytes with a sign, and of those without
abbrev pub signed_of : List ℕ → ℤ
signed_of bytes = cast_signed w32 (from_be_bytes w32 (filled (sign_fill bytes) bytes))

abbrev pub unsigned_of : List ℕ → ℕ
unsigned_of bytes = from_be_bytes w32 (filled 0 bytes)

-- a number of so many bytes as text; of no bytes nothing
abbrev pub printed_signed : ℕ → List ℕ → List ℕ
printed_signed size [] = []
printed_signed size (b ∷ bytes) = signed_decimal (signed_of (last_bytes size (b ∷ bytes)))

abbrev pub printed_unsigned : ℕ → List ℕ → List ℕ
printed_unsigned size [] = []
printed_unsigned size (b ∷ bytes) = codes "0x" ++ digits 16 false (unsigned_of (last_bytes size (b ∷ bytes)))

-- a number with a sign: `-` may stand before it
abbrev pub signed_number_of : List ℕ → Option ℤ
signed_number_of text =
    if starts_with nat_eq text (codes "-") then option_map (λ n. neg_ℤ (pos n)) (number_of (drop 1 text))
    else option_map pos (number_of text)

-- a number from minus a bound to below it
abbrev pub within : ℕ → Option ℤ → Option ℤ
within bound None = None
within bound (Some (pos n)) = if nat_lt n bound then Some (pos n) else None
within bound (Some (negsuc n)) = if nat_lt n bound then Some (negsuc n) else None

-- the last of a number's four bytes, so many
abbrev pub number_bytes : ℕ → ℕ → List ℕ
number_bytes size number = drop (4 - size) (to_be_bytes w32 number)

-- the bytes of a number that so many bytes hold
abbrev pub parsed_signed : ℕ → List ℕ → Option (List ℕ)
parsed_signed size text =
    option_map (λ z. number_bytes size (cast_unsigned w32 z)) (within (256 ^ size / 2) (signed_number_of text))

abbrev pub parsed_unsigned : ℕ → List ℕ → Option (List ℕ)
parsed_unsigned size text = option_map (number_bytes size) (below (256 ^ size) (number_of text))
