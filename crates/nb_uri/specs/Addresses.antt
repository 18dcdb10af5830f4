-- RFC 3986, section 3.2.2: an IPv4 address is four decimals, joined by dots
use Rattle.std.specs.Prelude.{ℕ, List, Option}
use Rattle.std.specs.Int.{from_be_bytes, w32}
use Rattle.std.specs.Option.{option_map}
use Rattle.nb_numerals.specs.Addresses.{parsed_address}

-- the address that four decimals write, its first byte the highest
abbrev pub four_decimals : List ℕ → Option ℕ
four_decimals text = option_map (from_be_bytes w32) (parsed_address text)
