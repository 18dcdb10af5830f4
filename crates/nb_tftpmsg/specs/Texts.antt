-- RFC 1350, section 5, and RFC 2347: texts that end in a zero byte, and decimals in them
use Rattle.std.specs.Prelude.{◌≡◌, ℕ, ◌+◌, ◌<◌, ◌==◌, ◌&&◌, List, [], ◌∷◌, ◌++◌, length, map, nat_lt, Option, Some, None, if◌then◌else◌}
use Rattle.std.specs.Char.{is_ascii_digit}
use Rattle.std.specs.Int.Digits.{digits_of}
use Rattle.std.specs.List.{list_all}
use Rattle.std.specs.Option.{option_map, option_map_or}
use Rattle.std.specs.Str.Parse.{digits_value}

-- no byte is zero
abbrev pub HasNoZero : List ℕ → Type 0
HasNoZero [] = Unit {0}
HasNoZero (byte ∷ bytes) = (0 < byte) × HasNoZero bytes

-- a text and its zero byte
abbrev pub ended : List ℕ → List ℕ
ended text = text ++ 0 ∷ []

-- the bytes before the first zero byte, and those after it
abbrev pub text_at : List ℕ → Option (List ℕ × List ℕ)
text_at [] = None
text_at (byte ∷ bytes) = if byte == 0 then Some ([], bytes) else option_map (λ found. (byte ∷ found.0, found.1)) (text_at bytes)

-- what may stand after a text that needn't end: nothing, or a zero byte and anything
abbrev pub EndsText : List ℕ → Type 0
EndsText [] = Unit {0}
EndsText (byte ∷ bytes) = byte ≡ 0

-- the bytes before the first zero byte, or all of them where there is none
abbrev pub text_before : List ℕ → List ℕ
text_before bytes = option_map_or (λ found. found.0) (text_at bytes) bytes

-- the number that a text of one digit or more writes, where it is below a bound; zeros may stand in front
abbrev pub decimal : ℕ → List ℕ → Option ℕ
decimal bound text =
    if nat_lt 0 (length text) && list_all is_ascii_digit text && nat_lt (digits_value 10 text) bound
    then Some (digits_value 10 text)
    else None

-- a number's digits, with no zero in front
abbrev pub decimal_text : ℕ → List ℕ
decimal_text number = if number == 0 then 48 ∷ [] else map (λ digit. 48 + digit) (digits_of 10 number)
