-- Own: numbers as text
use Rattle.std.specs.Prelude.{ℕ, nat_lt, List, Option, Some, None, if◌then◌else◌}
use Rattle.nb_defs.specs.Commands.{are_digits, has_no_leading_zero, digits_value}

-- a number, where it is below a bound
abbrev pub below : ℕ → Option ℕ → Option ℕ
below bound None = None
below bound (Some n) = if nat_lt n bound then Some n else None

-- the number of digits in a base, and of decimal digits without leading zeros
abbrev pub digits_number : ℕ → List ℕ → Option ℕ
digits_number base text = if are_digits base text then Some (digits_value base text) else None

abbrev pub decimal_number : List ℕ → Option ℕ
decimal_number text = if has_no_leading_zero text then digits_number 10 text else None
