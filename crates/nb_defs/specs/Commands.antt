-- What a command comes to, and the numbers and options among its words.
use Rattle.std.specs.Prelude.{ℕ, ◌+◌, ◌*◌, Bool, false, not, ◌&&◌, ◌||◌, ◌==◌, nat_lt, nat_eq, List, [], ◌∷◌, length, drop, fold, Option, Some, None, if◌then◌else◌, codes}
use Rattle.std.specs.List.{list_all, starts_with}
use Rattle.std.specs.Char.{digit_value, is_digit}
use Rattle.std.specs.Str.{bytes_eq}
use Rattle.nb_terms.specs.declared.cause.Cause.{Cause}
use Rattle.nb_defs.specs.Causes.{ok}

-- what a command comes to: what it prints, its result, and whether it leaves the script in any case
pub record CommandOutcome : Type 0 where
  pub prints : Option (List ℕ)
  pub cause : Cause
  pub leaves : Bool

abbrev pub refused : Cause → CommandOutcome
refused cause = record { prints = None; cause = cause; leaves = false }

abbrev pub prints_text : List ℕ → CommandOutcome
prints_text bytes = record { prints = Some bytes; cause = ok; leaves = false }

-- the value of digits in this base
abbrev pub digits_value : ℕ → List ℕ → ℕ
digits_value base digits = fold (λ n d. n * base + digit_value d) 0 digits

abbrev pub are_digits : ℕ → List ℕ → Bool
are_digits base digits = nat_lt 0 (length digits) && list_all (λ d. is_digit d base) digits

-- no zero before other digits
abbrev pub has_no_leading_zero : List ℕ → Bool
has_no_leading_zero word = not (starts_with nat_eq word (codes "0")) || (length word == 1)

-- a number: decimal digits without leading zeros, or `0x` and hexadecimal digits of either case
unfoldable pub number_of : List ℕ → Option ℕ
number_of word =
    if starts_with nat_eq word (codes "0x") && are_digits 16 (drop 2 word) then Some (digits_value 16 (drop 2 word))
    else if are_digits 10 word && has_no_leading_zero word then Some (digits_value 10 word)
    else None

-- whether a word in option place is an option of any command
abbrev pub is_option : List ℕ → Bool
is_option w = starts_with nat_eq w (codes "--")

-- whether the first word is `-n` or an option
abbrev pub begins_with_option : List (List ℕ) → Bool
begins_with_option [] = false
begins_with_option (w ∷ ws) = bytes_eq w (codes "-n") || is_option w
