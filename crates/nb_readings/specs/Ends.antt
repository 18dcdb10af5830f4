-- How a response that is decided ends what asked for it
use Rattle.std.specs.Prelude.{◌≡◌, ℕ, Bool, true, false, List, Option, Some, None}
use Rattle.nb_terms.specs.declared.cause.Cause.{Cause}
use Rattle.nb_responses.specs.Chunks.{Verdict, more, open_body, body, moved, status, broken, large, long, many}

abbrev pub cause : ℕ → ℕ → ℕ → Cause
cause code a b = record { code = code; a = a; b = b }

-- Ok for a body or a move; Refused with the status; Broken; TooLarge 1; TooLong 6; TooMany 7
abbrev pub verdict_end : ℕ → Verdict → Option Cause
verdict_end rec more = None
verdict_end rec open_body = None
verdict_end rec body = Some (cause 0 0 0)
verdict_end rec (moved text) = Some (cause 0 0 0)
verdict_end rec (status code) = Some (cause 1 rec code)
verdict_end rec broken = Some (cause 3 rec 0)
verdict_end rec large = Some (cause 6 1 0)
verdict_end rec long = Some (cause 5 6 0)
verdict_end rec many = Some (cause 7 7 0)

abbrev pub is_decided : Verdict → Bool
is_decided more = false
is_decided open_body = false
is_decided body = true
is_decided (moved text) = true
is_decided (status code) = true
is_decided broken = true
is_decided large = true
is_decided long = true
is_decided many = true

-- the text of a move
abbrev pub text_of : Verdict → Option (List ℕ)
text_of more = None
text_of open_body = None
text_of body = None
text_of (moved text) = Some text
text_of (status code) = None
text_of broken = None
text_of large = None
text_of long = None
text_of many = None

-- a body or a move
abbrev pub is_whole : Verdict → Bool
is_whole more = false
is_whole open_body = false
is_whole body = true
is_whole (moved text) = true
is_whole (status code) = false
is_whole broken = false
is_whole large = false
is_whole long = false
is_whole many = false

-- a response that isn't decided ends nothing; one that is whole ends in Ok, and no other does
pub record EndsWellWhereWhole : Type 0 where
  pub undecided : (rec : ℕ) (verdict : Verdict) → is_decided verdict ≡ false → verdict_end rec verdict ≡ None
  pub whole : (rec : ℕ) (verdict : Verdict) → is_whole verdict ≡ true → verdict_end rec verdict ≡ Some (cause 0 0 0)
  pub only : (rec : ℕ) (verdict : Verdict) (a b : ℕ) → verdict_end rec verdict ≡ Some (cause 0 a b) → is_whole verdict ≡ true
