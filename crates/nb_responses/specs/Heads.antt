-- RFC 9112, sections 3 to 6: what the head of a response says, and how its body is framed
use Rattle.std.specs.Prelude.{◌≡◌, ◌≤◌, ℕ, ◌==◌, ◌&&◌, ◌||◌, Bool, false, List, [], ◌∷◌, length, map, filter, Option, Some, None, nat_lt, nat_le, codes, if◌then◌else◌}
use Rattle.std.specs.List.{list_all}
use Rattle.std.specs.Char.{is_ascii_digit}
use Rattle.std.specs.Str.{str_eq_ignore_ascii_case}
use Rattle.std.specs.Str.Parse.{digits_value}
use Rattle.httparse.specs.Grammar.{Field, ResponseHead, IsResponseHead, print_response, status_code, field_value}

-- the bytes are this head, of at most 64 fields
pub record IsHead (block : List ℕ) (h : ResponseHead) : Type 0 where
  pub valid : IsResponseHead h
  pub bytes : block ≡ print_response h
  pub fields : length h.fields ≤ 64

-- without regard to case
abbrev pub is_same_word : List ℕ → List ℕ → Bool
is_same_word word bytes = str_eq_ignore_ascii_case bytes word

abbrev pub field_is : List ℕ → Field → Bool
field_is name f = is_same_word name f.name

-- the values of the fields of a name, in order, without the white space around them
abbrev pub values : List ℕ → ResponseHead → List (List ℕ)
values name h = map field_value (filter (field_is name) h.fields)

-- where the body ends
pub data Framing : Type 0 where
  sized : (bytes : ℕ) → Framing
  chunked : Framing
  to_end : Framing
  bad : Framing

abbrev pub is_decimal : List ℕ → Bool
is_decimal [] = false
is_decimal (d ∷ ds) = list_all is_ascii_digit (d ∷ ds)

abbrev pub has_decimal_value : ℕ → List ℕ → Bool
has_decimal_value n digits = is_decimal digits && digits_value 10 digits == n

-- by the values of Transfer-Encoding, which go first, and those of Content-Length
abbrev pub framing_by : List (List ℕ) → List (List ℕ) → Framing
framing_by [] [] = to_end
framing_by [] (v ∷ vs) = if list_all (has_decimal_value (digits_value 10 v)) (v ∷ vs)
    then sized (digits_value 10 v) else bad
framing_by (v ∷ []) lengths = if is_same_word (codes "chunked") v then chunked else bad
framing_by (v ∷ w ∷ vs) lengths = bad

abbrev pub framing : ResponseHead → Framing
framing h = framing_by (values (codes "transfer-encoding") h) (values (codes "content-length") h)

abbrev pub is_interim : ResponseHead → Bool
is_interim h = nat_le 100 (status_code h) && nat_lt (status_code h) 200

abbrev pub is_move : ℕ → Bool
is_move code = code == 301 || (code == 302 || (code == 303 || (code == 307 || code == 308)))

-- the first value decides
abbrev pub moves_to_first : List (List ℕ) → Option (List ℕ)
moves_to_first [] = None
moves_to_first ([] ∷ vs) = None
moves_to_first ((b ∷ bytes) ∷ vs) = Some (b ∷ bytes)

-- the text that the head moves to
abbrev pub moves_to : ResponseHead → Option (List ℕ)
moves_to h = if is_move (status_code h) then moves_to_first (values (codes "location") h) else None
