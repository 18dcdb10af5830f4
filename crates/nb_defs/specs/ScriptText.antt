-- The text of a script, as a function of the whole text: its lines, their words, and which texts run.
use Rattle.std.specs.Prelude.{ℕ, Bool, true, false, not, ◌&&◌, ◌||◌, ◌==◌, nat_lt, nat_le, nat_eq, List, [], ◌∷◌, length, drop, filter, take_while, if◌then◌else◌, codes}
use Rattle.std.specs.List.{list_all, starts_with}
use Rattle.std.specs.Str.{bytes_eq}

abbrev pub is_line_feed : ℕ → Bool
is_line_feed b = b == 10

-- a blank is a space or a tab
abbrev pub is_blank : ℕ → Bool
is_blank b = (b == 32) || (b == 9)

abbrev pub onto_first : ℕ → List (List ℕ) → List (List ℕ)
onto_first b [] = (b ∷ []) ∷ []
onto_first b (p ∷ ps) = (b ∷ p) ∷ ps

-- what stands between the separators, before the first and after the last: one piece more than separators
unfoldable pub pieces : (ℕ → Bool) → List ℕ → List (List ℕ)
pieces sep [] = [] ∷ []
pieces sep (b ∷ bytes) = if sep b then [] ∷ pieces sep bytes else onto_first b (pieces sep bytes)

-- less one carriage return at the end, where one stands there
unfoldable pub without_cr : List ℕ → List ℕ
without_cr [] = []
without_cr (b ∷ []) = if b == 13 then [] else b ∷ []
without_cr (b ∷ c ∷ bytes) = b ∷ without_cr (c ∷ bytes)

-- A line ends in a line feed, and a carriage return before it is dropped. What stands after the last
-- line feed is a line too, as it is, where it isn't empty.
unfoldable pub line_contents : List (List ℕ) → List (List ℕ)
line_contents [] = []
line_contents (p ∷ []) = if length p == 0 then [] else p ∷ []
line_contents (p ∷ q ∷ ps) = without_cr p ∷ line_contents (q ∷ ps)

-- the lines of a text, the first line included
unfoldable pub lines : List ℕ → List (List ℕ)
lines bytes = line_contents (pieces is_line_feed bytes)

abbrev pub is_some_byte : List ℕ → Bool
is_some_byte [] = false
is_some_byte (b ∷ bytes) = true

-- all that stands between blanks
unfoldable pub all_words : List ℕ → List (List ℕ)
all_words line = filter is_some_byte (pieces is_blank line)

-- a word that begins with # begins a comment: it and the rest of the line are nothing
abbrev pub is_before_comment : List ℕ → Bool
is_before_comment word = not (starts_with nat_eq word (codes "#"))

-- the words of a line; a line without words is nothing
unfoldable pub line_words : List ℕ → List (List ℕ)
line_words line = take_while is_before_comment (all_words line)

-- a colon and a name, alone on the line
abbrev pub is_label_word : List (List ℕ) → Bool
is_label_word [] = false
is_label_word (w ∷ []) = starts_with nat_eq w (codes ":") && nat_lt 1 (length w)
is_label_word (w ∷ v ∷ ws) = false

unfoldable pub is_label : List ℕ → Bool
is_label line = is_label_word (all_words line)

abbrev pub is_join : List ℕ → Bool
is_join w = bytes_eq w (codes "&&") || bytes_eq w (codes "||") || bytes_eq w (codes ";")

-- whether the last byte is a backslash
unfoldable pub ends_in_backslash : List ℕ → Bool
ends_in_backslash [] = false
ends_in_backslash (b ∷ []) = b == 92
ends_in_backslash (b ∷ c ∷ bytes) = ends_in_backslash (c ∷ bytes)

-- `#!ipxe`, then blanks, then at most one carriage return
unfoldable pub is_first_line : List ℕ → Bool
is_first_line line = starts_with nat_eq line (codes "#!ipxe") && list_all is_blank (without_cr (drop 6 line))

abbrev pub begins_script : List (List ℕ) → Bool
begins_script [] = false
begins_script (p ∷ ps) = is_first_line p

abbrev pub is_short_line : List ℕ → Bool
is_short_line line = nat_le (length line) 4096
