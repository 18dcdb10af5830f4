-- Own, after the ipxe.org references on scripts: which texts are scripts, their lines as numbered, and
-- how a list of commands is cut.
use Rattle.std.specs.Prelude.{◌≡◌, ℕ, ◌+◌, ◌-◌, ◌≤◌, Bool, true, false, not, ◌&&◌, ◌||◌, ◌==◌, nat_lt, nat_le, List, [], ◌∷◌, ◌++◌, length, take, drop, map, count_by, sum_by, position, slice_get, All, IfSome, Option, Some, None, if◌then◌else◌, codes}
use Rattle.std.specs.List.{list_all, position_or_len, suffix_len}
use Rattle.std.specs.Str.{bytes_eq}
use Rattle.nb_defs.specs.ScriptText.{is_line_feed, is_blank, pieces, without_cr, ends_in_backslash, begins_script, is_short_line, line_words, is_label, is_join}

-- What stands on a line: a label with its name, a list of commands as it is written, or nothing.
pub data Line : Type 0 where
  label : List ℕ → Line
  list : List ℕ → Line
  empty : Line

-- A front is joined to the first of the lines after it. The two are one line, numbered as the front;
-- at the number of the second stands an empty line, so that each line keeps its number.
abbrev pub joined_onto : List ℕ → List (List ℕ) → List (List ℕ)
joined_onto front [] = front ∷ []
joined_onto front (line ∷ behind) = (front ++ line) ∷ [] ∷ behind

-- A line that ends, before the lines after it: a backslash directly before its end is dropped, and
-- joins it to the next.
abbrev pub line_before : List ℕ → List (List ℕ) → List (List ℕ)
line_before line behind =
    if ends_in_backslash line then joined_onto (take (length line - 1) line) behind else line ∷ behind

-- A line ends in a line feed, and a carriage return before it is dropped. What stands after the last
-- line feed is a line too, as it is, where it isn't empty.
unfoldable pub joined_contents : List (List ℕ) → List (List ℕ)
joined_contents [] = []
joined_contents (p ∷ []) = if length p == 0 then [] else p ∷ []
joined_contents (p ∷ q ∷ ps) = line_before (without_cr p) (joined_contents (q ∷ ps))

-- the lines of a text after joining, the first line included; the line at place i has the number i + 1
unfoldable pub joined_lines : List ℕ → List (List ℕ)
joined_lines text = joined_contents (pieces is_line_feed text)

abbrev pub is_no_blank : ℕ → Bool
is_no_blank b = not (is_blank b)

unfoldable pub without_blanks_before : List ℕ → List ℕ
without_blanks_before line = drop (position_or_len is_no_blank line) line

unfoldable pub without_blanks_behind : List ℕ → List ℕ
without_blanks_behind line = take (length line - suffix_len is_blank line) line

unfoldable pub trimmed : List ℕ → List ℕ
trimmed line = without_blanks_behind (without_blanks_before line)

-- an empty line, or a comment, which begins with #
abbrev pub is_nothing : List ℕ → Bool
is_nothing [] = true
is_nothing (b ∷ bytes) = b == 35

-- what a line is, its blanks at both ends dropped
unfoldable pub line_kind : List ℕ → Line
line_kind line = if is_nothing line then empty else if is_label line then label (drop 1 line) else list line

-- what stands on a line
unfoldable pub script_line : List ℕ → Line
script_line line = line_kind (trimmed line)

-- the lines of a text as numbered
unfoldable pub script_lines : List ℕ → List Line
script_lines text = map script_line (joined_lines text)

-- What a text is: a script with these lines, or none and why.
pub data Reading : Type 0 where
  script : List Line → Reading
  -- its first line isn't `#!ipxe`
  no_script : Reading
  -- it has more than 1,048,576 bytes
  script_too_long : Reading
  -- a line has more than 4,096 bytes after joining, its blanks and comments included
  line_too_long : Reading

unfoldable pub script_reading : List ℕ → Reading
script_reading text =
    if not (begins_script (pieces is_line_feed text)) then no_script
    else if nat_lt 1048576 (length text) then script_too_long
    else if not (list_all is_short_line (joined_lines text)) then line_too_long
    else script (script_lines text)

abbrev pub is_label_of : List ℕ → Line → Bool
is_label_of name (label other) = bytes_eq other name
is_label_of name (list line) = false
is_label_of name empty = false

-- the place of the first line that is this label
unfoldable pub label_place : List ℕ → List Line → Option ℕ
label_place name code = position (is_label_of name) code

-- How a command is joined to the one before it: `&&`, `||` or `;`. The first command of a list isn't.
pub data Join : Type 0 where
  first_join : Join
  and_join : Join
  or_join : Join
  then_join : Join

-- the join that a join word is
unfoldable pub join_of : List ℕ → Join
join_of word =
    if bytes_eq word (codes "&&") then and_join
    else if bytes_eq word (codes "||") then or_join
    else then_join

-- a command of a list, and how it is joined
pub record Item : Type 0 where
  pub join : Join
  pub words : List (List ℕ)

abbrev pub item : Join → List (List ℕ) → Item
item join ws = record { join = join; words = ws }

-- a word before those of the first of these commands
abbrev pub onto_first_item : List ℕ → List Item → List Item
onto_first_item word [] = []
onto_first_item word (i ∷ behind) = item i.join (word ∷ i.words) ∷ behind

-- Words are cut at those that are joins, the first command at this join. A command may have no words.
unfoldable pub cut_words : Join → List (List ℕ) → List Item
cut_words join [] = item join [] ∷ []
cut_words join (word ∷ ws) =
    if is_join word then item join [] ∷ cut_words (join_of word) ws
    else onto_first_item word (cut_words join ws)

abbrev pub is_no_join : List ℕ → Bool
is_no_join word = not (is_join word)

-- the words between a command and the one before it
abbrev pub join_words : Join → List (List ℕ)
join_words first_join = []
join_words and_join = codes "&&" ∷ []
join_words or_join = codes "||" ∷ []
join_words then_join = codes ";" ∷ []

-- the words of commands, their joins between them
abbrev pub spelled : List Item → List (List ℕ)
spelled [] = []
spelled (i ∷ behind) = join_words i.join ++ (i.words ++ spelled behind)

-- A command in words of so many that are no joins, with so many bytes in all.
pub record IsCommandIn (ws : List (List ℕ)) (i : Item) : Type 0 where
  pub no_joins : list_all is_no_join i.words ≡ true
  pub few : length i.words ≤ count_by is_no_join ws
  pub small : sum_by length i.words ≤ sum_by length ws

abbrev pub IsJoinedItem : Item → Type 0
IsJoinedItem i = ¬ (i.join ≡ first_join)

-- Commands cut from these words: spelled again they are the words, none has a join among its words, and
-- all but the first are joined. So there is one more than joins.
pub record AreCutFrom (ws : List (List ℕ)) (cut : List Item) : Type 0 where
  pub first : IfSome (slice_get cut 0) (λ i. i.join ≡ first_join)
  pub behind_first : All IsJoinedItem (drop 1 cut)
  pub spelled_are : spelled cut ≡ ws
  pub each : All (IsCommandIn ws) cut
  pub few : length cut ≡ count_by is_join ws + 1

-- at most 64 words and at most 64 joins
abbrev pub are_few : List (List ℕ) → Bool
are_few ws = nat_le (count_by is_no_join ws) 64 && nat_le (count_by is_join ws) 64

-- the commands of a list, its comment dropped; None where it has too many words or joins
unfoldable pub items : List ℕ → Option (List Item)
items line = if are_few (line_words line) then Some (cut_words first_join (line_words line)) else None

abbrev pub is_or_join : Join → Bool
is_or_join first_join = false
is_or_join and_join = false
is_or_join or_join = true
is_or_join then_join = false

abbrev pub is_no_word : List (List ℕ) → Bool
is_no_word [] = true
is_no_word (word ∷ ws) = false

abbrev pub has_no_words : Item → Bool
has_no_words i = is_no_word i.words

-- a command that comes to nothing after a success: it has no words, or runs after a failure alone
abbrev pub is_idle_item : Item → Bool
is_idle_item i = is_or_join i.join || has_no_words i

-- whether all commands of a list come to nothing: the first has no words, which is a success, and each
-- of the others comes to nothing after one
unfoldable pub is_idle_list : List Item → Bool
is_idle_list [] = true
is_idle_list (i ∷ others) = has_no_words i && list_all is_idle_item others

-- the same of a list as it was cut: one with too many words or joins is refused, so it isn't idle
abbrev pub is_idle_cut : Option (List Item) → Bool
is_idle_cut None = false
is_idle_cut (Some cut) = is_idle_list cut

-- whether nothing is to be done on a line: it is a label, nothing, or a list that comes to nothing
abbrev pub is_idle_line : Line → Bool
is_idle_line (label name) = true
is_idle_line (list text) = is_idle_cut (items text)
is_idle_line empty = true
