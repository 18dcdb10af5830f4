-- RFC 9112, section 2: the lines of a message, and the blocks of lines up to an empty one
use Rattle.std.specs.Prelude.{ℕ, zero, suc, ◌+◌, ◌==◌, ◌&&◌, Bool, false, List, [], ◌∷◌, ◌++◌, length, take, drop, Option, Some, None, nat_le, if◌then◌else◌}
use Rattle.std.specs.Option.{option_map}
use Rattle.httparse.specs.Ascii.{line_feed, carriage_return}

-- a line up to and with its LF, and what stands after it
pub record FirstLine : Type 0 where
  pub line : List ℕ
  pub rest : List ℕ

abbrev pub with_line_byte : ℕ → FirstLine → FirstLine
with_line_byte b l = record l { line = b ∷ l.line }

-- the first line, if it is whole
abbrev pub first_line : List ℕ → Option FirstLine
first_line [] = None
first_line (b ∷ bytes) = if b == line_feed then Some (record { line = b ∷ []; rest = bytes })
    else option_map (with_line_byte b) (first_line bytes)

-- LF, or CR LF
abbrev pub is_empty : List ℕ → Bool
is_empty [] = false
is_empty (b ∷ []) = b == line_feed
is_empty (b ∷ c ∷ []) = b == carriage_return && c == line_feed
is_empty (b ∷ c ∷ d ∷ bytes) = false

-- how the lines begin: a block up to and with the first empty line, none yet, or so many lines without one
pub data LineBlock : Type 0 where
  whole : (block rest : List ℕ) → LineBlock
  unfinished : LineBlock
  crowded : LineBlock

abbrev pub with_line : List ℕ → LineBlock → LineBlock
with_line line (whole block rest) = whole (line ++ block) rest
with_line line unfinished = unfinished
with_line line crowded = crowded

abbrev pub block_by : Option FirstLine → LineBlock → LineBlock
block_by None later = unfinished
block_by (Some l) later = if is_empty l.line then whole l.line l.rest else with_line l.line later

abbrev pub rest_of : Option FirstLine → List ℕ
rest_of None = []
rest_of (Some l) = l.rest

-- the block with which a text begins, of at most so many lines that aren't empty before its last
abbrev pub first_block : ℕ → List ℕ → LineBlock
first_block zero text = crowded
first_block (suc most) text = block_by (first_line text) (first_block most (rest_of (first_line text)))

-- the most bytes of a head, or of a chunk's size line and trailer together, and the most lines of a head
abbrev pub limit : ℕ
limit = 16384

abbrev pub most_lines : ℕ
most_lines = 66

-- a block among the first bytes: it is whole, the bytes can't have one, or it may still come
pub data Found : Type 0 where
  found : (block rest : List ℕ) → Found
  missing : Found
  too_many : Found
  too_long : Found

abbrev pub found_by : ℕ → List ℕ → LineBlock → Found
found_by most text (whole block rest) = found block (drop (length block) text)
found_by most text unfinished = if nat_le most (length text) then too_long else missing
found_by most text crowded = too_many

-- the block of the head with which a text begins
abbrev pub head_block : List ℕ → Found
head_block text = found_by limit text (first_block most_lines (take limit text))

-- the block of the trailer, where so many bytes are left for it; it has as many lines as it likes
abbrev pub trailer_block : ℕ → List ℕ → Found
trailer_block most text = found_by most text (first_block (most + 1) (take most text))
