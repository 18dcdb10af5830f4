-- RFC 9112, section 7.1: what a reader of a chunked body stands for, by the bytes that it took
use Rattle.std.specs.Prelude.{◌≡◌, ◌≤◌, ◌<◌, ℕ, ◌+◌, ◌-◌, Bool, true, false, List, [], ◌∷◌, ◌++◌, ◌==◌, length, take, cond, nat_lt}
use Rattle.std.specs.List.{AllByRecursion, flat_map}
use Rattle.httparse.specs.Ascii.{carriage_return, line_feed}
use Rattle.httparse.specs.Grammar.{ChunkLine, IsChunkLine, print_chunk_line, chunk_size}
use Rattle.nb_responses.specs.Lines.{first_block, unfinished, limit}
use Rattle.nb_responses.specs.Chunks.{Verdict, more, body, broken, long, response, Chunk, IsChunk, print_chunk, chunk_bytes, Tail}
use Rattle.nb_readings.specs.Readings.{chunked_read}
use Rattle.nb_httpmsg.specs.Reader.{Reader, IsOpenLine, IsOpenTrailer, FitsPlace}
use Rattle.nb_httpmsg.specs.declared.line.LineRead.{LineRead}
use Rattle.nb_httpmsg.specs.declared.place.Place.{Place}
use Rattle.nb_httpmsg.specs.declared.place.Place.TheVariants.{Size, Bytes, End, Trailer, Whole, Broken, TooLong}
use Rattle.nb_httpmsg.specs.declared.chunks.ChunkState.{ChunkState}
use Rattle.nb_httpmsg.specs.declared.chunks.ChunkState.TheVariants as state

-- a chunk whose size line is read, and its bytes so far
pub record InChunk (l : ChunkLine) : Type 0 where
  pub is : IsChunkLine l
  pub short : length (print_chunk_line l) ≤ limit

-- the size line so far
pub record InSize (line tail part : List ℕ) : Type 0 where
  pub is_tail : tail ≡ line
  pub is_part : part ≡ []
  pub unread : IsOpenLine line

-- within the bytes of a chunk
pub record InBytes (left : ℕ) (tail part : List ℕ) : Type 0 where
  pub line : ChunkLine
  pub chunk : InChunk line
  pub is_tail : tail ≡ print_chunk_line line ++ part
  pub size : chunk_size line ≡ length part + left
  pub more : 0 < left

-- within the line end after a chunk's bytes
pub record InEnd (cr : Bool) (tail part : List ℕ) : Type 0 where
  pub line : ChunkLine
  pub chunk : InChunk line
  pub is_tail : tail ≡ print_chunk_line line ++ (part ++ cond cr (carriage_return ∷ []) [])
  pub size : chunk_size line ≡ length part
  pub some : 0 < length part

-- within the trailer after the last size line
pub record InTrailer (used : ℕ) (line tail part : List ℕ) : Type 0 where
  pub last : ChunkLine
  pub rest : List ℕ
  pub chunk : InChunk last
  pub is_line : line ≡ print_chunk_line last ++ rest
  pub is_tail : tail ≡ line
  pub is_part : part ≡ []
  pub is_used : used ≡ length (print_chunk_line last)
  pub size : chunk_size last ≡ 0
  pub unended : first_block (limit - used + 1) rest ≡ unfinished
  pub short : length line < limit

abbrev pub StandsAt : Place → List ℕ → List ℕ → List ℕ → Type 0
StandsAt Size line tail part = InSize line tail part
StandsAt (Bytes left) line tail part = InBytes left tail part
StandsAt (End cr) line tail part = InEnd cr tail part
StandsAt (Trailer used) line tail part = InTrailer used line tail part
StandsAt Whole line tail part = Tail tail (response body part)
StandsAt Broken line tail part = Tail tail (response broken part)
StandsAt TooLong line tail part = Tail tail (response long part)

abbrev pub verdict_of : Place → Verdict
verdict_of Size = more
verdict_of (Bytes left) = more
verdict_of (End cr) = more
verdict_of (Trailer used) = more
verdict_of Whole = body
verdict_of Broken = broken
verdict_of TooLong = long

abbrev pub chunk_state : Place → ChunkState
chunk_state Size = state.More
chunk_state (Bytes left) = state.More
chunk_state (End cr) = state.More
chunk_state (Trailer used) = state.More
chunk_state Whole = state.Whole
chunk_state Broken = state.Broken
chunk_state TooLong = state.TooLong

abbrev pub is_open : Place → Bool
is_open Size = true
is_open (Bytes left) = true
is_open (End cr) = true
is_open (Trailer used) = true
is_open Whole = false
is_open Broken = false
is_open TooLong = false

-- a place, unless so many bytes are too many for it
abbrev pub kept_within : ℕ → Place → Place
kept_within len place = cond (nat_lt len limit) place TooLong

-- the place after a size line of so many bytes, which says this size
abbrev pub place_after_size : ℕ → ℕ → Place
place_after_size len size = cond (nat_lt 0 size) (Bytes size) (kept_within len (Trailer len))

-- the place after bytes of a chunk of which so many are left
abbrev pub place_after_bytes : ℕ → Place
place_after_bytes left = cond (nat_lt 0 left) (Bytes left) (End false)

-- the place after a byte of a chunk's line end
abbrev pub place_after_end : Bool → ℕ → Place
place_after_end cr byte = cond cr (cond (byte == line_feed) Size Broken)
    (cond (byte == carriage_return) (End true) Broken)

-- A reader at a place, with a size line or trailer so far, stands for the bytes that it took and those
-- of the body that it gathered since it was made: this is how the text is read.
pub record StandsForBody (place : Place) (line text bytes : List ℕ) : Type 0 where
  pub chunks : List Chunk
  pub tail : List ℕ
  pub part : List ℕ
  pub all : AllByRecursion IsChunk chunks
  pub is_text : text ≡ flat_map print_chunk chunks ++ tail
  pub is_bytes : bytes ≡ flat_map chunk_bytes chunks ++ part
  pub at : StandsAt place line tail part
  pub reads : chunked_read text ≡ response (verdict_of place) bytes

-- a reader that has taken nothing
abbrev pub IsAtStart : Reader → Type 0
IsAtStart r = StandsForBody r.place r.line [] [] × (r.block ≡ []) × (is_open r.place ≡ true)

-- A call took these bytes of the text: they and what it gathered, added to all that was before, are what
-- the reader stands for.
abbrev pub Gathers : Reader → Reader → List ℕ → Type 0
Gathers old new taken = (text bytes : List ℕ)
    → StandsForBody old.place old.line text bytes
    → StandsForBody new.place new.line (text ++ taken) (bytes ++ new.block)

-- of these bytes at least one is taken where there is one, until the body is decided
abbrev pub TakesAtLeastOne : Reader → List ℕ → ℕ → Type 0
TakesAtLeastOne old bytes count = is_open old.place ≡ true → 0 < length bytes → 0 < count

-- the same while the block has room
abbrev pub TakesOneWithRoom : Reader → List ℕ → ℕ → Type 0
TakesOneWithRoom old bytes count = is_open old.place ≡ true → length old.block < 4096
    → 0 < length bytes → 0 < count

-- once the body is decided, none is taken
abbrev pub TakesNone : Reader → Reader → ℕ → Type 0
TakesNone old new count = is_open old.place ≡ false
    → (count ≡ 0) × (new.place ≡ old.place) × (new.line ≡ old.line)

-- bytes are left over only where the body is decided or the block is full
abbrev pub TakesAll : Reader → List ℕ → ℕ → Type 0
TakesAll new bytes count = count < length bytes → is_open new.place ≡ true → length new.block ≡ 4096

-- a reader goes on by these bytes of the text: whatever it stood for, it stands for with them added
abbrev pub Feeds : Reader → Reader → List ℕ → Type 0
Feeds old new taken = (text before : List ℕ)
    → StandsForBody old.place old.line text (before ++ old.block)
    → StandsForBody new.place new.line (text ++ taken) (before ++ new.block)

-- What a size line, or what may become one, is read as. Where none was whole, one that is whole ends in
-- what was added.
pub record IsSizeRead (line : List ℕ) (r : LineRead) : Type 0 where
  pub within : r.len ≤ length line
  pub stands : StandsAt r.place (take r.len line) (take r.len line) []
  pub fits : FitsPlace r.place (take r.len line)
  pub longer : (before added : List ℕ) → line ≡ before ++ added → 0 < length added
      → IsOpenLine before → length before < r.len
  pub least : (before later : List ℕ) → take r.len line ≡ before ++ later → 0 < length later
      → IsOpenLine before

-- a last size line of so many bytes, and what follows it
pub record IsLast (used : ℕ) (line : List ℕ) : Type 0 where
  pub last : ChunkLine
  pub rest : List ℕ
  pub chunk : InChunk last
  pub is_line : line ≡ print_chunk_line last ++ rest
  pub is_used : used ≡ length (print_chunk_line last)
  pub size : chunk_size last ≡ 0

-- what a trailer is read as
pub record IsTrailerRead (used : ℕ) (line : List ℕ) (r : LineRead) : Type 0 where
  pub within : r.len ≤ length line
  pub stands : IsLast used line → StandsAt r.place (take r.len line) (take r.len line) []
  pub fits : FitsPlace r.place (take r.len line)
  pub longer : (before added : List ℕ) → line ≡ before ++ added → 0 < length added
      → IsOpenTrailer used before → length before < r.len
  pub least : (before later : List ℕ) → take r.len line ≡ before ++ later → 0 < length later
      → used ≤ length before → IsOpenTrailer used before
