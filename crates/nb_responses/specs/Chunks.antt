-- RFC 9112, section 7.1: what a text is read as, and the reading of a chunked body
use Rattle.std.specs.Prelude.{◌≡◌, ◌≤◌, ◌<◌, ℕ, ◌-◌, ◌==◌, ◌&&◌, List, [], ◌∷◌, ◌++◌, length, take, drop, Option, Some, None, nat_lt, if◌then◌else◌}
use Rattle.std.specs.List.{AllByRecursion, flat_map}
use Rattle.httparse.specs.Ascii.{crlf_bytes, carriage_return, line_feed}
use Rattle.httparse.specs.Grammar.{ChunkLine, IsChunkLine, print_chunk_line, chunk_size, ReadsChunkLine, NeverHasChunkLine, MayBecomeChunkLine}
use Rattle.nb_responses.specs.Lines.{Found, found, missing, too_many, too_long, trailer_block, limit}

-- What a text is read as: it isn't decided; it is a body as far as the stream goes; or it is decided.
pub data Verdict : Type 0 where
  more : Verdict
  open_body : Verdict
  body : Verdict
  moved : (text : List ℕ) → Verdict
  status : (code : ℕ) → Verdict
  broken : Verdict
  large : Verdict
  long : Verdict
  many : Verdict

-- a verdict, and the bytes of the body so far
pub record Response : Type 0 where
  pub verdict : Verdict
  pub bytes : List ℕ

abbrev pub response : Verdict → List ℕ → Response
response verdict bytes = record { verdict = verdict; bytes = bytes }

abbrev pub with_chunk : List ℕ → Response → Response
with_chunk bytes r = record r { bytes = bytes ++ r.bytes }

-- RFC 9112, section 7.1: a chunk of a chunked body
pub record Chunk : Type 0 where
  pub line : ChunkLine
  pub bytes : List ℕ

abbrev pub chunk_bytes : Chunk → List ℕ
chunk_bytes c = c.bytes

abbrev pub print_chunk : Chunk → List ℕ
print_chunk c = print_chunk_line c.line ++ (c.bytes ++ crlf_bytes)

pub record IsChunk (c : Chunk) : Type 0 where
  pub line : IsChunkLine c.line
  pub short : length (print_chunk_line c.line) ≤ limit
  pub some : 0 < length c.bytes
  pub size : chunk_size c.line ≡ length c.bytes

-- the trailer, once it is whole, ends the body
abbrev pub trailer_verdict : Found → Verdict
trailer_verdict (found block rest) = body
trailer_verdict missing = more
trailer_verdict too_many = broken
trailer_verdict too_long = long

-- what stands after a chunk's bytes: its line end, the beginning of it, or something else
abbrev pub tail_ending : List ℕ → List ℕ → Option Response
tail_ending bytes [] = Some (response more bytes)
tail_ending bytes (b ∷ []) = Some (response (if b == carriage_return then more else broken) bytes)
tail_ending bytes (b ∷ c ∷ rest) = if b == carriage_return && c == line_feed then None
    else Some (response broken bytes)

-- How the body goes on after a size line: nothing is said where a whole chunk stands there.
abbrev pub ending : ℕ → ℕ → List ℕ → Option Response
ending used size rest =
    if size == 0 then Some (response (trailer_verdict (trailer_block (limit - used) rest)) [])
    else (if nat_lt (length rest) size then Some (response more rest)
    else tail_ending (take size rest) (drop size rest))

-- a size line of the grammar, that isn't too long
pub record IsLineOf (text : List ℕ) (l : ChunkLine) (rest : List ℕ) : Type 0 where
  pub reads : ReadsChunkLine text l rest
  pub short : length (print_chunk_line l) ≤ limit

-- why none is there: it may still come, it is too long, or its first bytes can't be one
pub data LineVerdict (text : List ℕ) : Verdict → Type 0 where
  short_line : MayBecomeChunkLine text → length text < limit → LineVerdict text more
  long_line : MayBecomeChunkLine (take limit text) → limit ≤ length text → LineVerdict text long
  bad_line : NeverHasChunkLine (take limit text) → LineVerdict text broken

-- a text with which no whole chunk begins
pub data Tail (text : List ℕ) : Response → Type 0 where
  no_line : (verdict : Verdict) → ((l : ChunkLine) (rest : List ℕ) → ¬ (IsLineOf text l rest))
      → LineVerdict text verdict → Tail text (response verdict [])
  after_line : (l : ChunkLine) (rest : List ℕ) (r : Response) → IsLineOf text l rest
      → ending (length (print_chunk_line l)) (chunk_size l) rest ≡ Some r → Tail text r

-- a chunked body: chunks, and what stands after them
pub record Chunked (text : List ℕ) (r : Response) : Type 0 where
  pub chunks : List Chunk
  pub tail : List ℕ
  pub last : Response
  pub all : AllByRecursion IsChunk chunks
  pub stands : text ≡ flat_map print_chunk chunks ++ tail
  pub ends : Tail tail last
  pub is : r ≡ with_chunk (flat_map chunk_bytes chunks) last
