-- RFC 9112: what holds of the reading of every stream, and of every stream that is longer
use Rattle.std.specs.Prelude.{◌≡◌, ◌≢◌, ℕ, Bool, false, List, [], ◌++◌, Some}
use Rattle.httparse.specs.Grammar.{ResponseHead}
use Rattle.nb_responses.specs.Lines.{found, head_block}
use Rattle.nb_responses.specs.Heads.{IsHead, is_interim}
use Rattle.nb_responses.specs.Chunks.{Verdict, more, broken, Response, response, Chunk, IsChunk, print_chunk, with_chunk, Tail, Chunked}
use Rattle.nb_responses.specs.Responses.{no_block_verdict, IsInterim, ReadsSoFar}
use Rattle.nb_readings.specs.Readings.{chunked_read, read_so_far, response_read, after_head}

-- the function of a stream is what the relation says, and nothing else is
pub record IsTheReading : Type 0 where
  pub reads : (stream : List ℕ) → ReadsSoFar stream (read_so_far stream)
  pub only : (stream : List ℕ) (r : Response) → ReadsSoFar stream r → r ≡ read_so_far stream

-- so of a chunked body
pub record IsTheChunkedReading : Type 0 where
  pub reads : (text : List ℕ) → Chunked text (chunked_read text)
  pub only : (text : List ℕ) (r : Response) → Chunked text r → r ≡ chunked_read text

-- A stream is read from its beginning: an interim head is skipped, another head is read with what follows it, a block
-- that is no head breaks the response, and without a block nothing is said but why there is none.
pub record IsReadFromTheFirst : Type 0 where
  pub interim : (block rest : List ℕ) → IsInterim block → read_so_far (block ++ rest) ≡ read_so_far rest
  pub head : (text block rest : List ℕ) (h : ResponseHead) → head_block text ≡ found block rest → IsHead block h
      → is_interim h ≡ false → read_so_far text ≡ after_head h rest
  pub no_head : (text block rest : List ℕ) → head_block text ≡ found block rest → ((h : ResponseHead) → ¬ (IsHead block h))
      → read_so_far text ≡ response broken []
  pub no_block : (text : List ℕ) (verdict : Verdict) → no_block_verdict (head_block text) ≡ Some verdict
      → read_so_far text ≡ response verdict []

-- So is a chunked body: a chunk gives its bytes, and what no chunk begins is read at once.
pub record IsReadByChunks : Type 0 where
  pub chunk : (c : Chunk) (rest : List ℕ) → IsChunk c
      → chunked_read (print_chunk c ++ rest) ≡ with_chunk c.bytes (chunked_read rest)
  pub tail : (text : List ℕ) (r : Response) → Tail text r → chunked_read text ≡ r

-- a response that is decided before the stream's end stays, whatever follows
abbrev pub ReadDecidedStays : Type 0
ReadDecidedStays = (stream later : List ℕ) (ended : Bool) → (response_read stream false).verdict ≢ more
    → response_read (stream ++ later) ended ≡ response_read stream false

-- the body of a longer stream begins with that of the shorter one
abbrev pub ReadBodyGoesOn : Type 0
ReadBodyGoesOn = (stream later : List ℕ) (first ended : Bool) → (rest : List ℕ)
    × ((response_read (stream ++ later) ended).bytes ≡ (response_read stream first).bytes ++ rest)
