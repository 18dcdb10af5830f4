-- The readings of a stream and of a chunked body are what their relations say, and nothing else is.
use Rattle.std.proofs.Common.{◌≡◌, ◌≢◌, List, ℕ, [], ◌++◌, Bool, Option, Some, None, false, refl, ap, ◌∙◌, sym, subst}
use Rattle.httparse.specs.Grammar.{ResponseHead}
use Rattle.nb_responses.specs.Lines.{found, head_block}
use Rattle.nb_responses.specs.Heads.{IsHead, Framing, sized, chunked, to_end, bad, framing, is_interim}
use Rattle.nb_responses.specs.Chunks.{Verdict, more, broken, Response, response, with_chunk, Chunk, IsChunk, print_chunk, Tail, Chunked}
use Rattle.nb_responses.specs.Responses.{within_limit, ReadsBody, Final, no_block, no_head, by_head, by_body, head_verdict, no_block_verdict, IsInterim, ReadsSoFar, by_end, ResponseOf}
use Rattle.nb_responses.proofs.ChunkedLaws.{chunked_total, chunk_before, by_tail}
use Rattle.nb_responses.proofs.ResponseLaws.{chunked_unique, reads_unique}
use Rattle.nb_responses.proofs.StayLaws.{stays, goes_on}
use Rattle.nb_responses.proofs.TotalLaws.{reads_total, at_once, after_interim}
use Rattle.nb_readings.specs.Readings.{chunked_read, read_so_far, response_read, body_read, body_unless, after_head}

pub chunked_is : (text : List ℕ) → Chunked text (chunked_read text)
unfolding chunked_read
chunked_is text = (chunked_total text).1

pub chunked_only : (text : List ℕ) (r : Response) → Chunked text r → r ≡ chunked_read text
chunked_only text r reads = chunked_unique text r (chunked_read text) reads (chunked_is text)

pub reading_is : (stream : List ℕ) → ReadsSoFar stream (read_so_far stream)
unfolding read_so_far
reading_is stream = (reads_total stream).1

pub reading_only : (stream : List ℕ) (r : Response) → ReadsSoFar stream r → r ≡ read_so_far stream
reading_only stream r reads = reads_unique stream r (read_so_far stream) reads (reading_is stream)

-- a stream with which no interim head begins
pub final_read : (text : List ℕ) (r : Response) → Final text r → read_so_far text ≡ r
final_read text r ends = sym (reading_only text r (at_once text r ends))

pub body_is : (f : Framing) (text : List ℕ) → ReadsBody text f (body_read f text)
body_is (sized size) text = refl
body_is chunked text = (chunked_read text, chunked_is text, refl)
body_is to_end text = refl
body_is bad text = refl

pub body_only : (f : Framing) (text : List ℕ) (r : Response) → ReadsBody text f r → r ≡ body_read f text
body_only (sized size) text r reads = reads
body_only chunked text r (c, reads, is) = is ∙ ap within_limit (chunked_only text c reads)
body_only to_end text r reads = reads
body_only bad text r reads = reads

pub interim_read : (block rest : List ℕ) → IsInterim block → read_so_far (block ++ rest) ≡ read_so_far rest
interim_read block rest is =
    sym (reading_only (block ++ rest) (read_so_far rest) (after_interim (block ++ rest) block rest (read_so_far rest) is refl (reading_is rest)))

head_read_by : (text block rest : List ℕ) (h : ResponseHead) (says : Option Verdict) → head_verdict h ≡ says → head_block text ≡ found block rest → IsHead block h → is_interim h ≡ false
    → read_so_far text ≡ body_unless says (framing h) rest
head_read_by text block rest h None none e is final =
    final_read text (body_read (framing h) rest) (by_body block rest h (body_read (framing h) rest) e is final none (body_is (framing h) rest))
head_read_by text block rest h (Some v) says e is final = final_read text (response v []) (by_head block rest h v e is final says)

pub head_read : (text block rest : List ℕ) (h : ResponseHead) → head_block text ≡ found block rest → IsHead block h → is_interim h ≡ false → read_so_far text ≡ after_head h rest
head_read text block rest h e is final = head_read_by text block rest h (head_verdict h) refl e is final

pub no_head_read : (text block rest : List ℕ) → head_block text ≡ found block rest → ((h : ResponseHead) → ¬ (IsHead block h)) → read_so_far text ≡ response broken []
no_head_read text block rest e none = final_read text (response broken []) (no_head block rest e none)

pub no_block_read : (text : List ℕ) (v : Verdict) → no_block_verdict (head_block text) ≡ Some v → read_so_far text ≡ response v []
no_block_read text v e = final_read text (response v []) (no_block v e)

pub chunk_read : (c : Chunk) (rest : List ℕ) → IsChunk c → chunked_read (print_chunk c ++ rest) ≡ with_chunk c.bytes (chunked_read rest)
chunk_read c rest is =
    sym (chunked_only (print_chunk c ++ rest) (with_chunk c.bytes (chunked_read rest)) (chunk_before c (print_chunk c ++ rest) rest (chunked_read rest) is refl (chunked_is rest)))

pub tail_read : (text : List ℕ) (r : Response) → Tail text r → chunked_read text ≡ r
tail_read text r ends = sym (chunked_only text r (by_tail text r ends))

-- the function, as the relation has it
pub response_is : (stream : List ℕ) (ended : Bool) → ResponseOf stream ended (response_read stream ended)
response_is stream ended = record { so_far = read_so_far stream; reads = reading_is stream; is = refl }

pub response_only : (stream : List ℕ) (ended : Bool) (r : Response) → ResponseOf stream ended r → r ≡ response_read stream ended
response_only stream ended r x = x.is ∙ ap (by_end ended) (reading_only stream x.so_far x.reads)

pub reading_stays : (stream later : List ℕ) (ended : Bool) → (response_read stream false).verdict ≢ more → response_read (stream ++ later) ended ≡ response_read stream false
reading_stays stream later ended decided =
    sym (response_only (stream ++ later) ended (response_read stream false) (stays stream later ended (response_read stream false) (response_is stream false) decided))

pub reading_goes_on : (stream later : List ℕ) (first ended : Bool) → (rest : List ℕ) × ((response_read (stream ++ later) ended).bytes ≡ (response_read stream first).bytes ++ rest)
reading_goes_on stream later first ended =
    goes_on stream later first ended (response_read stream first) (response_read (stream ++ later) ended) (response_is stream first) (response_is (stream ++ later) ended)

-- the body of a head that says chunked
pub chunked_body : (text : List ℕ) (read r : Response) → chunked_read text ≡ read → r ≡ within_limit read → ReadsBody text chunked r
chunked_body text read r here is = (read, subst (Chunked text) here (chunked_is text), is)
