-- RFC 9112: the response of a stream, as a function of the stream and its end
use Rattle.std.specs.Prelude.{ℕ, Bool, List, [], Option, Some, None}
use Rattle.httparse.specs.Grammar.{ResponseHead}
use Rattle.nb_responses.specs.Heads.{Framing, sized, chunked, to_end, bad, framing}
use Rattle.nb_responses.specs.Chunks.{Verdict, open_body, broken, Response, response}
use Rattle.nb_responses.specs.Responses.{within_limit, sized_response, head_verdict, by_end}
use Rattle.nb_responses.proofs.ChunkedLaws.{chunked_total}
use Rattle.nb_responses.proofs.TotalLaws.{reads_total}

-- what a text is read as a chunked body: the one response that `Chunked` relates to it
unfoldable pub chunked_read : List ℕ → Response
chunked_read text = (chunked_total text).0

-- what a stream is read as before its end: the one response that `ReadsSoFar` relates to it
unfoldable pub read_so_far : List ℕ → Response
read_so_far stream = (reads_total stream).0

-- the response of a stream, by what has come of it and whether that is all
abbrev pub response_read : List ℕ → Bool → Response
response_read stream ended = by_end ended (read_so_far stream)

-- the body after a head with the status 200, by its framing
abbrev pub body_read : Framing → List ℕ → Response
body_read (sized size) text = sized_response size text
body_read chunked text = within_limit (chunked_read text)
body_read to_end text = within_limit (response open_body text)
body_read bad text = response broken []

abbrev pub body_unless : Option Verdict → Framing → List ℕ → Response
body_unless None f text = body_read f text
body_unless (Some verdict) f text = response verdict []

-- what a head that isn't interim comes to, with what follows it
abbrev pub after_head : ResponseHead → List ℕ → Response
after_head h text = body_unless (head_verdict h) (framing h) text
