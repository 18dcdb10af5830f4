-- RFC 9112: the reading of a stream as one response
use Rattle.std.specs.Prelude.{◌≡◌, ℕ, ◌==◌, Bool, true, false, List, [], ◌++◌, length, take, Option, Some, None, nat_lt, if◌then◌else◌}
use Rattle.std.specs.List.{AllByRecursion, concat}
use Rattle.httparse.specs.Grammar.{ResponseHead, status_code}
use Rattle.nb_responses.specs.Lines.{Found, found, missing, too_many, too_long, head_block}
use Rattle.nb_responses.specs.Heads.{IsHead, Framing, sized, chunked, to_end, bad, framing, is_interim, moves_to}
use Rattle.nb_responses.specs.Chunks.{Verdict, more, open_body, body, moved, status, broken, large, long, many, Response, response, Chunked}

-- the most bytes that a body may have
abbrev pub most_bytes : ℕ
most_bytes = 268435456

-- a body that passes the limit is too large at its first byte past it, whatever follows
abbrev pub within_limit : Response → Response
within_limit r = if nat_lt most_bytes (length r.bytes) then response large (take most_bytes r.bytes) else r

abbrev pub sized_verdict : ℕ → List ℕ → Verdict
sized_verdict size text = if nat_lt (length text) size then more else body

-- a body of a length that the head states
abbrev pub sized_response : ℕ → List ℕ → Response
sized_response size text = if nat_lt most_bytes size then response large []
    else response (sized_verdict size text) (take size text)

-- the body after a head with the status 200, by its framing
abbrev pub ReadsBody : List ℕ → Framing → Response → Type 0
ReadsBody text (sized size) r = r ≡ sized_response size text
ReadsBody text chunked r = (read : Response) × Chunked text read × (r ≡ within_limit read)
ReadsBody text to_end r = r ≡ within_limit (response open_body text)
ReadsBody text bad r = r ≡ response broken []

-- by the text that a head moves to, and its status
abbrev pub verdict_by : Option (List ℕ) → ℕ → Option Verdict
verdict_by (Some text) code = Some (moved text)
verdict_by None code = if code == 200 then None else Some (status code)

-- what a head that isn't interim says, before its body is looked at
abbrev pub head_verdict : ResponseHead → Option Verdict
head_verdict h = verdict_by (moves_to h) (status_code h)

-- why there is no block
abbrev pub no_block_verdict : Found → Option Verdict
no_block_verdict (found block rest) = None
no_block_verdict missing = Some more
no_block_verdict too_many = Some many
no_block_verdict too_long = Some long

-- a text with which no interim head begins
pub data Final (text : List ℕ) : Response → Type 0 where
  no_block : (verdict : Verdict) → no_block_verdict (head_block text) ≡ Some verdict
      → Final text (response verdict [])
  no_head : (block rest : List ℕ) → head_block text ≡ found block rest
      → ((h : ResponseHead) → ¬ (IsHead block h)) → Final text (response broken [])
  by_head : (block rest : List ℕ) (h : ResponseHead) (verdict : Verdict)
      → head_block text ≡ found block rest → IsHead block h → is_interim h ≡ false
      → head_verdict h ≡ Some verdict → Final text (response verdict [])
  by_body : (block rest : List ℕ) (h : ResponseHead) (r : Response)
      → head_block text ≡ found block rest → IsHead block h → is_interim h ≡ false
      → head_verdict h ≡ None → ReadsBody rest (framing h) r → Final text r

-- an interim head
pub record IsInterim (block : List ℕ) : Type 0 where
  pub head : ResponseHead
  pub whole : head_block block ≡ found block []
  pub reads : IsHead block head
  pub interim : is_interim head ≡ true

-- one response: heads that are interim, one that isn't, and its body
pub record ReadsSoFar (text : List ℕ) (r : Response) : Type 0 where
  pub skipped : List (List ℕ)
  pub rest : List ℕ
  pub all : AllByRecursion IsInterim skipped
  pub stands : text ≡ concat skipped ++ rest
  pub ends : Final rest r

-- the stream's end decides what isn't decided
abbrev pub verdict_at_end : Verdict → Verdict
verdict_at_end more = broken
verdict_at_end open_body = body
verdict_at_end body = body
verdict_at_end (moved text) = moved text
verdict_at_end (status code) = status code
verdict_at_end broken = broken
verdict_at_end large = large
verdict_at_end long = long
verdict_at_end many = many

abbrev pub before_end : Verdict → Verdict
before_end open_body = more
before_end more = more
before_end body = body
before_end (moved text) = moved text
before_end (status code) = status code
before_end broken = broken
before_end large = large
before_end long = long
before_end many = many

abbrev pub by_end : Bool → Response → Response
by_end ended r = record r { verdict = if ended then verdict_at_end r.verdict else before_end r.verdict }

-- the response of a stream, by what has come of it and whether that is all
pub record ResponseOf (stream : List ℕ) (ended : Bool) (r : Response) : Type 0 where
  pub so_far : Response
  pub reads : ReadsSoFar stream so_far
  pub is : r ≡ by_end ended so_far
