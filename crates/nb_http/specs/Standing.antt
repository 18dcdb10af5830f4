-- What the core of a response stands for: what it took of the stream, and what it gave of the body
use Rattle.std.specs.Prelude.{◌≡◌, ◌≤◌, ◌<◌, ℕ, ◌+◌, Bool, true, false, List, [], ◌++◌, length, Option, Some, None, slice_range, ⊤}
use Rattle.std.specs.List.{AllByRecursion, concat}
use Rattle.std.specs.Option.{option_map}
use Rattle.httparse.specs.Grammar.{ResponseHead}
use Rattle.nb_terms.specs.declared.cause.Cause.{Cause}
use Rattle.nb_responses.specs.Lines.{head_block, found, missing}
use Rattle.nb_responses.specs.Heads.{IsHead, framing, sized, chunked, to_end, is_interim}
use Rattle.nb_responses.specs.Chunks.{Verdict, more, body, broken, response}
use Rattle.nb_responses.specs.Responses.{most_bytes, head_verdict, Final, IsInterim}
use Rattle.nb_readings.specs.Readings.{read_so_far, response_read}
use Rattle.nb_httpmsg.specs.Reader.{Reader}
use Rattle.nb_httpmsg.specs.Feeding.{StandsForBody, is_open}
use Rattle.nb_http.specs.declared.state.State.{State}
use Rattle.nb_http.specs.declared.state.State.TheVariants.{Head, Sized, Chunked, ToEnd, Over}
use Rattle.nb_readings.specs.Ends.{verdict_end, is_decided, text_of}

-- the head so far, the reader of a chunked body, and where the core is
pub record Core : Type 0 where
  pub head : List ℕ
  pub chunks : Reader
  pub state : State

-- what is kept: the core, and how many bytes of the reader's block wait to go up
pub record Kept : Type 0 where
  pub core : Core
  pub waiting : ℕ

abbrev pub is_over : State → Bool
is_over Head = false
is_over (Sized left) = false
is_over (Chunked room) = false
is_over (ToEnd room) = false
is_over (Over range) = true

abbrev pub range_of : State → Option (ℕ × ℕ)
range_of Head = None
range_of (Sized left) = None
range_of (Chunked room) = None
range_of (ToEnd room) = None
range_of (Over range) = range

-- the text of the move that ended it
abbrev pub moved_text : List ℕ → State → Option (List ℕ)
moved_text head state = option_map (λ r. slice_range head r.0 r.1) (range_of state)

-- a range that lies in the head
abbrev pub RangeFits : Option (ℕ × ℕ) → List ℕ → Type 0
RangeFits None head = ⊤
RangeFits (Some r) head = (r.0 ≤ r.1) × (r.1 ≤ length head)

-- the bytes are a head that a body follows
pub record IsBodyHead (head : List ℕ) (h : ResponseHead) : Type 0 where
  pub block : head_block head ≡ found head []
  pub is : IsHead head h
  pub final : is_interim h ≡ false
  pub next : head_verdict h ≡ None

-- the head so far
pub record AtHead (c : Core) (rest given : List ℕ) : Type 0 where
  pub is_rest : rest ≡ c.head
  pub none_given : given ≡ []
  pub block : head_block c.head ≡ missing
  pub fresh : StandsForBody c.chunks.place c.chunks.line [] []
  pub unread : is_open c.chunks.place ≡ true

pub record AtSized (left : ℕ) (c : Core) (rest given : List ℕ) : Type 0 where
  pub h : ResponseHead
  pub head : IsBodyHead c.head h
  pub is_rest : rest ≡ c.head ++ given
  pub frames : framing h ≡ sized (length given + left)
  pub some : 0 < left
  pub small : length given + left ≤ most_bytes

pub record AtChunked (room : ℕ) (c : Core) (rest given : List ℕ) : Type 0 where
  pub h : ResponseHead
  pub body : List ℕ
  pub head : IsBodyHead c.head h
  pub is_rest : rest ≡ c.head ++ body
  pub frames : framing h ≡ chunked
  pub stands : StandsForBody c.chunks.place c.chunks.line body given
  pub unread : is_open c.chunks.place ≡ true
  pub fits : length given + room ≡ most_bytes

pub record AtToEnd (room : ℕ) (c : Core) (rest given : List ℕ) : Type 0 where
  pub h : ResponseHead
  pub head : IsBodyHead c.head h
  pub is_rest : rest ≡ c.head ++ given
  pub frames : framing h ≡ to_end
  pub fits : length given + room ≡ most_bytes

-- a core that hasn't ended, by what follows the interim heads
abbrev pub LiveAt : State → Core → List ℕ → List ℕ → Type 0
LiveAt Head c rest given = AtHead c rest given
LiveAt (Sized left) c rest given = AtSized left c rest given
LiveAt (Chunked room) c rest given = AtChunked room c rest given
LiveAt (ToEnd room) c rest given = AtToEnd room c rest given
LiveAt (Over range) c rest given = ⊥

pub record IsReading (c : Core) (stream given : List ℕ) : Type 0 where
  pub skipped : List (List ℕ)
  pub rest : List ℕ
  pub all : AllByRecursion IsInterim skipped
  pub is_stream : stream ≡ concat skipped ++ rest
  pub at : LiveAt c.state c rest given

-- A core stands for the bytes of the stream that it took and those of the body that it gave: they are
-- the stream's reading, which is decided exactly where the core has ended.
pub record HasReadStream (c : Core) (stream given : List ℕ) : Type 0 where
  pub bytes : (read_so_far stream).bytes ≡ given
  pub decided : is_over c.state ≡ is_decided (read_so_far stream).verdict
  pub moves : moved_text c.head c.state ≡ text_of (read_so_far stream).verdict
  pub live : is_over c.state ≡ false → IsReading c stream given

-- A call takes bytes of the stream and gives bytes of the body: where it decides the response, it ends
-- with its cause.
abbrev pub TakesBytes : ℕ → Core → Core → List ℕ → List ℕ → Option Cause → Type 0
TakesBytes rec old new taken gave over = (stream given : List ℕ) → HasReadStream old stream given
    → is_over old.state ≡ false
    → HasReadStream new (stream ++ taken) (given ++ gave) × (over ≡ verdict_end rec (read_so_far (stream ++ taken)).verdict)

-- Only the last byte that a call takes can decide the response: after each shorter part of what it takes
-- more of the response is to come.
abbrev pub DecidesLast : Core → List ℕ → Type 0
DecidesLast old taken = (stream given part later : List ℕ) → HasReadStream old stream given
    → is_over old.state ≡ false → taken ≡ part ++ later → 0 < length later
    → (some : List ℕ) × (response_read (stream ++ part) false ≡ response more (given ++ some))

-- what a step of a live core comes to
pub data GoesOnOrEnds (rec : ℕ) (c : Core) (rest given : List ℕ) (over : Option Cause) : Type 0 where
  goes_on : LiveAt c.state c rest given → over ≡ None → GoesOnOrEnds rec c rest given over
  skips : IsInterim rest → LiveAt c.state c [] given → over ≡ None → GoesOnOrEnds rec c rest given over
  ends : (verdict : Verdict) → Final rest (response verdict given) → is_decided verdict ≡ true
      → is_over c.state ≡ true
      → moved_text c.head c.state ≡ text_of verdict → over ≡ verdict_end rec verdict
      → GoesOnOrEnds rec c rest given over

abbrev pub StepsBy : ℕ → Core → Core → List ℕ → List ℕ → Option Cause → Type 0
StepsBy rec old new taken gave over = (rest given : List ℕ) → LiveAt old.state old rest given
    → GoesOnOrEnds rec new (rest ++ taken) (given ++ gave) over

-- The stream's end decides what isn't decided: a body to the stream's end is whole, all else is broken.
-- A core that has ended stays as it is.
pub record EndsStream (rec : ℕ) (old new : Core) (over : Option Cause) : Type 0 where
  pub live : (stream given : List ℕ) → HasReadStream old stream given → is_over old.state ≡ false
      → ((response_read stream true).bytes ≡ given) × (over ≡ verdict_end rec (response_read stream true).verdict)
      × (is_decided (response_read stream true).verdict ≡ true)
  pub silent : is_over old.state ≡ true → (over ≡ None) × (new ≡ old)
  pub unmoved : is_over old.state ≡ false → moved_text new.head new.state ≡ None
  pub ended : is_over new.state ≡ true

-- how the stream's end ends a core, by its state
abbrev pub end_at : ℕ → State → Option Cause
end_at rec Head = verdict_end rec broken
end_at rec (Sized left) = verdict_end rec broken
end_at rec (Chunked room) = verdict_end rec broken
end_at rec (ToEnd room) = verdict_end rec body
end_at rec (Over range) = None

abbrev pub state_at_end : State → State
state_at_end Head = Over None
state_at_end (Sized left) = Over None
state_at_end (Chunked room) = Over None
state_at_end (ToEnd room) = Over None
state_at_end (Over range) = Over range
