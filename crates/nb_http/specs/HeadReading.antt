-- What the bytes of a head so far come to
use Rattle.std.specs.Prelude.{◌≡◌, ◌≤◌, ◌<◌, ◌⊎◌, ℕ, ◌-◌, List, [], ◌++◌, length, take, Option, None, nat_lt, if◌then◌else◌, true, false}
use Rattle.httparse.specs.Grammar.{ResponseHead}
use Rattle.nb_terms.specs.declared.cause.Cause.{Cause}
use Rattle.nb_responses.specs.Lines.{head_block, first_block, unfinished, found, missing, limit, most_lines}
use Rattle.nb_responses.specs.Heads.{framing, sized, chunked, to_end, is_interim}
use Rattle.nb_responses.specs.Chunks.{Verdict, response, body, large, long}
use Rattle.nb_responses.specs.Responses.{most_bytes, Final, IsInterim}
use Rattle.nb_httpmsg.specs.declared.head.HeadInfo.{HeadInfo}
use Rattle.nb_httpmsg.specs.HeadInfos.{IsInfoOf}
use Rattle.nb_http.specs.declared.state.State.{State}
use Rattle.nb_http.specs.declared.state.State.TheVariants.{Head, Sized, Chunked, ToEnd, Over}
use Rattle.nb_http.specs.declared.head_step.HeadStep.{HeadStep}
use Rattle.nb_http.specs.declared.head_step.Next.{Next}
use Rattle.nb_readings.specs.Ends.{verdict_end, is_decided, text_of}
use Rattle.nb_http.specs.Standing.{IsBodyHead, RangeFits, moved_text}

-- a head with a verdict of its own, or bytes that can't become one
pub record HeadEnds (rec : ℕ) (text kept : List ℕ) (range : Option (ℕ
    × ℕ)) (over : Option Cause) : Type 0 where
  pub verdict : Verdict
  pub reads : Final text (response verdict [])
  pub decided : is_decided verdict ≡ true
  pub moves : moved_text kept (Over range) ≡ text_of verdict
  pub ends : over ≡ verdict_end rec verdict
  pub fits : RangeFits range kept

-- the state after these bytes, of which a core keeps some
abbrev pub HeadGoes : ℕ → State → List ℕ → List ℕ → Option Cause → Type 0
HeadGoes rec Head text kept over = ((kept ≡ text) × (head_block text ≡ missing)
    × (over ≡ None)) ⊎ ((kept ≡ []) × IsInterim text × (over ≡ None))
HeadGoes rec (Sized left) text kept over = (h : ResponseHead) × IsBodyHead text h × (kept ≡ text)
    × (framing h ≡ sized left) × (0 < left) × (left ≤ most_bytes) × (over ≡ None)
HeadGoes rec (Chunked room) text kept over = (h : ResponseHead) × IsBodyHead text h × (kept ≡ text)
    × (framing h ≡ chunked) × (room ≡ most_bytes) × (over ≡ None)
HeadGoes rec (ToEnd room) text kept over = (h : ResponseHead) × IsBodyHead text h × (kept ≡ text)
    × (framing h ≡ to_end) × (room ≡ most_bytes) × (over ≡ None)
HeadGoes rec (Over range) text kept over = HeadEnds rec text kept range over

-- the block is a head that isn't interim, of which this is known
pub record IsFinalHead (block : List ℕ) (h : ResponseHead) (info : HeadInfo) : Type 0 where
  pub known : IsInfoOf block h info
  pub is_block : head_block block ≡ found block []
  pub final : is_interim h ≡ false

-- a head comes to that
pub record GoesAfter (rec : ℕ) (block : List ℕ) (r : HeadStep) : Type 0 where
  pub kept : r.kept ≤ r.len
  pub is_len : r.len ≡ length block
  pub goes : HeadGoes rec r.state block (take r.kept block) r.over

-- after a stated length
abbrev pub after_length : ℕ → Next
after_length size = if nat_lt most_bytes size
    then (record { state = Over None; over = verdict_end 0 large })
    else (if nat_lt 0 size then (record { state = Sized size; over = None })
    else (record { state = Over None; over = verdict_end 0 body }))

-- after so many bytes without an empty line
abbrev pub unfinished_step : ℕ → HeadStep
unfinished_step len = if nat_lt len limit
    then (record { len = len; kept = len; state = Head; over = None })
    else (record { len = len; kept = len; state = Over None; over = verdict_end 0 long })

-- What bytes are as a head: how many belong to it, how many are kept, and the state after them.
pub record IsHeadRead (rec : ℕ) (bytes : List ℕ) (r : HeadStep) : Type 0 where
  pub within : r.len ≤ length bytes
  pub goes : HeadGoes rec r.state (take r.len bytes) (take r.kept bytes) r.over
  pub reach : (before added : List ℕ) → bytes ≡ before ++ added → head_block before ≡ missing
      → length before ≤ r.len
  pub longer : (before added : List ℕ) → bytes ≡ before ++ added → 0 < length added
      → head_block before ≡ missing → length before < r.len
  pub least : (before later : List ℕ) → take r.len bytes ≡ before ++ later → 0 < length later
      → head_block before ≡ missing

-- So many bytes are the least that has an empty line, or too many lines without one.
pub record IsDecidedAt (bytes : List ℕ) (len : ℕ) : Type 0 where
  pub within : len ≤ length bytes
  pub some : 0 < len
  pub decided : first_block most_lines (take len bytes) ≡ unfinished → ⊥
  pub before : first_block most_lines (take (len - 1) bytes) ≡ unfinished
