-- What a call hands on, and what it comes to
use Rattle.std.specs.Prelude.{◌≡◌, ◌≤◌, ◌<◌, ℕ, ◌-◌, Bool, true, false, List, [], ◌++◌, length, take, IfSome, Option, Some, None, slice_range, nat_lt, if◌then◌else◌, ⊤}
use Rattle.nb_terms.specs.declared.acts.Acts.{Acts}
use Rattle.nb_responses.specs.Lines.{head_block, missing}
use Rattle.nb_responses.specs.Chunks.{body, broken, large, long}
use Rattle.nb_httpmsg.specs.declared.place.Place.{Place}
use Rattle.nb_httpmsg.specs.declared.chunks.ChunkState.{ChunkState}
use Rattle.nb_httpmsg.specs.declared.chunks.ChunkState.TheVariants as chunk
use Rattle.nb_httpmsg.specs.Feeding.{is_open}
use Rattle.nb_http.specs.declared.state.State.{State}
use Rattle.nb_http.specs.declared.state.State.TheVariants.{Head, Sized, Chunked, ToEnd, Over}
use Rattle.nb_http.specs.declared.head_step.Next.{Next}
use Rattle.nb_http.specs.declared.http.Taken.{Taken}
use Rattle.nb_readings.specs.Ends.{verdict_end}
use Rattle.nb_http.specs.Standing.{Core, Kept, RangeFits, TakesBytes, DecidesLast}

-- the range of the bytes that a call hands on
abbrev pub range_given : List ℕ → Option (ℕ × ℕ) → List ℕ
range_given bytes None = []
range_given bytes (Some r) = slice_range bytes r.0 r.1

-- what goes up by a call: a range of the bytes, and what waits in the block
abbrev pub gave : List ℕ → Acts → Kept → List ℕ
gave bytes acts k = range_given bytes acts.give ++ take k.waiting k.core.chunks.block

-- a range that isn't empty, among so many bytes
abbrev pub IsRangeWithin : ℕ → ℕ × ℕ → Type 0
IsRangeWithin count r = (r.0 < r.1) × (r.1 ≤ count)

-- the range of so many first bytes
abbrev pub range_to : ℕ → Option (ℕ × ℕ)
range_to given = if nat_lt 0 given then Some (0, given) else None

abbrev pub gives_none : Acts
gives_none = record {
  sends = record { items = [] };
  tried = None;
  advance = None;
  give = None;
  ready = false;
  over = None;
}

-- no message, no try and no new place is asked for
abbrev pub SendsNothing : Acts → Type 0
SendsNothing acts = (acts.sends ≡ record { items = [] }) × (acts.tried ≡ None) × (acts.advance ≡ None)

-- what a core keeps fits its state
abbrev pub KeepsFit : State → List ℕ → Place → Type 0
KeepsFit Head head place = (head_block head ≡ missing) × (length head < 16384) × (is_open place ≡ true)
KeepsFit (Sized left) head place = 0 < left
KeepsFit (Chunked room) head place = is_open place ≡ true
KeepsFit (ToEnd room) head place = ⊤
KeepsFit (Over range) head place = RangeFits range head

-- after bytes of a stated length of which so many are left
abbrev pub sized_next : ℕ → Next
sized_next left = if nat_lt 0 left then (record { state = Sized left; over = None })
    else (record { state = Over None; over = verdict_end 0 body })

-- after so many bytes of a body to the stream's end that may have this many more
abbrev pub to_end_next : ℕ → ℕ → Next
to_end_next room count = if nat_lt room count
    then (record { state = Over None; over = verdict_end 0 large })
    else (record { state = ToEnd (room - count); over = None })

abbrev pub chunk_next_by : ℕ → ℕ → ChunkState → Next
chunk_next_by rec room chunk.More = record { state = Chunked room; over = None }
chunk_next_by rec room chunk.Whole = record { state = Over None; over = verdict_end rec body }
chunk_next_by rec room chunk.Broken = record { state = Over None; over = verdict_end rec broken }
chunk_next_by rec room chunk.TooLong = record { state = Over None; over = verdict_end rec long }

-- after so many bytes of a chunked body that may have this many more
abbrev pub chunk_next : ℕ → ℕ → ℕ → ChunkState → Next
chunk_next rec room count state = if nat_lt room count
    then (record { state = Over None; over = verdict_end rec large }) else chunk_next_by rec (room - count) state

-- a body of a stated length, or one to the stream's end
abbrev pub is_plain_body : State → Bool
is_plain_body Head = false
is_plain_body (Sized left) = true
is_plain_body (Chunked room) = false
is_plain_body (ToEnd room) = true
is_plain_body (Over range) = false

-- a core keeps none of the bytes that a call took
pub record IsUncopied (old new : Core) : Type 0 where
  pub head : new.head ≡ old.head
  pub chunks : new.chunks ≡ old.chunks

-- What a call that took so many bytes hands on. A plain body goes up as a range of them alone, and none
-- of it is kept; of a chunked one, at most 4,096 bytes wait in the block, and then that is said.
pub record HandsUp (old : Core) (new : Kept) (acts : Acts) (count : ℕ) : Type 0 where
  pub range : IfSome acts.give (IsRangeWithin count)
  pub plain : is_plain_body old.state ≡ true → (new.waiting ≡ 0) × IsUncopied old new.core
  pub gathered : is_plain_body old.state ≡ false → acts.give ≡ None
  pub most : new.waiting ≤ 4096
  pub ready : acts.ready ≡ nat_lt 0 new.waiting

-- it takes that many of these bytes, and what it hands on is of the body
abbrev pub TakesFirst : ℕ → Core → Kept → List ℕ → ℕ → Acts → Type 0
TakesFirst rec old new bytes count acts =
    TakesBytes rec old new.core (take count bytes) (gave bytes acts new) acts.over

-- it has ended: nothing is taken
abbrev pub took_nothing : Taken
took_nothing = record { len = 0; given = 0; waiting = 0; over = None }

-- what a call of a core that hasn't ended comes to
pub record TakesSo (rec : ℕ) (old new : Core) (bytes : List ℕ) (r : Taken) : Type 0 where
  pub within : r.len ≤ length bytes
  pub given : r.given ≤ r.len
  pub some : 0 < length bytes → 0 < r.len
  pub waits : r.waiting ≤ length new.chunks.block
  pub few : r.waiting ≤ 4096
  pub plain : is_plain_body old.state ≡ true → (r.waiting ≡ 0) × IsUncopied old new
  pub gathered : is_plain_body old.state ≡ false → r.given ≡ 0
  pub stands : TakesBytes rec old new (take r.len bytes) (take r.given bytes
      ++ take r.waiting new.chunks.block) r.over
  pub least : DecidesLast old (take r.len bytes)
