-- What a reader of a chunked body keeps
use Rattle.std.specs.Prelude.{◌≡◌, ◌≤◌, ◌<◌, ℕ, ◌+◌, ◌-◌, List, length, drop, ⊤}
use Rattle.httparse.specs.Grammar.{HasNoChunkLine, MayBecomeChunkLine}
use Rattle.nb_responses.specs.Lines.{first_block, unfinished, limit}
use Rattle.nb_httpmsg.specs.declared.place.Place.{Place}
use Rattle.nb_httpmsg.specs.declared.place.Place.TheVariants.{Size, Bytes, End, Trailer, Whole, Broken, TooLong}

-- the size line or trailer so far, the bytes of the body that the last call gathered, and the place
pub record Reader : Type 0 where
  pub line : List ℕ
  pub block : List ℕ
  pub place : Place

-- a size line that isn't whole
pub record IsOpenLine (line : List ℕ) : Type 0 where
  pub none : HasNoChunkLine line
  pub may : MayBecomeChunkLine line
  pub short : length line < limit

-- a trailer after a size line of so many bytes that isn't whole
pub record IsOpenTrailer (used : ℕ) (line : List ℕ) : Type 0 where
  pub within : used ≤ length line
  pub unended : first_block (limit - used + 1) (drop used line) ≡ unfinished
  pub short : length line < limit

-- what a reader keeps fits its place
abbrev pub FitsPlace : Place → List ℕ → Type 0
FitsPlace Size line = IsOpenLine line
FitsPlace (Bytes left) line = 0 < left
FitsPlace (End cr) line = ⊤
FitsPlace (Trailer used) line = IsOpenTrailer used line
FitsPlace Whole line = ⊤
FitsPlace Broken line = ⊤
FitsPlace TooLong line = ⊤
