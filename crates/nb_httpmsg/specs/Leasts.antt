-- A call takes no byte past the one that decides what it reads.
use Rattle.std.specs.Prelude.{◌≡◌, ◌≤◌, ◌<◌, ℕ, ◌+◌, ◌-◌, List, ◌++◌, length, take}
use Rattle.httparse.specs.Grammar.{NeverHasChunkLine}
use Rattle.nb_responses.specs.Chunks.{more, response}
use Rattle.nb_readings.specs.Readings.{chunked_read}
use Rattle.nb_httpmsg.specs.Reader.{Reader}
use Rattle.nb_httpmsg.specs.Feeding.{StandsForBody}

-- So many bytes are the least of a line that can't become a size line.
pub record IsBrokenAt (line : List ℕ) (len : ℕ) : Type 0 where
  pub within : len ≤ length line
  pub some : 0 < len
  pub never : NeverHasChunkLine (take len line)
  pub before : NeverHasChunkLine (take (len - 1) line) → ⊥

-- After this part of what a call takes more of the body is to come, and a block that had so many bytes has
-- room. It gathered no more bytes than it took.
pub record IsNotEnough (text bytes : List ℕ) (count : ℕ) (part : List ℕ) : Type 0 where
  pub gathered : List ℕ
  pub reads : chunked_read (text ++ part) ≡ response more (bytes ++ gathered)
  pub room : count + length gathered < 4096
  pub among : length gathered ≤ length part

-- What a call takes is the least that decides the body or fills the block, or all that there is.
abbrev pub TakesLeast : Reader → List ℕ → Type 0
TakesLeast old taken = (text bytes part later : List ℕ)
    → StandsForBody old.place old.line text bytes → taken ≡ part ++ later → 0 < length later
    → IsNotEnough text bytes 0 part

-- A step gathers some of what it takes, and each shorter part isn't enough.
pub record FeedsLeast (old new : Reader) (taken : List ℕ) : Type 0 where
  pub gathered : List ℕ
  pub block : new.block ≡ old.block ++ gathered
  pub among : length gathered ≤ length taken
  pub least : (text before part later : List ℕ)
      → StandsForBody old.place old.line text (before ++ old.block)
      → taken ≡ part ++ later → 0 < length later
      → IsNotEnough text (before ++ old.block) (length old.block) part
