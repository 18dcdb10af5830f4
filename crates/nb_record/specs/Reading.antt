-- The computing reading of bytes that are held: which kinds of record can still begin with them, and how many
-- bytes the record has. It stands for the words of the definitions, IsPartial and IsBroken.
use Rattle.std.specs.Prelude.{◌≡◌, ℕ, ◌+◌, ◌<◌, ◌≤◌, List, [], ◌∷◌, slice_index_or}
use Rattle.std.specs.Int.{w16, w32, from_be_bytes}
use Rattle.nb_record.specs.declared.kind.Kind.{Kind}
use Rattle.nb_record.specs.declared.kind.Kind.TheVariants as kind

-- the type byte of a kind
abbrev pub record_type : Kind → ℕ
record_type kind.Start = 1
record_type kind.Frame = 2
record_type kind.Tick = 3
record_type kind.Off = 4

-- the least length of a record of a kind, which counts its type and its body
abbrev pub least_length : Kind → ℕ
least_length kind.Start = 76
least_length kind.Frame = 15
least_length kind.Tick = 3
least_length kind.Off = 1

-- the greatest
abbrev pub greatest_length : Kind → ℕ
greatest_length kind.Start = 131072
greatest_length kind.Frame = 1523
greatest_length kind.Tick = 3
greatest_length kind.Off = 1

-- the first four bytes, with d in place of those that aren't there yet
abbrev pub lead : ℕ → List ℕ → List ℕ
lead d bytes = slice_index_or bytes 0 d ∷ slice_index_or bytes 1 d ∷ slice_index_or bytes 2 d ∷ slice_index_or bytes 3 d ∷ []

-- the length that these bytes spell, with d in place of those that aren't there yet
unfoldable pub length_with : ℕ → List ℕ → ℕ
length_with d bytes = from_be_bytes w32 (lead d bytes)

-- the milliseconds that the first two bytes of a body spell, with d in place of those that aren't there yet
unfoldable pub ms_with : ℕ → List ℕ → ℕ
ms_with d bytes = from_be_bytes w16 (slice_index_or bytes 5 d ∷ slice_index_or bytes 6 d ∷ [])

-- a body of a kind can still begin so: version and the high byte of `w` are right where they stand, and the
-- least milliseconds that can be spelled aren't too many and the most not too few
abbrev pub BodyBeginsAs : Kind → List ℕ → Type 0
BodyBeginsAs kind.Start bytes = (slice_index_or bytes 5 1 ≡ 1) × (slice_index_or bytes 62 0 < 64)
BodyBeginsAs kind.Frame bytes = Unit {0}
BodyBeginsAs kind.Tick bytes = (1 ≤ ms_with 255 bytes) × (ms_with 0 bytes ≤ 60000)
BodyBeginsAs kind.Off bytes = Unit {0}

-- A record of a kind can still begin with these bytes: the least length that they can spell isn't too great,
-- and the greatest not too small, the type is right where it stands, and so is the body.
pub record BeginsAs (k : Kind) (bytes : List ℕ) : Type 0 where
  pub least : length_with 0 bytes ≤ greatest_length k
  pub greatest : least_length k ≤ length_with 255 bytes
  pub number : slice_index_or bytes 4 (record_type k) ≡ record_type k
  pub body : BodyBeginsAs k bytes

-- a record of some kind can still begin with these bytes
pub record CanBegin (bytes : List ℕ) : Type 0 where
  pub which : Kind
  pub begins : BeginsAs which bytes

-- how many bytes the record has
abbrev pub whole_len : List ℕ → ℕ
whole_len bytes = 4 + length_with 0 bytes
