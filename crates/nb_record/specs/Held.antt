-- What a feed holds, and what stands at its front.
use Rattle.std.specs.Prelude.{◌≡◌, ℕ, ◌+◌, ◌<◌, List, ◌++◌, length, take, drop, nat_lt, ◌==◌, if◌then◌else◌}
use Rattle.nb_defs.specs.Records.{In, IsIn, in_text, IsPartial, IsBroken}
use Rattle.nb_record.specs.Bytes.{Held}
use Rattle.nb_record.specs.View.{in_of}
use Rattle.nb_record.specs.declared.feed.Front.{Front}
use Rattle.nb_record.specs.declared.feed.Front.TheVariants as front

-- where a byte of a record stands: 1 in the length, 2 the type, 3 in the body
abbrev pub part_of : ℕ → ℕ
part_of place = if nat_lt place 4 then 1 else if place == 4 then 2 else 3

-- No record begins the bytes: up to a place they can still become one, with the byte there they can't.
pub record BreaksAt (bytes : List ℕ) (why : ℕ) : Type 0 where
  pub place : ℕ
  pub within : place < length bytes
  pub before : IsPartial (take place bytes)
  pub with_it : IsBroken (take (place + 1) bytes)
  pub part : why ≡ part_of place

-- this record and its length stand at the front
pub record IsFront (bytes : List ℕ) (r : In) (len : ℕ) : Type 0 where
  pub valid : IsIn r
  pub spelled : bytes ≡ in_text r ++ drop len bytes
  pub length_is : len ≡ length (in_text r)

-- what stands at the start of what is held
abbrev pub ShowsFront : Held → Front → Type 0
ShowsFront held (front.Whole r len) = IsFront held.bytes (in_of r) len
ShowsFront held front.Partial = IsPartial held.bytes
ShowsFront held (front.Broken bad) = (bad.at ≡ held.passed) × BreaksAt held.bytes bad.why
