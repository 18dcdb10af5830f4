-- What a log holds, and what a put does to it.
use Rattle.std.specs.Prelude.{◌≡◌, ℕ, ◌+◌, ◌<◌, Bool, true, false, List, ◌++◌, length}

-- the bytes gathered, the room for which memory was taken, and whether a put ran out of memory
pub record Logged : Type 0 where
  pub bytes : List ℕ
  pub room : ℕ
  pub is_short : Bool

-- From the first log to the second these bytes were put.
pub record Puts (old new : Logged) (added : List ℕ) : Type 0 where
  pub room_stays : new.room ≡ old.room
  -- a log that isn't short has all of them
  pub whole : new.is_short ≡ false → (old.is_short ≡ false) × (new.bytes ≡ old.bytes ++ added)
  -- a short one has a prefix of them
  pub part : List ℕ
  pub lost : List ℕ
  pub fronts : added ≡ part ++ lost
  pub appended : new.bytes ≡ old.bytes ++ part
  -- a log that was short stays as it was
  pub stays : old.is_short ≡ true → new ≡ old
  -- a log gets short only where the room was too small
  pub too_small : old.is_short ≡ false → new.is_short ≡ true → old.room < length old.bytes + length added
