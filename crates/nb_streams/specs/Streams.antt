-- What is held of a stream: a finite map from places to bytes, and the end once it is known
use Rattle.std.specs.Prelude.{◌≡◌, ℕ, zero, suc, ◌+◌, ◌-◌, ◌^◌, ◌==◌, ◌&&◌, Bool, true, false, List, [], ◌∷◌, ◌++◌, length, filter, Option, Some, None, nat_lt, slice_get, if◌then◌else◌}

-- pairs of place and byte; of a place that has two, the first
pub record HeldBytes : Type 0 where
  pub pairs : List (ℕ × ℕ)
  pub stop : Option ℕ

abbrev pub nothing_held : HeldBytes
nothing_held = record { pairs = []; stop = None }

abbrev pub if_here : Bool → ℕ → Option ℕ → Option ℕ
if_here true byte other = Some byte
if_here false byte other = other

-- the byte at a place
abbrev pub byte_at : ℕ → List (ℕ × ℕ) → Option ℕ
byte_at p [] = None
byte_at p (q ∷ qs) = if_here (q.0 == p) q.1 (byte_at p qs)

abbrev pub before_stop : Option ℕ → ℕ → Bool
before_stop None p = true
before_stop (Some stop) p = nat_lt p stop

-- places at or past the end, and those from the last one of 31 bits on, don't count
abbrev pub counts : Option ℕ → ℕ × ℕ → Bool
counts stop pair = nat_lt pair.0 (2 ^ 31 - 1) && before_stop stop pair.0

abbrev pub counting : HeldBytes → List (ℕ × ℕ)
counting h = filter (counts h.stop) h.pairs

abbrev pub with_byte : Option ℕ → List ℕ → List ℕ
with_byte None rest = []
with_byte (Some byte) rest = byte ∷ rest

-- the bytes from a place on up to the first place without one, at most so many
abbrev pub run : ℕ → ℕ → List (ℕ × ℕ) → List ℕ
run zero p pairs = []
run (suc most) p pairs = with_byte (byte_at p pairs) (run most (p + 1) pairs)

-- the bytes below the least place that has none: as many as there are pairs, at most
abbrev pub front : HeldBytes → List ℕ
front h = run (length h.pairs) 0 (counting h)

-- that place
abbrev pub next : HeldBytes → ℕ
next h = length (front h)

abbrev pub is_stop : Option ℕ → ℕ → Bool
is_stop None p = false
is_stop (Some stop) p = p == stop

-- all bytes up to the end are there
abbrev pub has_ended : HeldBytes → Bool
has_ended h = is_stop h.stop (next h)

-- the map with more pairs; a place that has a byte keeps it
abbrev pub with_pairs : List (ℕ × ℕ) → HeldBytes → HeldBytes
with_pairs more h = record h { pairs = h.pairs ++ more }

abbrev pub first_stop : Option ℕ → Option ℕ → Option ℕ
first_stop None new = new
first_stop (Some stop) new = Some stop

-- the end, if it isn't known yet
abbrev pub stop_at : Option ℕ → HeldBytes → HeldBytes
stop_at place h = record h { stop = first_stop h.stop place }

-- a place, where it grew
abbrev pub grown : ℕ → ℕ → Option ℕ
grown before after = if before == after then None else Some after

-- the pair is one of the stream's bytes at its place
abbrev pub IsByteOf : List ℕ → ℕ × ℕ → Type 0
IsByteOf bytes pair = slice_get bytes pair.0 ≡ Some pair.1

-- the list is a prefix of xs
abbrev pub IsPrefixOf : List ℕ → List ℕ → Type 0
IsPrefixOf start xs = (rest : List ℕ) × (xs ≡ start ++ rest)
