-- RFC 9293: a segment as a value, and the places that its bytes have in the peer's stream
use Rattle.std.specs.Prelude.{ℕ, ◌+◌, ◌-◌, ◌%◌, ◌^◌, Bool, List, [], ◌∷◌, ◌++◌, Option, nat_lt, if◌then◌else◌}

pub record Incoming : Type 0 where
  pub number : ℕ
  pub acknowledges : ℕ
  pub fin : Bool
  pub syn : Bool
  pub rst : Bool
  pub ack : Bool
  pub window : ℕ
  pub mss : Option ℕ
  pub body : List ℕ

-- a segment, and the record that brought it
pub record Arrival : Type 0 where
  pub rec : ℕ
  pub segment : Incoming

-- how far a number is ahead of another, modulo 2^32
abbrev pub ahead : ℕ → ℕ → ℕ
ahead from to = ((to % 2 ^ 32) + (2 ^ 32 - (from % 2 ^ 32))) % 2 ^ 32

-- it is nearer ahead than back; half way round counts as back
abbrev pub is_forward : ℕ → Bool
is_forward distance = nat_lt distance (2 ^ 31)

-- the window of this width that begins at a place has the place that is so far ahead of it
abbrev pub placed_byte : ℕ → ℕ → ℕ → ℕ → List (ℕ × ℕ)
placed_byte width n distance byte = if nat_lt distance width then (n + distance, byte) ∷ [] else []

-- The bytes that lie in the window at n, each with its place. The stream's first byte has the number first, and
-- the bytes begin with the number at.
abbrev pub places : ℕ → ℕ → ℕ → ℕ → List ℕ → List (ℕ × ℕ)
places width first n at [] = []
places width first n at (b ∷ bytes) = placed_byte width n (ahead (first + n) at) b ++ places width first n (at + 1) bytes
