-- The bytes of a joined value that a stream has still to come to, and what the program's steps make of them
use Rattle.std.specs.Prelude.{◌≡◌, ◌<◌, ◌≤◌, ◌+◌, ℕ, Bool, true, false, List, [], ◌∷◌, ◌++◌, length, take, drop, Option, Some, None}
use Rattle.nb_dhcpmsg.specs.declared.stream.Stream.{Stream}
use Rattle.nb_dhcpmsg.specs.declared.stream.Inner.{Inner}
use Rattle.nb_dhcpmsg.specs.declared.stream.Inner.TheVariants as inner
use Rattle.nb_dhcpmsg.specs.Options.{TagValue, tag_value, joined}
use Rattle.nb_dhcpmsg.specs.Fields.{inner_options}
use Rattle.nb_dhcpmsg.specs.Lefts.{IsLeft, left_bytes}

-- these bytes are still to come: those of the part at hand, and then those of the options that are left
pub record HoldsOption (s : Stream) (bytes : List ℕ) : Type 0 where
  pub options : List TagValue
  pub left : IsLeft s.options options
  pub all : bytes ≡ s.part.now ++ joined s.tag options

-- no more bytes than these are still to come
abbrev pub stream_left : Stream → ℕ
stream_left s = length s.part.now + left_bytes s.options

-- the first of the bytes was taken
abbrev pub IsByte : Option ℕ → List ℕ → Stream → Type 0
IsByte None bytes s = bytes ≡ []
IsByte (Some byte) bytes s = (rest : List ℕ) × (bytes ≡ byte ∷ rest) × HoldsOption s rest

-- the first byte that is no padding was taken
abbrev pub IsUnpadded : Option ℕ → List ℕ → Stream → Type 0
IsUnpadded None bytes s = inner_options bytes ≡ []
IsUnpadded (Some byte) bytes s = (rest : List ℕ) × (0 < byte) × (inner_options bytes ≡ inner_options (byte ∷ rest)) × HoldsOption s rest

-- so many bytes were passed
abbrev pub IsPassed : Bool → ℕ → List ℕ → Stream → Type 0
IsPassed true n bytes s = (n ≤ length bytes) × HoldsOption s (drop n bytes)
IsPassed false n bytes s = length bytes < n

-- what the options within the bytes begin with
abbrev pub IsInner : Inner → List ℕ → Stream → Type 0
IsInner inner.End bytes s = inner_options bytes ≡ []
IsInner (inner.Option tag len) bytes s =
    (rest : List ℕ) × (len ≤ length rest) × HoldsOption s rest
    × (inner_options bytes ≡ tag_value tag (take len rest) ∷ inner_options (drop len rest))

-- so many bytes were put, or the room was too small
abbrev pub IsPutBy : Bool → ℕ → List ℕ → List ℕ → List ℕ → Stream → Type 0
IsPutBy true n bytes before after s = (after ≡ before ++ take n bytes) × HoldsOption s (drop n bytes)
IsPutBy false n bytes before after s = 1024 < length before + n
