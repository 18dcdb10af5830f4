-- RFC 2132, section 2: a text may end in zero bytes, which are no part of it
use Rattle.std.specs.Prelude.{ℕ, ◌==◌, ◌&&◌, Bool, false, List, [], ◌∷◌, length, slice_index, if◌then◌else◌}

-- the bytes without the zero bytes that they end with
abbrev pub without_nulls : List ℕ → List ℕ
without_nulls [] = []
without_nulls (byte ∷ bytes) = if (byte == 0) && (length (without_nulls bytes) == 0) then [] else byte ∷ without_nulls bytes

-- the last byte is zero
abbrev pub ends_in_null : List ℕ → Bool
ends_in_null [] = false
ends_in_null (byte ∷ bytes) = slice_index (byte ∷ bytes) (length bytes) == 0
