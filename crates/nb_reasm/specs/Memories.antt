-- What a ring's memory is: bytes in slots, of which those that were written may be read.
use Rattle.std.specs.Prelude.{◌≡◌, ℕ, Option, Some, None, true, get_or}
use Rattle.std.specs.Option.{is_some}
use Rattle.nb_reasm.specs.declared.memory.Memory.{Memory}

abbrev pub memory_size : Memory → ℕ
memory_size m = m.size

-- the byte that was written, if one was
abbrev pub byte_of : Option ℕ → ℕ
byte_of (Some b) = b
byte_of None = 0

-- the byte that was last written to the slot
abbrev pub memory_byte : Memory → ℕ → ℕ
memory_byte m slot = byte_of (get_or m.room.bytes slot None)

abbrev pub IsWritten : Memory → ℕ → Type 0
IsWritten m slot = is_some (get_or m.room.bytes slot None) ≡ true
