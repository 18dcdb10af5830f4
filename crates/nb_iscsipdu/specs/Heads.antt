-- RFC 7143, section 11.2.1: the basic header segment of a PDU
use Rattle.std.specs.Prelude.{ℕ, ◌+◌, ◌*◌, ◌/◌, ◌%◌, List, take, drop, slice_index}
use Rattle.std.specs.Int.{w32, from_be_bytes}

-- the number in the four bytes from this one on
unfoldable pub word_at : ℕ → List ℕ → ℕ
word_at place head = from_be_bytes w32 (take 4 (drop place head))

-- the opcode is the low six bits of the first byte
abbrev pub opcode : List ℕ → ℕ
opcode head = slice_index head 0 % 64

-- Bytes 5 to 7 are the data segment's length. Byte 4 counts the words of additional header segments: with
-- it before them, the number is that length where there are none, and at least 2 ^ 24 where there are some.
abbrev pub lengths : List ℕ → ℕ
lengths head = word_at 4 head

-- a length rounded up to a multiple of 4
abbrev pub padded_len : ℕ → ℕ
padded_len n = (n + 3) / 4 * 4
