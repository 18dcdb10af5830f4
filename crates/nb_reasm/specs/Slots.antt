-- Slots of a ring, and marks on them.
use Rattle.std.specs.Prelude.{ℕ, ◌-◌, ◌/◌, ◌%◌, List, Bool, nat_lt, slice_index, if◌then◌else◌}
use Rattle.std.specs.Int.{bit_at}

-- 1 where the slot is marked, else 0: slot i is bit i % 64 of word i / 64
unfoldable pub slot_mark : List ℕ → ℕ → ℕ
slot_mark words i = bit_at (slice_index words (i / 64)) (i % 64)

-- the mark of a slot that is marked, or isn't
abbrev pub mark_of : Bool → ℕ
mark_of marked = if marked then 1 else 0

-- a slot that is counted on from another comes back to 0 after the last one
abbrev pub wrapped_slot : ℕ → ℕ → ℕ
wrapped_slot capacity i = if nat_lt i capacity then i else i - capacity
