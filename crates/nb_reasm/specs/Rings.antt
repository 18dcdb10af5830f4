-- What a ring holds, place by place.
use Rattle.std.specs.Prelude.{◌≡◌, ℕ, ◌+◌, ◌-◌, ◌*◌, ◌^◌, ◌<◌, ◌≤◌, ◌==◌, ◌&&◌, ◌||◌, Bool, true, min, Option, Some, None, vec_len, nat_lt, nat_le, if◌then◌else◌}
use Rattle.nb_reasm.specs.Slots.{slot_mark, mark_of, wrapped_slot}
use Rattle.nb_reasm.specs.Memories.{memory_size, memory_byte, IsWritten}
use Rattle.nb_reasm.specs.declared.ring.Ring.{Ring}
use Rattle.nb_reasm.specs.declared.ring.Run.{Run}

abbrev pub capacity : Ring → ℕ
capacity r = memory_size r.memory

-- the slot that lies so far after that of the base
abbrev pub slot_of : Ring → ℕ → ℕ
slot_of r offset = wrapped_slot (capacity r) (r.start + offset)

-- the slot's byte and mark, by the place in the window
abbrev pub ring_byte : Ring → ℕ → ℕ
ring_byte r p = memory_byte r.memory (slot_of r (p - r.base))

abbrev pub ring_mark : Ring → ℕ → ℕ
ring_mark r p = slot_mark r.marks.words.items (slot_of r (p - r.base))

abbrev pub is_held : Ring → ℕ → Bool
is_held r p = nat_le r.base p && (nat_lt p r.next || (nat_lt p (r.base + capacity r) && (ring_mark r p == 1)))

-- the byte that is held at a place, if one is
unfoldable pub held_byte : Ring → ℕ → Option ℕ
held_byte r p = if is_held r p then Some (ring_byte r p) else None

-- a ring, maybe with marks at the first places after the run; marks stand at later places, below the end
pub record IsJoinable (r : Ring) : Type 0 where
  pub some : 0 < capacity r
  pub most : capacity r ≤ 2 ^ 20
  pub start : r.start < capacity r
  pub from : r.base ≤ r.next
  pub to : r.next ≤ r.base + capacity r
  pub small : r.next < 2 ^ 31
  pub end_small : r.end < 2 ^ 31
  pub words : capacity r ≤ 64 * vec_len r.marks.words
  pub front : (p : ℕ) → r.base ≤ p → p < r.next → ring_mark r p ≡ 0
  pub rest : (p : ℕ) → r.base ≤ p → p < r.base + capacity r → r.end ≤ p → ring_mark r p ≡ 0
  pub written : (p : ℕ) → is_held r p ≡ true → IsWritten r.memory (slot_of r (p - r.base))

-- a ring, whose first place after the run holds nothing
pub record IsRing (r : Ring) : Type 0 where
  pub joinable : IsJoinable r
  pub here : r.next < r.base + capacity r → ring_mark r r.next ≡ 0

abbrev pub SameWindow : Ring → Ring → Type 0
SameWindow r s = (s.base ≡ r.base) × (capacity s ≡ capacity r)

-- places from one on, below an end, that are marked alike and have their slots side by side
pub record IsRunAt (r : Ring) (place to : ℕ) (run : Run) : Type 0 where
  pub slot : run.slot ≡ slot_of r (place - r.base)
  pub some : 0 < run.len
  pub within : place + run.len ≤ to
  pub piece : run.slot + run.len ≤ capacity r
  pub alike : (k : ℕ) → k < run.len → slot_mark r.marks.words.items (run.slot + k) ≡ mark_of run.marked

-- how many bytes of the run lie before the last slot's end
abbrev pub front_split : Ring → ℕ
front_split r = min (r.next - r.base) (capacity r - r.start)
