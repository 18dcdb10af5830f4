-- What lines over memory do: which calls fail, how much a read gives, and what stays told.
use Rattle.std.specs.Prelude.{ℕ, Bool, true, false, ◌&&◌, ◌||◌, ◌==◌, nat_lt, min, List, Option, Some, None, slice_index, if◌then◌else◌}
use Rattle.std.specs.List.{list_any}

-- whether the call of this number is one that fails
abbrev pub fails : List ℕ → ℕ → Bool
fails numbers call = list_any (λ c. c == call) numbers

-- whether the write of this number, of so many bytes, is one that fails: also one of some bytes where no room is left
abbrev pub write_fails : List ℕ → ℕ → ℕ → ℕ → Bool
write_fails numbers call len room = fails numbers call || (nat_lt 0 len && (room == 0))

-- how many bytes the read of this number may give: as many as it likes where no cut is given, or 0
abbrev pub cut_of_read : List ℕ → ℕ → ℕ → ℕ
cut_of_read cuts number most = if slice_index cuts number == 0 then most else min (slice_index cuts number) most

-- the output where it is told
abbrev pub told : Bool → List ℕ → Option (List ℕ)
told true output = Some output
told false output = None
