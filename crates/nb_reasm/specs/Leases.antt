-- Whose lease the memory of a room is.
use Rattle.std.specs.Prelude.{◌≡◌, ℕ}
use Rattle.nb_reasm.specs.declared.room.Room.{Room}
use Rattle.nb_reasm.specs.declared.room.Lease.{Lease}

-- the lease is this allocator's, for the room's memory of so many bytes
abbrev pub IsLeased : {A : Type 0} → Room → ℕ → Lease A → A → Type 0
IsLeased r size l alloc = (l.alloc ≡ alloc) × (l.at ≡ r.at) × (l.size ≡ size)
