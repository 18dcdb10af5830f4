-- What raw memory owns and lends: a byte at each place, or none yet.
use Rattle.std.specs.Prelude.{◌≡◌, ℕ, ◌+◌, ◌≤◌, List, [], ◌∷◌, length, take, drop, map, slice_set, Option, Some, None}
use base.Fraction.{full_share}
use base.Fml.{Lft, Fml, ftrue, ffalse, fsep, froom}
use mir.Syntax.{Ty, w8, ty_int, ty_array}
use denote.Builtin.{u8}
use denote.Memory.{part_at, shared_of}
use denote.Sharing.{nothing, said, beside}
use denote.RawPtr.{Ptr, block_ptr, null_ptr}

-- the memory that is asked of the allocator
abbrev pub room_type : ℕ → Ty
room_type n = ty_array (ty_int w8) n

-- one place, o bytes into the block b
abbrev pub place_owns : ℕ → ℕ → Option ℕ → Fml
place_owns b o (Some x) = part_at u8 full_share x b o
place_owns b o None = froom (ty_int w8) b o

-- places side by side
abbrev pub places_own : ℕ → ℕ → List (Option ℕ) → Fml
places_own b o [] = ftrue
places_own b o (c ∷ cs) = fsep (place_owns b o c) (places_own b (o + 1) cs)

abbrev pub room_owns : Ptr → List (Option ℕ) → Fml
room_owns (block_ptr b o) cs = places_own b o cs
room_owns null_ptr cs = ffalse

-- what is lent of them
abbrev pub place_lent : ℕ → ℕ → Option ℕ → Lft → Fml
place_lent b o (Some x) = shared_of u8 x b o
place_lent b o None = nothing

abbrev pub places_lent : ℕ → ℕ → List (Option ℕ) → Lft → Fml
places_lent b o [] = nothing
places_lent b o (c ∷ cs) = beside (place_lent b o c) (places_lent b (o + 1) cs)

abbrev pub room_lent : Ptr → List (Option ℕ) → Lft → Fml
room_lent (block_ptr b o) cs = places_lent b o cs
room_lent null_ptr cs = said ffalse

-- these places, with bytes written from one on
abbrev pub written_at : List (Option ℕ) → ℕ → List ℕ → List (Option ℕ)
written_at cs place [] = cs
written_at cs place (x ∷ xs) = written_at (slice_set cs place (Some x)) (place + 1) xs

-- so many places from one on
abbrev pub run_of : List (Option ℕ) → ℕ → ℕ → List (Option ℕ)
run_of cs place len = take len (drop place cs)

-- they are there, and a byte was written to each
abbrev pub IsWrittenRun : List (Option ℕ) → ℕ → ℕ → Type 0
IsWrittenRun cs place len = (place + len ≤ length cs) × ((xs : List ℕ) × (run_of cs place len ≡ map Some xs))
