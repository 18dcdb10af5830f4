-- A `&` to a room reaches each byte that was written. Assumes `Logic`.
use Prim.Native.Nat.{ℕ, ◌+◌}
use Rattle.std.specs.Prelude.{List, [], ◌∷◌, Option, Some, None}
use seplogic.Ra.Ura.{Ura}
use base.Fml.{Lft, Incl, Incl-refl, ftrue, ffalse}
use types.Logic.{Logic}
use denote.Builtin.{u8}
use denote.RawPtr.{Ptr, block_ptr, null_ptr}
use denote.Sharing.{ShrLaws, said}
use denote.SharingLaws.{beside_shr_laws, nothing_shr_laws, said_shr_laws}
use denote.Shares.{Shares-less}
use denote.Plain.{uint_row_laws}
use denote.Param.Shared.{copy_shared}
use denote.Struct.Field.{RawPtr-field, u8-field}
use denote.Struct.Laws.{RawPtr-copy, u8-copy}
use denote.Struct.Lending.{of_Lends, Lends, Lends-both, Lends-nothing, Lends-false}
use mir.Syntax.{w8}
use Rattle.nb_reasm.specs.Rooms.{place_owns, places_own, room_owns, place_lent, places_lent, room_lent}
use Rattle.nb_reasm.specs.contracts.room.Room as C
use Rattle.nb_reasm.proofs.room.Room.TheLaw.Statement.{statement}

place_laws : (b o : ℕ) (c : Option ℕ) → ShrLaws (place_lent b o c)
place_laws b o (Some x) = uint_row_laws w8 x b o
place_laws b o None = nothing_shr_laws

places_laws : (b o : ℕ) (cs : List (Option ℕ)) → ShrLaws (places_lent b o cs)
places_laws b o [] = nothing_shr_laws
places_laws b o (c ∷ cs) = beside_shr_laws (place_lent b o c) (places_lent b (o + 1) cs) (place_laws b o c) (places_laws b (o + 1) cs)

room_laws : (p : Ptr) (cs : List (Option ℕ)) → ShrLaws (room_lent p cs)
room_laws (block_ptr b o) cs = places_laws b o cs
room_laws null_ptr cs = said_shr_laws ffalse tt

module _ {M : Type 1} {𝓤 : Ura M} (𝓛 : Logic 𝓤) (l : Lft) (inc : Incl l u8.lives) where
  Lends-place : (b o : ℕ) (c : Option ℕ) → Lends 𝓛 (place_owns b o c) (place_lent b o c) l
  Lends-place b o (Some x) = λ κ ts. Shares-less 𝓛 u8 u8.lives l inc ((copy_shared u8-field u8-copy).shares _ 𝓤 𝓛) x κ ts b o
  Lends-place b o None = Lends-nothing 𝓛 (place_owns b o None) l

  Lends-places : (b o : ℕ) (cs : List (Option ℕ)) → Lends 𝓛 (places_own b o cs) (places_lent b o cs) l
  Lends-places b o [] = Lends-nothing 𝓛 ftrue l
  Lends-places b o (c ∷ cs) =
      Lends-both 𝓛 (place_owns b o c) (places_own b (o + 1) cs) (place_lent b o c) (places_lent b (o + 1) cs) l (Lends-place b o c) (Lends-places b (o + 1) cs)

  Lends-room : (p : Ptr) (cs : List (Option ℕ)) → Lends 𝓛 (room_owns p cs) (room_lent p cs) l
  Lends-room (block_ptr b o) cs = Lends-places b o cs
  Lends-room null_ptr cs = Lends-false 𝓛 (said ffalse) l

pub shares : statement
shares = of_Lends C.struct C.the_codes C.the_heap C.the_lent (λ d p. room_laws d.at d.bytes) (copy_shared RawPtr-field RawPtr-copy, tt)
    (λ M 𝓤 𝓛 d p. Lends-room 𝓛 (C.the_row).lives (Incl-refl _) d.at d.bytes)
