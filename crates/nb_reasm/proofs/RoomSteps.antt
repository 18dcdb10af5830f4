-- What the walks of a room share: a function's slots, what follows a part of a body, and the machine values of the room and of its lease.
use Rattle.std.proofs.Common.{◌≡◌, ℕ, zero, suc, ◌+◌, List, [], ◌∷◌, ◌++◌, refl, sym, ap, ◌∙◌, lit<}
use seplogic.Ra.Ura.{Ura}
use mir.Syntax.{Body, ty_ptr, ty_struct, tcons, tnil}
use mir.Val.{Val, vptr, vstruct, vcons, vnil, of_list}
use base.Logic.{ent, sep, emp}
use base.Fml.{Lft, Share, Fml, fat, flft, fhide}
use prog.Wp.{Env, Calls, Loops, Wp, after_seq, after_block}
use types.Logic.{Logic, sem}
use types.Kit.{Goal, Soaks, Step, step, Seq, Item, Post, any_q, post, drop, keep, use1, split, rewrite, fsplit, feq_l, ‵, ◌$◌, ◌∵◌, !, qed, ◌⊛◌, move, fjoin, fpack, feq_i, done}
use denote.RattleType.{RattleType, Valss}
use denote.Builtin.{unit}
use denote.Copied.{plain_Copied}
use denote.Memory.{cell_at, part_at, hidden_shr}
use denote.Opens.{Shut, unhide}
use denote.RawPtr.{Ptr, RawPtr, block_ptr, null_ptr, coded_ptr, ptr_own, rawptr_pure, ptr_val}
use denote.Shadow.{shadow, makes_shadow}
use denote.Signature.{Slot, plain}
use denote.Steps.{nothing, looks, shuts}
use denote.Struct.Struct.{Struct, within}
use denote.Struct.Declared.{shape}
use denote.Struct.Lending.{lent_out}
use denote.Struct.Laws.{RawPtr-laws}
use denote.Struct.Owning.{shape as fields_of}
use denote.Struct.Tuple.{Tuple, tuple_type}
use Rattle.std.proofs.cell.Inside.{Good}
use Rattle.nb_reasm.specs.Rooms.{room_lent}
use Rattle.nb_reasm.specs.declared.room.Room.{Room}
use Rattle.nb_reasm.specs.contracts.room.Room as C

abbrev pub slot_at : {n : ℕ} → ℕ → List (Slot n) → Slot n
slot_at k [] = plain (λ _. unit)
slot_at zero (s ∷ ss) = s
slot_at (suc k) (s ∷ ss) = slot_at k ss

module _ {M : Type 1} {𝓤 : Ura M} (𝓛 : Logic 𝓤) where
  open 𝓛 use {H}

  abbrev pub then_runs : Calls 𝓤 H → Loops 𝓤 H → Env 𝓤 H → Body → Post 𝓤 H → Post 𝓤 H
  then_runs C Λ E b q = any_q (after_seq 𝓤 H (Wp 𝓤 H C Λ E b (post 𝓤 H q)) (post 𝓤 H q))

  abbrev pub out_of_block : Post 𝓤 H → Post 𝓤 H
  out_of_block q = any_q (after_block 𝓤 H (post 𝓤 H q))

-- a struct by its fields alone: what it owns does not read its name
abbrev plainly : List RattleType → RattleType
plainly Rs = Struct (record { name = []; args = []; types = []; fields = Rs })

abbrev pub room_val : Ptr → Val
room_val p = vstruct (vcons (ptr_val p) vnil)

abbrev pub room_fields : Ptr → List Val → Fml
room_fields p = (plainly (RawPtr ∷ [])).own_val (p, tt)

pub room_told : (p : Ptr) (vs : List Val) → shadow (room_fields p vs) → vs ≡ room_val p ∷ []
room_told p vs s = s.1.0 ∙ (λ i. vstruct (of_list (s.1.1.0 i ++ [])) ∷ [])

pub room_made : {M : Type 1} {𝓤 : Ura M} (𝓛 : Logic 𝓤) (p : Ptr) → ent 𝓤 (emp 𝓤) (sem 𝓛 (room_fields p (room_val p ∷ [])))
room_made 𝓛 p = makes_shadow 𝓛 (room_fields p (room_val p ∷ [])) (λ _. (tt, (tt, tt))) ((ptr_val p ∷ [], tt), (refl, (refl, tt)))

pub room_typed : (p : Ptr) → Good (ty_struct [] (tcons ty_ptr tnil)) (room_val p)
room_typed (block_ptr b o) = (tt, (tt, tt))
room_typed null_ptr = (tt, (record { fits = lit< tt }, tt))

abbrev pub lease_val : Val
lease_val = vstruct (vcons (vstruct vnil) vnil)

abbrev pub lease_fields : List Val → Fml
lease_fields = (plainly (plainly [] ∷ [])).own_val (tt, tt)

pub lease_told : (vs : List Val) → shadow (lease_fields vs) → vs ≡ lease_val ∷ []
lease_told vs s = s.1.0 ∙ (λ i. vstruct (of_list (s.1.1.0.1.0 i ++ [])) ∷ [])

pub lease_made : {M : Type 1} {𝓤 : Ura M} (𝓛 : Logic 𝓤) → ent 𝓤 (emp 𝓤) (sem 𝓛 (lease_fields (lease_val ∷ [])))
lease_made 𝓛 = makes_shadow 𝓛 (lease_fields (lease_val ∷ [])) (λ _. (tt, ((λ _. (tt, tt)), tt))) ((vstruct vnil ∷ [], tt), (refl, ((tt, (refl, tt)), tt)))

abbrev pub pair_val : Val → Val → Val
pair_val u v = vstruct (vcons u (vcons v vnil))

-- a pair is made of its two values
pub pair_of : {M : Type 1} {𝓤 : Ura M} (𝓛 : Logic 𝓤) (R S : RattleType) (x : R.Denot) (y : S.Denot) (u v : Val)
    → ent 𝓤 (sep 𝓤 (sem 𝓛 (R.own_val x (u ∷ []))) (sem 𝓛 (S.own_val y (v ∷ [])))) (sem 𝓛 ((Tuple (R ∷ S ∷ [])).own_val (x, y) (pair_val u v ∷ [])))
pair_of 𝓛 R S x y u v =
    qed 𝓛 (‵ (R.own_val x (u ∷ [])) ∷ ‵ (S.own_val y (v ∷ [])) ∷ []) ∵ nothing ! $ move ! (2 ∷ 0 ∷ []) $ fjoin ! $ move ! (1 ∷ 0 ∷ []) $ fjoin ! $
    feq_i ! (List Val) (pair_val u v ∷ []) (pair_val u v ∷ []) refl $ fjoin ! $
    fpack ! (Valss (R ∷ S ∷ [])) (within (shape (tuple_type (R ∷ S ∷ []))) (x, (y, tt)) (pair_val u v ∷ [])) (u ∷ [], (v ∷ [], tt)) $ done !

-- a `&` to a room shows one to its pointer, and what is lent of the places
pub shown : {M : Type 1} {𝓤 : Ura M} (𝓛 : Logic 𝓤) (κ : Lft) (r : Room) (b o : ℕ) → ent 𝓤 (sem 𝓛 (hidden_shr C.the_row κ r b o)) (sep 𝓤 (sem 𝓛 (hidden_shr RawPtr κ r.at b (o + 0))) (sem 𝓛 (room_lent r.at r.bytes κ)))
shown 𝓛 κ r b o = qed 𝓛 (‵ (hidden_shr C.the_row κ r b o) ∷ []) ∵
    use1 𝓛 (‵ (hidden_shr (Struct (fields_of C.the_type)) κ (r.at, tt) b o) ⊛ ‵ (fhide (room_lent r.at r.bytes κ))) (lent_out 𝓛 C.struct C.the_codes C.the_heap C.the_lent κ r b o) $ split ! $
    unhide ! $ fsplit ! $ fsplit ! $ keep ! (0 ∷ 3 ∷ []) $ done !

module _ {M : Type 1} {𝓤 : Ura M} {𝓛 : Logic 𝓤} {K : Type 0} {Γ : List (Item 𝓤)} {G : Goal 𝓤 𝓛.H} where
  -- a pointer into a block, reached by a `&`, is looked at: [the pointer; the way back]
  pub pointer_in : K → Soaks G → {κ : Lft} {q : Share} (p : Ptr) (pb po : ℕ) → p ≡ block_ptr pb po → (b at : ℕ)
      → ((q' : Share) → Seq K 𝓛 (‵ (fat q' ty_ptr b at (vptr pb po)) ∷ Shut 𝓛 κ q (part_at RawPtr q' p b at) ∷ Γ) G) → Seq K 𝓛 (‵ (hidden_shr RawPtr κ p b at) ∷ ‵ (flft κ q) ∷ Γ) G
  pointer_in t z p pb po is b at k =
      looks t z RawPtr (plain_Copied 𝓛 Ptr coded_ptr (ty_ptr ∷ []) ptr_own rawptr_pure ptr_val RawPtr-laws.tells).opens p b at (λ q' vs. move t (1 ∷ []) $ feq_l t (λ e.
      rewrite t 0 (λ (us : List Val). ‵ (cell_at q' RawPtr.mir us b at)) (e ∙ ap (λ (r : Ptr). ptr_val r ∷ []) is) refl $ move t (2 ∷ []) $ drop t $ k q'))

  pub pointer_out : K → Soaks G → {κ : Lft} {q q' : Share} (p : Ptr) (pb po : ℕ) → p ≡ block_ptr pb po → (b at : ℕ)
      → Step K 𝓛 (‵ (flft κ q) ∷ Γ) G (‵ (fat q' ty_ptr b at (vptr pb po)) ∷ Shut 𝓛 κ q (part_at RawPtr q' p b at) ∷ Γ) G
  pointer_out t z {q' = q'} p pb po is b at = step (λ s.
      feq_i t (List Val) (vptr pb po ∷ []) (ptr_val p ∷ []) (ap (λ (r : Ptr). ptr_val r ∷ []) (sym is)) $ move t (1 ∷ 0 ∷ []) $ shuts t z RawPtr q' p (vptr pb po ∷ []) b at $ s)
