-- `write` makes slots of the places, and takes them apart once they are filled. Assumes `Logic`.
use Rattle.std.proofs.Common.{◌≡◌, ℕ, ◌+◌, ◌*◌, ◌<◌, ◌≤◌, ◌^◌, List, [], ◌∷◌, Option, refl, sym, ap, subst, ◌∙◌, w8, w64}
use lib.Dec.{T}
use lib.ListN.{length}
use mir.Syntax.{named, ty_int, ty_array}
use mir.Val.{Val, WT, vptr, vunit, has_ty}
use base.Fraction.{full_share}
use base.Logic.{SProp, never, id⊢}
use base.Fml.{ftrue, flft, froom}
use prog.Wp.{Env}
use contract.Monad.{fact}
use contract.Running.{tables}
use types.Kit.{‵, raw, ◌⊛◌, some, given, later, at_ret, ◌$◌, ◌∵◌, !, qed, move, keep, use1, use2, use3, split, split3, join, pick, learn, rewrite, fsplit, fsplit3, fjoin, fjoin3, feq_i, suffices, await, done}
use types.Part.{whole, sub, look_in}
use types.Run.{stop, fld, load, of_opd, unit_lit, bin, no_more, and_then, first, blocks, exec, returns, enter}
use types.ByLocal.{alloc_all, pass_all, free_all, look_at, get, get_in, through, sets, lands_as, lands_last, env}
use denote.Builtin.{u8, usize, SliceRefOf}
use denote.Exit.{yes}
use denote.Index.{row}
use denote.Laws.{shows}
use denote.Memory.{cell_at}
use denote.Param.{layout}
use denote.Plain.{uint_vals, uint_Tells}
use denote.RattleType.{owns}
use denote.RawPtr.{Ptr, RawPtr, in_a_block}
use denote.Ref.{mut_vals, mut_Tells}
use denote.Signature.{plain, types_at}
use denote.Slice.{shr_slice_vals, shr_slice_Tells}
use denote.Steps.{nothing, heard, opens, closes, peeks}
use denote.Struct.Tuple.{Tuple}
use denote.Triple.Call.{calls_at, calls_at_last}
use denote.Triple.Table.{framed}
use denote.Triple.Walked.{says, Stays, stay_dropped, stay_ref, walk_of, ends_at, Goes-dropped, Goes-ref}
use Rattle.core.proofs.slots.Slots.from_raw_parts.Met as made
use Rattle.core.proofs.slots.Slots.into_raw_parts.Met as taken
use Rattle.core.specs.declared.slots.Slots.{Slots}
use Rattle.std.proofs.alloc.Shapes.{after}
use Rattle.std.proofs.raw_atomic.Walks.{proved}
use Rattle.nb_reasm.specs.Rooms.{places_own, room_owns, written_at}
use Rattle.nb_reasm.proofs.RoomPlaces.{written_length}
use Rattle.nb_reasm.proofs.RoomRuns.{around, run_out, run_in}
use Rattle.nb_reasm.proofs.SlotCalls.{byte_laws, Row, slots_val, LieAt, AreFilled, From, at_from, from_goes, from_gives, Fills, at_fills, fills_goes, fills_gives, Into, at_into, into_goes, into_gives}
use Rattle.nb_reasm.proofs.room.filled.Met as filled
use Rattle.nb_reasm.specs.declared.room.Room.{Room}
use Rattle.nb_reasm.specs.contracts.room.Room.{the_row as R}
use Rattle.nb_reasm.proofs.room.Room.TheLaws.{lowers}
use Rattle.nb_reasm.specs.contracts.room.Room.write as f
use Rattle.nb_reasm.proofs.room.Room.write.Statement.{statement}
use Rattle.nb_reasm.proofs.room.Room.write.Code as code

abbrev stayed : Stays f.ended.signature.params f.ended.kept
stayed = (stay_ref (0 ∷ []) tt (plain (λ _. R)), (stay_dropped (plain (λ _. usize)) yes, (stay_dropped (SliceRefOf (1 ∷ []) tt (plain (λ _. u8)) (λ _. tt)) yes, tt)))

pub write_spec : {M : Type 1} → statement M
write_spec 𝓤 𝓛 𝓜 𝓡 wired =
    let c = f.clauses 𝓛 𝓜.mem 𝓡.returns in let W = walk_of 𝓛 f.ended stayed c in let 𝓣 = tables 𝓤 𝓛.H 𝓜 𝓡 𝓡.env in let H = 𝓛.H in let fr = framed 𝓤 H 𝓜 𝓣 in
    let mem = 𝓜.mem in let run = 𝓡.returns in
    proved 𝓛 f.ended stayed c 𝓜 𝓡 (Goes-ref 𝓛 2 0 tt (plain (λ _. R)), (Goes-dropped 𝓛 2 (plain (λ _. usize)) yes (λ κs x w. refl), (Goes-dropped 𝓛 2 (SliceRefOf (1 ∷ []) tt (plain (λ _. u8)) (λ _. tt)) yes (λ κs x w. refl), tt)))
    f.Key.name code.function (code.unfolded 𝓤 𝓛.H 𝓜 𝓡 wired)
    (λ κs. (mut_vals, (uint_vals w64, (shr_slice_vals, tt)))) (λ κs. (mut_Tells (named 0) κs.0 R, (uint_Tells w64, (shr_slice_Tells (named 1) κs.1.0 u8, tt)))) (λ κs qs bounds a g are.
    let κ₀ = κs.0 in let κ₁ = κs.1.0 in let q₀ = qs.0 in let q₁ = qs.1.0 in
    let rb = a.0.ref_ptr.0 in let ro = a.0.ref_ptr.1 in let h = a.0.now in let cs : List (Option ℕ) = h.bytes in
    let at : ℕ = a.1.0 in let src = a.1.1.0 in let xs : List ℕ = src.now in let n : ℕ = length xs in
    let y : W.Ghost = ((κs, qs, bounds, a, (mut_vals a.0, (uint_vals w64 at, (shr_slice_vals src, tt)))), g) in let Post : Val → SProp 𝓤 = W.post y in
    let fits = are.1.0.1 in let fn : n < 2 ^ 64 = are.1.1.0.0.1.0 in let wide : n * 1 < 2 ^ 63 = are.1.1.0.0.1.1 in
    let Asked : Type 0 = at + n ≤ length cs in
    qed 𝓛 (((‵ (flft κ₀ q₀) ⊛ ‵ (flft κ₁ q₁) ⊛ ‵ ftrue) ⊛ ‵ (owns (types_at f.ended.signature.params κs) a y.0.4)) ∷ raw (fact 𝓤 Asked) ∷ []) ∵
    move ! (1 ∷ []) $ heard ! Asked (λ asked. split ! $ split3 ! $ move ! (3 ∷ []) $ fsplit3 ! $ fsplit3 ! $ move ! (4 ∷ []) $ fsplit ! $ keep ! (3 ∷ 4 ∷ 6 ∷ 0 ∷ 7 ∷ []) $
    enter ! _ _ _ _ _ $ alloc_all ! (λ l. pass_all ! refl ((tt, tt), ((tt, record { fits = fits }), ((tt, (tt, (record { fits = fn }, tt))), tt))) $
    opens ! tt R {h = h} rb ro (λ us. move ! (1 ∷ []) $ peeks ! R _ (shows 𝓛 R) h us (λ is. fsplit ! $ move ! (1 ∷ []) $
    in_a_block ! h.at (λ p. room_owns p cs) (id⊢ 𝓤 (never 𝓤)) (λ b o e.
    let word = lowers.val_is h us is ∙ ap (λ (p : Ptr). lowers.lowered (record h { at = p }) ∷ []) e in
    let Cell = λ (ws : List Val). ‵ (cell_at full_share R.mir ws rb ro) in
    let En : Env 𝓤 H = env code.Mir.locals l in let to = at + o in
    -- [the places; the struct's fields, its cell and its open borrow; the bytes and their token]
    rewrite ! 2 Cell word refl $
    sets ! (of_opd ! (get_in ! (fld ! refl (stop !)) (sub ! 1 refl (whole !)))) refl (tt, record { fits = fn }) $
    first ! $ blocks ! $
    sets ! (of_opd ! (load ! (through ! refl (fld ! refl (stop !))) (look_in ! 2 (sub ! 0 refl (whole !))))) refl (tt, tt) $
    sets ! (bin ! (get ! refl) (get ! refl) tt) refl (tt, tt) $
    use1 𝓛 (‵ (froom (ty_array (ty_int w8) n) b to) ⊛ ‵ (around b o cs at n)) (run_out 𝓛 b o cs at n asked) $ split ! $
    use1 𝓛 (raw ((From 𝓛 mem run).pre (at_from 𝓛 mem run b to xs))) (from_goes 𝓛 mem run b to xs fn wide) $
    calls_at ! fr (From 𝓛 mem run) (made.met 𝓤 𝓛 𝓜 𝓡 (code.calls-core::slots::Slots::from_raw_parts 𝓡.env wired) u8 byte_laws) (at_from 𝓛 mem run b to xs) (and_then ! (get ! refl) (and_then ! (get ! refl) (no_more !))) (λ v.
    use1 𝓛 (later (some (λ (r : Slots ℕ). given ((v ≡ slots_val b to xs) × LieAt b to xs r) (‵ (Row.own_val r (slots_val b to xs ∷ [])))))) (from_gives 𝓛 mem run b to xs v) $ await ! tt $ pick ! (λ r. learn ! (λ new.
    lands_as ! new.0 refl (tt, (tt, (record { fits = fn }, tt))) $ sets ! (of_opd ! (get ! refl)) refl (tt, (tt, (record { fits = fn }, tt))) $
    -- [the slots; the places around them; the struct's fields, its cell and its open borrow; the bytes and their token]
    move ! (0 ∷ 7 ∷ 8 ∷ []) $ use3 𝓛 (raw ((Fills 𝓛 mem run).pre (at_fills 𝓛 mem run b to xs κ₁ q₁ src r))) (fills_goes 𝓛 mem run b to xs κ₁ q₁ src r new.1.1) $
    calls_at ! fr (Fills 𝓛 mem run) (filled.met 𝓤 𝓛 𝓜 𝓡 (code.calls-nb_reasm::room::filled 𝓡.env wired)) (at_fills 𝓛 mem run b to xs κ₁ q₁ src r) (and_then ! (get ! refl) (and_then ! (get ! refl) (no_more !))) (λ v.
    use1 𝓛 (later (some (λ (d : Slots ℕ). given ((v ≡ slots_val b to xs) × AreFilled b to xs d) (‵ (Row.own_val d (slots_val b to xs ∷ [])) ⊛ ‵ (flft κ₁ q₁))))) (fills_gives 𝓛 mem run b to xs κ₁ q₁ src r refl new.1 v) $
    await ! tt $ pick ! (λ d. learn ! (λ full. split ! $ lands_as ! full.0 refl (tt, (tt, (record { fits = fn }, tt))) $
    use1 𝓛 (raw ((Into 𝓛 mem run).pre (at_into 𝓛 mem run b to xs d))) (into_goes 𝓛 mem run b to xs d) $
    calls_at_last ! fr (Into 𝓛 mem run) (taken.met 𝓤 𝓛 𝓜 𝓡 (code.calls-core::slots::Slots::into_raw_parts 𝓡.env wired) u8 byte_laws) (at_into 𝓛 mem run b to xs d) (and_then ! (get ! refl) (no_more !)) (λ v.
    use1 𝓛 (later (given (v ≡ slots_val b to xs) (‵ (row u8 full_share xs b to)))) (into_gives 𝓛 mem run b to xs d full.1 v) $ await ! tt $ learn ! (λ parts.
    lands_last ! refl (subst (λ (z : Val). T (has_ty (layout (Tuple (RawPtr ∷ usize ∷ []))) z) × WT z) (sym parts) (tt, (tt, (record { fits = fn }, tt)))) $
    exec ! 𝓣.C 𝓣.Λ En (after 2 (code.function).body) (at_ret En Post) $ sets ! (of_opd ! (unit_lit !)) refl (tt, tt) $
    let few : length (written_at cs at xs) ≤ 2 ^ 20 = subst (λ (k : ℕ). k ≤ 2 ^ 20) (sym (written_length xs cs at)) h.small in
    let now : Room = record { at = h.at; bytes = written_at cs at xs; small = few } in
    move ! (0 ∷ 2 ∷ []) $ use2 𝓛 (‵ (places_own b o now.bytes)) (run_in 𝓛 b o cs at xs asked) $
    rewrite ! 0 (λ (p : Ptr). ‵ (room_owns p now.bytes)) (sym e) refl $ rewrite ! 3 Cell (sym word) refl $
    move ! (2 ∷ 0 ∷ []) $ fjoin ! $ move ! (2 ∷ 0 ∷ 3 ∷ 4 ∷ 5 ∷ []) $ closes ! tt R now us rb ro $
    returns ! (look_at ! 0 refl) $ free_all ! refl $
    suffices ! _ (ends_at 𝓛 f.ended stayed c y vunit tt (now, (tt, (tt, tt))) (tt, (tt, (tt, tt)))) $ says ! (refl, refl) $
    feq_i ! (List Val) (vptr rb ro ∷ []) (vptr rb ro ∷ []) refl $ fjoin3 ! $ nothing ! $ nothing ! $ nothing ! $ fjoin3 ! $ move ! (1 ∷ 0 ∷ []) $ fjoin ! $
    nothing ! $ move ! (3 ∷ 0 ∷ []) $ join ! $ move ! (2 ∷ 0 ∷ []) $ join ! $ feq_i ! (List Val) (vunit ∷ []) (vunit ∷ []) refl $ keep ! (1 ∷ 2 ∷ 0 ∷ []) $ done !))))))))))))))
