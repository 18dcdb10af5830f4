-- `lend` hands on the `&` to each byte of a written run. Assumes `Logic`.
use Rattle.std.proofs.Common.{◌≡◌, ℕ, ◌+◌, ◌*◌, ◌^◌, List, [], ◌∷◌, Some, refl, sym, ap, arith, w64}
use Rattle.std.proofs.lemmas.List.{length-map}
use lib.ListN.{length, length-take, length-drop}
use lib.ListN.{drop as drop_l}
use native.Mathlib.Nat.{mul-one}
use mir.Syntax.{named}
use mir.Val.{Val}
use base.Logic.{never, id⊢}
use base.Fml.{ftrue, flft}
use contract.Monad.{fact}
use contract.Running.{tables}
use types.Kit.{‵, raw, ◌⊛◌, at_ret, ◌$◌, ◌∵◌, !, qed, move, keep, drop, use1, split, join, fsplit, fjoin, feq_i, flt_i, suffices, done}
use types.Part.{agg}
use types.Run.{look, stop, fld, load, of_opd, bin, and_then, no_more, first, blocks, exec, returns, enter}
use types.ByLocal.{alloc_all, pass_all, free_all, look_at, get, through, sets, sets_last, env}
use denote.Exit.{yes}
use denote.RattleType.{owns}
use denote.Memory.{hidden_shr}
use denote.RawPtr.{RawPtr, in_a_block}
use denote.Ref.{shr_vals, shr_Tells}
use denote.Builtin.{u8, usize, RefOf}
use denote.Plain.{uint_vals, uint_Tells}
use denote.Signature.{plain, types_at}
use denote.Slice.{slice_val, elements_shared}
use denote.Opens.{hide}
use denote.Steps.{nothing, heard}
use denote.Triple.Walked.{says, Stays, stay_dropped, walk_of, ends_at, Goes-dropped}
use Rattle.std.proofs.alloc.Shapes.{after}
use Rattle.std.proofs.raw_atomic.Walks.{proved}
use Rattle.nb_reasm.specs.Rooms.{room_lent, IsWrittenRun}
use Rattle.nb_reasm.proofs.RoomPlaces.{run_seen}
use Rattle.nb_reasm.proofs.RoomSteps.{shown, pointer_in, pointer_out}
use Rattle.nb_reasm.specs.contracts.room.Room as C
use Rattle.nb_reasm.specs.contracts.room.Room.lend as f
use Rattle.nb_reasm.proofs.room.Room.lend.Statement.{statement}
use Rattle.nb_reasm.proofs.room.Room.lend.Code as code

abbrev stayed : Stays f.ended.signature.params f.ended.kept
stayed = (stay_dropped (RefOf (0 ∷ []) tt (plain (λ _. C.the_row)) (λ _. tt)) yes, (stay_dropped _ yes, (stay_dropped _ yes, tt)))

pub lend_spec : {M : Type 1} → statement M
lend_spec 𝓤 𝓛 𝓜 𝓡 wired =
    let c = f.clauses 𝓛 𝓜.mem 𝓡.returns in let W = walk_of 𝓛 f.ended stayed c in let 𝓣 = tables 𝓤 𝓛.H 𝓜 𝓡 𝓡.env in
    let goes = Goes-dropped 𝓛 1 (plain (λ _. usize)) yes (λ κs x w. refl) in
    proved 𝓛 f.ended stayed c 𝓜 𝓡 (Goes-dropped 𝓛 1 (RefOf (0 ∷ []) tt (plain (λ _. C.the_row)) (λ _. tt)) yes (λ κs x w. refl), (goes, (goes, tt)))
    f.Key.name code.function (code.unfolded 𝓤 𝓛.H 𝓜 𝓡 wired)
    (λ κs. (shr_vals, (uint_vals w64, (uint_vals w64, tt)))) (λ κs. (shr_Tells (named 0) κs.0 C.the_row, (uint_Tells w64, (uint_Tells w64, tt)))) (λ κs qs bounds a g are.
    let κ = κs.0 in let q = qs.0 in let rb = a.0.ref_ptr.0 in let ro = a.0.ref_ptr.1 in let h = a.0.now in let place = a.1.0 in let len = a.1.1.0 in
    let y : W.Ghost = ((κs, qs, bounds, a, (shr_vals a.0, (uint_vals w64 place, (uint_vals w64 len, tt)))), g) in
    let Asked : Type 0 = IsWrittenRun h.bytes place len in
    qed 𝓛 (((‵ (flft κ q) ⊛ ‵ ftrue) ⊛ ‵ (owns (types_at f.ended.signature.params κs) a y.0.4)) ∷ raw (fact 𝓤 Asked) ∷ []) ∵
    move ! (1 ∷ []) $ heard ! Asked (λ asked. split ! $ split ! $ move ! (2 ∷ []) $ fsplit ! $ fsplit ! $ drop ! $
    use1 𝓛 (‵ (hidden_shr RawPtr κ h.at rb (ro + 0)) ⊛ ‵ (room_lent h.at h.bytes κ)) (shown 𝓛 κ h rb ro) $ split ! $ move ! (1 ∷ []) $
    in_a_block ! h.at (λ p. room_lent p h.bytes κ) (id⊢ 𝓤 (never 𝓤)) (λ b o e.
    let xs = asked.1.0 in let written = asked.1.1 in let few = h.small in
    let long : length xs ≡ len = omega (arith, ap length written, length-map xs Some, length-take len (drop_l place h.bytes), length-drop place h.bytes, asked.0) in
    let fits = are.1.1.0.1 in let at : ℕ × ℕ = (b, place + o) in
    use1 𝓛 (‵ (elements_shared u8 xs b (place + o) κ)) (run_seen 𝓛 b κ o h.bytes place len xs (omega (arith, asked.0)) written) $ hide ! $ keep ! (1 ∷ 3 ∷ 0 ∷ []) $
    enter ! _ _ _ _ _ $ alloc_all ! (λ l. pass_all ! refl ((tt, tt), ((tt, record { fits = are.1.0.1 }), ((tt, record { fits = fits }), tt))) $
    first ! $ blocks ! $ pointer_in ! tt h.at b o e rb (ro + 0) (λ q'.
    sets ! (of_opd ! (load ! (through ! refl (fld ! refl (stop !))) (look ! 0 refl))) refl (tt, tt) $
    pointer_out ! tt h.at b o e rb (ro + 0) $
    sets ! (bin ! (get ! refl) (get ! refl) tt) refl (tt, tt) $
    sets_last ! (agg ! (and_then ! (get ! refl) (and_then ! (get ! refl) (no_more !)))) refl (tt, (tt, (record { fits = fits }, tt))) $
    exec ! 𝓣.C 𝓣.Λ (env code.Mir.locals l) (after 1 (code.function).body) (at_ret _ (W.post y)) $ sets ! (of_opd ! (get ! refl)) refl (tt, (tt, (record { fits = fits }, tt))) $
    returns ! (look_at ! 0 refl) $ free_all ! refl $ move ! (1 ∷ []) $
    flt_i ! (length xs * 1) (2 ^ 63) (omega (arith, mul-one (length xs), long, few, asked.0)) $ flt_i ! (length xs) (2 ^ 64) (omega (arith, long, few, asked.0)) $ fjoin ! $
    feq_i ! (List Val) (slice_val at len ∷ []) (slice_val at (length xs) ∷ []) (ap (λ k. slice_val at k ∷ []) (sym long)) $ fjoin ! $ fjoin ! $ move ! (1 ∷ 0 ∷ []) $
    suffices ! _ (ends_at 𝓛 f.ended stayed c y (slice_val at len) (record { ref_ptr = at; now = xs }) (tt, (tt, (tt, tt))) (tt, (tt, (tt, tt)))) $ says ! written $
    nothing ! $ move ! (1 ∷ 0 ∷ []) $ join ! $ nothing ! $ nothing ! $ fjoin ! $ nothing ! $ fjoin ! $ nothing ! $ fjoin ! $ move ! (1 ∷ 0 ∷ []) $ done !)))))
