-- `Slots` of bytes made of room, filled and taken apart again, at a call. Assumes `Logic`.
use Rattle.std.proofs.Common.{◌≡◌, ℕ, ◌*◌, ◌<◌, ◌^◌, List, [], ◌∷◌, ◌++◌, Bool, false, length, replicate, refl, sym, ap, ◌∙◌, arith, w64}
use lib.ListN.{length-replicate}
use seplogic.Ra.Ura.{Ura}
use base.Fraction.{full_share}
use mir.Syntax.{named, w8, ty_int, ty_array}
use mir.Val.{Val, vint, vptr, vstruct, of_list}
use base.Logic.{SProp, ent, sep, ex, guard, emp, id⊢}
use base.Fml.{Lft, Share, ftrue, fsep, flft, froom}
use prog.Memory.{Memory}
use prog.Routine.{Routine}
use types.Logic.{Logic, sem}
use types.Kit.{‵, raw, ◌⊛◌, some, later, ◌$◌, ◌∵◌, !, qed, by, move, keep, use0, use1, drop, split, join, pick, rewrite, fsplit, fsplit3, fjoin, fjoin3, fpick, feq_l, feq_i, flt_i, check, show, await, updating, now, done}
use contract.BorrowLft.{◌⊑◌, ⊑_refl}
use contract.Monad.{Fun, fact, fact_i}
use denote.Builtin.{u8, usize}
use denote.Index.{row}
use denote.Param.Laws.{Laws, of_field}
use denote.Param.Shared.{copy_shared}
use denote.RattleType.{RattleType}
use denote.RawPtr.{Ptr, RawPtr, block_ptr, in_block}
use denote.Ref.{Bor}
use denote.Slice.{ShrSlice, shr_slice_vals}
use denote.Steps.{only, heard, nothing}
use denote.Struct.Field.{u8-field}
use denote.Struct.Laws.{u8-laws, u8-copy}
use denote.Struct.Tuple.{Tuple}
use denote.Triple.Spec.{triple_of}
use denote.Triple.Statement.{Contract}
use Rattle.core.specs.Mem.Slots.Ownership.{slots, owned}
use Rattle.core.specs.Mem.Slots.{slots_items, slots_filled, slots_ptr, slots_len, slots_counts, SamePlaces, IsFull}
use Rattle.core.specs.declared.slots.Slots.{Slots}
use Rattle.core.proofs.mem.Param.{El, R}
use Rattle.core.proofs.slots.Opens.{Sr, words_val, row_val, row_had, row_made}
use Rattle.core.proofs.slots.Places.{to_row}
use Rattle.core.proofs.slots.Runs.{of_space}
use Rattle.core.specs.contracts.slots.Slots.from_raw_parts as FR
use Rattle.core.specs.contracts.slots.Slots.into_raw_parts as IR
use Rattle.nb_reasm.specs.contracts.room.filled as FL

abbrev pub byte_laws : Laws u8
byte_laws = of_field u8-field u8-laws refl (copy_shared u8-field u8-copy)

abbrev Byte : El
Byte = record { row = u8; laws = byte_laws }

abbrev pub Row : RattleType
Row = Sr Byte

-- the machine value of as many slots as there are bytes, from o bytes into the block b on
abbrev pub slots_val : ℕ → ℕ → List ℕ → Val
slots_val b o xs = row_val b o (length xs)

-- they lie there
abbrev pub LieAt : ℕ → ℕ → List ℕ → Slots ℕ → Type 0
LieAt b o xs r = (slots_ptr r ≡ block_ptr b o) × (slots_len r ≡ length xs)

-- and each holds its byte
abbrev pub AreFilled : ℕ → ℕ → List ℕ → Slots ℕ → Type 0
AreFilled b o xs r = LieAt b o xs r × (slots_items r ≡ xs) × IsFull r

module _ {M : Type 1} {𝓤 : Ura M} (𝓛 : Logic 𝓤) (at_mem : Memory → SProp 𝓤) (run : Routine → Fun 𝓤) where
  open 𝓛 use {H, A}

  abbrev pub From : Contract 𝓤
  From = triple_of 𝓛 (FR.signature u8) (FR.spec u8 𝓛 at_mem run)

  abbrev pub Fills : Contract 𝓤
  Fills = triple_of 𝓛 FL.signature (FL.spec 𝓛 at_mem run)

  abbrev pub Into : Contract 𝓤
  Into = triple_of 𝓛 (IR.signature u8) (IR.spec u8 𝓛 at_mem run)

  module _ (b o : ℕ) (xs : List ℕ) where
    abbrev n : ℕ
    n = length xs

    abbrev empty : List Bool
    empty = replicate n false

    abbrev pub at_from : From.Ghost
    at_from = ((([], tt), (full_share, tt), tt, (block_ptr b o, (n, tt)), (vptr b o ∷ [], (vint w64 n ∷ [], tt))), (xs, empty))

    abbrev Made : Slots ℕ → Type 0
    Made r = (slots_ptr r ≡ block_ptr b o) × (slots_len r ≡ n) × (slots_items r ≡ xs) × (slots_filled r ≡ empty)

    pub from_goes : n < 2 ^ 64 → n * 1 < 2 ^ 63 → ent 𝓤 (H.room (ty_array (ty_int w8) n) b o) (From.pre at_from)
    from_goes fn fit =
        let Ok : Type 0 = (n ≡ length xs) × (n ≡ length empty) in
        qed 𝓛 (‵ (froom (ty_array (ty_int w8) n) b o) ∷ []) ∵ use1 𝓛 (‵ (slots (R Byte) (block_ptr b o) xs empty)) (of_space Byte 𝓛 b o n xs refl) $
        flt_i ! (n * 1) (2 ^ 63) fit $ fjoin ! $ use0 𝓛 (raw (fact 𝓤 Ok)) (fact_i 𝓤 Ok (emp 𝓤) (refl, sym (length-replicate n false))) $ join ! $
        use0 𝓛 (raw (fact 𝓤 ([] ⊑ []))) (fact_i 𝓤 ([] ⊑ []) (emp 𝓤) (⊑_refl [])) $ join ! $
        nothing ! $ flt_i ! n (2 ^ 64) fn $ feq_i ! (List Val) (vint w64 n ∷ []) (vint w64 n ∷ []) refl $ fjoin ! $ feq_i ! (List Val) (vptr b o ∷ []) (vptr b o ∷ []) refl $ fjoin3 ! $
        nothing ! $ use0 𝓛 (‵ (flft [] full_share)) (𝓛.lfts.lft-nil full_share) $ join ! $ join ! $ done !

    pub from_gives : (v : Val) → ent 𝓤 (From.post at_from v)
        (H.⇛ (ex 𝓤 (λ (r : Slots ℕ). guard 𝓤 ((v ≡ slots_val b o xs) × LieAt b o xs r) (sem 𝓛 (Row.own_val r (slots_val b o xs ∷ []))))))
    from_gives v =
        qed 𝓛 (raw (From.post at_from v) ∷ []) ∵ updating ! $
        use1 𝓛 (later (some (λ (r : Slots ℕ). ((‵ (flft [] full_share) ⊛ ‵ ftrue) ⊛ ‵ (Row.own_val r (v ∷ []))) ⊛ some (λ (ws : Unit {0} × (Unit {0} × Unit {0})). ‵ (fsep ftrue (fsep ftrue ftrue)) ⊛ raw (fact 𝓤 (Made r)))))) (id⊢ 𝓤 _) $ await ! tt $ pick ! (λ r.
        split ! $ move ! (1 ∷ []) $ pick ! (λ ws. split ! $ drop ! $ heard ! (Made r) (λ is. split ! $ drop ! $ row_had Byte ! r (v ∷ []) (λ b' o' at e fn fit. row_made Byte ! r b' o' at fn fit $
        let same : row_val b' o' (slots_len r) ≡ slots_val b o xs = λ i. words_val ((sym at ∙ is.0) i) (is.1 i) in
        rewrite ! 0 (λ (u : Val). ‵ (Row.own_val r (u ∷ []))) same refl $ now ! $
        show ! (λ (d : Slots ℕ). guard 𝓤 ((v ≡ slots_val b o xs) × LieAt b o xs d) (sem 𝓛 (Row.own_val d (slots_val b o xs ∷ [])))) r $ check ! (ap only e ∙ same, (is.0, is.1)) $ done !))))

    module _ (κ : Lft) (q : Share) (s : Bor (List ℕ)) (r : Slots ℕ) where
      abbrev pub at_fills : Fills.Ghost
      at_fills = (((κ, tt), (q, tt), tt, (r, (s, tt)), (slots_val b o xs ∷ [], (shr_slice_vals s, tt))), tt)

      abbrev Bytes : RattleType
      Bytes = ShrSlice (named 0) κ u8

      pub fills_goes : slots_len r ≡ length s.now → ent 𝓤 (sep 𝓤 (sem 𝓛 (Row.own_val r (slots_val b o xs ∷ []))) (sep 𝓤 (sem 𝓛 (Bytes.own_val s (shr_slice_vals s))) (A.lft κ q))) (Fills.pre at_fills)
      fills_goes same =
          let Asked : Type 0 = slots_len r ≡ length s.now in
          qed 𝓛 (‵ (Row.own_val r (slots_val b o xs ∷ [])) ∷ ‵ (Bytes.own_val s (shr_slice_vals s)) ∷ ‵ (flft κ q) ∷ []) ∵ use0 𝓛 (raw (fact 𝓤 Asked)) (fact_i 𝓤 Asked (emp 𝓤) same) $
          nothing ! $ move ! (3 ∷ 0 ∷ []) $ fjoin ! $ move ! (2 ∷ 0 ∷ []) $ fjoin ! $ nothing ! $ move ! (3 ∷ 0 ∷ []) $ join ! $ join ! $ done !

      pub fills_gives : s.now ≡ xs → LieAt b o xs r → (v : Val) → ent 𝓤 (Fills.post at_fills v)
          (H.⇛ (ex 𝓤 (λ (d : Slots ℕ). guard 𝓤 ((v ≡ slots_val b o xs) × AreFilled b o xs d) (sep 𝓤 (sem 𝓛 (Row.own_val d (slots_val b o xs ∷ []))) (A.lft κ q)))))
      fills_gives bytes lie v =
          qed 𝓛 (raw (Fills.post at_fills v) ∷ []) ∵ updating ! $
          use1 𝓛 (later (some (λ (d : Slots ℕ). ((‵ (flft κ q) ⊛ ‵ ftrue) ⊛ ‵ (Row.own_val d (v ∷ []))) ⊛ some (λ (ws : Unit {0} × (Unit {0} × Unit {0})). ‵ (fsep ftrue (fsep ftrue ftrue))
          ⊛ (raw (fact 𝓤 (slots_items d ≡ s.now)) ⊛ raw (fact 𝓤 (IsFull d)) ⊛ raw (fact 𝓤 (SamePlaces r d))))))) (id⊢ 𝓤 _) $ await ! tt $ pick ! (λ d.
          split ! $ move ! (1 ∷ []) $ pick ! (λ ws. split ! $ drop ! $ split ! $ heard ! (slots_items d ≡ s.now) (λ items. split ! $ heard ! (IsFull d) (λ full. heard ! (SamePlaces r d) (λ places.
          split ! $ split ! $ move ! (2 ∷ []) $ row_had Byte ! d (v ∷ []) (λ b' o' at e fn fit. row_made Byte ! d b' o' at fn fit $
          let there : slots_ptr d ≡ block_ptr b o = places.start ∙ lie.0 in let long : slots_len d ≡ n = places.count ∙ lie.1 in
          let same : row_val b' o' (slots_len d) ≡ slots_val b o xs = λ i. words_val ((sym at ∙ there) i) (long i) in
          rewrite ! 0 (λ (u : Val). ‵ (Row.own_val d (u ∷ []))) same refl $ now ! $
          show ! (λ (d : Slots ℕ). guard 𝓤 ((v ≡ slots_val b o xs) × AreFilled b o xs d) (sep 𝓤 (sem 𝓛 (Row.own_val d (slots_val b o xs ∷ []))) (A.lft κ q))) d $
          check ! (ap only e ∙ same, ((there, long), items ∙ bytes, full)) $ keep ! (0 ∷ 1 ∷ []) $ done !))))))

    module _ (r : Slots ℕ) where
      abbrev pub at_into : Into.Ghost
      at_into = ((([], tt), (full_share, tt), tt, (r, tt), (slots_val b o xs ∷ [], tt)), tt)

      pub into_goes : ent 𝓤 (sem 𝓛 (Row.own_val r (slots_val b o xs ∷ []))) (Into.pre at_into)
      into_goes =
          qed 𝓛 (‵ (Row.own_val r (slots_val b o xs ∷ [])) ∷ []) ∵ nothing ! $ use0 𝓛 (raw (fact 𝓤 ([] ⊑ []))) (fact_i 𝓤 ([] ⊑ []) (emp 𝓤) (⊑_refl [])) $ join ! $
          nothing ! $ move ! (2 ∷ 0 ∷ []) $ fjoin ! $ nothing ! $ use0 𝓛 (‵ (flft [] full_share)) (𝓛.lfts.lft-nil full_share) $ join ! $ join ! $ done !

      pub into_gives : AreFilled b o xs r → (v : Val) → ent 𝓤 (Into.post at_into v) (H.⇛ (guard 𝓤 (v ≡ slots_val b o xs) (sem 𝓛 (row u8 full_share xs b o))))
      into_gives are v =
          let Parts : RattleType = Tuple (RawPtr ∷ usize ∷ []) in
          qed 𝓛 (raw (Into.post at_into v) ∷ []) ∵ updating ! $
          use1 𝓛 (later (some (λ (p : Parts.Denot). ((‵ (flft [] full_share) ⊛ ‵ ftrue) ⊛ ‵ (Parts.own_val p (v ∷ []))) ⊛ some (λ (ws : Unit {0} × Unit {0}). ‵ (fsep ftrue ftrue)
          ⊛ raw (fact 𝓤 ((p.0 ≡ slots_ptr r) × (p.1 ≡ slots_len r))) ⊛ ‵ (owned (R Byte) (slots_ptr r) (slots_len r) (slots_items r) (slots_filled r)))))) (id⊢ 𝓤 _) $ await ! tt $ pick ! (λ p.
          split ! $ move ! (1 ∷ []) $ pick ! (λ ws. split ! $ drop ! $ split ! $ heard ! ((p.0 ≡ slots_ptr r) × (p.1 ≡ slots_len r)) (λ is. fsplit ! $ drop ! $
          rewrite ! 0 (λ (z : Ptr). ‵ (in_block z (slots (R Byte) z (slots_items r) (slots_filled r)))) are.0.0 refl $ move ! (1 ∷ []) $ split ! $ split ! $ move ! (2 ∷ []) $
          fpick ! (λ vss. fsplit ! $ feq_l ! (λ whole. fsplit3 ! $ feq_l ! (λ e₀. fsplit ! $ feq_l ! (λ e₁. now ! $
          check ! (ap only whole ∙ (λ i. vstruct (of_list (e₀ i ++ (e₁ i ++ [])))) ∙ (λ i. words_val ((is.0 ∙ are.0.0) i) ((is.1 ∙ are.0.1) i))) $ keep ! (4 ∷ []) $ rewrite ! 0 (λ (ys : List ℕ). ‵ (slots (R Byte) (block_ptr b o) ys (slots_filled r))) are.1 refl $
          let counts = slots_counts r in by ! (to_row Byte 𝓛 b xs (slots_filled r) o (sym counts.1 ∙ are.0.1) (λ k lt. are.2 k (omega arith) (omega (arith, lt, counts.1)))))))))))
