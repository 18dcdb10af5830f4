-- Places side by side in memory: they are what an allocator gives and takes back, and a run is seen. Assumes `Logic`.
use Rattle.std.proofs.Common.{◌≡◌, ℕ, zero, suc, ◌+◌, ◌≤◌, List, [], ◌∷◌, ◌++◌, Option, Some, None, map, length, take, drop, refl, sym, ap, subst, ◌∙◌, arith}
use lib.ListN.{set, length-set, replicate, take-append-drop}
use seplogic.Ra.Ura.{Ura}
use base.Fraction.{full_share}
use mir.Syntax.{w8, ty_int, ty_array}
use mir.Val.{vint}
use base.Logic.{ent, id⊢, snd∗, via, mono_r}
use base.Fml.{Lft, froom}
use types.Logic.{Logic, sem}
use types.Kit.{‵, ◌⊛◌, ◌$◌, ◌∵◌, !, qed, by, move, keep, use1, split, rewrite, frame, done}
use denote.Builtin.{u8}
use denote.Plain.{uint_out}
use denote.Slice.{elements_shared}
use Rattle.nb_reasm.specs.Rooms.{place_owns, places_own, place_lent, places_lent, written_at}

module _ {M : Type 1} {𝓤 : Ura M} (𝓛 : Logic 𝓤) (b : ℕ) where
  open 𝓛 use {H}

  pub of_room : (n o : ℕ) → ent 𝓤 (H.room (ty_array (ty_int w8) n) b o) (sem 𝓛 (places_own b o (replicate n None)))
  of_room zero o = qed 𝓛 (‵ (froom (ty_array (ty_int w8) 0) b o) ∷ []) ∵ keep ! [] $ done !
  of_room (suc n) o = qed 𝓛 (‵ (froom (ty_array (ty_int w8) (suc n)) b o) ∷ []) ∵
      use1 𝓛 (‵ (froom (ty_int w8) b o) ⊛ ‵ (froom (ty_array (ty_int w8) n) b (o + 1))) (𝓛.laws.room_uncons (ty_int w8) n b o) $ split ! $ frame ! $ by ! (of_room n (o + 1))

  -- a place is room, whether or not a byte was written
  pub emptied : (o : ℕ) (c : Option ℕ) → ent 𝓤 (sem 𝓛 (place_owns b o c)) (H.room (ty_int w8) b o)
  emptied o None = id⊢ 𝓤 _
  emptied o (Some x) = via 𝓤 _ (uint_out 𝓛 full_share w8 x b o) (𝓛.laws.at_room (ty_int w8) b o (vint w8 x))

  pub to_room : (cs : List (Option ℕ)) (o : ℕ) → ent 𝓤 (sem 𝓛 (places_own b o cs)) (H.room (ty_array (ty_int w8) (length cs)) b o)
  to_room [] o = 𝓛.laws.room_nil (ty_int w8) b o
  to_room (c ∷ cs) o = qed 𝓛 (‵ (place_owns b o c) ∷ ‵ (places_own b (o + 1) cs) ∷ []) ∵
      use1 𝓛 (‵ (froom (ty_int w8) b o)) (emptied o c) $ move ! (1 ∷ []) $
      use1 𝓛 (‵ (froom (ty_array (ty_int w8) (length cs)) b (o + 1))) (to_room cs (o + 1)) $ move ! (1 ∷ []) $ by ! (𝓛.laws.room_cons (ty_int w8) (length cs) b o)

  module _ (κ : Lft) where
    seen_from : (cs : List (Option ℕ)) (i o at : ℕ) → i ≤ length cs → at ≡ i + o → ent 𝓤 (sem 𝓛 (places_lent b o cs κ)) (sem 𝓛 (places_lent b at (drop i cs) κ))
    seen_from cs zero o at le e = let same : o ≡ at = omega arith in subst (λ (k : ℕ). ent 𝓤 (sem 𝓛 (places_lent b o cs κ)) (sem 𝓛 (places_lent b k cs κ))) same (id⊢ 𝓤 _)
    seen_from [] (suc i) o at le e = absurd (omega arith)
    seen_from (c ∷ cs) (suc i) o at le e =
        via 𝓤 (sem 𝓛 (places_lent b (o + 1) cs κ)) (snd∗ 𝓤 (sem 𝓛 (place_lent b o c κ)) (sem 𝓛 (places_lent b (o + 1) cs κ))) (seen_from cs i (o + 1) at (omega arith) (omega arith))

    seen_to : (xs : List ℕ) (rest : List (Option ℕ)) (o : ℕ) → ent 𝓤 (sem 𝓛 (places_lent b o (map Some xs ++ rest) κ)) (sem 𝓛 (elements_shared u8 xs b o κ))
    seen_to [] rest o = qed 𝓛 (‵ (places_lent b o rest κ) ∷ []) ∵ keep ! [] $ done !
    seen_to (x ∷ xs) rest o = mono_r 𝓤 (sem 𝓛 (place_lent b o (Some x) κ)) (seen_to xs rest (o + 1))

    pub run_seen : (o : ℕ) (cs : List (Option ℕ)) (i n : ℕ) (xs : List ℕ) → i ≤ length cs → take n (drop i cs) ≡ map Some xs
        → ent 𝓤 (sem 𝓛 (places_lent b o cs κ)) (sem 𝓛 (elements_shared u8 xs b (i + o) κ))
    run_seen o cs i n xs le e = qed 𝓛 (‵ (places_lent b o cs κ) ∷ []) ∵ use1 𝓛 (‵ (places_lent b (i + o) (drop i cs) κ)) (seen_from cs i o (i + o) le refl) $
        rewrite ! 0 (λ (l : List (Option ℕ)). ‵ (places_lent b (i + o) l κ)) (sym (take-append-drop n (drop i cs)) ∙ ap (λ l. l ++ drop n (drop i cs)) e) refl $ by ! (seen_to xs (drop n (drop i cs)) (i + o))

pub written_length : (xs : List ℕ) (cs : List (Option ℕ)) (place : ℕ) → length (written_at cs place xs) ≡ length cs
written_length [] cs place = refl
written_length (x ∷ xs) cs place = written_length xs (set cs place (Some x)) (place + 1) ∙ length-set cs place (Some x)
