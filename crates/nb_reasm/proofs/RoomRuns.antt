-- A run of places is taken out as room, and put back with a byte at each. Assumes `Logic`.
use Rattle.std.proofs.Common.{◌≡◌, ℕ, zero, suc, ◌+◌, ◌≤◌, List, [], ◌∷◌, Option, Some, length, drop, refl, sym, ap, ◌∙◌, arith}
use lib.ListN.{set}
use seplogic.Ra.Ura.{Ura}
use base.Fraction.{full_share}
use mir.Syntax.{w8, ty_int, ty_array}
use base.Logic.{ent, sep}
use base.Fml.{Fml, ftrue, fsep, froom}
use types.Logic.{Logic, sem}
use types.Kit.{‵, ◌⊛◌, ◌$◌, ◌∵◌, !, qed, by, move, keep, use0, use1, use2, split, rewrite, fsplit, fjoin, frame, done}
use denote.Builtin.{u8}
use denote.Index.{row}
use Rattle.nb_reasm.specs.Rooms.{place_owns, places_own, written_at}
use Rattle.nb_reasm.proofs.RoomPlaces.{emptied}

-- the places but for n of them, from the i-th on
abbrev pub around : ℕ → ℕ → List (Option ℕ) → ℕ → ℕ → Fml
around b o cs zero n = places_own b (n + o) (drop n cs)
around b o [] (suc i) n = ftrue
around b o (c ∷ cs) (suc i) n = fsep (place_owns b o c) (around b (o + 1) cs i n)

-- what is written after the first place leaves that one
later_on : (xs : List ℕ) (c : Option ℕ) (cs : List (Option ℕ)) (i k : ℕ) → k ≡ suc i → written_at (c ∷ cs) k xs ≡ c ∷ written_at cs i xs
later_on [] c cs i k e = refl
later_on (x ∷ xs) c cs i k e = ap (λ (j : ℕ). written_at (set (c ∷ cs) j (Some x)) (j + 1) xs) e ∙ later_on xs c (set cs i (Some x)) (i + 1) (suc i + 1) (omega arith)

module _ {M : Type 1} {𝓤 : Ura M} (𝓛 : Logic 𝓤) (b : ℕ) where
  open 𝓛 use {H}

  first_out : (n : ℕ) (cs : List (Option ℕ)) (o : ℕ) → n ≤ length cs
      → ent 𝓤 (sem 𝓛 (places_own b o cs)) (sep 𝓤 (H.room (ty_array (ty_int w8) n) b o) (sem 𝓛 (places_own b (n + o) (drop n cs))))
  first_out zero cs o l = qed 𝓛 (‵ (places_own b o cs) ∷ []) ∵
      use0 𝓛 (‵ (froom (ty_array (ty_int w8) 0) b o)) (𝓛.laws.room_nil (ty_int w8) b o) $ rewrite ! 1 (λ (k : ℕ). ‵ (places_own b k cs)) {x = 0 + o} (omega arith) refl $ done !
  first_out (suc n) [] o l = absurd (omega arith)
  first_out (suc n) (c ∷ cs) o l = qed 𝓛 (‵ (place_owns b o c) ∷ ‵ (places_own b (o + 1) cs) ∷ []) ∵
      use1 𝓛 (‵ (froom (ty_int w8) b o)) (emptied 𝓛 b o c) $ move ! (1 ∷ []) $
      use1 𝓛 (‵ (froom (ty_array (ty_int w8) n) b (o + 1)) ⊛ ‵ (places_own b (n + (o + 1)) (drop n cs))) (first_out n cs (o + 1) (omega arith)) $ split ! $ move ! (2 ∷ 0 ∷ []) $
      use2 𝓛 (‵ (froom (ty_array (ty_int w8) (suc n)) b o)) (𝓛.laws.room_cons (ty_int w8) n b o) $ rewrite ! 1 (λ (k : ℕ). ‵ (places_own b k (drop n cs))) {x = suc n + o} (omega arith) refl $ done !

  first_in : (xs : List ℕ) (cs : List (Option ℕ)) (o : ℕ) → length xs ≤ length cs
      → ent 𝓤 (sep 𝓤 (sem 𝓛 (row u8 full_share xs b o)) (sem 𝓛 (places_own b (length xs + o) (drop (length xs) cs)))) (sem 𝓛 (places_own b o (written_at cs 0 xs)))
  first_in [] cs o l = qed 𝓛 (‵ (row u8 full_share [] b o) ∷ ‵ (places_own b (0 + o) cs) ∷ []) ∵ move ! (1 ∷ []) $ rewrite ! 0 (λ (k : ℕ). ‵ (places_own b k cs)) {x = o} (omega arith) refl $ keep ! (0 ∷ []) $ done !
  first_in (x ∷ xs) [] o l = absurd (omega arith)
  first_in (x ∷ xs) (c ∷ cs) o l = qed 𝓛 (‵ (row u8 full_share (x ∷ xs) b o) ∷ ‵ (places_own b (suc (length xs) + o) (drop (length xs) cs)) ∷ []) ∵ fsplit ! $ move ! (1 ∷ 2 ∷ []) $
      rewrite ! 1 (λ (k : ℕ). ‵ (places_own b k (drop (length xs) cs))) {x = length xs + (o + 1)} (omega arith) refl $
      use2 𝓛 (‵ (places_own b (o + 1) (written_at cs 0 xs))) (first_in xs cs (o + 1) (omega arith)) $ move ! (1 ∷ 0 ∷ []) $ fjoin ! $
      rewrite ! 0 (λ (l : List (Option ℕ)). ‵ (places_own b o l)) (sym (later_on xs (Some x) cs 0 1 refl)) refl $ done !

  taken : (cs : List (Option ℕ)) (i n o at : ℕ) → i + n ≤ length cs → at ≡ i + o
      → ent 𝓤 (sem 𝓛 (places_own b o cs)) (sep 𝓤 (H.room (ty_array (ty_int w8) n) b at) (sem 𝓛 (around b o cs i n)))
  taken cs zero n o at l e = qed 𝓛 (‵ (places_own b o cs) ∷ []) ∵
      use1 𝓛 (‵ (froom (ty_array (ty_int w8) n) b o) ⊛ ‵ (places_own b (n + o) (drop n cs))) (first_out n cs o (omega arith)) $ split ! $
      rewrite ! 0 (λ (k : ℕ). ‵ (froom (ty_array (ty_int w8) n) b k)) {x = at} (omega arith) refl $ done !
  taken [] (suc i) n o at l e = absurd (omega arith)
  taken (c ∷ cs) (suc i) n o at l e = qed 𝓛 (‵ (place_owns b o c) ∷ ‵ (places_own b (o + 1) cs) ∷ []) ∵ move ! (1 ∷ []) $
      use1 𝓛 (‵ (froom (ty_array (ty_int w8) n) b at) ⊛ ‵ (around b (o + 1) cs i n)) (taken cs i n (o + 1) at (omega arith) (omega arith)) $ split ! $ frame ! $ move ! (1 ∷ 0 ∷ []) $ done !

  given : (xs : List ℕ) (cs : List (Option ℕ)) (i o at : ℕ) → i + length xs ≤ length cs → at ≡ i + o
      → ent 𝓤 (sep 𝓤 (sem 𝓛 (row u8 full_share xs b at)) (sem 𝓛 (around b o cs i (length xs)))) (sem 𝓛 (places_own b o (written_at cs i xs)))
  given xs cs zero o at l e = qed 𝓛 (‵ (row u8 full_share xs b at) ∷ ‵ (places_own b (length xs + o) (drop (length xs) cs)) ∷ []) ∵
      rewrite ! 0 (λ (k : ℕ). ‵ (row u8 full_share xs b k)) {x = o} (omega arith) refl $ by ! (first_in xs cs o (omega arith))
  given xs [] (suc i) o at l e = absurd (omega arith)
  given xs (c ∷ cs) (suc i) o at l e = qed 𝓛 (‵ (row u8 full_share xs b at) ∷ ‵ (around b o (c ∷ cs) (suc i) (length xs)) ∷ []) ∵ move ! (1 ∷ []) $ fsplit ! $ move ! (2 ∷ 1 ∷ []) $
      use2 𝓛 (‵ (places_own b (o + 1) (written_at cs i xs))) (given xs cs i (o + 1) at (omega arith) (omega arith)) $ move ! (1 ∷ 0 ∷ []) $ fjoin ! $
      rewrite ! 0 (λ (l : List (Option ℕ)). ‵ (places_own b o l)) (sym (later_on xs c cs i (suc i) refl)) refl $ done !

  module _ (o : ℕ) (cs : List (Option ℕ)) (i : ℕ) where
    pub run_out : (n : ℕ) → i + n ≤ length cs → ent 𝓤 (sem 𝓛 (places_own b o cs)) (sep 𝓤 (H.room (ty_array (ty_int w8) n) b (i + o)) (sem 𝓛 (around b o cs i n)))
    run_out n l = taken cs i n o (i + o) l refl

    pub run_in : (xs : List ℕ) → i + length xs ≤ length cs
        → ent 𝓤 (sep 𝓤 (sem 𝓛 (row u8 full_share xs b (i + o))) (sem 𝓛 (around b o cs i (length xs)))) (sem 𝓛 (places_own b o (written_at cs i xs)))
    run_in xs l = given xs cs i o (i + o) l refl
