-- What places hold once a run of bytes was written, and the bytes of a run that was written.
use Rattle.std.proofs.Common.{◌≡◌, ℕ, zero, suc, ◌+◌, ◌<◌, ◌≤◌, ◌⊎◌, inl, inr, List, [], ◌∷◌, Option, Some, None, true, map, length, drop, refl, sym, ap, subst, ◌∙◌, arith}
use Rattle.std.specs.Option.{is_some}
use lib.ListN.{get_or, set, length-set, length-take, length-drop}
use lib.Seq.{get_or-take, get_or-drop}
use Rattle.std.proofs.lemmas.List.{length-map}
use Rattle.nb_reasm.specs.Rooms.{written_at, run_of, IsWrittenRun}
use Rattle.nb_reasm.specs.Memories.{byte_of}

set_here : (cs : List (Option ℕ)) (i : ℕ) (c : Option ℕ) → i < length cs → get_or (set cs i c) i None ≡ c
set_here [] i c l = absurd (omega arith)
set_here (d ∷ cs) zero c l = refl
set_here (d ∷ cs) (suc i) c l = set_here cs i c (omega arith)

set_there : (cs : List (Option ℕ)) (i k : ℕ) (c : Option ℕ) → (i ≡ k → ⊥) → get_or (set cs i c) k None ≡ get_or cs k None
set_there [] i k c apart = refl
set_there (d ∷ cs) zero zero c apart = absurd (apart refl)
set_there (d ∷ cs) zero (suc k) c apart = refl
set_there (d ∷ cs) (suc i) zero c apart = refl
set_there (d ∷ cs) (suc i) (suc k) c apart = set_there cs i k c (λ e. apart (ap suc e))

-- the places before and after the run
pub written_outside : (xs : List ℕ) (cs : List (Option ℕ)) (place i : ℕ) → (i < place) ⊎ (place + length xs ≤ i) → get_or (written_at cs place xs) i None ≡ get_or cs i None
written_outside [] cs place i outside = refl
written_outside (x ∷ xs) cs place i (inl below) = written_outside xs (set cs place (Some x)) (place + 1) i (inl (omega (arith, below))) ∙ set_there cs place i (Some x) (λ e. absurd (omega (arith, e, below)))
written_outside (x ∷ xs) cs place i (inr above) = let past : place + suc (length xs) ≤ i = above in
    written_outside xs (set cs place (Some x)) (place + 1) i (inr (omega (arith, past))) ∙ set_there cs place i (Some x) (λ e. absurd (omega (arith, e, past)))

-- those of the run
pub written_inside : (xs : List ℕ) (cs : List (Option ℕ)) (place k : ℕ) → place + length xs ≤ length cs → k < length xs → get_or (written_at cs place xs) (place + k) None ≡ Some (get_or xs k 0)
written_inside [] cs place k fits l = absurd (omega arith)
written_inside (x ∷ xs) cs place zero fits l = let room : place + suc (length xs) ≤ length cs = fits in
    written_outside xs (set cs place (Some x)) (place + 1) (place + 0) (inl (omega arith)) ∙ ap (λ (i : ℕ). get_or (set cs place (Some x)) i None) {x = place + 0} {y = place} (omega arith) ∙ set_here cs place (Some x) (omega (arith, room))
written_inside (x ∷ xs) cs place (suc k) fits l = let room : place + suc (length xs) ≤ length cs = fits in let long = length-set cs place (Some x) in
    ap (λ (i : ℕ). get_or (written_at (set cs place (Some x)) (place + 1) xs) i None) {x = place + suc k} {y = (place + 1) + k} (omega arith)
    ∙ written_inside xs (set cs place (Some x)) (place + 1) k (omega (arith, room, long)) (omega arith)

set_still : (cs : List (Option ℕ)) (i k x : ℕ) → is_some (get_or cs k None) ≡ true → is_some (get_or (set cs i (Some x)) k None) ≡ true
set_still [] i k x h = h
set_still (d ∷ cs) zero zero x h = refl
set_still (d ∷ cs) zero (suc k) x h = h
set_still (d ∷ cs) (suc i) zero x h = h
set_still (d ∷ cs) (suc i) (suc k) x h = set_still cs i k x h

-- what was written stays written
pub written_still : (xs : List ℕ) (cs : List (Option ℕ)) (place i : ℕ) → is_some (get_or cs i None) ≡ true → is_some (get_or (written_at cs place xs) i None) ≡ true
written_still [] cs place i h = h
written_still (x ∷ xs) cs place i h = written_still xs (set cs place (Some x)) (place + 1) i (set_still cs place i x h)

-- the bytes of a run in which each place was written
run_bytes : (cs : List (Option ℕ)) (place len : ℕ) → ((k : ℕ) → k < len → is_some (get_or cs (place + k) None) ≡ true) → (xs : List ℕ) × (run_of cs place len ≡ map Some xs)
run_bytes [] zero zero all = ([], refl)
run_bytes [] zero (suc len) all = ([], refl)
run_bytes [] (suc place) zero all = ([], refl)
run_bytes [] (suc place) (suc len) all = ([], refl)
run_bytes (c ∷ cs) (suc place) len all = run_bytes cs place len (λ k l. subst (λ (i : ℕ). is_some (get_or (c ∷ cs) i None) ≡ true) {x = suc place + k} {y = suc (place + k)} (omega arith) (all k l))
run_bytes (c ∷ cs) zero zero all = ([], refl)
run_bytes (None ∷ cs) zero (suc len) all = let h : is_some (get_or (None ∷ cs) (0 + 0) None) ≡ true = all 0 (omega arith) in cc
run_bytes (Some x ∷ cs) zero (suc len) all =
    let rest = run_bytes cs zero len (λ k l. subst (λ (i : ℕ). is_some (get_or (Some x ∷ cs) i None) ≡ true) {x = 0 + suc k} {y = suc (0 + k)} (omega arith) (all (suc k) (omega (arith, l)))) in
    (x ∷ rest.0, ap (λ (l : List (Option ℕ)). Some x ∷ l) rest.1)

pub written_run : (cs : List (Option ℕ)) (place len : ℕ) → place + len ≤ length cs → ((k : ℕ) → k < len → is_some (get_or cs (place + k) None) ≡ true) → IsWrittenRun cs place len
written_run cs place len fits all = (fits, run_bytes cs place len all)

pub run_length : (cs : List (Option ℕ)) (place len : ℕ) (xs : List ℕ) → place + len ≤ length cs → run_of cs place len ≡ map Some xs → length xs ≡ len
run_length cs place len xs fits e = omega (arith, ap length e, length-map xs Some, length-take len (drop place cs), length-drop place cs, fits)

some_at : (xs : List ℕ) (k : ℕ) → k < length xs → get_or (map Some xs) k None ≡ Some (get_or xs k 0)
some_at [] k l = absurd (omega arith)
some_at (x ∷ xs) zero l = refl
some_at (x ∷ xs) (suc k) l = some_at xs k (omega arith)

pub run_byte : (cs : List (Option ℕ)) (place len : ℕ) (xs : List ℕ) (k : ℕ) → place + len ≤ length cs → run_of cs place len ≡ map Some xs → k < len → get_or xs k 0 ≡ byte_of (get_or cs (place + k) None)
run_byte cs place len xs k fits e l =
    ap byte_of (sym (some_at xs k (omega (arith, l, run_length cs place len xs fits e))) ∙ sym (ap (λ (bs : List (Option ℕ)). get_or bs k None) e) ∙ get_or-take len (drop place cs) k None l ∙ get_or-drop place cs k None)
