-- What comes and what is late, from one frame to the next.
use Rattle.std.proofs.Common.{◌≡◌, ◌==◌, ℕ, suc, ◌+◌, ◌-◌, ◌%◌, Bool, true, false, List, [], ◌∷◌, ◌++◌, Option, Some, None, if◌then◌else◌, refl, sym, ap, ◌∙◌, arith}
use Rattle.std.specs.List.{flat_map, range_with_len}
use Rattle.std.specs.Option.{option_map_or}
use Rattle.std.proofs.lemmas.Bool.{true≢false, eqb-true, ne_eqb}
use Rattle.std.proofs.lemmas.List.{append-nil, map-id}
use Rattle.std.proofs.lemmas.List.FromFn.{map-range_with_len_more}
use Rattle.std.proofs.lemmas.Grind.{flat_map-append}
use Rattle.nb_lab.specs.declared.fate.Fate.{Fate}
use Rattle.nb_lab.specs.declared.fate.Fate.TheVariants.{Lost, OnTime, Late}
use Rattle.nb_lab.specs.Fates.{is_lost, comes_twice, fate, copies, last_before, if_late, come_with, frames_arrived, late_after}

-- the frame that is late still once one was sent, by the fate of that one and what was late before
abbrev pub late_by : Fate → ℕ → Option ℕ → Option ℕ
late_by Lost n before = before
late_by (OnTime twice) n before = None
late_by (Late twice) n before = Some n

-- what comes then
abbrev pub coming_by : Fate → ℕ → Option ℕ → List ℕ
coming_by Lost n before = []
coming_by (OnTime twice) n before = copies n ++ option_map_or copies before []
coming_by (Late twice) n before = option_map_or copies before []

-- the last frame that isn't lost, up to this one
last_kept : ℕ → ℕ
last_kept n = if is_lost n then n - 1 else n

last_before_is : (k n : ℕ) → k ≡ n + 1 → last_before k ≡ last_kept n
unfolding last_kept
last_before_is k n is =
    let one : k - 1 ≡ n = omega arith in
    let two : k - 2 ≡ n - 1 = omega arith in
    ap (λ m. if is_lost m then k - 2 else k - 1) one ∙ ap (λ m. if is_lost n then m else k - 1) two ∙ ap (λ m. if is_lost n then n - 1 else m) one

choose : (b : Bool) (x y : ℕ) → if_late (if b then x else y) ≡ (if b then if_late x else if_late y)
choose true x y = refl
choose false x y = refl

late_is : (n : ℕ) → late_after n ≡ (if is_lost n then if_late (n - 1) else if_late n)
unfolding late_after last_kept
late_is n = ap if_late (last_before_is (n + 1) n refl) ∙ choose (is_lost n) (n - 1) n

-- of two in a row one isn't lost
not_both : (n : ℕ) → is_lost (suc n) ≡ true → is_lost n ≡ false
not_both n h =
    let none : suc n % 7 ≡ 0 = eqb-true (suc n % 7) 0 h in
    ne_eqb (n % 7) 0 (λ e. omega (arith, e, none))

late_tests : (lost late twice before : Bool) (n : ℕ) → (lost ≡ true → before ≡ false)
    → (if lost then if_late n else (if (if lost then false else late) then Some (suc n) else None))
    ≡ late_by (if lost then Lost else (if late then Late twice else OnTime twice)) (suc n) (if before then if_late (n - 1) else if_late n)
late_tests true late twice true n h = absurd (true≢false (h refl))
late_tests true late twice false n h = refl
late_tests false true twice before n h = refl
late_tests false false twice before n h = refl

pub late_step : (n : ℕ) → late_after (suc n) ≡ late_by (fate (suc n)) (suc n) (late_after n)
unfolding fate
late_step n =
    let less : suc n - 1 ≡ n = omega arith in
    let lost = is_lost (suc n) in
    late_is (suc n)
    ∙ ap (λ k. if lost then if_late k else if_late (suc n)) less
    ∙ late_tests lost (suc n % 13 == 0) (comes_twice (suc n)) (is_lost n) n (not_both n)
    ∙ ap (late_by (fate (suc n)) (suc n)) (sym (late_is n))

coming_tests : (lost late twice : Bool) (n : ℕ) (before : Option ℕ)
    → (if lost then [] else ((if (if lost then false else late) then [] else copies n) ++ option_map_or copies before []))
    ≡ coming_by (if lost then Lost else (if late then Late twice else OnTime twice)) n before
coming_tests true late twice n before = refl
coming_tests false true twice n before = refl
coming_tests false false twice n before = refl

pub coming_step : (n : ℕ) → come_with (suc n) ≡ coming_by (fate (suc n)) (suc n) (late_after n)
unfolding come_with fate late_after
coming_step n =
    let same : last_before (suc n) ≡ last_before (n + 1) = last_before_is (suc n) n (omega arith) ∙ sym (last_before_is (n + 1) n refl) in
    coming_tests (is_lost (suc n)) (suc n % 13 == 0) (comes_twice (suc n)) (suc n) (if_late (last_before (suc n)))
    ∙ ap (λ k. coming_by (fate (suc n)) (suc n) (if_late k)) same

range_more : (n : ℕ) → range_with_len 1 (n + 1) ≡ range_with_len 1 n ++ suc n ∷ []
range_more n =
    sym (map-id (range_with_len 1 (n + 1)))
    ∙ map-range_with_len_more (λ (k : ℕ). k) 1 n (suc n) (omega arith)
    ∙ ap (λ (x : List ℕ). x ++ suc n ∷ []) (map-id (range_with_len 1 n))

pub arrivals_step : (n : ℕ) → frames_arrived (suc n) ≡ frames_arrived n ++ coming_by (fate (suc n)) (suc n) (late_after n)
unfolding frames_arrived
arrivals_step n =
    let one : suc n ≡ n + 1 = omega arith in
    ap (λ k. flat_map come_with (range_with_len 1 k)) one
    ∙ ap (flat_map come_with) (range_more n)
    ∙ flat_map-append come_with (range_with_len 1 n) (suc n ∷ [])
    ∙ ap (λ (x : List ℕ). frames_arrived n ++ x) (append-nil (come_with (suc n)) ∙ coming_step n)
