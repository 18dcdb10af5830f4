-- Which image stands where, once another is gone.
use Rattle.std.proofs.Common.{◌≡◌, ℕ, zero, suc, ◌+◌, ◌-◌, ◌<◌, ◌≤◌, ◌==◌, List, [], ◌∷◌, length, Option, Some, None, true, false, refl, ap, ◌∙◌, arith, inl, inr}
use Rattle.std.specs.Prelude.{slice_get, nat_lt}
use Rattle.std.specs.List.{remove}
use Rattle.std.specs.Option.{option_and_then}
use Rattle.std.proofs.lemmas.Bool.{cases_lt}
use Rattle.std.proofs.lemmas.Bool.Decides.{nat_tests}
use Rattle.nb_image.specs.Images.{selection_without}

-- before the place all stay where they were
pub remove_before : {X : Type 0} (xs : List X) (i q : ℕ) → q < i → i < length xs → slice_get (remove xs i) q ≡ slice_get xs q
remove_before [] i q h w = absurd (omega arith)
remove_before (x ∷ xs) zero q h w = absurd (omega arith)
remove_before (x ∷ xs) (suc i) zero h w = refl
remove_before (x ∷ xs) (suc i) (suc q) h w = remove_before xs i q (omega arith) (omega arith)

-- from the place on each stands one place lower
pub remove_behind : {X : Type 0} (xs : List X) (i q : ℕ) → i ≤ q → i < length xs → slice_get (remove xs i) q ≡ slice_get xs (suc q)
remove_behind [] i q h w = absurd (omega arith)
remove_behind (x ∷ xs) zero q h w = refl
remove_behind (x ∷ xs) (suc i) zero h w = absurd (omega arith)
remove_behind (x ∷ xs) (suc i) (suc q) h w = remove_behind xs i q (omega arith) (omega arith)

-- the place of an image among all, by its number among the others
pub other_at : {X : Type 0} (xs : List X) (i q place : ℕ) → i < length xs → (q < i → place ≡ q) → (i ≤ q → place ≡ q + 1) → slice_get (remove xs i) q ≡ slice_get xs place
other_at xs i q place w before behind =
    elim (cases_lt q i) [
      | inl h ↦ remove_before xs i q h w ∙ ap (slice_get xs) (omega (arith, before h))
      | inr h ↦ remove_behind xs i q h w ∙ ap (slice_get xs) (omega (arith, behind h))
    ]

before_stays : (s i : ℕ) → s < i → selection_without i (Some s) ≡ Some s
before_stays s i h =
    let other : (s == i) ≡ false = grind (arith, nat_tests) in
    let low : nat_lt i s ≡ false = grind (arith, nat_tests) in
    rw (other, low) refl

behind_moves : (s i : ℕ) → i < s → selection_without i (Some s) ≡ Some (s - 1)
behind_moves s i h =
    let other : (s == i) ≡ false = grind (arith, nat_tests) in
    let high : nat_lt i s ≡ true = grind (arith, nat_tests) in
    rw (other, high) refl

-- the selected image stays selected, where it isn't the one that goes
pub selected_stays : {X : Type 0} (xs : List X) (selected : Option ℕ) (i : ℕ) → i < length xs → (selected ≡ Some i → ⊥) → option_and_then (slice_get (remove xs i)) (selection_without i selected) ≡ option_and_then (slice_get xs) selected
selected_stays xs None i w h = refl
selected_stays xs (Some s) i w h =
    elim (cases_lt s i) [
      | inl low ↦ ap (option_and_then (slice_get (remove xs i))) (before_stays s i low) ∙ remove_before xs i s low w
      | inr high ↦
          elim (cases_lt i s) [
            | inl higher ↦
                let next : suc (s - 1) ≡ s = omega arith in
                ap (option_and_then (slice_get (remove xs i))) (behind_moves s i higher) ∙ remove_behind xs i (s - 1) (omega arith) w ∙ ap (slice_get xs) next
            | inr same ↦ let e : s ≡ i = omega arith in absurd (h (ap Some e))
          ]
    ]
