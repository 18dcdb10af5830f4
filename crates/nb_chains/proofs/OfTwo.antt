-- A fact of each of two objects.
use Rattle.std.proofs.Common.{inl, inr, ◌≡◌, ℕ, true, false, [], ◌∷◌, refl, sym, ◌∙◌, subst}
use Rattle.std.proofs.lemmas.Bool.{cases_eq, eq-eqb, ne_eqb, false≢true}
use Rattle.nb_frames.specs.Frames.{is_one_of}

-- x and y are those of two
pub first_in : (x y : ℕ) → is_one_of (x ∷ y ∷ []) x ≡ true
first_in x y = rw (eq-eqb x x refl) refl

pub other_in : (x y : ℕ) → is_one_of (x ∷ y ∷ []) y ≡ true
other_in x y = elim (cases_eq y x) [
  | inl e ↦ rw (eq-eqb y x e) refl
  | inr n ↦ rw (ne_eqb y x n) (rw (eq-eqb y y refl) refl)
]

pub neither_in : (x y z : ℕ) → (z ≡ x → ⊥) → (z ≡ y → ⊥) → is_one_of (x ∷ y ∷ []) z ≡ false
neither_in x y z i j = rw (ne_eqb z x i) (rw (ne_eqb z y j) refl)

-- a fact of both is one of each of two
pub of_two : (x y : ℕ) (P : ℕ → Type 0) → P x → P y → (z : ℕ) → is_one_of (x ∷ y ∷ []) z ≡ true → P z
of_two x y P p q z o = elim (cases_eq z x) [
  | inl e ↦ subst P (sym e) p
  | inr i ↦ elim (cases_eq z y) [
    | inl e ↦ subst P (sym e) q
    | inr j ↦ absurd (false≢true (sym (neither_in x y z i j) ∙ o))
  ]
]
