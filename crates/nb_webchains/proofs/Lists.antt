-- One more of some.
use Rattle.std.proofs.Common.{inl, inr, ◌≡◌, ◌⊎◌, ℕ, Bool, true, false, List, [], ◌∷◌, ◌++◌, refl, sym, ap, ◌∙◌, subst}
use Rattle.nb_frames.specs.Frames.{is_one_of}
use Rattle.nb_chains.proofs.FreshOnes.{sole_in, sole_is}
use Rattle.nb_closings.proofs.Beginning.{one_first}
use Rattle.nb_closings.proofs.Joining.{first_in, later_in}
use Rattle.nb_webchains.specs.Plugs.{last_from}

pub one_more : (ids : List ℕ) (y z : ℕ) → is_one_of (ids ++ y ∷ []) z ≡ true → (is_one_of ids z ≡ true) ⊎ (z ≡ y)
one_more [] y z h = inr (sole_is y z h)
one_more (x ∷ xs) y z h = elim (one_first x (xs ++ y ∷ []) z h) [
  | inl e ↦ inl (ap (is_one_of (x ∷ xs)) e ∙ first_in x xs)
  | inr o ↦ elim (one_more xs y z o) [ inl i ↦ inl (later_in x xs z i) | inr e ↦ inr e ]
]

pub still_one : (ids : List ℕ) (y z : ℕ) → is_one_of ids z ≡ true → is_one_of (ids ++ y ∷ []) z ≡ true
still_one [] y z h = absurd (let w = h in cc)
still_one (x ∷ xs) y z h = elim (one_first x xs z h) [
  | inl e ↦ ap (is_one_of (x ∷ (xs ++ y ∷ []))) e ∙ first_in x (xs ++ y ∷ [])
  | inr o ↦ later_in x (xs ++ y ∷ []) z (still_one xs y z o)
]

pub new_one : (ids : List ℕ) (y : ℕ) → is_one_of (ids ++ y ∷ []) y ≡ true
new_one [] y = sole_in y
new_one (x ∷ xs) y = later_in x (xs ++ y ∷ []) y (new_one xs y)

pub last_one : (x : ℕ) (xs : List ℕ) → is_one_of (x ∷ xs) (last_from x xs) ≡ true
last_one x [] = sole_in x
last_one x (y ∷ ys) = later_in x (y ∷ ys) (last_from y ys) (last_one y ys)

-- what isn't one of more isn't one of fewer
pub not_fewer : (few many : List ℕ) (v : ℕ) → (is_one_of few v ≡ true → is_one_of many v ≡ true) → is_one_of many v ≡ false → is_one_of few v ≡ false
not_fewer few many v more far = by (is_one_of few v) refl
  where
    by : (b : Bool) → is_one_of few v ≡ b → is_one_of few v ≡ false
    by true e = absurd (let z = sym (more e) ∙ far in cc)
    by false e = e

-- a fact of each of some and of one more
pub of_each : (ids : List ℕ) (y : ℕ) (P : ℕ → Type 0) → ((v : ℕ) → is_one_of ids v ≡ true → P v) → P y → (v : ℕ) → is_one_of (ids ++ y ∷ []) v ≡ true → P v
of_each ids y P f p v o = elim (one_more ids y v o) [ inl i ↦ f v i | inr e ↦ subst P (sym e) p ]
