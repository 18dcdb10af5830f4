-- The mark of an object through what happens.
use Rattle.std.proofs.Common.{◌≡◌, ℕ, inl, inr, List, [], ◌∷◌, Option, Some, ap, sym, ◌∙◌}
use Rattle.std.proofs.lemmas.Bool.{cases_eq, eq-eqb, ne_eqb}
use Rattle.nb_ledger.specs.GraphRun.{but_at}
use Rattle.nb_effects.specs.Trace.{Nature, NodeEntry}
use Rattle.nb_effects.specs.Deeds.{Deed, writes, begins, calls, turns}
use Rattle.nb_effects.specs.Hosts.{Hosts}

some_node : {N : Type 0} (i j : N) → Some i ≡ Some j → i ≡ j
some_node i j e = cc

-- the node of x has this mark after one is put
marked : {N : Type 0} (mark : N → ℕ) (x y k : ℕ) (f : ℕ → Option N) (m : N) → (x ≡ y → mark m ≡ k) → ((n : N) → f x ≡ Some n → mark n ≡ k) → (n : N) → but_at y (Some m) f x ≡ Some n → mark n ≡ k
marked mark x y k f m there was n h = elim (cases_eq x y) [
  | inl e ↦ ap mark (sym (some_node m n (rw (eq-eqb x y e) at h))) ∙ there e
  | inr e ↦ was n (rw (ne_eqb x y e) at h)
]

-- none of these begins the object x
abbrev pub BeginsNone : {N L : Type 0} → ℕ → List (Deed N L) → Type 0
BeginsNone x [] = Unit {0}
BeginsNone x (writes e ∷ ds) = BeginsNone x ds
BeginsNone x (begins y n ∷ ds) = (x ≡ y → ⊥) × BeginsNone x ds
BeginsNone x (calls y e ∷ ds) = BeginsNone x ds
BeginsNone x (turns u ∷ ds) = BeginsNone x ds

-- for callers: an object that doesn't begin within what happens keeps its mark
pub mark_stays : {N L : Type 0} (known : Nature N L) (stands : N → List (NodeEntry N L) → Type 0) (f g : ℕ → Option N) (x k : ℕ) (ds : List (Deed N L)) → BeginsNone x ds → Hosts known stands f ds g → ((n : N) → f x ≡ Some n → known.mark n ≡ k) → (n : N) → g x ≡ Some n → known.mark n ≡ k
mark_stays known stands f g x k [] none h was = λ n i. was n (h x n i)
mark_stays known stands f g x k (writes e ∷ ds) none h was = mark_stays known stands f g x k ds none h was
mark_stays known stands f g x k (begins y m ∷ ds) none h was = mark_stays known stands (but_at y (Some m) f) g x k ds none.1 h.1 (marked known.mark x y k f m (λ e. absurd (none.0 e)) was)
mark_stays known stands f g x k (calls y e ∷ ds) none h was = mark_stays known stands (but_at y (Some h.1) f) g x k ds none h.4 (marked known.mark x y k f h.1 (λ i. h.3.0 ∙ was h.0 (ap f i ∙ h.2)) was)
mark_stays known stands f g x k (turns u ∷ ds) none h was = mark_stays known stands f g x k ds none h was
