-- The nodes of objects, and what entries rely on, one after another.
use Rattle.std.proofs.Common.{◌≡◌, ℕ, Bool, true, false, inl, inr, List, [], ◌∷◌, ◌++◌, Option, Some, cond, eqb, ap, ◌∙◌, subst}
use Rattle.std.proofs.lemmas.Bool.{cases_eq, eq-eqb, ne_eqb}
use Rattle.nb_ledger.specs.GraphRun.{but_at}
use Rattle.nb_effects.specs.Trace.{Nature, NodeEntry}
use Rattle.nb_effects.specs.Deeds.{Deed, writes, begins, calls, turns, trace_after}
use Rattle.nb_effects.specs.Hosts.{Hosts, Suited, Stood}

-- where fewer objects have a node, still fewer do after one is put
but-more : {N : Type 0} (x : ℕ) (v : Option N) (f g : ℕ → Option N) → ((y : ℕ) (n : N) → g y ≡ Some n → f y ≡ Some n) → (y : ℕ) (n : N) → but_at x v g y ≡ Some n → but_at x v f y ≡ Some n
but-more x v f g more y n = go (eqb y x)
  where
    go : (c : Bool) → cond c v (g y) ≡ Some n → cond c v (f y) ≡ Some n
    go true h = h
    go false h = more y n h

-- what happens where fewer objects have a node happens where more have
hosts-more : {N L : Type 0} (known : Nature N L) (stands : N → List (NodeEntry N L) → Type 0) (f g h : ℕ → Option N) (ds : List (Deed N L)) → ((y : ℕ) (n : N) → g y ≡ Some n → f y ≡ Some n) → Hosts known stands g ds h → Hosts known stands f ds h
hosts-more known stands f g h [] more k = λ x n e. more x n (k x n e)
hosts-more known stands f g h (writes e ∷ ds) more k = hosts-more known stands f g h ds more k
hosts-more known stands f g h (begins x n ∷ ds) more k = (k.0, hosts-more known stands (but_at x (Some n) f) (but_at x (Some n) g) h ds (but-more x (Some n) f g more) k.1)
hosts-more known stands f g h (calls x e ∷ ds) more k = (k.0, k.1, more x k.0 k.2, k.3, hosts-more known stands (but_at x (Some k.1) f) (but_at x (Some k.1) g) h ds (but-more x (Some k.1) f g more) k.4)
hosts-more known stands f g h (turns u ∷ ds) more k = hosts-more known stands f g h ds more k

pub hosts-append : {N L : Type 0} (known : Nature N L) (stands : N → List (NodeEntry N L) → Type 0) (f g h : ℕ → Option N) (ds es : List (Deed N L)) → Hosts known stands f ds g → Hosts known stands g es h → Hosts known stands f (ds ++ es) h
hosts-append known stands f g h [] es k l = hosts-more known stands f g h es k l
hosts-append known stands f g h (writes e ∷ ds) es k l = hosts-append known stands f g h ds es k l
hosts-append known stands f g h (begins x n ∷ ds) es k l = (k.0, hosts-append known stands (but_at x (Some n) f) g h ds es k.1 l)
hosts-append known stands f g h (calls x e ∷ ds) es k l = (k.0, k.1, k.2, k.3, hosts-append known stands (but_at x (Some k.1) f) g h ds es k.4 l)
hosts-append known stands f g h (turns u ∷ ds) es k l = hosts-append known stands f g h ds es k l

pub suited-append : {N L : Type 0} (x : ℕ) (t : List (NodeEntry N L)) (ds es : List (Deed N L)) → Suited x t ds → Suited x (trace_after x t ds) es → Suited x t (ds ++ es)
suited-append x t [] es k l = l
suited-append x t (writes e ∷ ds) es k l = suited-append x t ds es k l
suited-append x t (begins y n ∷ ds) es k l = suited-append x (cond (eqb x y) [] t) ds es k l
suited-append x t (calls y e ∷ ds) es k l = (k.0, suited-append x (cond (eqb x y) (t ++ e ∷ []) t) ds es k.1 l)
suited-append x t (turns u ∷ ds) es k l = suited-append x t ds es k l

-- the node of x stands for its trace after one is put
put : {N L : Type 0} (stands : N → List (NodeEntry N L) → Type 0) (x y : ℕ) (f : ℕ → Option N) (m : N) (t s : List (NodeEntry N L)) → (x ≡ y → stands m s) → ((n : N) → f x ≡ Some n → stands n t) → (n : N) → but_at y (Some m) f x ≡ Some n → stands n (cond (eqb x y) s t)
put {N} stands x y f m t s there was n h = elim (cases_eq x y) [
  | inl e ↦ rw (eq-eqb x y e) (subst (λ z. stands z s) (some_node m n (rw (eq-eqb x y e) at h)) (there e))
  | inr e ↦ rw (ne_eqb x y e) (was n (rw (ne_eqb x y e) at h))
]
  where
    some_node : (i j : N) → Some i ≡ Some j → i ≡ j
    some_node i j e = cc

-- for callers: each call of an object is one of its node, which stands for its trace so far
pub stood : {N L : Type 0} (known : Nature N L) (stands : N → List (NodeEntry N L) → Type 0) (f g : ℕ → Option N) (x : ℕ) (t : List (NodeEntry N L)) (ds : List (Deed N L)) → ((n : N) → f x ≡ Some n → stands n t) → Hosts known stands f ds g → Suited x t ds → Stood stands x t ds
stood known stands f g x t [] was k l = tt
stood known stands f g x t (writes e ∷ ds) was k l = stood known stands f g x t ds was k l
stood known stands f g x t (begins y n ∷ ds) was k l = ((λ e. k.0), stood known stands (but_at y (Some n) f) g x (cond (eqb x y) [] t) ds (put stands x y f n t [] (λ e. k.0) was) k.1 l)
stood known stands f g x t (calls y e ∷ ds) was k l =
    let after : x ≡ y → stands k.1 (t ++ e ∷ []) = λ i. k.3.1 t (was k.0 (ap f i ∙ k.2)) (l.0 i) in
    ((λ i. (k.0, k.1, was k.0 (ap f i ∙ k.2), after i)), stood known stands (but_at y (Some k.1) f) g x (cond (eqb x y) (t ++ e ∷ []) t) ds (put stands x y f k.1 t (t ++ e ∷ []) after was) k.4 l.1)
stood known stands f g x t (turns u ∷ ds) was k l = stood known stands f g x t ds was k l
