-- Which ports of some objects are joined, each object's to the next's.
use Rattle.std.proofs.Common.{inl, inr, ◌≡◌, ◌⊎◌, ℕ, ◌<◌, ◌==◌, ◌||◌, Bool, true, false, List, [], ◌∷◌, refl, sym, ap, ◌∙◌, subst, arith}
use Rattle.std.proofs.lemmas.Bool.{eq-eqb}
use Rattle.nb_ledger.specs.declared.port.Port.{Port}
use Rattle.nb_graph.specs.Whole.{port_at}
use Rattle.nb_frames.specs.Frames.{is_one_of}

abbrev pub Joins : List ℕ → Port → Port → Type 0
Joins [] p q = ⊥
Joins (x ∷ []) p q = ⊥
Joins (x ∷ (y ∷ ys)) p q = ((p ≡ port_at x 1) × (q ≡ port_at y 0)) ⊎ (((p ≡ port_at y 0) × (q ≡ port_at x 1)) ⊎ Joins (y ∷ ys) p q)

pub joins_back : (ids : List ℕ) (p q : Port) → Joins ids p q → Joins ids q p
joins_back [] p q h = absurd h
joins_back (x ∷ []) p q h = absurd h
joins_back (x ∷ (y ∷ ys)) p q (inl (e, i)) = inr (inl (i, e))
joins_back (x ∷ (y ∷ ys)) p q (inr (inl (e, i))) = inl (i, e)
joins_back (x ∷ (y ∷ ys)) p q (inr (inr h)) = inr (inr (joins_back (y ∷ ys) p q h))

-- one of these
pub first_in : (x : ℕ) (xs : List ℕ) → is_one_of (x ∷ xs) x ≡ true
first_in x xs = rw (eq-eqb x x refl) refl

or_later : (b d : Bool) → d ≡ true → (b || d) ≡ true
or_later true d e = refl
or_later false d e = e

pub later_in : (x : ℕ) (xs : List ℕ) (y : ℕ) → is_one_of xs y ≡ true → is_one_of (x ∷ xs) y ≡ true
later_in x xs y h = or_later (y == x) (is_one_of xs y) h

-- A joined port is slot 0 or 1 of one of these.
pub record IsInner (ids : List ℕ) (p : Port) : Type 0 where
  pub own : is_one_of ids p.obj.0 ≡ true
  pub low : p.slot < 2

at_slot : (ids : List ℕ) (x k : ℕ) (p : Port) → p ≡ port_at x k → is_one_of ids x ≡ true → k < 2 → IsInner ids p
at_slot ids x k p e o low = record { own = ap (λ (q : Port). is_one_of ids q.obj.0) e ∙ o; low = subst (λ (q : Port). q.slot < 2) (sym e) low }

more_inner : (x : ℕ) (ids : List ℕ) (p : Port) → IsInner ids p → IsInner (x ∷ ids) p
more_inner x ids p h = record { own = later_in x ids p.obj.0 h.own; low = h.low }

pub joins_inner : (ids : List ℕ) (p q : Port) → Joins ids p q → IsInner ids p
joins_inner [] p q h = absurd h
joins_inner (x ∷ []) p q h = absurd h
joins_inner (x ∷ (y ∷ ys)) p q (inl (e, i)) = at_slot (x ∷ (y ∷ ys)) x 1 p e (first_in x (y ∷ ys)) (omega arith)
joins_inner (x ∷ (y ∷ ys)) p q (inr (inl (e, i))) = at_slot (x ∷ (y ∷ ys)) y 0 p e (later_in x (y ∷ ys) y (first_in y ys)) (omega arith)
joins_inner (x ∷ (y ∷ ys)) p q (inr (inr h)) = more_inner x (y ∷ ys) p (joins_inner (y ∷ ys) p q h)

-- the last of these, after the first
abbrev pub last_after : ℕ → List ℕ → ℕ
last_after x [] = x
last_after x (y ∷ ys) = last_after y ys

-- the port of the first to its user, and that of the last to the network
abbrev pub IsOuter : List ℕ → Port → Type 0
IsOuter [] p = ⊥
IsOuter (x ∷ xs) p = (p ≡ port_at x 0) ⊎ (p ≡ port_at (last_after x xs) 1)
