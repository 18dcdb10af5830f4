-- A port that was closed stays closed.
use Rattle.nb_ledger.specs.Flat.{Heard}
use Rattle.std.proofs.Common.{◌≡◌, ℕ, ◌<◌, ◌≤◌, inl, inr, Bool, false, zero, suc, List, [], ◌∷◌, length, get_or, take, drop, ◌-◌, Option, refl, ap, sym, ◌∙◌, subst, arith}
use Rattle.std.proofs.Math.Seq.{take-length}
use Rattle.nb_terms.specs.declared.cause.Cause.{Cause}
use Rattle.nb_effects.specs.Whole.{port_at}
use Rattle.nb_effects.specs.Deeds.{Closes, closes_of}
use Rattle.nb_effects.specs.Effects.{ClosesSlot}
use Rattle.nb_ledger.specs.declared.port.Port.{Port}
use Rattle.nb_ledger.specs.declared.port.PortState.{PortState}
use Rattle.nb_ledger.specs.declared.port.PortState.TheVariants.{Open, Linked, Leaving, Closed}
use Rattle.nb_ledger.specs.GraphRun.{OnStack, port_but}
use Rattle.nb_ledger.specs.Ledger.{Ledger, object_lives, port, open_count}
use Rattle.nb_ledger.specs.Changes.{SetsPort}
use Rattle.nb_ledger.proofs.PortLemmas.{live_by}
use Rattle.nb_effects.specs.Calm.{Shrinks, Calm, HalfCloses, EndsEntry}
use Rattle.nb_effects.proofs.LinkLemmas.{cases_port, port_but-same, port_but-other}

-- the port that was written
pub shut-set : {old new : Ledger} {p : Port} {v : PortState} → SetsPort old new p v → open_count v ≡ 0 → open_count (port new p.obj.0 p.slot) ≡ 0
shut-set {old} {new} {p} {v} a h = ap open_count (a.port_set p.obj.0 p.slot ∙ port_but-same p v (port old) p.obj.0 p.slot refl refl) ∙ h

-- the first end of a link
pub shut-link : {b0 b3 b4 new : Ledger} {n3 n4 after : Heard} {p q : Port} {was : Bool} {opened : List OnStack → List OnStack} {f : ℕ → ℕ → PortState} → HalfCloses b0 b3 p q → Calm b3 b4 n3 n4 → EndsEntry b4 new n4 after q.obj.0 was opened f → open_count (port new p.obj.0 p.slot) ≡ 0
shut-link {b0} {b3} {b4} {new} {n3} {n4} {after} {p} {q} {was} {opened} {f} half k e =
    let i = e.closes p.obj.0 p.slot in
    let j = k.shrinks.closes p.obj.0 p.slot in
    let z = ap open_count (half.ports_set p.obj.0 p.slot) ∙ first in
    omega arith
  where
    first : open_count (port_but q (Leaving p) (port_but p (Leaving q) (port b0)) p.obj.0 p.slot) ≡ 0
    first = elim (cases_port p.obj.0 p.slot q) [
      | inl i ↦ ap open_count (port_but-same q (Leaving p) (port_but p (Leaving q) (port b0)) p.obj.0 p.slot i.0 i.1)
      | inr n ↦ ap open_count (port_but-other q (Leaving p) (port_but p (Leaving q) (port b0)) p.obj.0 p.slot n ∙ port_but-same p (Leaving q) (port b0) p.obj.0 p.slot refl refl)
    ]

-- there is no slot past the third
pub no-slot : (l : Ledger) (x k : ℕ) → 4 ≤ k → open_count (port l x k) ≡ 0
no-slot l x k h = by_state (port l x k) refl
  where
    by_state : (v : PortState) → port l x k ≡ v → open_count (port l x k) ≡ 0
    by_state Open e = absurd (let s = (live_by l x k Open tt e).1 in omega arith)
    by_state (Linked p) e = absurd (let s = (live_by l x k (Linked p) tt e).1 in omega arith)
    by_state (Leaving p) e = ap open_count e
    by_state Closed e = ap open_count e

-- a dead object has no open port
pub no-object : (l : Ledger) (x k : ℕ) → object_lives l x ≡ false → open_count (port l x k) ≡ 0
no-object l x k h = by_state (port l x k) refl
  where
    by_state : (v : PortState) → port l x k ≡ v → open_count (port l x k) ≡ 0
    by_state Open e = absurd (let s = (live_by l x k Open tt e).0 in cc)
    by_state (Linked p) e = absurd (let s = (live_by l x k (Linked p) tt e).0 in cc)
    by_state (Leaving p) e = ap open_count e
    by_state Closed e = ap open_count e

-- each slot was closed, one after the other
pub shut-all : {l1 l2 l3 l4 : Ledger} (x : ℕ) → open_count (port l1 x 0) ≡ 0 → open_count (port l2 x 1) ≡ 0 → open_count (port l3 x 2) ≡ 0 → open_count (port l4 x 3) ≡ 0 → Shrinks l1 l2 → Shrinks l2 l3 → Shrinks l3 l4 → (k : ℕ) → open_count (port l4 x k) ≡ 0
shut-all {l1} {l2} {l3} {l4} x a b c d p q r zero = let i = p.closes x 0 in let j = q.closes x 0 in let k = r.closes x 0 in omega arith
shut-all {l1} {l2} {l3} {l4} x a b c d p q r (suc zero) = let j = q.closes x 1 in let k = r.closes x 1 in omega arith
shut-all {l1} {l2} {l3} {l4} x a b c d p q r (suc (suc zero)) = let k = r.closes x 2 in omega arith
shut-all {l1} {l2} {l3} {l4} x a b c d p q r (suc (suc (suc zero))) = d
shut-all {l1} {l2} {l3} {l4} x a b c d p q r (suc (suc (suc (suc k)))) = no-slot l4 x _ (omega arith)

-- no close is asked for
pub closes-none : (xs : List (ℕ × Cause)) (P : ℕ → Type 0) → length xs < 1 → (k : ℕ) → ClosesSlot k xs → P k
closes-none [] P h k c = absurd c
closes-none (x ∷ xs) P h k c = absurd (omega arith)

-- the list after its first element, as a slice pattern cuts it
rest-cons : {A : Type 0} (x : A) (xs : List A) → take (length (x ∷ xs) - 1) (drop 1 (x ∷ xs)) ≡ xs
rest-cons x xs = ap (λ n. take n xs) (let e : length (x ∷ xs) - 1 ≡ length xs = omega arith in e) ∙ take-length xs

-- the first close, and then the others
pub closes-step : (xs : List (ℕ × Cause)) (d : ℕ × Cause) (P : ℕ → Type 0) → 1 ≤ length xs → P (get_or xs 0 d).0 → ((k : ℕ) → ClosesSlot k (take (length xs - 1) (drop 1 xs)) → P k) → (k : ℕ) → ClosesSlot k xs → P k
closes-step [] d P h p r k c = absurd (omega arith)
closes-step (x ∷ xs) d P h p r k c = elim c [ inl e ↦ subst P e p | inr i ↦ r k (subst (ClosesSlot k) (sym (rest-cons x xs)) i) ]

-- what is to run of closes: nothing, or the first and then the others
pub closes_of-none : {N L : Type 0} (x : ℕ) (xs : List (ℕ × Cause)) → length xs < 1 → closes_of {N = N} {L = L} x xs ≡ []
closes_of-none x [] h = refl
closes_of-none x (c ∷ xs) h = absurd (omega arith)

pub closes_of-step : {N L : Type 0} (x : ℕ) (xs : List (ℕ × Cause)) (d : ℕ × Cause) → 1 ≤ length xs → closes_of {N = N} {L = L} x xs ≡ Closes (port_at x (get_or xs 0 d).0) (get_or xs 0 d).1 ∷ closes_of x (take (length xs - 1) (drop 1 xs))
closes_of-step x [] d h = absurd (omega arith)
closes_of-step x (c ∷ xs) d h = ap (λ z. Closes (port_at x c.0) c.1 ∷ closes_of x z) (sym (rest-cons c xs))

-- closed, and then still closed
pub shut-still : {old new : Ledger} (x k : ℕ) → open_count (port old x k) ≡ 0 → Shrinks old new → open_count (port new x k) ≡ 0
shut-still {old} {new} x k h s = let i = s.closes x k in omega arith
