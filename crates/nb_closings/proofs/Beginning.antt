-- Where some objects are joined and none has ended, all is as it is to be kept.
use Rattle.std.proofs.Common.{inl, inr, ◌≡◌, ◌⊎◌, ℕ, ◌<◌, ◌≤◌, Bool, true, false, List, [], ◌∷◌, ◌++◌, refl, sym, ap, ◌∙◌, subst, arith}
use Rattle.std.proofs.lemmas.Bool.{cases_eq, eq-eqb, ne_eqb}
use Rattle.nb_ledger.specs.declared.port.Port.{Port}
use Rattle.nb_ledger.specs.declared.port.PortState.{PortState}
use Rattle.nb_ledger.specs.declared.port.PortState.TheVariants as port
use Rattle.nb_ledger.specs.Ledger.{open_count}
use Rattle.nb_graph.specs.Scene.{Scene, state_at}
use Rattle.nb_graph.specs.Whole.{IsLinked, port_at}
use Rattle.nb_frames.specs.Frames.{is_one_of}
use Rattle.nb_frames.specs.Within.{AreLinkedWithin, LeadsWithin}
use Rattle.nb_closings.specs.Chained.{HaveNoOthers, IsOpenThrough, IsPluggedDown}
use Rattle.nb_closings.specs.Passing.{object_has_ended}
use Rattle.nb_closings.proofs.Joining.{IsInner, IsOuter, Joins, first_in, joins_back, joins_inner, last_after, later_in}
use Rattle.nb_closings.proofs.Keeping.{AllFit, IsClosedAt, Kept, Traces}
use Rattle.nb_closings.proofs.PlanLemmas.{AnyPlan, Plan, WillClose}

-- one of these is the first, or a later one
pub one_first : (x : ℕ) (xs : List ℕ) (y : ℕ) → is_one_of (x ∷ xs) y ≡ true → (y ≡ x) ⊎ (is_one_of xs y ≡ true)
one_first x xs y h = elim (cases_eq y x) [ inl e ↦ inl e | inr n ↦ inr (rw (ne_eqb y x n) at h) ]

at_slot : (p : Port) (k : ℕ) → p.slot ≡ k → port_at p.obj.0 k ≡ p
at_slot p k e = ap (port_at p.obj.0) (sym e)

one_then : (k : ℕ) → (k ≡ 0 → ⊥) → k < 2 → 1 ≡ k
one_then k n low = omega (arith, n)

module _ (f : ℕ → ℕ → PortState) where
  -- joined ports are linked
  plugged_linked : (x : ℕ) (xs : List ℕ) → IsPluggedDown f x xs → (p q : Port) → Joins (x ∷ xs) p q → f p.obj.0 p.slot ≡ port.Linked q
  plugged_linked x [] h p q j = absurd j
  plugged_linked x (y ∷ ys) h p q (inl (e, i)) = ap (λ (r : Port). f r.obj.0 r.slot) e ∙ (h.0 ∙ ap port.Linked (sym i))
  plugged_linked x (y ∷ ys) h p q (inr (inl (e, i))) = ap (λ (r : Port). f r.obj.0 r.slot) e ∙ (h.1 ∙ ap port.Linked (sym i))
  plugged_linked x (y ∷ ys) h p q (inr (inr j)) = plugged_linked y ys h.2 p q j

  -- the port of each to what is above it is joined, but that of the first
  above_joined : (x : ℕ) (xs : List ℕ) (y : ℕ) → is_one_of xs y ≡ true → (q : Port) × Joins (x ∷ xs) (port_at y 0) q
  above_joined x [] y h = absurd (let z = h in cc)
  above_joined x (z ∷ zs) y h = elim (one_first z zs y h) [
    | inl e ↦ (port_at x 1, inr (inl (ap (λ w. port_at w 0) e, refl)))
    | inr o ↦ let w = above_joined z zs y o in (w.0, inr (inr w.1))
  ]

  -- and the port of each to what is below it, but that of the last
  below_joined : (x : ℕ) (xs : List ℕ) (y : ℕ) → is_one_of (x ∷ xs) y ≡ true → (y ≡ last_after x xs) ⊎ ((q : Port) × Joins (x ∷ xs) (port_at y 1) q)
  below_joined x [] y h = elim (one_first x [] y h) [ inl e ↦ inl e | inr o ↦ absurd (let z = o in cc) ]
  below_joined x (z ∷ zs) y h = elim (one_first x (z ∷ zs) y h) [
    | inl e ↦ inr (port_at z 0, inl (ap (λ w. port_at w 1) e, refl))
    | inr o ↦ elim (below_joined z zs y o) [ inl e ↦ inl e | inr w ↦ inr (w.0, inr (inr w.1)) ]
  ]

  last_open : (x : ℕ) (xs : List ℕ) → IsPluggedDown f x xs → f (last_after x xs) 1 ≡ port.Open
  last_open x [] h = h
  last_open x (y ∷ ys) h = last_open y ys h.2

  module _ (x : ℕ) (xs : List ℕ) (open_all : IsOpenThrough f (x ∷ xs)) where
    joined_linked : (p q : Port) → Joins (x ∷ xs) p q → f p.obj.0 p.slot ≡ port.Linked q
    joined_linked = plugged_linked x xs open_all.1

    outer_open : (p : Port) → IsOuter (x ∷ xs) p → f p.obj.0 p.slot ≡ port.Open
    outer_open p (inl e) = ap (λ (r : Port). f r.obj.0 r.slot) e ∙ open_all.0
    outer_open p (inr e) = ap (λ (r : Port). f r.obj.0 r.slot) e ∙ last_open x xs open_all.1

    -- slot 0 of each is open, or joined
    above_so : (y : ℕ) → is_one_of (x ∷ xs) y ≡ true → (f y 0 ≡ port.Open) ⊎ ((q : Port) × Joins (x ∷ xs) (port_at y 0) q)
    above_so y h = elim (one_first x xs y h) [ inl e ↦ inl (ap (λ w. f w 0) e ∙ open_all.0) | inr o ↦ inr (above_joined x xs y o) ]

    below_so : (y : ℕ) → is_one_of (x ∷ xs) y ≡ true → (f y 1 ≡ port.Open) ⊎ ((q : Port) × Joins (x ∷ xs) (port_at y 1) q)
    below_so y h = elim (below_joined x xs y h) [ inl e ↦ inl (ap (λ w. f w 1) e ∙ last_open x xs open_all.1) | inr w ↦ inr w ]

    -- a port that is open or joined is neither closed nor leaves
    is_live : (p : Port) → (f p.obj.0 p.slot ≡ port.Open) ⊎ ((q : Port) × Joins (x ∷ xs) p q) → (f p.obj.0 p.slot ≡ port.Open) ⊎ ((q : Port) × (f p.obj.0 p.slot ≡ port.Linked q))
    is_live p (inl h) = inl h
    is_live p (inr (q, j)) = inr (q, joined_linked p q j)

    low_slots : (p : Port) → IsInner (x ∷ xs) p → (f p.obj.0 p.slot ≡ port.Open) ⊎ ((q : Port) × (f p.obj.0 p.slot ≡ port.Linked q))
    low_slots p i = elim (cases_eq p.slot 0) [
      | inl e ↦ subst (λ k. (f p.obj.0 k ≡ port.Open) ⊎ ((q : Port) × (f p.obj.0 k ≡ port.Linked q))) (sym e) (is_live (port_at p.obj.0 0) (above_so p.obj.0 i.own))
      | inr n ↦ subst (λ k. (f p.obj.0 k ≡ port.Open) ⊎ ((q : Port) × (f p.obj.0 k ≡ port.Linked q))) (one_then p.slot n i.low) (is_live (port_at p.obj.0 1) (below_so p.obj.0 i.own))
    ]

    pub not_closed : (p : Port) → IsInner (x ∷ xs) p → open_count (f p.obj.0 p.slot) ≡ 0 → ⊥
    not_closed p i h = elim (low_slots p i) [ inl e ↦ (let z = sym (ap open_count e) ∙ h in cc) | inr w ↦ (let z = sym (ap open_count w.1) ∙ h in cc) ]

    not_leaving : (p q : Port) → IsInner (x ∷ xs) p → f p.obj.0 p.slot ≡ port.Leaving q → ⊥
    not_leaving p q i h = elim (low_slots p i) [ inl e ↦ (let z = sym e ∙ h in cc) | inr w ↦ (let z = sym w.1 ∙ h in cc) ]

    -- no other port of theirs is linked
    module _ (r : ℕ → ℕ) (links : IsLinked f r) (inside : AreLinkedWithin (is_one_of (x ∷ xs)) f) where
      peer_in : (p q : Port) → is_one_of (x ∷ xs) p.obj.0 ≡ true → f p.obj.0 p.slot ≡ port.Linked q → is_one_of (x ∷ xs) q.obj.0 ≡ true
      peer_in p q own l = subst (LeadsWithin (is_one_of (x ∷ xs))) l (inside p.obj.0 p.slot own)

      -- slot 0 of one of them is linked as it is joined
      zero_joined : (y : ℕ) (q : Port) → is_one_of (x ∷ xs) y ≡ true → f y 0 ≡ port.Linked q → Joins (x ∷ xs) (port_at y 0) q
      zero_joined y q own l = elim (above_so y own) [
        | inl e ↦ absurd (let z = sym e ∙ l in cc)
        | inr w ↦ subst (λ (t : Port). Joins (x ∷ xs) (port_at y 0) t) (let z : port.Linked w.0 ≡ port.Linked q = sym (joined_linked (port_at y 0) w.0 w.1) ∙ l in cc) w.1
      ]

      only_joined : (p q : Port) → is_one_of (x ∷ xs) p.obj.0 ≡ true → f p.obj.0 p.slot ≡ port.Linked q → Joins (x ∷ xs) p q
      only_joined p q own l = elim (cases_eq p.slot 0) [
        | inl e ↦ subst (λ (t : Port). Joins (x ∷ xs) t q) (at_slot p 0 e) (zero_joined p.obj.0 q own (subst (λ k. f p.obj.0 k ≡ port.Linked q) e l))
        | inr n ↦
            let low : q.slot ≡ 0 = links.lower p.obj.0 p.slot q (omega (arith, n)) l in
            let back : f q.obj.0 q.slot ≡ port.Linked p = links.back p.obj.0 p.slot q l in
            joins_back (x ∷ xs) q p (subst (λ (t : Port). Joins (x ∷ xs) t p) (at_slot q 0 low) (zero_joined q.obj.0 p (peer_in p q own l) (subst (λ k. f q.obj.0 k ≡ port.Linked p) low back)))
      ]

-- where they are, nothing is to be done, and none of them has ended
pub kept_at_first : (x : ℕ) (xs : List ℕ) (Exempt : ℕ → Type 0) (Aim : Port → Type 0) (s : Scene) (r : ℕ → ℕ) (tr : Traces) (vs : List Plan) → IsOpenThrough s.port (x ∷ xs) → HaveNoOthers s.port (x ∷ xs) → IsLinked s.port r → AreLinkedWithin (is_one_of (x ∷ xs)) s.port
    → ((y : ℕ) → is_one_of (x ∷ xs) y ≡ true → object_has_ended (tr y) ≡ false) → AllFit (x ∷ xs) Exempt Aim s tr [] vs → ((p : Port) → Aim p → AnyPlan (WillClose p) vs) → Kept (x ∷ xs) Exempt Aim s tr vs
kept_at_first x xs Exempt Aim s r tr vs through others links inside going fits aims = record {
  fits = fits;
  joined = λ p q j. inl (joined_linked s.port x xs through p q j);
  only = λ p q own l. only_joined s.port x xs through r links inside p q own l;
  loose = λ p own low. others p.obj.0 p.slot own low;
  outer = λ p o. inl (outer_open s.port x xs through p o);
  leaving = λ p q i l. absurd (not_leaving s.port x xs through p q i l);
  both = λ p q j h. absurd (not_closed s.port x xs through p (joins_inner (x ∷ xs) p q j) h);
  over = λ p i h. absurd (let z = sym (going p.obj.0 i.own) ∙ h in cc);
  told = λ p i h. absurd (not_closed s.port x xs through p i h);
  aims = λ p a. inr (aims p a);
}
