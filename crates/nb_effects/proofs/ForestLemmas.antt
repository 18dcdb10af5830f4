-- Links go down in rank, and each object has one link up: without its link, one end doesn't reach the other.
use Rattle.std.proofs.Common.{◌≡◌, ℕ, ◌≤◌, inl, inr, refl, ap, sym, ◌∙◌, subst, arith}
use Rattle.std.proofs.lemmas.Bool.{cases_eq}
use Rattle.nb_ledger.specs.declared.port.Port.{Port}
use Rattle.nb_ledger.specs.declared.port.PortState.{PortState}
use Rattle.nb_ledger.specs.declared.port.PortState.TheVariants.{Linked}
use Rattle.nb_effects.specs.Whole.{IsLinked, port_at}
use Rattle.nb_effects.specs.Flows.{Reaches, here, over}

pub linked_inj : {p q : Port} → Linked p ≡ Linked q → p ≡ q
linked_inj h = cc

-- the port of a link's end
pub the-port : (f : ℕ → ℕ → PortState) (x k : ℕ) (p q : Port) → f x k ≡ Linked p → f x k ≡ Linked q → p ≡ q
the-port f x k p q h i = linked_inj (sym h ∙ i)

-- other links, or another port left out
pub Reaches-map : {f g : ℕ → ℕ → PortState} {p r : Port} {y : ℕ} → ((x k : ℕ) (q : Port) → f x k ≡ Linked q → (port_at x k ≡ p → ⊥) → (q ≡ p → ⊥) → (g x k ≡ Linked q) × (port_at x k ≡ r → ⊥) × (q ≡ r → ⊥)) → (x : ℕ) → Reaches f p y x → Reaches g r y x
Reaches-map m _ (here x e) = here x e
Reaches-map m _ (over x k q h a b c) = let z = m x k q h a b in over x k q z.0 z.1 z.2 (Reaches-map m q.obj.0 c)

-- one link more, at the end
Reaches-last : {f : ℕ → ℕ → PortState} {p : Port} {y : ℕ} (k : ℕ) (q : Port) → f y k ≡ Linked q → (port_at y k ≡ p → ⊥) → (q ≡ p → ⊥) → (x : ℕ) → Reaches f p y x → Reaches f p q.obj.0 x
Reaches-last {f} {p} {y} k q h a b _ (here x e) = over x k q (ap (λ z. f z k) e ∙ h) (λ i. a (ap (λ z. port_at z k) (sym e) ∙ i)) b (here q.obj.0 refl)
Reaches-last k q h a b _ (over x j r i c d e) = over x j r i c d (Reaches-last k q h a b r.obj.0 e)

-- and back
pub Reaches-back : {f : ℕ → ℕ → PortState} {r : ℕ → ℕ} {p : Port} {y : ℕ} → IsLinked f r → (x : ℕ) → Reaches f p y x → Reaches f p x y
Reaches-back l _ (here x e) = here _ (sym e)
Reaches-back l _ (over x k q h a b c) = Reaches-last q.slot (port_at x k) (l.back x k q h) b a _ (Reaches-back l q.obj.0 c)

-- what lies under an object
data Under (f : ℕ → ℕ → PortState) (y : ℕ) : ℕ → Type 0 where
  top : (z : ℕ) → z ≡ y → Under f y z
  below : (z x k : ℕ) (q : Port) → Under f y x → 1 ≤ k → f x k ≡ Linked q → z ≡ q.obj.0 → Under f y z

-- it has no higher rank
Under-rank : {f : ℕ → ℕ → PortState} {r : ℕ → ℕ} {y : ℕ} → IsLinked f r → (z : ℕ) → Under f y z → r z ≤ r y
Under-rank {f} {r} {y} l _ (top z e) = let i = ap r e in omega arith
Under-rank {f} {r} {y} l _ (below z x k q u o h e) =
    let i = Under-rank l x u in
    let low = l.lower x k q o h in
    let j = l.falls q.obj.0 (port_at x k) (subst (λ s. f q.obj.0 s ≡ Linked (port_at x k)) low (l.back x k q h)) in
    let n = ap r e in
    omega arith

-- links lead to what lies under it, but for its own link up
Under-link : {f : ℕ → ℕ → PortState} {r : ℕ → ℕ} {y : ℕ} {p : Port} → IsLinked f r → f y 0 ≡ Linked p → (z k : ℕ) (q : Port) → Under f y z → f z k ≡ Linked q → (q ≡ p → ⊥) → Under f y q.obj.0
Under-link {f} {r} {y} {p} l up z k q u h n = elim (cases_eq k 0) [
  | inl e ↦ by_way u (subst (λ s. f z s ≡ Linked q) e h)
  | inr e ↦ below q.obj.0 z k q u (omega arith) h refl
]
  where
    by_way : Under f y z → f z 0 ≡ Linked q → Under f y q.obj.0
    by_way (top z e) i = absurd (n (the-port f z 0 q p i (ap (λ s. f s 0) e ∙ up)))
    by_way (below z x j s v o g e) i =
        let low = l.lower x j s o g in
        let b : f z 0 ≡ Linked (port_at x j) = ap (λ t. f t 0) e ∙ subst (λ t. f s.obj.0 t ≡ Linked (port_at x j)) low (l.back x j s g) in
        subst (λ t. Under f y t.obj.0) (the-port f z 0 (port_at x j) q b i) v

Under-reach : {f : ℕ → ℕ → PortState} {r : ℕ → ℕ} {y t : ℕ} {p : Port} → IsLinked f r → f y 0 ≡ Linked p → (z : ℕ) → Reaches f p t z → Under f y z → Under f y t
Under-reach {f} {r} {y} l up _ (here z e) u = subst (Under f y) e u
Under-reach l up _ (over z k q h a b c) u = Under-reach l up q.obj.0 c (Under-link l up z k q u h b)

-- the lower end doesn't reach the upper one
lower-apart : {f : ℕ → ℕ → PortState} {r : ℕ → ℕ} (p : Port) (y : ℕ) → IsLinked f r → f y 0 ≡ Linked p → Reaches f p p.obj.0 y → ⊥
lower-apart {f} {r} p y l up w =
    let i = Under-rank l p.obj.0 (Under-reach l up y w (top y refl)) in
    let j = l.falls y p up in
    omega arith

-- without a link, its one end doesn't reach the other
pub apart-without : {f : ℕ → ℕ → PortState} {r : ℕ → ℕ} (x k : ℕ) (q : Port) → IsLinked f r → f x k ≡ Linked q → Reaches f (port_at x k) x q.obj.0 → ⊥
apart-without {f} {r} x k q l h w = elim (cases_eq k 0) [
  | inl e ↦
      let h0 = subst (λ s. f x s ≡ Linked q) e h in
      let w0 = subst (λ s. Reaches f (port_at x s) x q.obj.0) e w in
      let b = l.back x 0 q h0 in
      lower-apart q x l h0 (Reaches-map (λ z j s i m n. (i, (λ o. n (the-port f z j s (port_at x 0) i (ap (λ t. f t.obj.0 t.slot) o ∙ b))), λ o. m (the-port f q.obj.0 q.slot (port_at z j) (port_at x 0) (subst (λ t. f t.obj.0 t.slot ≡ Linked (port_at z j)) o (l.back z j s i)) b))) x (Reaches-back l q.obj.0 w0))
  | inr e ↦
      let low = l.lower x k q (omega arith) h in
      let b : f q.obj.0 0 ≡ Linked (port_at x k) = subst (λ s. f q.obj.0 s ≡ Linked (port_at x k)) low (l.back x k q h) in
      lower-apart (port_at x k) q.obj.0 l b w
]
