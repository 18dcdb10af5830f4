-- Links stay sound under the changes of ports.
use Rattle.std.proofs.Common.{◌≡◌, ℕ, ◌<◌, ◌≤◌, ◌⊎◌, inl, inr, refl, ap, sym, ◌∙◌, subst, arith}
use Rattle.std.proofs.lemmas.Bool.{cases_eq, ne_eqb, eq-eqb}
use Rattle.nb_ledger.specs.declared.port.Port.{Port}
use Rattle.nb_ledger.specs.declared.port.PortState.{PortState}
use Rattle.nb_ledger.specs.declared.port.PortState.TheVariants.{Open, Linked, Leaving, Closed}
use Rattle.nb_ledger.specs.GraphRun.{port_but, ports_but}
use Rattle.nb_effects.specs.Whole.{IsLinked, port_at}

-- two ports are the same, or differ
pub cases_port : (x k : ℕ) (p : Port) → ((x ≡ p.obj.0) × (k ≡ p.slot)) ⊎ ((x ≡ p.obj.0) × (k ≡ p.slot) → ⊥)
cases_port x k p = elim (cases_eq x p.obj.0) [
  | inl a ↦ elim (cases_eq k p.slot) [ inl b ↦ inl (a, b) | inr b ↦ inr (λ h. b h.1) ]
  | inr a ↦ inr (λ h. a h.0)
]

-- the port that is changed
pub port_but-same : (p : Port) (v : PortState) (f : ℕ → ℕ → PortState) (x k : ℕ) → x ≡ p.obj.0 → k ≡ p.slot → port_but p v f x k ≡ v
port_but-same p v f x k a b = rw (eq-eqb x p.obj.0 a, eq-eqb k p.slot b) refl

-- another port
pub port_but-other : (p : Port) (v : PortState) (f : ℕ → ℕ → PortState) (x k : ℕ) → ((x ≡ p.obj.0) × (k ≡ p.slot) → ⊥) → port_but p v f x k ≡ f x k
port_but-other p v f x k n = elim (cases_eq x p.obj.0) [
  | inl a ↦ rw (eq-eqb x p.obj.0 a, ne_eqb k p.slot (λ b. n (a, b))) refl
  | inr a ↦ rw (ne_eqb x p.obj.0 a) refl
]

-- the same ports and ranks
pub IsLinked-same : (f g : ℕ → ℕ → PortState) (r s : ℕ → ℕ) → ((x k : ℕ) → g x k ≡ f x k) → ((x : ℕ) → s x ≡ r x) → IsLinked f r → IsLinked g s
IsLinked-same f g r s e t l = record {
  back = λ x k p h. e _ _ ∙ l.back x k p (sym (e x k) ∙ h);
  upper = λ x p h. l.upper x p (sym (e x 0) ∙ h);
  lower = λ x k p i h. l.lower x k p i (sym (e x k) ∙ h);
  falls = λ x p h. let a = l.falls x p (sym (e x 0) ∙ h) in rw (t x, t p.obj.0) a;
}

-- a state that is not Linked
abbrev pub IsLoose : PortState → Type 0
IsLoose Open = Unit {0}
IsLoose (Linked p) = ⊥
IsLoose (Leaving p) = Unit {0}
IsLoose Closed = Unit {0}

loose_not : (v : PortState) (p : Port) → IsLoose v → v ≡ Linked p → ⊥
loose_not v p l e = subst IsLoose e l

-- a port without a link stays without
pub IsLinked-loose : (p : Port) (v : PortState) (f g : ℕ → ℕ → PortState) (r s : ℕ → ℕ) → IsLoose v → IsLoose (f p.obj.0 p.slot) → ((x k : ℕ) → g x k ≡ port_but p v f x k) → ((x : ℕ) → s x ≡ r x) → IsLinked f r → IsLinked g s
IsLinked-loose p v f g r s lv lf e t l =
    record {
      back = λ x k q h.
          let o = old x k q h in
          let b = l.back x k q o in
          e _ _ ∙ port_but-other p v f _ _ (λ i. loose_not _ _ lf (subst (λ y. f y p.slot ≡ Linked (port_at x k)) i.0 (subst (λ j. f q.obj.0 j ≡ Linked (port_at x k)) i.1 b))) ∙ b;
      upper = λ x q h. l.upper x q (old x 0 q h);
      lower = λ x k q i h. l.lower x k q i (old x k q h);
      falls = λ x q h. let a = l.falls x q (old x 0 q h) in rw (t x, t q.obj.0) a;
    }
  where
    old : (x k : ℕ) (q : Port) → g x k ≡ Linked q → f x k ≡ Linked q
    old x k q h = elim (cases_port x k p) [
      | inl i ↦ absurd (loose_not v q lv (sym (port_but-same p v f x k i.0 i.1) ∙ sym (e x k) ∙ h))
      | inr n ↦ sym (port_but-other p v f x k n) ∙ sym (e x k) ∙ h
    ]

-- peers of equal links are equal
pub linked_inj : {a b : Port} → Linked a ≡ Linked b → a ≡ b
linked_inj {a} {b} h = cc

-- the state at equal ports
at_port : (f : ℕ → ℕ → PortState) (o q : Port) → (o.obj.0 ≡ q.obj.0) × (o.slot ≡ q.slot) → f o.obj.0 o.slot ≡ f q.obj.0 q.slot
at_port f o q i = ap (λ y. f y o.slot) i.0 ∙ ap (λ j. f q.obj.0 j) i.1

-- the two ends of a link are closed
pub IsLinked-close : (p q : Port) (v w : PortState) (f g : ℕ → ℕ → PortState) (r s : ℕ → ℕ) → IsLoose v → IsLoose w → f p.obj.0 p.slot ≡ Linked q → ((x k : ℕ) → g x k ≡ port_but q w (port_but p v f) x k) → ((x : ℕ) → s x ≡ r x) → IsLinked f r → IsLinked g s
IsLinked-close p q v w f g r s lv lw here e t l =
    record {
      back = λ x k o h.
          let was = old x k o h in
          let b = l.back x k o was in
          e _ _ ∙ port_but-other q w (port_but p v f) _ _ (λ i. not_q x k o h i b) ∙ port_but-other p v f _ _ (λ i. not_p x k o h i b) ∙ b;
      upper = λ x o h. l.upper x o (old x 0 o h);
      lower = λ x k o i h. l.lower x k o i (old x k o h);
      falls = λ x o h. let a = l.falls x o (old x 0 o h) in rw (t x, t o.obj.0) a;
    }
  where
    old : (x k : ℕ) (o : Port) → g x k ≡ Linked o → f x k ≡ Linked o
    old x k o h = elim (cases_port x k q) [
      | inl i ↦ absurd (loose_not w o lw (sym (port_but-same q w (port_but p v f) x k i.0 i.1) ∙ sym (e x k) ∙ h))
      | inr n ↦ elim (cases_port x k p) [
        | inl i ↦ absurd (loose_not v o lv (sym (port_but-same p v f x k i.0 i.1) ∙ sym (port_but-other q w (port_but p v f) x k n) ∙ sym (e x k) ∙ h))
        | inr m ↦ sym (port_but-other p v f x k m) ∙ sym (port_but-other q w (port_but p v f) x k n) ∙ sym (e x k) ∙ h
      ]
    ]

    at_q : (x k : ℕ) (o : Port) → g x k ≡ Linked o → x ≡ q.obj.0 → k ≡ q.slot → ⊥
    at_q x k o h a b = loose_not w o lw (sym (port_but-same q w (port_but p v f) x k a b) ∙ sym (e x k) ∙ h)

    at_p : (x k : ℕ) (o : Port) → g x k ≡ Linked o → x ≡ p.obj.0 → k ≡ p.slot → ⊥
    at_p x k o h a b = elim (cases_port x k q) [
      | inl i ↦ at_q x k o h i.0 i.1
      | inr n ↦ loose_not v o lv (sym (port_but-same p v f x k a b) ∙ sym (port_but-other q w (port_but p v f) x k n) ∙ sym (e x k) ∙ h)
    ]

    not_q : (x k : ℕ) (o : Port) → g x k ≡ Linked o → (o.obj.0 ≡ q.obj.0) × (o.slot ≡ q.slot) → f o.obj.0 o.slot ≡ Linked (port_at x k) → ⊥
    not_q x k o h i b =
        let there = l.back p.obj.0 p.slot q here in
        let two = linked_inj (sym there ∙ sym (at_port f o q i) ∙ b) in
        at_p x k o h (ap (λ z. z.obj.0) (sym two)) (ap (λ z. z.slot) (sym two))

    not_p : (x k : ℕ) (o : Port) → g x k ≡ Linked o → (o.obj.0 ≡ p.obj.0) × (o.slot ≡ p.slot) → f o.obj.0 o.slot ≡ Linked (port_at x k) → ⊥
    not_p x k o h i b =
        let two = linked_inj (sym here ∙ sym (at_port f o p i) ∙ b) in
        at_q x k o h (ap (λ z. z.obj.0) (sym two)) (ap (λ z. z.slot) (sym two))

-- the ports of one object change from loose to loose ones
pub IsLinked-ports : (x : ℕ) (h : ℕ → PortState) (f g : ℕ → ℕ → PortState) (r s : ℕ → ℕ) → ((k : ℕ) → IsLoose (h k)) → ((k : ℕ) → IsLoose (f x k)) → ((y k : ℕ) → g y k ≡ ports_but x h f y k) → ((y : ℕ) → (y ≡ x → ⊥) → s y ≡ r y) → IsLinked f r → IsLinked g s
IsLinked-ports x h f g r s lh lf e t l =
    record {
      back = λ y k q i. let b = l.back y k q (old y k q i) in e _ _ ∙ other _ _ (away y k q i) ∙ b;
      upper = λ y q i. l.upper y q (old y 0 q i);
      lower = λ y k q j i. l.lower y k q j (old y k q i);
      falls = λ y q i. let a = l.falls y q (old y 0 q i) in rw (t y (from y 0 q i), t q.obj.0 (away y 0 q i)) a;
    }
  where
    other : (y k : ℕ) → (y ≡ x → ⊥) → ports_but x h f y k ≡ f y k
    other y k n = rw (ne_eqb y x n) refl

    from : (y k : ℕ) (q : Port) → g y k ≡ Linked q → y ≡ x → ⊥
    from y k q i a = loose_not (h k) q (lh k) (sym (here y k a) ∙ sym (e y k) ∙ i)
      where
        here : (y k : ℕ) → y ≡ x → ports_but x h f y k ≡ h k
        here y k a = rw (eq-eqb y x a) refl

    old : (y k : ℕ) (q : Port) → g y k ≡ Linked q → f y k ≡ Linked q
    old y k q i = sym (other y k (from y k q i)) ∙ sym (e y k) ∙ i

    away : (y k : ℕ) (q : Port) → g y k ≡ Linked q → q.obj.0 ≡ x → ⊥
    away y k q i a = loose_not (f x q.slot) (port_at y k) (lf q.slot) (sym (ap (λ z. f z q.slot) a) ∙ l.back y k q (old y k q i))

-- two open ports are joined
pub IsLinked-plug : (p q : Port) (f g : ℕ → ℕ → PortState) (r s : ℕ → ℕ) → f p.obj.0 p.slot ≡ Open → f q.obj.0 q.slot ≡ Open → 1 ≤ p.slot → q.slot ≡ 0 → r q.obj.0 < r p.obj.0 → ((x k : ℕ) → g x k ≡ port_but q (Linked p) (port_but p (Linked q) f) x k) → ((x : ℕ) → s x ≡ r x) → IsLinked f r → IsLinked g s
IsLinked-plug p q f g r s op oq ps qs less e t l =
    record {
      back = λ x k o h. elim (which x k o h) [
        | inl i ↦ e _ _ ∙ at_o o p i.2 ∙ apart ∙ ap Linked (same q x k i.0 i.1)
        | inr j ↦ elim j [
          | inl i ↦ e _ _ ∙ at_o o q i.2 ∙ port_but-same q (Linked p) (port_but p (Linked q) f) q.obj.0 q.slot refl refl ∙ ap Linked (same p x k i.0 i.1)
          | inr i ↦ let b = l.back x k o i in e _ _ ∙ port_but-other q (Linked p) (port_but p (Linked q) f) _ _ (busy_not f o q x k b oq) ∙ port_but-other p (Linked q) f _ _ (busy_not f o p x k b op) ∙ b
        ]
      ];
      upper = λ x o h. elim (which x 0 o h) [
        | inl i ↦ let z = ap (λ u. u.slot) i.2 in omega arith
        | inr j ↦ elim j [ inl i ↦ let z = i.1 in omega arith | inr i ↦ l.upper x o i ]
      ];
      lower = λ x k o w h. elim (which x k o h) [
        | inl i ↦ let z = i.1 in omega arith
        | inr j ↦ elim j [ inl i ↦ let z = ap (λ u. u.slot) i.2 in omega arith | inr i ↦ l.lower x k o w i ]
      ];
      falls = λ x o h. elim (which x 0 o h) [
        | inl i ↦ let z = ap (λ u. s u.obj.0) i.2 in let y = ap s i.0 in let a = t p.obj.0 in let b = t q.obj.0 in omega arith
        | inr j ↦ elim j [ inl i ↦ let z = i.1 in omega arith | inr i ↦ let a = l.falls x o i in rw (t x, t o.obj.0) a ]
      ];
    }
  where
    which : (x k : ℕ) (o : Port) → g x k ≡ Linked o → ((x ≡ q.obj.0) × (k ≡ q.slot) × (o ≡ p)) ⊎ (((x ≡ p.obj.0) × (k ≡ p.slot) × (o ≡ q)) ⊎ (f x k ≡ Linked o))
    which x k o h = elim (cases_port x k q) [
      | inl i ↦ inl (i.0, i.1, sym (linked_inj (sym (port_but-same q (Linked p) (port_but p (Linked q) f) x k i.0 i.1) ∙ sym (e x k) ∙ h)))
      | inr n ↦ elim (cases_port x k p) [
        | inl i ↦ inr (inl (i.0, i.1, sym (linked_inj (sym (port_but-same p (Linked q) f x k i.0 i.1) ∙ sym (port_but-other q (Linked p) (port_but p (Linked q) f) x k n) ∙ sym (e x k) ∙ h))))
        | inr m ↦ inr (inr (sym (port_but-other p (Linked q) f x k m) ∙ sym (port_but-other q (Linked p) (port_but p (Linked q) f) x k n) ∙ sym (e x k) ∙ h))
      ]
    ]

    at_o : (o u : Port) → o ≡ u → port_but q (Linked p) (port_but p (Linked q) f) o.obj.0 o.slot ≡ port_but q (Linked p) (port_but p (Linked q) f) u.obj.0 u.slot
    at_o o u h = ap (λ z. port_but q (Linked p) (port_but p (Linked q) f) z.obj.0 z.slot) h

    apart : port_but q (Linked p) (port_but p (Linked q) f) p.obj.0 p.slot ≡ Linked q
    apart = port_but-other q (Linked p) (port_but p (Linked q) f) p.obj.0 p.slot (λ i. absurd (let z = i.1 in omega arith)) ∙ port_but-same p (Linked q) f p.obj.0 p.slot refl refl

    same : (u : Port) (x k : ℕ) → x ≡ u.obj.0 → k ≡ u.slot → u ≡ port_at x k
    same u x k a b = λ i. record { obj = record { 0 = sym a i }; slot = sym b i }

    busy_not : (f : ℕ → ℕ → PortState) (o u : Port) (x k : ℕ) → f o.obj.0 o.slot ≡ Linked (port_at x k) → f u.obj.0 u.slot ≡ Open → (o.obj.0 ≡ u.obj.0) × (o.slot ≡ u.slot) → ⊥
    busy_not f o u x k b h i = loose_not Open (port_at x k) tt (sym h ∙ sym (at_port f o u i) ∙ b)
