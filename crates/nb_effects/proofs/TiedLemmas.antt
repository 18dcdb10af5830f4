-- The two ends of a link, through the events of a call that close neither.
use Rattle.std.proofs.Common.{◌≡◌, ℕ, ◌+◌, ◌≤◌, ◌⊎◌, inl, inr, Bool, true, false, cond, eqb, ltb, refl, ap, sym, ◌∙◌, subst, arith, ◌&&◌}
use Rattle.std.proofs.lemmas.Bool.{cases_eq, eq-eqb, ne_eqb, false≢true}
use Rattle.nb_terms.specs.declared.cause.Cause.{Cause}
use Rattle.nb_ledger.specs.declared.port.Port.{Port}
use Rattle.nb_ledger.specs.declared.port.ObjId.{ObjId}
use Rattle.nb_ledger.specs.declared.port.PortState.{PortState}
use Rattle.nb_ledger.specs.declared.port.PortState.TheVariants.{Open, Linked, Leaving, Closed as Shut}
use Rattle.nb_ledger.specs.declared.event.GraphEvent.TheVariants.{Made, Plugged, Closed, Unplugged, Freed}
use Rattle.nb_ledger.specs.GraphRun.{port_but, ports_but, new_ports}
use Rattle.nb_ledger.specs.Ledger.{open_count}
use Rattle.nb_effects.specs.Accounts.{is_same_port}
use Rattle.nb_effects.specs.Scene.{Scene, state_at, shut_of, with_ports, after_noted}
use Rattle.nb_effects.proofs.LinkLemmas.{IsLoose, cases_port, port_but-same, port_but-other}
use Rattle.nb_effects.proofs.DueLemmas.{Is}

-- p and q are linked to one another, and nothing else is linked to one of them
pub record Tied (p q : Port) (s : Scene) : Type 0 where
  pub first : state_at s p ≡ Linked q
  pub second : state_at s q ≡ Linked p
  pub only_first : (r v : Port) → state_at s r ≡ Linked v → Is p v → Is q r
  pub only_second : (r v : Port) → state_at s r ≡ Linked v → Is q v → Is p r
  pub old_first : p.obj.0 ≤ s.made
  pub old_second : q.obj.0 ≤ s.made

-- the test whether two ports are the same
pub same-true : (p r : Port) → Is p r → is_same_port p r ≡ true
same-true p r i = rw (eq-eqb p.obj.0 r.obj.0 (sym i.0), eq-eqb p.slot r.slot (sym i.1)) refl

and-no : (b : Bool) → (b && false) ≡ false
and-no true = refl
and-no false = refl

pub same-false : (p r : Port) → (Is p r → ⊥) → is_same_port p r ≡ false
same-false p r n = elim (cases_eq p.obj.0 r.obj.0) [
  | inl a ↦ rw (ne_eqb p.slot r.slot (λ b. n (sym a, sym b))) (and-no (eqb p.obj.0 r.obj.0))
  | inr a ↦ rw (ne_eqb p.obj.0 r.obj.0 a) refl
]

pub not-same : (p r : Port) → is_same_port p r ≡ false → Is p r → ⊥
not-same p r e i = absurd (false≢true (sym e ∙ same-true p r i))

pub state-same : (s : Scene) (p r : Port) → Is p r → state_at s r ≡ state_at s p
state-same s p r i = rw (i.0, i.1) refl

pub linked-same : (q t : Port) → Linked q ≡ Linked t → Is q t
linked-same q t e = let same : t ≡ q = cc in (ap (λ z. z.obj.0) same, ap (λ z. z.slot) same)

-- a linked port is neither open without a link nor closed
pub linked-open : (s : Scene) (p q r : Port) → state_at s p ≡ Linked q → state_at s r ≡ Open → Is p r → ⊥
linked-open s p q r l o i = absurd (let z = sym o ∙ (state-same s p r i ∙ l) in cc)

pub linked-shut : (s : Scene) (p q r : Port) → state_at s p ≡ Linked q → open_count (state_at s r) ≡ 0 → Is p r → ⊥
linked-shut s p q r l o i = absurd (let z = sym o ∙ ap open_count (state-same s p r i ∙ l) in cc)

not-loose : (v : PortState) (w : Port) → IsLoose v → v ≡ Linked w → ⊥
not-loose v w l e = subst IsLoose e l

loose-shut : (v : PortState) → IsLoose (shut_of v)
loose-shut Open = tt
loose-shut (Linked q) = tt
loose-shut (Leaving q) = tt
loose-shut Shut = tt

loose-new : (c : Bool) → IsLoose (cond c Open Shut)
loose-new true = tt
loose-new false = tt

module _ (p q : Port) where
  tied-kept : (s t : Scene) → Tied p q s → state_at t p ≡ state_at s p → state_at t q ≡ state_at s q → ((r v : Port) → state_at t r ≡ Linked v → (state_at s r ≡ Linked v) ⊎ ((Is p v → ⊥) × (Is q v → ⊥))) → s.made ≤ t.made → Tied p q t
  tied-kept s t h a b back later =
      let one = h.old_first in
      let two = h.old_second in
      record {
        first = a ∙ h.first;
        second = b ∙ h.second;
        only_first = λ r v e i. elim (back r v e) [ inl o ↦ h.only_first r v o i | inr n ↦ absurd (n.0 i) ];
        only_second = λ r v e i. elim (back r v e) [ inl o ↦ h.only_second r v o i | inr n ↦ absurd (n.1 i) ];
        old_first = omega (arith, one, later);
        old_second = omega (arith, two, later);
      }

  -- another port is closed
  tied-loose : (s : Scene) (r : Port) (v : PortState) → IsLoose v → (Is p r → ⊥) → (Is q r → ⊥) → Tied p q s → Tied p q (with_ports (port_but r v s.port) s)
  tied-loose s r v l np nq h =
      tied-kept s (with_ports (port_but r v s.port) s) h
      (port_but-other r v s.port p.obj.0 p.slot (λ i. np (sym i.0, sym i.1)))
      (port_but-other r v s.port q.obj.0 q.slot (λ i. nq (sym i.0, sym i.1)))
      (λ u w e. elim (cases_port u.obj.0 u.slot r) [
        | inl i ↦ absurd (not-loose v w l (sym (port_but-same r v s.port u.obj.0 u.slot i.0 i.1) ∙ e))
        | inr n ↦ inl (sym (port_but-other r v s.port u.obj.0 u.slot n) ∙ e)
      ])
      (omega arith)

  pub tied-closed : (s : Scene) (r : Port) (c : Cause) → is_same_port p r ≡ false → is_same_port q r ≡ false → Tied p q s → Tied p q (after_noted (Closed r c) s)
  tied-closed s r c a b h = tied-loose s r (shut_of (state_at s r)) (loose-shut (state_at s r)) (not-same p r a) (not-same q r b) h

  pub tied-unplugged : (s : Scene) (r t : Port) → (Is p r → ⊥) → (Is p t → ⊥) → (Is q r → ⊥) → (Is q t → ⊥) → Tied p q s → Tied p q (after_noted (Unplugged r t) s)
  tied-unplugged s r t a b c d h = tied-loose (with_ports (port_but r Shut s.port) s) t Shut tt b d (tied-loose s r Shut tt a c h)

  -- ports of another object
  tied-object : (s t : Scene) (y : ℕ) (f : ℕ → PortState) → ((x k : ℕ) → t.port x k ≡ ports_but y f s.port x k) → ((k : ℕ) → IsLoose (f k)) → (p.obj.0 ≡ y → ⊥) → (q.obj.0 ≡ y → ⊥) → s.made ≤ t.made → Tied p q s → Tied p q t
  tied-object s t y f ports l np nq later h =
      tied-kept s t h
      (ports p.obj.0 p.slot ∙ other p.obj.0 p.slot np)
      (ports q.obj.0 q.slot ∙ other q.obj.0 q.slot nq)
      (λ u w e. elim (cases_eq u.obj.0 y) [
        | inl i ↦ absurd (not-loose (f u.slot) w (l u.slot) (sym (ports u.obj.0 u.slot ∙ own u.obj.0 u.slot i) ∙ e))
        | inr n ↦ inl (sym (ports u.obj.0 u.slot ∙ other u.obj.0 u.slot n) ∙ e)
      ])
      later
    where
      own : (x k : ℕ) → x ≡ y → ports_but y f s.port x k ≡ f k
      own x k e = rw (eq-eqb x y e) refl

      other : (x k : ℕ) → (x ≡ y → ⊥) → ports_but y f s.port x k ≡ s.port x k
      other x k n = rw (ne_eqb x y n) refl

  pub tied-made : (s : Scene) (y : ObjId) (kind : ℕ) → y.0 ≡ s.made + 1 → Tied p q s → Tied p q (after_noted (Made y kind) s)
  tied-made s y kind e h =
      let one = h.old_first in
      let two = h.old_second in
      tied-object s (after_noted (Made y kind) s) y.0 new_ports (λ x k. refl) (λ k. loose-new (ltb k 4)) (λ i. absurd (omega (arith, i, e, one))) (λ i. absurd (omega (arith, i, e, two))) (omega (arith, e)) h

  pub tied-freed : (s : Scene) (y : ObjId) → (p.obj.0 ≡ y.0 → ⊥) → (q.obj.0 ≡ y.0 → ⊥) → Tied p q s → Tied p q (after_noted (Freed y) s)
  tied-freed s y np nq h = tied-object s (after_noted (Freed y) s) y.0 (λ _. Shut) (λ x k. refl) (λ k. tt) np nq (omega arith) h

  -- two other ports are linked
  pub tied-plugged : (s : Scene) (u l : Port) → state_at s u ≡ Open → state_at s l ≡ Open → Tied p q s → Tied p q (after_noted (Plugged u l) s)
  tied-plugged s u l ou ol h =
      tied-kept s (after_noted (Plugged u l) s) h
      (kept p (linked-open s p q u h.first ou) (linked-open s p q l h.first ol))
      (kept q (linked-open s q p u h.second ou) (linked-open s q p l h.second ol))
      (λ r w e. elim (cases_port r.obj.0 r.slot l) [
        | inl i ↦ inr (fresh u w (sym (port_but-same l (Linked u) (port_but u (Linked l) s.port) r.obj.0 r.slot i.0 i.1) ∙ e) ou)
        | inr n ↦ elim (cases_port r.obj.0 r.slot u) [
          | inl i ↦ inr (fresh l w (sym (port_but-other l (Linked u) (port_but u (Linked l) s.port) r.obj.0 r.slot n ∙ port_but-same u (Linked l) s.port r.obj.0 r.slot i.0 i.1) ∙ e) ol)
          | inr m ↦ inl (sym (port_but-other l (Linked u) (port_but u (Linked l) s.port) r.obj.0 r.slot n ∙ port_but-other u (Linked l) s.port r.obj.0 r.slot m) ∙ e)
        ]
      ])
      (omega arith)
    where
      kept : (r : Port) → (Is r u → ⊥) → (Is r l → ⊥) → state_at (after_noted (Plugged u l) s) r ≡ state_at s r
      kept r nu nl = port_but-other l (Linked u) (port_but u (Linked l) s.port) r.obj.0 r.slot (λ i. nl (sym i.0, sym i.1)) ∙ port_but-other u (Linked l) s.port r.obj.0 r.slot (λ i. nu (sym i.0, sym i.1))

      fresh : (v w : Port) → Linked v ≡ Linked w → state_at s v ≡ Open → (Is p w → ⊥) × (Is q w → ⊥)
      fresh v w e o =
          let i = linked-same v w e in
          ((λ k. linked-open s p q v h.first o (sym i.0 ∙ k.0, sym i.1 ∙ k.1)), (λ k. linked-open s q p v h.second o (sym i.0 ∙ k.0, sym i.1 ∙ k.1)))
