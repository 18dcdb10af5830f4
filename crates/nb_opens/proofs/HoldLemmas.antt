-- A hold that nothing lets go stays, and keeps its object; the only one that is let go frees it.
use Rattle.std.proofs.Common.{inl, inr, ◌≡◌, ℕ, ◌+◌, ◌-◌, ◌≤◌, List, [], ◌∷◌, refl, ap, sym, ◌∙◌, subst, min, max, arith}
use Rattle.std.proofs.lemmas.Bool.{eq-eqb, ne_eqb}
use Rattle.std.proofs.lemmas.Bool.Decides.{eqb_tells}
use Rattle.nb_terms.specs.declared.cause.Cause.{Cause}
use Rattle.nb_ledger.specs.declared.port.Port.{Port}
use Rattle.nb_ledger.specs.declared.port.ObjId.{ObjId}
use Rattle.nb_ledger.specs.declared.event.GraphEvent.{GraphEvent}
use Rattle.nb_ledger.specs.declared.event.GraphEvent.TheVariants.{Made, Held, LetGo, Plugged, Entered, Left, Dropped, Closed, Unplugged, Freed}
use Rattle.nb_ledger.specs.GraphRun.{OnStack, Running, MustClose, MustEnter, MustUnplug, MustFree, GraphState, IsIdle, ClosesPort, alone, linked, peer, GraphRunOf, links, running_entries, object_count, owed, but_at, with_stack}
use Rattle.nb_ledger.proofs.CountLemmas.{owed-zero, owed-some}

-- x is not the next that is to be freed, nor any after it
abbrev pub NotDue : ℕ → List OnStack → Type 0
NotDue x [] = Unit {0}
NotDue x (Running p way ∷ st) = NotDue x st
NotDue x (MustClose p cause ∷ st) = NotDue x st
NotDue x (MustEnter p ∷ st) = NotDue x st
NotDue x (MustUnplug p q ∷ st) = NotDue x st
NotDue x (MustFree y ∷ st) = (y ≡ x → ⊥) × NotDue x st

-- no event makes x, holds it, or lets it go
abbrev pub LeavesHolds : ℕ → List GraphEvent → Type 0
LeavesHolds x [] = Unit {0}
LeavesHolds x (Made y kind ∷ es) = (y.0 ≡ x → ⊥) × LeavesHolds x es
LeavesHolds x (Held y ∷ es) = (y.0 ≡ x → ⊥) × LeavesHolds x es
LeavesHolds x (LetGo y ∷ es) = (y.0 ≡ x → ⊥) × LeavesHolds x es
LeavesHolds x (Plugged p q ∷ es) = LeavesHolds x es
LeavesHolds x (Entered p way ∷ es) = LeavesHolds x es
LeavesHolds x (Left p ∷ es) = LeavesHolds x es
LeavesHolds x (Dropped p ∷ es) = LeavesHolds x es
LeavesHolds x (Closed p cause ∷ es) = LeavesHolds x es
LeavesHolds x (Unplugged p q ∷ es) = LeavesHolds x es
LeavesHolds x (Freed y ∷ es) = LeavesHolds x es

-- none of them frees x
abbrev pub NotFreed : ℕ → List GraphEvent → Type 0
NotFreed x [] = Unit {0}
NotFreed x (Made y kind ∷ es) = NotFreed x es
NotFreed x (Held y ∷ es) = NotFreed x es
NotFreed x (LetGo y ∷ es) = NotFreed x es
NotFreed x (Plugged p q ∷ es) = NotFreed x es
NotFreed x (Entered p way ∷ es) = NotFreed x es
NotFreed x (Left p ∷ es) = NotFreed x es
NotFreed x (Dropped p ∷ es) = NotFreed x es
NotFreed x (Closed p cause ∷ es) = NotFreed x es
NotFreed x (Unplugged p q ∷ es) = NotFreed x es
NotFreed x (Freed y ∷ es) = (y.0 ≡ x → ⊥) × NotFreed x es

-- the holds of x are as they were, and it isn't to be freed
abbrev Stays : ℕ → GraphState → GraphState → Type 0
Stays x s t = (t.holds x ≡ s.holds x) × NotDue x t.stack

-- elsewhere a function is as it was
but_other : (x y v : ℕ) (f : ℕ → ℕ) → (y ≡ x → ⊥) → but_at y v f x ≡ f x
but_other x y v f h = rw (ne_eqb x y (λ e. h (sym e))) refl

-- what is held isn't to be freed
counted : (s : GraphState) (x : ℕ) → object_count s x ≡ 0 → s.holds x ≡ 0
unfolding object_count
counted s x h = omega (arith, h)

owed_stays : (x y : ℕ) (s : GraphState) → 1 ≤ s.holds x → NotDue x s.stack → Stays x s (owed y s)
owed_stays x y s held due =
    elim (eqb_tells (object_count s y) 0) [
      | inl h ↦
          let no : y ≡ x → ⊥ = λ e. let z = counted s x (ap (λ (k : ℕ). object_count s k) (sym e) ∙ h.1) in omega (arith, z, held) in
          subst (λ (z : GraphState). Stays x s z) (sym (owed-zero s y h.1)) (refl, (no, due))
      | inr h ↦ subst (λ (z : GraphState). Stays x s z) (sym (owed-some s y (omega (arith, h.1)))) (refl, due)
    ]

stays_on : (x : ℕ) (s m t : GraphState) → Stays x s m → Stays x m t → Stays x s t
stays_on x s m t a b = (b.0 ∙ a.0, b.1)

-- something that x counted fell away of y
owes : (x y : ℕ) (s m : GraphState) → 1 ≤ s.holds x → Stays x s m → Stays x s (owed y m)
owes x y s m held a = stays_on x s m (owed y m) a (owed_stays x y m (subst (λ (n : ℕ). 1 ≤ n) (sym a.0) held) a.1)

stays_closed : (x : ℕ) (p : Port) (cause : Cause) (s t : GraphState) → ClosesPort s p cause t → NotDue x s.stack → Stays x s t
stays_closed x p cause s t (alone idle e u) due = subst (λ (z : GraphState). Stays x s z) (sym u) (refl, due)
stays_closed x p cause s t (linked q idle e u) due = subst (λ (z : GraphState). Stays x s z) (sym u) (refl, due)
stays_closed x p cause s t (peer q st top e u) due = subst (λ (z : GraphState). Stays x s z) (sym u) (refl, subst (NotDue x) top due)

goes_on : (x : ℕ) (s m t : GraphState) (es : List GraphEvent) → 1 ≤ s.holds x → Stays x s m
    → (1 ≤ m.holds x → NotDue x m.stack → (t.holds x ≡ m.holds x) × (NotFreed x es × NotDue x t.stack))
    → (t.holds x ≡ s.holds x) × (NotFreed x es × NotDue x t.stack)
goes_on x s m t es held a rest =
    let r = rest (subst (λ (n : ℕ). 1 ≤ n) (sym a.0) held) a.1 in
    (r.0 ∙ a.0, r.1)

-- one that is held stays held, and isn't freed
pub held_stays : (x : ℕ) (es : List GraphEvent) (s t : GraphState) → GraphRunOf s es t → 1 ≤ s.holds x → NotDue x s.stack → LeavesHolds x es
    → (t.holds x ≡ s.holds x) × (NotFreed x es × NotDue x t.stack)
held_stays x [] s t run held due leaves = subst (λ (z : GraphState). (z.holds x ≡ s.holds x) × (Unit {0} × NotDue x z.stack)) run (refl, (tt, due))
held_stays x (Made y kind ∷ es) s t (m, step, run) held due leaves =
    goes_on x s m t es held (subst (λ (z : GraphState). Stays x s z) (sym step.2) (but_other x y.0 0 s.holds leaves.0, due)) (λ h d. held_stays x es m t run h d leaves.1)
held_stays x (Held y ∷ es) s t (m, step, run) held due leaves =
    goes_on x s m t es held (subst (λ (z : GraphState). Stays x s z) (sym step.2) (but_other x y.0 (s.holds y.0 + 1) s.holds leaves.0, due)) (λ h d. held_stays x es m t run h d leaves.1)
held_stays x (LetGo y ∷ es) s t (m, step, run) held due leaves =
    goes_on x s m t es held
    (subst (λ (z : GraphState). Stays x s z) (sym step.2) (owes x y.0 s (record s { holds = but_at y.0 (s.holds y.0 - 1) s.holds }) held (but_other x y.0 (s.holds y.0 - 1) s.holds leaves.0, due)))
    (λ h d. held_stays x es m t run h d leaves.1)
held_stays x (Plugged p q ∷ es) s t (m, step, run) held due leaves =
    goes_on x s m t es held (subst (λ (z : GraphState). Stays x s z) (sym step.5) (refl, due)) (λ h d. held_stays x es m t run h d leaves)
held_stays x (Entered p way ∷ es) s t (m, inl step, run) held due leaves =
    goes_on x s m t es held (subst (λ (z : GraphState). Stays x s z) (sym step.2) (refl, due)) (λ h d. held_stays x es m t run h d leaves)
held_stays x (Entered p way ∷ es) s t (m, inr step, run) held due leaves =
    goes_on x s m t es held (subst (λ (z : GraphState). Stays x s z) (sym step.3) (refl, subst (NotDue x) step.2 due)) (λ h d. held_stays x es m t run h d leaves)
held_stays x (Left p ∷ es) s t (m, step, run) held due leaves =
    goes_on x s m t es held
    (subst (λ (z : GraphState). Stays x s z) (sym step.3) (owes x p.obj.0 s (with_stack step.1 s) held (refl, subst (NotDue x) step.2 due)))
    (λ h d. held_stays x es m t run h d leaves)
held_stays x (Dropped p ∷ es) s t (m, step, run) held due leaves =
    goes_on x s m t es held (subst (λ (z : GraphState). Stays x s z) (sym step.2) (refl, due)) (λ h d. held_stays x es m t run h d leaves)
held_stays x (Closed p cause ∷ es) s t (m, step, run) held due leaves =
    goes_on x s m t es held (stays_closed x p cause s m step due) (λ h d. held_stays x es m t run h d leaves)
held_stays x (Unplugged p q ∷ es) s t (m, step, run) held due leaves =
    goes_on x s m t es held
    (subst (λ (z : GraphState). Stays x s z) (sym step.2) (owes x (min p.obj.0 q.obj.0) s _ held (owes x (max p.obj.0 q.obj.0) s _ held (refl, subst (NotDue x) step.1 due))))
    (λ h d. held_stays x es m t run h d leaves)
held_stays x (Freed y ∷ es) s t (m, step, run) held due leaves =
    let d : NotDue x (MustFree y.0 ∷ step.0) = subst (NotDue x) step.1 due in
    let r : (t.holds x ≡ s.holds x) × (NotFreed x es × NotDue x t.stack) =
    goes_on x s m t es held (subst (λ (z : GraphState). Stays x s z) (sym step.2) (but_other x y.0 0 s.holds d.0, d.1)) (λ h d. held_stays x es m t run h d leaves) in
    (r.0, ((d.0, r.1.0), r.1.1))

-- what comes next where an object is to be freed
only_freed : (x : ObjId) (es : List GraphEvent) (s t : GraphState) → GraphRunOf s es t → s.stack ≡ MustFree x.0 ∷ [] → t.stack ≡ [] → (more : List GraphEvent) × (es ≡ Freed x ∷ more)
only_freed x [] s t run top none = absurd (let z : MustFree x.0 ∷ [] ≡ [] = sym top ∙ ap (λ (u : GraphState). u.stack) run ∙ none in cc)
only_freed x (Made y kind ∷ es) s t (m, step, run) top none = absurd (subst IsIdle top step.0)
only_freed x (Held y ∷ es) s t (m, step, run) top none = absurd (subst IsIdle top step.0)
only_freed x (LetGo y ∷ es) s t (m, step, run) top none = absurd (subst IsIdle top step.0)
only_freed x (Plugged p q ∷ es) s t (m, step, run) top none = absurd (subst IsIdle top step.0)
only_freed x (Entered p way ∷ es) s t (m, inl step, run) top none = absurd (subst IsIdle top step.0)
only_freed x (Entered p way ∷ es) s t (m, inr step, run) top none = absurd (let z = sym top ∙ step.2 in cc)
only_freed x (Left p ∷ es) s t (m, step, run) top none = absurd (let z = sym top ∙ step.2 in cc)
only_freed x (Dropped p ∷ es) s t (m, step, run) top none = absurd (subst IsIdle top step.0)
only_freed x (Closed p cause ∷ es) s t (m, alone idle e u, run) top none = absurd (subst IsIdle top idle)
only_freed x (Closed p cause ∷ es) s t (m, linked q idle e u, run) top none = absurd (subst IsIdle top idle)
only_freed x (Closed p cause ∷ es) s t (m, peer q st other e u, run) top none = absurd (let z = sym top ∙ other in cc)
only_freed x (Unplugged p q ∷ es) s t (m, step, run) top none = absurd (let z = sym top ∙ step.1 in cc)
only_freed x (Freed y ∷ es) s t (m, step, run) top none =
    let z = sym top ∙ step.1 in
    let n : y.0 ≡ x.0 = cc in
    let same : y ≡ x = ap (λ (k : ℕ). let i : ObjId = record { 0 = k } in i) n in
    (es, ap (λ (i : ObjId). Freed i ∷ es) same)

-- without holds, links and entries there is no count
uncounted : (s : GraphState) (x : ℕ) → s.holds x ≡ 0 → links s x ≡ 0 → running_entries s.stack x ≡ 0 → object_count s x ≡ 0
unfolding object_count
uncounted s x h l e = omega (arith, h, l, e)

but_here : (x v : ℕ) (f : ℕ → ℕ) → but_at x v f x ≡ v
but_here x v f = rw (eq-eqb x x refl) refl

-- the only hold of an object without links and without running entries is let go: it is freed next
pub let_go_frees : (x : ObjId) (es : List GraphEvent) (s t : GraphState) → GraphRunOf s (LetGo x ∷ es) t → s.stack ≡ [] → t.stack ≡ []
    → s.holds x.0 ≡ 1 → links s x.0 ≡ 0 → (more : List GraphEvent) × (es ≡ Freed x ∷ more)
let_go_frees x es s t (m, step, run) empty none held loose =
    let u : GraphState = record s { holds = but_at x.0 (s.holds x.0 - 1) s.holds } in
    let no_hold : u.holds x.0 ≡ 0 = but_here x.0 (s.holds x.0 - 1) s.holds ∙ omega (arith, held) in
    let no_entry : running_entries u.stack x.0 ≡ 0 = ap (λ (st : List OnStack). running_entries st x.0) empty in
    let owing = owed-zero u x.0 (uncounted u x.0 no_hold loose no_entry) in
    only_freed x es m t run (ap (λ (z : GraphState). z.stack) (step.2 ∙ owing) ∙ ap (λ (st : List OnStack). MustFree x.0 ∷ st) empty) none
