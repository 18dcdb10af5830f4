-- Some objects as if nothing else lived: what is seen of the graph, and the state of its run.
use Rattle.std.proofs.Common.{inl, inr, ◌≡◌, ℕ, ◌==◌, Bool, true, false, min, max, refl, sym, ap, ◌∙◌, subst, arith, if◌then◌else◌}
use Rattle.std.proofs.Math.Path.{fun_ext}
use Rattle.std.proofs.lemmas.Bool.{cases_eq, eqb-true}
use Rattle.nb_ledger.specs.declared.port.Port.{Port}
use Rattle.nb_ledger.specs.declared.port.PortState.{PortState}
use Rattle.nb_ledger.specs.declared.port.PortState.TheVariants as port
use Rattle.nb_ledger.specs.declared.event.Way.{Way}
use Rattle.nb_ledger.specs.declared.event.Way.TheVariants as way
use Rattle.nb_ledger.specs.declared.event.GraphEvent.{GraphEvent}
use Rattle.nb_ledger.specs.declared.event.GraphEvent.TheVariants.{Made, Held, LetGo, Plugged, Entered, Left, Dropped, Closed, Unplugged, Freed}
use Rattle.nb_ledger.specs.GraphRun.{GraphState, Step, MayEnter, MayDrop, IsOpen, ClosesPort, alone, linked, peer, port_but, port_of, with_port_state, with_stack, owed, object_count}
use Rattle.nb_ledger.proofs.CountLemmas.{owed-zero, owed-some}
use Rattle.nb_graph.specs.Scene.{Scene}
use Rattle.nb_frames.specs.Within.{IsEventWithin}
use Rattle.nb_frames.proofs.WithinLemmas.{own_min, own_max}

abbrev pub mask : {A : Type 0} → (ℕ → Bool) → A → (ℕ → A) → ℕ → A
mask own d f x = if own x then f x else d

abbrev pub mask_port : (ℕ → Bool) → (ℕ → ℕ → PortState) → ℕ → ℕ → PortState
mask_port own f x k = if own x then f x k else port.Closed

-- what is seen of these objects alone
abbrev pub own_scene : (ℕ → Bool) → ℕ → ℕ → ℕ → Scene → Scene
own_scene own number room made s = record { port = mask_port own s.port; live = mask own false s.live; number = number; room = room; made = made }

-- the state of a run of them
abbrev pub own_state : (ℕ → Bool) → ℕ → GraphState → GraphState
own_state own made s = record { made = made; live = mask own false s.live; holds = mask own 0 s.holds; port = mask_port own s.port; stack = s.stack }

-- an event by which nothing is made, held, let go, plugged or freed
abbrev pub IsPlainEvent : GraphEvent → Type 0
IsPlainEvent (Made x kind) = ⊥
IsPlainEvent (Held x) = ⊥
IsPlainEvent (LetGo x) = ⊥
IsPlainEvent (Plugged p q) = ⊥
IsPlainEvent (Entered p by) = Unit {0}
IsPlainEvent (Left p) = Unit {0}
IsPlainEvent (Dropped p) = Unit {0}
IsPlainEvent (Closed p cause) = Unit {0}
IsPlainEvent (Unplugged p q) = Unit {0}
IsPlainEvent (Freed x) = ⊥

swap : (a b c : Bool) (v w d : PortState) → (b ≡ true → a ≡ true) → (if a then (if b then (if c then v else w) else w) else d) ≡ (if b then (if c then v else (if a then w else d)) else (if a then w else d))
swap true b c v w d h = refl
swap false true c v w d h = absurd (let z = h refl in cc)
swap false false c v w d h = refl

module _ (own : ℕ → Bool) where
  pub port_same : (f : ℕ → ℕ → PortState) (x k : ℕ) → own x ≡ true → mask_port own f x k ≡ f x k
  port_same f x k o = rw o refl

  pub mask_but : (p : Port) (v : PortState) (f : ℕ → ℕ → PortState) → own p.obj.0 ≡ true → mask_port own (port_but p v f) ≡ port_but p v (mask_port own f)
  mask_but p v f o = fun_ext (λ x. fun_ext (λ k. swap (own x) (x == p.obj.0) (k == p.slot) v (f x k) port.Closed (λ e. ap own (eqb-true x p.obj.0 e) ∙ o)))

  module _ (made : ℕ) where
    abbrev the_state : GraphState → GraphState
    the_state s = own_state own made s

    state_same : (s : GraphState) (p : Port) → own p.obj.0 ≡ true → port_of (the_state s) p ≡ port_of s p
    state_same s p o = port_same s.port p.obj.0 p.slot o

    count_same : (s : GraphState) (x : ℕ) → own x ≡ true → object_count (the_state s) x ≡ object_count s x
    unfolding object_count
    count_same s x o = rw o refl

    owed_own : (s : GraphState) (x : ℕ) → own x ≡ true → the_state (owed x s) ≡ owed x (the_state s)
    owed_own s x o = elim (cases_eq (object_count s x) 0) [
      | inl e ↦ ap the_state (owed-zero s x e) ∙ sym (owed-zero (the_state s) x (count_same s x o ∙ e))
      | inr n ↦ let c = count_same s x o in ap the_state (owed-some s x (omega (arith, n))) ∙ sym (owed-some (the_state s) x (omega (arith, n, c)))
    ]

    port_own : (s : GraphState) (p : Port) (v : PortState) → own p.obj.0 ≡ true → the_state (with_port_state p v s) ≡ with_port_state p v (the_state s)
    port_own s p v o = ap (λ (f : ℕ → ℕ → PortState). let z : GraphState = record { made = made; live = mask own false s.live; holds = mask own 0 s.holds; port = f; stack = s.stack } in z) (mask_but p v s.port o)

    may_enter : (s : GraphState) (p : Port) (by : Way) → own p.obj.0 ≡ true → MayEnter s p by → MayEnter (the_state s) p by
    may_enter s p way.Up o h = (h.0, h.1, subst IsOpen (sym (state_same s p o)) h.2)
    may_enter s p way.Down o h = (h.0, subst IsOpen (sym (state_same s p o)) h.1)
    may_enter s p way.Close o h = absurd h
    may_enter s p way.Time o h = (h.0, rw o h.1)

    may_drop : (s : GraphState) (x : ℕ) (v : PortState) → MayDrop s x v → MayDrop (the_state s) x v
    may_drop s x port.Open h = absurd h
    may_drop s x (port.Linked q) h = h
    may_drop s x (port.Leaving q) h = tt
    may_drop s x port.Closed h = tt

    closes_own : (s t : GraphState) (p : Port) (c : _) → own p.obj.0 ≡ true → ClosesPort s p c t → ClosesPort (the_state s) p c (the_state t)
    closes_own s t p c o (alone idle e u) = alone idle (state_same s p o ∙ e) (ap the_state u ∙ port_own s p port.Closed o)
    closes_own s t p c o (linked q idle e u) =
        linked q idle (state_same s p o ∙ e) (ap the_state u ∙ ap (with_stack _) (port_own s p (port.Leaving q) o))
    closes_own s t p c o (peer q st top e u) =
        peer q st top (state_same s p o ∙ e) (ap the_state u ∙ ap (with_stack st) (port_own s p (port.Leaving q) o))

    -- an event of these objects does to their state what it does to all
    pub step_own : (e : GraphEvent) (s t : GraphState) → IsPlainEvent e → IsEventWithin own e → Step s e t → Step (the_state s) e (the_state t)
    step_own (Made x kind) s t i o k = absurd i
    step_own (Held x) s t i o k = absurd i
    step_own (LetGo x) s t i o k = absurd i
    step_own (Plugged p q) s t i o k = absurd i
    step_own (Entered p by) s t i o (inl k) = inl (k.0, may_enter s p by o k.1, ap the_state k.2)
    step_own (Entered p by) s t i o (inr k) = inr (k.0, k.1, k.2, ap the_state k.3)
    step_own (Left p) s t i o k = (k.0, k.1, k.2, ap the_state k.3 ∙ owed_own (with_stack k.1 s) p.obj.0 o)
    step_own (Dropped p) s t i o k = (k.0, may_drop s p.obj.0 _ (subst (MayDrop s p.obj.0) (sym (state_same s p o)) k.1), ap the_state k.2)
    step_own (Closed p c) s t i o k = closes_own s t p c o k
    step_own (Unplugged p q) s t i o k =
        let a : GraphState = with_stack k.0 s in
        let b : GraphState = with_port_state p port.Closed a in
        let d : GraphState = with_port_state q port.Closed b in
        let low : ℕ = min p.obj.0 q.obj.0 in
        let high : ℕ = max p.obj.0 q.obj.0 in
        let ports : the_state d ≡ with_port_state q port.Closed (with_port_state p port.Closed (the_state a)) = port_own b q port.Closed o.1 ∙ ap (with_port_state q port.Closed) (port_own a p port.Closed o.0) in
        (k.0, k.1, ap the_state k.2 ∙ (owed_own (owed high d) low (own_min own p.obj.0 q.obj.0 o.0 o.1) ∙ ap (owed low) (owed_own d high (own_max own p.obj.0 q.obj.0 o.0 o.1) ∙ ap (owed high) ports)))
    step_own (Freed x) s t i o k = absurd i
