-- The records of the graph lead to one state only: each spells one event, and does one thing.
use Rattle.std.proofs.Common.{◌≡◌, inl, inr, ℕ, ◌==◌, min, max, List, [], ◌∷◌, map, refl, sym, ◌∙◌, ap, subst, if◌then◌else◌}
use Rattle.nb_terms.specs.declared.cause.Cause.{Cause}
use Rattle.nb_terms.specs.declared.event.Event.{Event}
use Rattle.nb_defs.specs.Records.{Out}
use Rattle.nb_ledger.specs.Flat.{flat}
use Rattle.nb_ledger.specs.declared.port.Port.{Port}
use Rattle.nb_ledger.specs.declared.port.PortState.TheVariants as port
use Rattle.nb_ledger.specs.declared.event.Way.{Way}
use Rattle.nb_ledger.specs.declared.event.Way.TheVariants.{Up, Down, Close, Time}
use Rattle.nb_ledger.specs.declared.event.GraphEvent.{GraphEvent}
use Rattle.nb_ledger.specs.declared.event.GraphEvent.TheVariants.{Made, Held, LetGo, Plugged, Entered, Left, Dropped, Closed, Unplugged, Freed}
use Rattle.nb_ledger.specs.GraphRun.{GraphState, GraphRunOf, Step, OnStack, Running, MustClose, MustEnter, MustUnplug, MustFree, IsIdle, ClosesPort, alone, linked, peer, with_port_state, with_stack, owed, freed}
use Rattle.nb_traced.specs.Holdings.{no_state}
use Rattle.nb_traced.specs.Runs.{HasLedTo}

-- THE EVENTS

abbrev first_port : Event → Port
first_port v = record { obj = record { 0 = v.object }; slot = v.slot }

abbrev second_port : Event → Port
second_port v = record { obj = record { 0 = v.other }; slot = v.other_slot }

abbrev way_at : ℕ → Way
way_at n = if n == 0 then Up else if n == 1 then Down else if n == 2 then Close else Time

-- the event that is spelled so
abbrev event_of : Event → GraphEvent
event_of v =
    if v.event == 1 then Made (record { 0 = v.object }) v.other
    else if v.event == 2 then Held (record { 0 = v.object })
    else if v.event == 3 then LetGo (record { 0 = v.object })
    else if v.event == 4 then Plugged (first_port v) (second_port v)
    else if v.event == 5 then Entered (first_port v) (way_at v.other_slot)
    else if v.event == 6 then Left (first_port v)
    else if v.event == 7 then Dropped (first_port v)
    else if v.event == 8 then Closed (first_port v) v.cause
    else if v.event == 9 then Unplugged (first_port v) (second_port v)
    else Freed (record { 0 = v.object })

is_event : (e : GraphEvent) → event_of (flat e) ≡ e
is_event (Made x kind) = refl
is_event (Held x) = refl
is_event (LetGo x) = refl
is_event (Plugged p q) = refl
is_event (Entered p Up) = refl
is_event (Entered p Down) = refl
is_event (Entered p Close) = refl
is_event (Entered p Time) = refl
is_event (Left p) = refl
is_event (Dropped p) = refl
is_event (Closed p cause) = refl
is_event (Unplugged p q) = refl
is_event (Freed x) = refl

are_events : (es : List GraphEvent) → map event_of (map flat es) ≡ es
are_events [] = refl
are_events (e ∷ es) = ap (λ z. z ∷ map event_of (map flat es)) (is_event e) ∙ ap (λ z. e ∷ z) (are_events es)

same_events : (es fs : List GraphEvent) → map flat es ≡ map flat fs → es ≡ fs
same_events es fs same = sym (are_events es) ∙ ap (map event_of) same ∙ are_events fs

-- WHAT THEY DO

abbrev pub rest_of : List OnStack → List OnStack
rest_of [] = []
rest_of (x ∷ st) = st

idle_enter : (p : Port) (stack st : List OnStack) → IsIdle stack → stack ≡ MustEnter p ∷ st → ⊥
idle_enter p stack st idle is = subst IsIdle is idle

idle_close : (p : Port) (cause : Cause) (stack st : List OnStack) → IsIdle stack → stack ≡ MustClose p cause ∷ st → ⊥
idle_close p cause stack st idle is = subst IsIdle is idle

pub peer_same : (q r : Port) → port.Linked q ≡ port.Linked r → q ≡ r
peer_same q r e = cc

open_linked : (q : Port) → port.Open ≡ port.Linked q → ⊥
open_linked q e = cc

same_rest : (x y : OnStack) (stack st more : List OnStack) → stack ≡ x ∷ st → stack ≡ y ∷ more → st ≡ more
same_rest x y stack st more a b = ap rest_of (sym a ∙ b)

close_same : (s t u : GraphState) (p : Port) (cause : Cause) → ClosesPort s p cause t → ClosesPort s p cause u → t ≡ u
close_same s t u p cause (alone i at is) (alone j bt js) = is ∙ sym js
close_same s t u p cause (alone i at is) (linked q j bt js) = absurd (open_linked q (sym at ∙ bt))
close_same s t u p cause (alone i at is) (peer q st stack bt js) = absurd (open_linked q (sym at ∙ bt))
close_same s t u p cause (linked q i at is) (alone j bt js) = absurd (open_linked q (sym bt ∙ at))
close_same s t u p cause (linked q i at is) (linked r j bt js) =
    is ∙ ap (λ z. with_stack (MustClose z cause ∷ MustEnter z ∷ MustUnplug p z ∷ s.stack) (with_port_state p (port.Leaving z) s)) (peer_same q r (sym at ∙ bt)) ∙ sym js
close_same s t u p cause (linked q i at is) (peer r st stack bt js) = absurd (idle_close p cause s.stack st i stack)
close_same s t u p cause (peer q st stack at is) (alone j bt js) = absurd (open_linked q (sym bt ∙ at))
close_same s t u p cause (peer q st stack at is) (linked r j bt js) = absurd (idle_close p cause s.stack st j stack)
close_same s t u p cause (peer q st stack at is) (peer r su more bt js) =
    is ∙ ap (λ z. with_stack st (with_port_state p (port.Leaving z) s)) (peer_same q r (sym at ∙ bt))
    ∙ ap (λ z. with_stack z (with_port_state p (port.Leaving r) s)) (same_rest (MustClose p cause) (MustClose p cause) s.stack st su stack more) ∙ sym js

step_same : (e : GraphEvent) (s t u : GraphState) → Step s e t → Step s e u → t ≡ u
step_same (Made x kind) s t u a b = a.2 ∙ sym b.2
step_same (Held x) s t u a b = a.2 ∙ sym b.2
step_same (LetGo x) s t u a b = a.2 ∙ sym b.2
step_same (Plugged p q) s t u a b = a.5 ∙ sym b.5
step_same (Entered p way) s t u (inl a) (inl b) = a.2 ∙ sym b.2
step_same (Entered p way) s t u (inl a) (inr (st, close, stack, is)) = absurd (idle_enter p s.stack st a.0 stack)
step_same (Entered p way) s t u (inr (st, close, stack, is)) (inl b) = absurd (idle_enter p s.stack st b.0 stack)
step_same (Entered p way) s t u (inr (st, close, stack, is)) (inr (su, shut, more, js)) =
    is ∙ ap (λ z. with_stack (Running p Close ∷ z) s) (same_rest (MustEnter p) (MustEnter p) s.stack st su stack more) ∙ sym js
step_same (Left p) s t u (w, st, stack, is) (v, su, more, js) =
    is ∙ ap (λ z. owed p.obj.0 (with_stack z s)) (same_rest (Running p w) (Running p v) s.stack st su stack more) ∙ sym js
step_same (Dropped p) s t u a b = a.2 ∙ sym b.2
step_same (Closed p cause) s t u a b = close_same s t u p cause a b
step_same (Unplugged p q) s t u (st, stack, is) (su, more, js) =
    is ∙ ap (λ z. owed (min p.obj.0 q.obj.0) (owed (max p.obj.0 q.obj.0) (with_port_state q port.Closed (with_port_state p port.Closed (with_stack z s)))))
    (same_rest (MustUnplug p q) (MustUnplug p q) s.stack st su stack more) ∙ sym js
step_same (Freed x) s t u (st, stack, is) (su, more, js) =
    is ∙ ap (λ z. freed x.0 (with_stack z s)) (same_rest (MustFree x.0) (MustFree x.0) s.stack st su stack more) ∙ sym js

run_same : (es : List GraphEvent) (s t u : GraphState) → GraphRunOf s es t → GraphRunOf s es u → t ≡ u
run_same [] s t u a b = sym a ∙ b
run_same (e ∷ es) s t u (m, a, r) (n, b, q) = run_same es m t u r (subst (λ z. GraphRunOf z es u) (sym (step_same e s m n a b)) q)

pub one_state : (outs : List Out) (s t : GraphState) → HasLedTo outs s → HasLedTo outs t → s ≡ t
one_state outs s t a b = run_same a.events no_state s t a.run (subst (λ z. GraphRunOf no_state z t) (sym (same_events a.events b.events (a.are ∙ sym b.are))) b.run)
