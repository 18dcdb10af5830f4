-- Runs and told events, one after another.
use Rattle.std.proofs.Common.{◌≡◌, ℕ, List, [], ◌∷◌, ◌++◌, map, refl, ap, sym, ◌∙◌, subst, append_assoc, append-nil}
use Rattle.std.proofs.lemmas.List.{map-append}
use Rattle.nb_terms.specs.declared.event.Event.{Event}
use Rattle.nb_ledger.specs.declared.event.GraphEvent.{GraphEvent}
use Rattle.nb_ledger.specs.GraphRun.{GraphState, Step, GraphRunOf}
use Rattle.nb_ledger.specs.declared.port.Port.{Port}
use Rattle.nb_ledger.specs.Flat.{Notice, Heard, Hears, StaysKnown, unknown, all, shows, event, message, flat, Told, Tells, Given, events_part}

-- a run and one from where it ends
pub Run-append : (s m t : GraphState) (xs ys : List GraphEvent) → GraphRunOf s xs m → GraphRunOf m ys t → GraphRunOf s (xs ++ ys) t
Run-append s m t [] ys r q = subst (λ u. GraphRunOf u ys t) (sym r) q
Run-append s m t (x ∷ xs) ys r q = (r.0, r.1, Run-append r.0 m t xs ys r.2 q)

-- a run of one step
pub Run-one : (s t : GraphState) (e : GraphEvent) → Step s e t → GraphRunOf s (e ∷ []) t
Run-one s t e h = (t, h, refl)

events_part-append : (xs ys : List Notice) → events_part (xs ++ ys) ≡ events_part xs ++ events_part ys
events_part-append [] ys = refl
events_part-append (event e ∷ xs) ys = ap (λ r. e ∷ r) (events_part-append xs ys)
events_part-append (message from tag rec a b bytes ∷ xs) ys = events_part-append xs ys

-- what stays known stays known longer
known-trans : (a b c : Heard) → StaysKnown a b → StaysKnown b c → StaysKnown a c
known-trans a b unknown p q = tt
known-trans a unknown (all z) p q = absurd q
known-trans unknown (all y) (all z) p q = absurd p
known-trans (all x) (all y) (all z) p q = tt
known-trans (shows f x) (all y) (all z) p q = absurd p
known-trans a (shows g y) (all z) p q = absurd q
known-trans a unknown (shows h z) p q = absurd q
known-trans a (all y) (shows h z) p q = absurd q
known-trans unknown (shows g y) (shows h z) p q = absurd p
known-trans (all x) (shows g y) (shows h z) p q = absurd p
known-trans (shows f x) (shows g y) (shows h z) p q = q ∙ p

known-refl : (a : Heard) → StaysKnown a a
known-refl unknown = tt
known-refl (all x) = tt
known-refl (shows f x) = refl

-- given, and then given
pub Given-append : (a b c : Heard) (xs ys : List Notice) → Given a b xs → Given b c ys → Given a c (xs ++ ys)
Given-append a b c xs ys p q = (known-trans a b c p.0 q.0, λ ns h. subst (Hears c) (append_assoc ns xs ys) (q.1 (ns ++ xs) (p.1 ns h)))

-- nothing was given
pub Given-none : (a : Heard) → Given a a []
Given-none a = (known-refl a, λ ns h. subst (Hears a) (sym (append-nil ns)) h)

-- the same of the events
pub Told-append : (a b c : Heard) (xs ys : List Event) → Told a b xs → Told b c ys → Told a c (xs ++ ys)
Told-append a b c xs ys p q =
    (p.0 ++ q.0, events_part-append p.0 q.0 ∙ (ap (λ z. z ++ events_part q.0) p.1 ∙ ap (λ z. xs ++ z) q.1), Given-append a b c p.0 q.0 p.2 q.2)

pub Told-none : (a : Heard) → Told a a []
Told-none a = ([], refl, Given-none a)

-- an event that is given is told
pub told_event : (a b : Heard) (e : Event) → Given a b (event e ∷ []) → Told a b (e ∷ [])
told_event a b e g = (event e ∷ [], refl, g)

-- of a message no event is told
pub told_message : (a b : Heard) (from : Port) (tag rec x y : ℕ) (bytes : List ℕ) → Given a b (message from tag rec x y bytes ∷ []) → Told a b []
told_message a b from tag rec x y bytes g = (message from tag rec x y bytes ∷ [], refl, g)

-- the same of the graph's events
pub Tells-append : (a b c : Heard) (xs ys : List GraphEvent) → Tells a b xs → Tells b c ys → Tells a c (xs ++ ys)
Tells-append a b c xs ys p q = subst (Told a c) (sym (map-append flat xs ys)) (Told-append a b c (map flat xs) (map flat ys) p q)
