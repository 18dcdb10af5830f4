-- An event is known by how it is traced, so that the events of a call are known by its notices, in their order.
use Rattle.std.proofs.Common.{◌≡◌, ℕ, ◌==◌, List, [], ◌∷◌, ◌++◌, map, Option, None, refl, sym, ap, ◌∙◌, subst, if◌then◌else◌}
use Rattle.std.specs.List.{AllByRecursion}
use Rattle.std.proofs.lemmas.List.{map-append}
use Rattle.nb_terms.specs.declared.event.Event.{Event}
use Rattle.nb_ledger.specs.declared.event.GraphEvent.{GraphEvent}
use Rattle.nb_ledger.specs.declared.event.GraphEvent.TheVariants.{Made, Held, LetGo, Plugged, Entered, Left, Dropped, Closed, Unplugged, Freed}
use Rattle.nb_ledger.specs.declared.event.Way.{Way}
use Rattle.nb_ledger.specs.declared.event.Way.TheVariants.{Up, Down, Close, Time}
use Rattle.nb_ledger.specs.Flat.{Heard, Notice, event, events_part, flat, message}
use Rattle.nb_ledger.specs.GraphRun.{GraphRunOf}
use Rattle.nb_ledger.specs.Ledger.{run_state}
use Rattle.nb_graph.specs.Whole.{Objects, port_at}
use Rattle.nb_nodes.specs.declared.obj.Obj.{Obj}
use Rattle.nb_opens.specs.Notices.{serial, tells}
use Rattle.nb_chains.specs.Giving.{CallGives}
use Rattle.nb_chains.specs.Shapes.{GoesDownOut, HasShape, IsNoCall, RunsInOrder, SendsNone}
use Rattle.nb_chains.proofs.GivingLemmas.{events_parts}

-- the way of a number, and the event that is traced so
abbrev way_of_number : ℕ → Way
way_of_number n = if n == 0 then Up else if n == 1 then Down else if n == 2 then Close else Time

abbrev read : Event → GraphEvent
read e =
    if e.event == 1 then Made (serial e.object) e.other
    else if e.event == 2 then Held (serial e.object)
    else if e.event == 3 then LetGo (serial e.object)
    else if e.event == 4 then Plugged (port_at e.object e.slot) (port_at e.other e.other_slot)
    else if e.event == 5 then Entered (port_at e.object e.slot) (way_of_number e.other_slot)
    else if e.event == 6 then Left (port_at e.object e.slot)
    else if e.event == 7 then Dropped (port_at e.object e.slot)
    else if e.event == 8 then Closed (port_at e.object e.slot) e.cause
    else if e.event == 9 then Unplugged (port_at e.object e.slot) (port_at e.other e.other_slot)
    else Freed (serial e.object)

read_flat : (e : GraphEvent) → read (flat e) ≡ e
read_flat (Made x kind) = refl
read_flat (Held x) = refl
read_flat (LetGo x) = refl
read_flat (Plugged p q) = refl
read_flat (Entered p Up) = refl
read_flat (Entered p Down) = refl
read_flat (Entered p Close) = refl
read_flat (Entered p Time) = refl
read_flat (Left p) = refl
read_flat (Dropped p) = refl
read_flat (Closed p cause) = refl
read_flat (Unplugged p q) = refl
read_flat (Freed x) = refl

read_all : (es : List GraphEvent) → map read (map flat es) ≡ es
read_all [] = refl
read_all (e ∷ es) = ap (λ z. z ∷ map read (map flat es)) (read_flat e) ∙ ap (λ z. e ∷ z) (read_all es)

-- events that are traced alike are the same
pub events_once : (es fs : List GraphEvent) → map flat es ≡ map flat fs → es ≡ fs
events_once es fs h = sym (read_all es) ∙ (ap (map read) h ∙ read_all fs)

-- THE ORDER OF A CALL'S EVENTS

first_events : (es : List GraphEvent) → events_part (map tells es) ≡ map flat es
first_events [] = refl
first_events (e ∷ es) = ap (λ z. flat e ∷ z) (first_events es)

-- what goes down is no event
no_events : (x : ℕ) (ns : List Notice) → AllByRecursion (GoesDownOut x) ns → events_part ns ≡ []
no_events x [] q = refl
no_events x (event e ∷ ns) q = absurd q.0
no_events x (message from tag rec a b bytes ∷ ns) q = no_events x ns q.1

-- the events of what stays above
record AreAbove (x : ℕ) (ns : List Notice) : Type 0 where
  pub events : List GraphEvent
  pub are : events_part ns ≡ map flat events
  pub inner : AllByRecursion (IsNoCall x) events

above : (x : ℕ) (ns : List Notice) → SendsNone x ns → AreAbove x ns
above x [] q = record { events = []; are = refl; inner = tt }
above x (event e ∷ ns) ((g, same, far), q) =
    let r = above x ns q in
    record { events = g ∷ r.events; are = ap (λ z. z ∷ events_part ns) same ∙ ap (λ z. flat g ∷ z) r.are; inner = (far, r.inner) }
above x (message from tag rec a b bytes ∷ ns) q = let r = above x ns q.1 in record { events = r.events; are = r.are; inner = r.inner }

module _ (may : GraphEvent → Type 0) (x : ℕ) (g h : Objects Obj) (m n : Heard) (ns : List Notice) (gives : CallGives may g h m n ns) where
  pub runs_in_order : (entry : Option GraphEvent) (s : HasShape x entry ns) → RunsInOrder may x g h s.first s.back
  runs_in_order entry s =
      let r = above x s.back s.stay in
      let below : events_part (s.downs ++ s.back) ≡ map flat r.events = events_parts s.downs s.back ∙ (ap (λ z. z ++ events_part s.back) (no_events x s.downs s.go_down) ∙ r.are) in
      let all : map flat gives.events ≡ map flat (s.first ++ r.events) =
      sym gives.are ∙ (ap events_part s.all ∙ (events_parts (map tells s.first) (s.downs ++ s.back) ∙ (ap (λ z. z ++ events_part (s.downs ++ s.back)) (first_events s.first)
      ∙ (ap (λ z. map flat s.first ++ z) below ∙ sym (map-append flat s.first r.events))))) in
      let same : gives.events ≡ s.first ++ r.events = events_once gives.events (s.first ++ r.events) all in
      record {
        others = r.events;
        are = r.are;
        run = subst (λ z. GraphRunOf (run_state g.book []) z (run_state h.book [])) same gives.run;
        within = subst (AllByRecursion may) same gives.within;
        inner = r.inner;
      }

  -- where nothing goes down
  pub runs_above : SendsNone x ns → RunsInOrder may x g h [] ns
  runs_above q = runs_in_order None (record { first = []; downs = []; back = ns; all = refl; begins = (tt, tt); go_down = tt; stay = q })
