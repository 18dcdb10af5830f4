-- An event is known by how it is traced.
use Rattle.std.proofs.Common.{◌≡◌, ℕ, ◌==◌, cond, List, [], ◌∷◌, map, refl, sym, ◌∙◌, ap}
use Rattle.nb_terms.specs.declared.event.Event.{Event}
use Rattle.nb_ledger.specs.declared.event.Way.{Way}
use Rattle.nb_ledger.specs.declared.event.Way.TheVariants.{Up, Down, Close, Time}
use Rattle.nb_ledger.specs.declared.event.GraphEvent.{GraphEvent}
use Rattle.nb_ledger.specs.declared.event.GraphEvent.TheVariants.{Made, Held, LetGo, Plugged, Entered, Left, Dropped, Closed, Unplugged, Freed}
use Rattle.nb_ledger.specs.declared.port.Port.{Port}
use Rattle.nb_ledger.specs.Flat.{flat, way_number}
use Rattle.nb_opens.specs.Notices.{serial}

abbrev port_in : ℕ → ℕ → Port
port_in x k = record { obj = serial x; slot = k }

abbrev way_in : ℕ → Way
way_in n = cond (n == 0) Up (cond (n == 1) Down (cond (n == 2) Close Time))

-- the event that is traced so
abbrev pub event_in : Event → GraphEvent
event_in e =
    cond (e.event == 1) (Made (serial e.object) e.other)
    (cond (e.event == 2) (Held (serial e.object))
    (cond (e.event == 3) (LetGo (serial e.object))
    (cond (e.event == 4) (Plugged (port_in e.object e.slot) (port_in e.other e.other_slot))
    (cond (e.event == 5) (Entered (port_in e.object e.slot) (way_in e.other_slot))
    (cond (e.event == 6) (Left (port_in e.object e.slot))
    (cond (e.event == 7) (Dropped (port_in e.object e.slot))
    (cond (e.event == 8) (Closed (port_in e.object e.slot) e.cause)
    (cond (e.event == 9) (Unplugged (port_in e.object e.slot) (port_in e.other e.other_slot))
    (Freed (serial e.object))))))))))

way_is : (w : Way) → way_in (way_number w) ≡ w
way_is Up = refl
way_is Down = refl
way_is Close = refl
way_is Time = refl

pub in_flat : (g : GraphEvent) → event_in (flat g) ≡ g
in_flat (Made x kind) = refl
in_flat (Held x) = refl
in_flat (LetGo x) = refl
in_flat (Plugged p q) = refl
in_flat (Entered p way) = ap (λ w. Entered p w) (way_is way)
in_flat (Left p) = refl
in_flat (Dropped p) = refl
in_flat (Closed p cause) = refl
in_flat (Unplugged p q) = refl
in_flat (Freed x) = refl

all_in_flat : (gs : List GraphEvent) → map event_in (map flat gs) ≡ gs
all_in_flat [] = refl
all_in_flat (g ∷ gs) = ap (λ z. z ∷ map event_in (map flat gs)) (in_flat g) ∙ ap (λ z. g ∷ z) (all_in_flat gs)

-- events that are traced the same are the same
pub same_flat : (gs hs : List GraphEvent) → map flat gs ≡ map flat hs → gs ≡ hs
same_flat gs hs e = sym (all_in_flat gs) ∙ (ap (map event_in) e ∙ all_in_flat hs)
