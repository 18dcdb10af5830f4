-- In which order the notices of a call on some objects stand, of which x is the lowest: what goes down to the network stands
-- directly after an entry of x, which may be entered more than once in a call. Our own.
use Rattle.std.specs.Prelude.{◌≡◌, ◌==◌, ◌&&◌, ℕ, Bool, true, false, List, [], ◌∷◌, Option, Some, None}
use Rattle.nb_terms.specs.declared.event.Event.{Event}
use Rattle.nb_ledger.specs.declared.event.GraphEvent.{GraphEvent}
use Rattle.nb_ledger.specs.Flat.{Notice, event, flat, message}
use Rattle.nb_graph.specs.Whole.{port_at}
use Rattle.nb_opens.specs.Notices.{tells}
use Rattle.nb_chains.specs.Shapes.{IsNoCall}

-- x is entered by this event
abbrev pub enters_object : ℕ → Event → Bool
enters_object x e = (e.event == 5) && (e.object == x)

-- Each message leaves by slot 1 of x. It stands directly after an event by which x is entered, or after another message;
-- `entered` says whether the first may.
abbrev pub LeavesOnEntry : ℕ → Bool → List Notice → Type 0
LeavesOnEntry x entered [] = Unit {0}
LeavesOnEntry x entered (event e ∷ ns) = LeavesOnEntry x (enters_object x e) ns
LeavesOnEntry x entered (message from tag rec a b bytes ∷ ns) = (entered ≡ true) × (from ≡ port_at x 1) × LeavesOnEntry x entered ns

-- no event is an entry of x from outside
abbrev pub AreNoCalls : ℕ → List Notice → Type 0
AreNoCalls x [] = Unit {0}
AreNoCalls x (event e ∷ ns) = ((g : GraphEvent) × (e ≡ flat g) × IsNoCall x g) × AreNoCalls x ns
AreNoCalls x (message from tag rec a b bytes ∷ ns) = AreNoCalls x ns

-- Where x is entered so from outside, that is the first event, and the only such entry.
abbrev pub StandInOrder : ℕ → Option GraphEvent → List Notice → Type 0
StandInOrder x None ns = LeavesOnEntry x false ns × AreNoCalls x ns
StandInOrder x (Some e) ns = (rest : List Notice) × (ns ≡ tells e ∷ rest) × LeavesOnEntry x true rest × AreNoCalls x rest
