-- The graph's events as they are traced, and what it means that they are told.
use Rattle.std.specs.Prelude.{◌≡◌, ℕ, List, [], ◌∷◌, ◌++◌, map}
use Rattle.nb_terms.specs.declared.event.Event.{Event}
use Rattle.nb_ledger.specs.declared.port.Port.{Port}
use Rattle.nb_ledger.specs.declared.event.Way.{Way}
use Rattle.nb_ledger.specs.declared.event.Way.TheVariants.{Up, Down, Close, Time}
use Rattle.nb_ledger.specs.declared.event.GraphEvent.{GraphEvent}
use Rattle.nb_ledger.specs.declared.event.GraphEvent.TheVariants.{Made, Held, LetGo, Plugged, Entered, Left, Dropped, Closed, Unplugged, Freed}

-- the number of a way in an event's second slot
abbrev pub way_number : Way → ℕ
way_number Up = 0
way_number Down = 1
way_number Close = 2
way_number Time = 3

-- an event of two ports, without a cause
abbrev pub link_event : ℕ → Port → Port → Event
link_event n p q = record { event = n; object = p.obj.0; slot = p.slot; other = q.obj.0; other_slot = q.slot; cause = record { code = 0; a = 0; b = 0 } }

-- an event of one port
abbrev pub port_event : ℕ → Port → Event
port_event n p = link_event n p (record { obj = record { 0 = 0 }; slot = 0 })

-- an event of an object
abbrev pub object_event : ℕ → ℕ → Event
object_event n x = port_event n (record { obj = record { 0 = x }; slot = 0 })

-- each event as it is traced: its number, and the fields that it has
abbrev pub flat : GraphEvent → Event
flat (Made x kind) = record (object_event 1 x.0) { other = kind }
flat (Held x) = object_event 2 x.0
flat (LetGo x) = object_event 3 x.0
flat (Plugged upper lower) = link_event 4 upper lower
flat (Entered p way) = record (port_event 5 p) { other_slot = way_number way }
flat (Left p) = port_event 6 p
flat (Dropped p) = port_event 7 p
flat (Closed p cause) = record (port_event 8 p) { cause = cause }
flat (Unplugged p q) = link_event 9 p q
flat (Freed x) = object_event 10 x.0

-- what an outside is told: an event, or a message that leaves an open port without a link
pub data Notice : Type 0 where
  event : (e : Event) → Notice
  message : (from : Port) (tag rec a b : ℕ) (bytes : List ℕ) → Notice

abbrev pub events_part : List Notice → List Event
events_part [] = []
events_part (event e ∷ ns) = e ∷ events_part ns
events_part (message from tag rec a b bytes ∷ ns) = events_part ns

-- What is known of what an outside was told: nothing; all; or that its image is this. The image is rows of numbers,
-- as those of what it writes.
pub data Heard : Type 0 where
  unknown : Heard
  all : (told : List Notice) → Heard
  shows : (image : List Notice → List (List ℕ)) (shown : List (List ℕ)) → Heard

-- it may have been told this
abbrev pub Hears : Heard → List Notice → Type 0
Hears unknown ns = Unit {0}
Hears (all told) ns = ns ≡ told
Hears (shows image shown) ns = image ns ≡ shown

-- no less is known afterwards, or nothing, and that by the same image
abbrev pub StaysKnown : Heard → Heard → Type 0
StaysKnown before unknown = Unit {0}
StaysKnown unknown (all told) = ⊥
StaysKnown unknown (shows image shown) = ⊥
StaysKnown (all told) (all more) = Unit {0}
StaysKnown (all told) (shows image shown) = ⊥
StaysKnown (shows image shown) (all told) = ⊥
StaysKnown (shows image shown) (shows same more) = same ≡ image

-- whatever it was told before, this was added
abbrev pub Given : Heard → Heard → List Notice → Type 0
Given before after added = StaysKnown before after × ((ns : List Notice) → Hears before ns → Hears after (ns ++ added))

-- the same, of the events among what was added
abbrev pub Told : Heard → Heard → List Event → Type 0
Told before after added = (ns : List Notice) × (events_part ns ≡ added) × Given before after ns

-- the same, of the graph's events
abbrev pub Tells : Heard → Heard → List GraphEvent → Type 0
Tells before after added = Told before after (map flat added)
