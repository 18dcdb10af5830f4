-- In which order a call's notices stand, for a chain of any kind: events, then what goes down to the network out of the last
-- object x, then events and what is given to the user. Our own.
use Rattle.std.specs.Prelude.{◌≡◌, ◌⊎◌, ℕ, List, [], ◌∷◌, ◌++◌, map, Option, Some, None}
use Rattle.std.specs.List.{AllByRecursion}
use Rattle.nb_ledger.specs.declared.event.GraphEvent.{GraphEvent}
use Rattle.nb_ledger.specs.declared.event.GraphEvent.TheVariants.{Made, Held, LetGo, Plugged, Entered, Left, Dropped, Closed, Unplugged, Freed}
use Rattle.nb_ledger.specs.declared.event.Way.TheVariants.{Up, Down, Close, Time}
use Rattle.nb_ledger.specs.Flat.{Notice, event, events_part, message, flat}
use Rattle.nb_ledger.specs.GraphRun.{GraphRunOf}
use Rattle.nb_ledger.specs.Ledger.{run_state}
use Rattle.nb_graph.specs.Deeds.{no_memory}
use Rattle.nb_graph.specs.Whole.{Objects, port_at}
use Rattle.nb_nodes.specs.declared.obj.Obj.{Obj}
use Rattle.nb_nodes.specs.declared.tag.Tag.TheVariants.{Address, Advance, Bytes, Datagram, Try}
use Rattle.nb_nodes.specs.Tags.{tag_number}
use Rattle.nb_opens.specs.Notices.{first_close, tells}

-- not an entry of x from outside, by a message from below or a time
abbrev pub IsNoCall : ℕ → GraphEvent → Type 0
IsNoCall x (Entered p Up) = p.obj.0 ≡ x → ⊥
IsNoCall x (Entered p Time) = p.obj.0 ≡ x → ⊥
IsNoCall x (Entered p Down) = Unit {0}
IsNoCall x (Entered p Close) = Unit {0}
IsNoCall x (Made y kind) = Unit {0}
IsNoCall x (Held y) = Unit {0}
IsNoCall x (LetGo y) = Unit {0}
IsNoCall x (Plugged p q) = Unit {0}
IsNoCall x (Left p) = Unit {0}
IsNoCall x (Dropped p) = Unit {0}
IsNoCall x (Closed p cause) = Unit {0}
IsNoCall x (Unplugged p q) = Unit {0}
IsNoCall x (Freed y) = Unit {0}

-- goes down: a datagram, a try, or the place to which a transfer has come
abbrev pub IsTagDown : ℕ → Type 0
IsTagDown tag = (tag ≡ tag_number Datagram) ⊎ ((tag ≡ tag_number Try) ⊎ (tag ≡ tag_number Advance))

-- is given to the user: bytes, or an address
abbrev pub IsTagUp : ℕ → Type 0
IsTagUp tag = (tag ≡ tag_number Bytes) ⊎ (tag ≡ tag_number Address)

-- a message that goes down out of x
abbrev pub GoesDownOut : ℕ → Notice → Type 0
GoesDownOut x (event e) = ⊥
GoesDownOut x (message from tag rec a b bytes) = (from ≡ port_at x 1) × IsTagDown tag

-- an event that is no entry of x from outside, or a message to the user
abbrev pub StaysAbove : ℕ → Notice → Type 0
StaysAbove x (event e) = (g : GraphEvent) × (e ≡ flat g) × IsNoCall x g
StaysAbove x (message from tag rec a b bytes) = IsTagUp tag

-- nothing goes down, and x isn't entered from outside
abbrev pub SendsNone : ℕ → List Notice → Type 0
SendsNone x ns = AllByRecursion (StaysAbove x) ns

-- where anything goes down, the last of these events is that x is entered from above
abbrev pub EndsInEntry : ℕ → List GraphEvent → List Notice → Type 0
EndsInEntry x es [] = Unit {0}
EndsInEntry x es (d ∷ downs) = (outer : List GraphEvent) × (es ≡ outer ++ Entered (port_at x 0) Down ∷ [])

-- How they begin. Where x is entered from outside, that entry is the first event, and what goes down goes out of it. Where it
-- isn't, what goes down goes out of an entry from above.
abbrev pub LeadsDown : ℕ → Option GraphEvent → List GraphEvent → List Notice → Type 0
LeadsDown x (Some entry) es downs = es ≡ entry ∷ []
LeadsDown x None es downs = AllByRecursion (IsNoCall x) es × EndsInEntry x es downs

-- the notices of a call by which x is entered so from outside, or by which it isn't
pub record HasShape (x : ℕ) (entry : Option GraphEvent) (ns : List Notice) : Type 0 where
  pub first : List GraphEvent
  pub downs : List Notice
  pub back : List Notice
  pub all : ns ≡ map tells first ++ (downs ++ back)
  pub begins : LeadsDown x entry first downs
  pub go_down : AllByRecursion (GoesDownOut x) downs
  pub stay : SendsNone x back

-- so they are, or memory ran out
abbrev pub HasShapeOrFails : ℕ → Option GraphEvent → List Notice → Type 0
HasShapeOrFails x entry ns = HasShape x entry ns ⊎ (first_close ns ≡ Some no_memory)

-- The events of a call with that shape, which may be no others: those before what goes down and those after it are together its
-- run, and none of the latter is an entry of x from outside.
pub record RunsInOrder (may : GraphEvent → Type 0) (x : ℕ) (old new : Objects Obj) (first : List GraphEvent) (back : List Notice) : Type 0 where
  pub others : List GraphEvent
  pub are : events_part back ≡ map flat others
  pub run : GraphRunOf (run_state old.book []) (first ++ others) (run_state new.book [])
  pub within : AllByRecursion may (first ++ others)
  pub inner : AllByRecursion (IsNoCall x) others
