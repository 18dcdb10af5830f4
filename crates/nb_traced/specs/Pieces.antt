-- What the records of the graph say in a call on the objects of an open: a run of the graph that names these alone, with what the open
-- sends within entries of its lowest object. Our own.
use Rattle.std.specs.Prelude.{◌≡◌, ℕ, ◌==◌, Bool, true, false, List, [], ◌∷◌, ◌++◌, map, Option, Some, None, if◌then◌else◌}
use Rattle.std.specs.List.{AllByRecursion}
use Rattle.nb_terms.specs.declared.cause.Cause.{Cause}
use Rattle.nb_defs.specs.Records.{Out, step, sent, text, command, result, script, opened, tried, advanced, ended, graph, part, done}
use Rattle.nb_ledger.specs.Flat.{flat}
use Rattle.nb_ledger.specs.declared.port.Port.{Port}
use Rattle.nb_ledger.specs.declared.event.Way.{Way}
use Rattle.nb_ledger.specs.declared.event.Way.TheVariants.{Up, Down, Close, Time}
use Rattle.nb_ledger.specs.declared.event.GraphEvent.{GraphEvent}
use Rattle.nb_ledger.specs.declared.event.GraphEvent.TheVariants.{Made, Held, LetGo, Plugged, Entered, Left, Dropped, Closed, Unplugged, Freed}
use Rattle.nb_ledger.specs.GraphRun.{GraphState, GraphRunOf}
use Rattle.nb_frames.specs.Frames.{is_one_of}
use Rattle.nb_frames.specs.Within.{IsEventWithin}
use Rattle.nb_traced.specs.Holdings.{GraphObject}

-- the records of these events
abbrev pub event_records : List GraphEvent → List Out
event_records es = map (λ e. graph (flat e)) es

-- a message that leaves, the count of tries of the open of this number, or the place to which it has come
abbrev pub IsOfOpen : ℕ → Out → Type 0
IsOfOpen k (sent bytes) = Unit {0}
IsOfOpen k (tried number count) = number ≡ k
IsOfOpen k (advanced number place) = number ≡ k
IsOfOpen k (graph happens) = ⊥
IsOfOpen k (opened number kind server port own target) = ⊥
IsOfOpen k (ended number cause) = ⊥
IsOfOpen k (step number) = ⊥
IsOfOpen k (text bytes) = ⊥
IsOfOpen k (command depth line place expanded words) = ⊥
IsOfOpen k (result cause) = ⊥
IsOfOpen k (script what depth cause) = ⊥
IsOfOpen k (part kind index offset bytes) = ⊥
IsOfOpen k (done status) = ⊥

-- a record of which an open's calls know nothing: neither the graph's, nor an open's, nor COMMAND
abbrev pub IsApart : Out → Type 0
IsApart (step number) = Unit {0}
IsApart (text bytes) = Unit {0}
IsApart (result cause) = Unit {0}
IsApart (script what depth cause) = Unit {0}
IsApart (part kind index offset bytes) = Unit {0}
IsApart (done status) = Unit {0}
IsApart (command depth line place expanded words) = ⊥
IsApart (sent bytes) = ⊥
IsApart (tried number count) = ⊥
IsApart (advanced number place) = ⊥
IsApart (graph happens) = ⊥
IsApart (opened number kind server port own target) = ⊥
IsApart (ended number cause) = ⊥

-- this event is no entry of x from outside, by a message from below or a time
abbrev pub IsInnerEvent : ℕ → GraphEvent → Type 0
IsInnerEvent x (Entered p Up) = p.obj.0 ≡ x → ⊥
IsInnerEvent x (Entered p Time) = p.obj.0 ≡ x → ⊥
IsInnerEvent x (Entered p Down) = Unit {0}
IsInnerEvent x (Entered p Close) = Unit {0}
IsInnerEvent x (Made y kind) = Unit {0}
IsInnerEvent x (Held y) = Unit {0}
IsInnerEvent x (LetGo y) = Unit {0}
IsInnerEvent x (Plugged p q) = Unit {0}
IsInnerEvent x (Left p) = Unit {0}
IsInnerEvent x (Dropped p) = Unit {0}
IsInnerEvent x (Closed p cause) = Unit {0}
IsInnerEvent x (Unplugged p q) = Unit {0}
IsInnerEvent x (Freed y) = Unit {0}

abbrev pub AreInner : ℕ → List GraphEvent → Type 0
AreInner x es = AllByRecursion (IsInnerEvent x) es

-- a message from below, or a time
abbrev pub IsOutsideWay : Way → Type 0
IsOutsideWay Up = Unit {0}
IsOutsideWay Time = Unit {0}
IsOutsideWay Down = ⊥
IsOutsideWay Close = ⊥

-- x is entered by this event
abbrev pub is_entry_of : ℕ → GraphEvent → Bool
is_entry_of x (Entered p way) = p.obj.0 == x
is_entry_of x (Made y kind) = false
is_entry_of x (Held y) = false
is_entry_of x (LetGo y) = false
is_entry_of x (Plugged p q) = false
is_entry_of x (Left p) = false
is_entry_of x (Dropped p) = false
is_entry_of x (Closed p cause) = false
is_entry_of x (Unplugged p q) = false
is_entry_of x (Freed y) = false

-- Some records, and the events among them. What open k puts stands directly after an event by which x is entered, or after another record that
-- it puts; `entered` says whether the first may.
pub data StandOnEntries (k x : ℕ) : Bool → List Out → List GraphEvent → Type 0 where
  none_more : (entered : Bool) → StandOnEntries k x entered [] []
  happens_then : (entered : Bool) (e : GraphEvent) (outs : List Out) (es : List GraphEvent) → StandOnEntries k x (is_entry_of x e) outs es →
      StandOnEntries k x entered (graph (flat e) ∷ outs) (e ∷ es)
  puts_then : (entered : Bool) (o : Out) (outs : List Out) (es : List GraphEvent) → entered ≡ true → IsOfOpen k o → StandOnEntries k x true outs es →
      StandOnEntries k x entered (o ∷ outs) es

-- x is entered so from outside by the first of these events, and by no other
pub record EntersFirst (x : ℕ) (way : Way) (es : List GraphEvent) : Type 0 where
  pub port : Port
  pub rest : List GraphEvent
  pub first : es ≡ Entered port way ∷ rest
  pub object : port.obj.0 ≡ x
  pub outside : IsOutsideWay way
  pub inner : AreInner x rest

-- these are the events of a call: by an entry of x from outside, or without one
abbrev pub BeginsBy : ℕ → Option Way → List GraphEvent → Type 0
BeginsBy x None es = AreInner x es
BeginsBy x (Some way) es = EntersFirst x way es

-- A call on objects of which x is the lowest, those of open k: these records lead the graph from one state to another.
pub record IsCallOn (k : ℕ) (ids : List ℕ) (x : ℕ) (by : Option Way) (records : List Out) (s t : GraphState) : Type 0 where
  pub events : List GraphEvent
  -- what it sends stands within an entry of x, as the innermost
  pub stand : StandOnEntries k x false records events
  pub run : GraphRunOf s events t
  pub within : AllByRecursion (IsEventWithin (is_one_of ids)) events
  -- no entry runs after it
  pub rests : t.stack ≡ []
  pub begins : BeginsBy x by events

-- the cause of a close of a port of one of these
abbrev pub close_cause : List ℕ → Out → Option Cause
close_cause ids (graph happens) = if happens.event == 8 then (if is_one_of ids happens.object then Some happens.cause else None) else None
close_cause ids (step number) = None
close_cause ids _ = None

abbrev pub first_or : Option Cause → Option Cause → Option Cause
first_or None b = b
first_or (Some c) b = Some c

-- that of the first close of a port of these objects
abbrev pub first_close_of : List ℕ → List Out → Option Cause
first_close_of ids [] = None
first_close_of ids (o ∷ outs) = first_or (close_cause ids o) (first_close_of ids outs)

-- an event by which an object is made, held or plugged, and which objects these make
abbrev pub IsMaking : GraphEvent → Type 0
IsMaking (Made x kind) = Unit {0}
IsMaking (Held x) = Unit {0}
IsMaking (Plugged p q) = Unit {0}
IsMaking (LetGo x) = ⊥
IsMaking (Entered p way) = ⊥
IsMaking (Left p) = ⊥
IsMaking (Dropped p) = ⊥
IsMaking (Closed p cause) = ⊥
IsMaking (Unplugged p q) = ⊥
IsMaking (Freed x) = ⊥

abbrev pub made_by : GraphEvent → List GraphObject
made_by (Made x kind) = record { serial = x.0; kind = kind } ∷ []
made_by (Held x) = []
made_by (Plugged p q) = []
made_by (LetGo x) = []
made_by (Entered p way) = []
made_by (Left p) = []
made_by (Dropped p) = []
made_by (Closed p cause) = []
made_by (Unplugged p q) = []
made_by (Freed x) = []

abbrev pub pieces_made : List GraphEvent → List GraphObject
pieces_made [] = []
pieces_made (e ∷ es) = made_by e ++ pieces_made es

-- none of these lives
abbrev pub AreGone : List ℕ → GraphState → Type 0
AreGone ids s = (x : ℕ) → is_one_of ids x ≡ true → s.live x ≡ false
