-- What happens in a call, in order: the events, and between them the calls of nodes. Our own.
use Rattle.std.specs.Prelude.{◌≡◌, ℕ, ◌==◌, Bool, true, false, List, [], ◌∷◌, ◌++◌, Option, Some, None, if◌then◌else◌}
use Rattle.nb_terms.specs.declared.cause.Cause.{Cause}
use Rattle.nb_ledger.specs.declared.port.Port.{Port}
use Rattle.nb_ledger.specs.declared.port.ObjId.{ObjId}
use Rattle.nb_ledger.specs.declared.event.Way.{Way}
use Rattle.nb_ledger.specs.declared.event.Way.TheVariants as way
use Rattle.nb_ledger.specs.declared.event.GraphEvent.{GraphEvent}
use Rattle.nb_ledger.specs.Flat.{Notice, flat, event, message}
use Rattle.nb_effects.specs.declared.effects.Fx.{Fx}
use Rattle.nb_effects.specs.declared.effects.Make.{Make}
use Rattle.nb_effects.specs.declared.effects.Emit.{Emit}
use Rattle.nb_effects.specs.declared.effects.Few.{Few}
use Rattle.nb_effects.specs.Whole.{port_at}
use Rattle.nb_effects.specs.Trace.{Nature, Said, NodeEntry, carries, in_list, lent, left}

-- What is asked for turns into something else, and no event tells of it: a message arrives at the other end of its
-- link, or goes out by an open port without one; time comes to a dead object; a port to be closed is closed already; a make
-- finds no place; the end of a graph comes to an object, or is reached.
pub data Turn : Type 0 where
  is_shut : (at : Port) → Turn
  is_full : (at : Port) → Turn
  comes_to : (object : ℕ) → Turn
  is_reached : Turn
  is_dead : (object : ℕ) → Turn
  arrives : (at to : Port) → Turn
  goes_out : (at : Port) (msg : Said) → Turn
  stays : (object : ℕ) → Turn
  lets_go : (object : ObjId) → Turn
  none_held : Turn

-- an event is written, or an object that was made begins with its node, or the node of an object is called, or has a
-- load back, or something turns
pub data Deed (N L : Type 0) : Type 0 where
  writes : (event : GraphEvent) → Deed N L
  begins : (object : ℕ) (node : N) → Deed N L
  calls : (object : ℕ) (entry : NodeEntry N L) → Deed N L
  turns : (turn : Turn) → Deed N L

-- the events alone
abbrev pub events_of : {N L : Type 0} → List (Deed N L) → List GraphEvent
events_of [] = []
events_of (writes e ∷ ds) = e ∷ events_of ds
events_of (begins x n ∷ ds) = events_of ds
events_of (calls x i ∷ ds) = events_of ds
events_of (turns u ∷ ds) = events_of ds

-- what an outside is told where something turns, and of all that happens
abbrev pub notice_of : Turn → List Notice
notice_of (is_shut p) = []
notice_of (is_full p) = []
notice_of (comes_to x) = []
notice_of is_reached = []
notice_of (is_dead x) = []
notice_of (arrives p q) = []
notice_of (stays x) = []
notice_of (lets_go x) = []
notice_of none_held = []
notice_of (goes_out p m) = message p m.tag m.rec m.a m.b m.bytes ∷ []

abbrev pub told_of : {N L : Type 0} → List (Deed N L) → List Notice
told_of [] = []
told_of (writes e ∷ ds) = event (flat e) ∷ told_of ds
told_of (begins x n ∷ ds) = told_of ds
told_of (calls x i ∷ ds) = told_of ds
told_of (turns u ∷ ds) = notice_of u ++ told_of ds

-- the trace t of the object x, continued by what happens; it is empty where the object begins
abbrev pub trace_after : {N L : Type 0} → ℕ → List (NodeEntry N L) → List (Deed N L) → List (NodeEntry N L)
trace_after x t [] = t
trace_after x t (writes e ∷ ds) = trace_after x t ds
trace_after x t (begins y n ∷ ds) = trace_after x (if x == y then [] else t) ds
trace_after x t (calls y i ∷ ds) = trace_after x (if x == y then t ++ i ∷ [] else t) ds
trace_after x t (turns u ∷ ds) = trace_after x t ds

-- What is to be done, innermost first: a port was closed by its peer; its object was entered, and its node has to
-- hear of it; or an entry runs, and this message, or what is left of it, is still to be given to its node.
-- Above an entry stands what is still to run of it.
pub data Stage (N L : Type 0) : Type 0 where
  Shut : (at : Port) (cause : Cause) → Stage N L
  MustHear : (at : Port) (cause : Cause) → Stage N L
  Holds : (at : Port) (by : Way) (msg : Option Said) → Stage N L
  Makes : (at : Port) (node : N) → Stage N L
  MustMake : (object : ObjId) (node : N) → Stage N L
  MustBegin : (object : ℕ) (node : N) → Stage N L
  MustPlug : (upper lower : Port) → Stage N L
  Closes : (at : Port) (cause : Cause) → Stage N L
  MustShut : (at : Port) (cause : Cause) → Stage N L
  Ends : (after : ℕ) (cause : Cause) → Stage N L
  Sends : (at : Port) (msg : Said) → Stage N L
  Gives : (at : Port) (msg : Said) → Stage N L
  Offers : (at : Port) (msg : Said) → Stage N L
  Ticks : (object : ℕ) → Stage N L
  Returns : (object : ℕ) (load : L) → Stage N L
  Wants : (event : GraphEvent) → Stage N L
  MustUnplug : (first other : Port) → Stage N L
  Settles : (object : ℕ) → Stage N L
  LetsAllGo : Stage N L

-- closes of ports of x
abbrev pub closes_of : {N L : Type 0} → ℕ → List (ℕ × Cause) → List (Stage N L)
closes_of x [] = []
closes_of x (c ∷ cs) = Closes (port_at x c.0) c.1 ∷ closes_of x cs

-- of all ports of x, slot 0 first
abbrev pub all_closes : {N L : Type 0} → ℕ → Cause → List (Stage N L)
all_closes x cause = Closes (port_at x 0) cause ∷ Closes (port_at x 1) cause ∷ Closes (port_at x 2) cause ∷ Closes (port_at x 3) cause ∷ []

-- the causes where memory runs out, and where a make finds no place
abbrev pub no_memory : Cause
no_memory = record { code = 23; a = 0; b = 0 }

abbrev pub no_place : Cause
no_place = record { code = 8; a = 1; b = 0 }

-- an object is made, with the node that was asked for
abbrev pub makes_of : {N L : Type 0} → ℕ → Option (Make N) → List (Stage N L)
makes_of x None = []
makes_of x (Some m) = Makes (port_at x m.slot) m.node ∷ []

-- loads come back to x
abbrev pub returns_of : {N L : Type 0} → ℕ → List L → List (Stage N L)
returns_of x [] = []
returns_of x (l ∷ ls) = Returns x l ∷ returns_of x ls

-- the message that an entry with the message m asks for: it keeps the record
abbrev pub said_of : {N L : Type 0} → Nature N L → Said → Emit L → Said
said_of known m e = record { tag = e.tag; rec = m.rec; a = e.a; b = e.b; bytes = carries known m.bytes e.from e.to e.load }

-- a message leaves, and its load comes back before anything else
abbrev pub emit_of : {N L : Type 0} → Nature N L → ℕ → Said → Option (Emit L) → List (Stage N L)
emit_of known x m None = []
emit_of known x m (Some e) = Sends (port_at x e.slot) (said_of known m e) ∷ returns_of x (in_list e.load)

abbrev pub few_of : {N L : Type 0} → Nature N L → ℕ → Said → Few (Emit L) → List (Stage N L)
few_of known x m f = emit_of known x m f.first ++ emit_of known x m f.second

-- What is to run of an entry of x with the message m: its makes, downs, ups and closes. Where memory ran out, its loads
-- come back and all ports of x are closed.
abbrev pub runs_of : {N L : Type 0} → Nature N L → ℕ → Said → Bool → Fx N L → List (Stage N L)
runs_of known x m true fx = makes_of x fx.makes ++ (few_of known x m fx.downs ++ (few_of known x m fx.ups ++ closes_of x fx.closes.items))
runs_of known x m false fx = returns_of x (lent fx) ++ all_closes x no_memory

-- An object is freed after its entry, if that was the last of its count. One that was entered by a close still has its
-- link.
abbrev pub settles_by : {N L : Type 0} → Way → ℕ → List (Stage N L)
settles_by way.Up x = Settles x ∷ []
settles_by way.Down x = Settles x ∷ []
settles_by way.Time x = Settles x ∷ []
settles_by way.Close x = []

-- what is left of a message after an entry from below
abbrev pub rest : {N L : Type 0} → Said → Bool → Fx N L → Option Said
rest m true fx = left fx.took m
rest m false fx = None

-- the first that happens is that the node of x is called, and answers this entry
abbrev pub Calls : {N L : Type 0} → ℕ → (Bool → Fx N L → NodeEntry N L) → List (Deed N L) → Type 0
Calls {N} {L} x entry ds = (done : Bool) × (fx : Fx N L) × (more : List (Deed N L)) × (ds ≡ calls x (entry done fx) ∷ more)

-- the first that happens is this event, and then that call
abbrev pub Hands : {N L : Type 0} → GraphEvent → ℕ → (Bool → Fx N L → NodeEntry N L) → List (Deed N L) → Type 0
Hands {N} {L} e x entry ds = (done : Bool) × (fx : Fx N L) × (more : List (Deed N L)) × (ds ≡ writes e ∷ calls x (entry done fx) ∷ more)
