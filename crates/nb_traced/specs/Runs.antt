-- What the records of the graph in an output say of the graph alone: that they are a legal run. Our own.
use Rattle.std.specs.Prelude.{◌≡◌, List, [], ◌∷◌, ◌++◌, map}
use Rattle.nb_terms.specs.declared.event.Event.{Event}
use Rattle.nb_defs.specs.Records.{Out, step, graph}
use Rattle.nb_ledger.specs.Flat.{flat}
use Rattle.nb_ledger.specs.declared.event.GraphEvent.{GraphEvent}
use Rattle.nb_ledger.specs.GraphRun.{GraphState, GraphRunOf}
use Rattle.nb_traced.specs.Holdings.{no_state}

-- what a record says of the graph
abbrev pub event_in : Out → List Event
event_in (graph happens) = happens ∷ []
event_in (step number) = []
event_in _ = []

-- the events of the graph in an output, in order
abbrev pub events_in : List Out → List Event
events_in [] = []
events_in (o ∷ outs) = event_in o ++ events_in outs

-- The events of these records are a legal run of the graph, which leads from one state to another.
pub record LeadsBy (s : GraphState) (outs : List Out) (t : GraphState) : Type 0 where
  pub events : List GraphEvent
  pub are : map flat events ≡ events_in outs
  pub run : GraphRunOf s events t

-- those of an output lead the graph, from where no object was made, to this state
abbrev pub HasLedTo : List Out → GraphState → Type 0
HasLedTo outs t = LeadsBy no_state outs t
