-- One more open begins beside those that live, or has ended at once.
use Rattle.std.specs.Prelude.{◌≡◌, ℕ, ◌+◌, List, [], ◌∷◌, ◌++◌, Option, Some, None}
use Rattle.nb_terms.specs.declared.cause.Cause.{Cause}
use Rattle.nb_defs.specs.Records.{Out, out_texts}
use Rattle.nb_ledger.specs.declared.event.GraphEvent.{GraphEvent}
use Rattle.nb_traced.specs.Plain.{without_graph}
use Rattle.nb_stack.specs.Client.{Client}
use Rattle.nb_machine.specs.CommandRecords.{no_route}
use Rattle.nb_machine.specs.Kinds.{first_records}
use Rattle.nb_machine.specs.Lives.{Live, kind_number, open_record, end_record}
use Rattle.nb_machine.specs.States.{State, with_live}
use Rattle.nb_traced.specs.Holdings.{Holdings, GraphObject}
use Rattle.nb_traced.specs.Outputs.{Arrived, MayWaitOn, Traced}
use Rattle.nb_traced.specs.Pieces.{event_records}
use Rattle.nb_stack.specs.Bound.{with_port}
use Rattle.nb_stack.specs.declared.address.Addr.{Addr}
use Rattle.nb_teller.specs.Speakers.{carrier_number}
use Rattle.nb_network.specs.declared.living.Living.{Living}
use Rattle.nb_open.specs.declared.opening.Opening.{Opening}
use Rattle.nb_open.specs.declared.opening.Opening.TheVariants.{File, Web, Drive, Name, Lease, Echo}
use Rattle.nb_open.specs.Opening.{kind_by, live_by}
use Rattle.nb_network.specs.Many.{FitsHoldings, HasTiedOnlyOf, HasNoneTied, IsStateOf, Many}
use Rattle.nb_network.specs.Takes.{TracesOn}

-- with the port of this open bound for it
abbrev pub bound_for : Client → Living → Client
bound_for net o = record net { ports = with_port (carrier_number o.speaker.carrier) o.speaker.own_port o.speaker.number net.ports }

-- a connection is asked for from the client's address, where it has one
abbrev pub AsksFrom : Option Addr → Opening → Type 0
AsksFrom address (File a) = Unit {0}
AsksFrom address (Web w) = (a : Addr) → address ≡ Some a → a.ip ≡ w.ask.conn.own
AsksFrom address (Drive d) = (a : Addr) → address ≡ Some a → a.ip ≡ d.ask.conn.own
AsksFrom address (Name a) = Unit {0}
AsksFrom address (Lease a) = Unit {0}
AsksFrom address (Echo a) = Unit {0}

-- it lives from now on, with its port, unless it has ended
abbrev pub EntersBy : Option Cause → Living → List Living → Client → List Living → Client → Type 0
EntersBy None o list net list' net' = (list' ≡ list ++ o ∷ []) × (net' ≡ bound_for net o)
EntersBy (Some cause) o list net list' net' = (list' ≡ list) × (net' ≡ net)

-- with one more open, which lives
abbrev pub with_one_more : State → Live → State
with_one_more s l = with_live s (s.live ++ l ∷ [])

-- its first message has left; or there was no way, and it has ended
abbrev pub BegunBy : Option Cause → Many → Client → ℕ → Live → List Out → State → Type 0
BegunBy None m' net' now l put s = IsStateOf m' net' now (with_one_more s l)
BegunBy (Some cause) m' net' now l put s = IsStateOf m' net' now s

abbrev pub FirstBy : Option Cause → Live → Client → List Out → Type 0
FirstBy None l link put = first_records l.kind l link ≡ Some put
FirstBy (Some cause) l link put = (first_records l.kind l link ≡ None) × (put ≡ []) × (cause ≡ no_route l.server)

-- what is put: the events of the making, OPEN, what the open tells, and its end
abbrev pub end_of_begun : Option Cause → Live → List Out
end_of_begun None l = []
end_of_begun (Some cause) l = end_record l cause ∷ []

abbrev pub begun_records : List GraphEvent → Live → List Out → Option Cause → List Out
begun_records made l told ended = event_records made ++ (open_record l ∷ (told ++ end_of_begun ended l))

-- the number of an open that has begun, if it goes on
abbrev pub number_by : Option Cause → ℕ → Option ℕ
number_by None number = Some number
number_by (Some cause) number = None

-- An open of this number begins, of which `first` waited; `left` waits afterwards.
pub record OpensOne (m : Many) (net : Client) (now opens : ℕ) (a : Opening) (first left : List GraphObject) (m' : Many) (net' : Client) (ended : Option Cause) (made_text told_text : List ℕ) : Type 0 where
  pub made : List GraphEvent
  pub told : List Out
  pub made_is : made_text ≡ out_texts (event_records made)
  pub told_is : told_text ≡ out_texts told
  pub first_put : FirstBy ended (live_by a opens now) net (without_graph told)
  pub state : (s : State) → IsStateOf m net now s → BegunBy ended m' net' now (live_by a opens now) (without_graph told) s
  pub tied : HasNoneTied m → HasTiedOnlyOf (number_by ended opens) m'
  pub traces : (outs : List Out) (h : Holdings) (so_far : List Arrived) → Traced outs h so_far → FitsHoldings m opens first h → MayWaitOn (kind_number (kind_by a)) left →
      TracesOn m opens first (begun_records made (live_by a opens now) told ended) [] m' (opens + 1) left outs h so_far
