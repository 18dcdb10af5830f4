-- All that lives is closed, one after another: with the device, or with the run.
use Rattle.std.specs.Prelude.{◌≡◌, ℕ, List, []}
use Rattle.nb_terms.specs.declared.cause.Cause.{Cause}
use Rattle.nb_defs.specs.Records.{Out, out_texts}
use Rattle.nb_ledger.specs.declared.event.GraphEvent.{GraphEvent}
use Rattle.nb_traced.specs.Plain.{without_graph}
use Rattle.nb_record.specs.Logged.{Logged, Puts}
use Rattle.nb_stack.specs.Client.{Client}
use Rattle.nb_machine.specs.Lives.{close}
use Rattle.nb_machine.specs.States.{State}
use Rattle.nb_machine.specs.Takings.{AllTake, Over}
use Rattle.nb_chains.specs.declared.chain.Chain.{Chain}
use Rattle.nb_chains.specs.declared.kind.ChainKind.{ChainKind}
use Rattle.nb_traced.specs.Holdings.{Holdings, GraphObject}
use Rattle.nb_traced.specs.Outputs.{Arrived, Traced}
use Rattle.nb_traced.specs.Pieces.{event_records}
use Rattle.nb_open.specs.Open.{pieces_of}
use Rattle.nb_network.specs.Many.{FitsHoldings, IsStateOf, Many}
use Rattle.nb_network.specs.Takes.{ClosesFirst, TracesOn}

abbrev pub closes_with : State → Cause → List Out → Type 0
closes_with s cause put = (overs : List Over) × AllTake s.devices (close cause) s.live put [] overs

-- Each open is closed with this cause, and none lives afterwards; `first` waits before, and `left` after.
pub record ClosesMany (m : Many) (net : Client) (now opens : ℕ) (cause : Cause) (first left : List GraphObject) (m' : Many) (old new : Logged) : Type 0 where
  pub records : List Out
  pub puts : Puts old new (out_texts records)
  pub none : m'.list ≡ []
  pub closes_first : (m.list ≡ [] → ⊥) → ClosesFirst cause records
  pub closes : (s : State) → IsStateOf m net now s → closes_with s cause (without_graph records)
  pub traces : (outs : List Out) (h : Holdings) (so_far : List Arrived) → Traced outs h so_far → FitsHoldings m opens first h → TracesOn m opens first records [] m' opens left outs h so_far

-- What waits is let go, as no open comes of it.
pub record GivesUpWaiting (kind : ChainKind) (c : Chain) (m : Many) (opens : ℕ) (m' : Many) (text : List ℕ) : Type 0 where
  pub events : List GraphEvent
  pub text_is : text ≡ out_texts (event_records events)
  pub same_list : m'.list ≡ m.list
  pub state : (net : Client) (now : ℕ) (s : State) → IsStateOf m net now s → IsStateOf m' net now s
  pub traces : (outs : List Out) (h : Holdings) (so_far : List Arrived) → Traced outs h so_far → FitsHoldings m opens (pieces_of kind c) h →
      TracesOn m opens (pieces_of kind c) (event_records events) [] m' opens [] outs h so_far
