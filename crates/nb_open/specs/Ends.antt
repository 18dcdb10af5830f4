-- The user ends an open: with its device, or with the run, where objects that wait may end beside it.
use Rattle.std.specs.Prelude.{◌≡◌, ℕ, ◌+◌, false, true, List, [], ◌∷◌, ◌++◌, length, Option, Some, None}
use Rattle.nb_terms.specs.declared.cause.Cause.{Cause}
use Rattle.nb_defs.specs.Records.{Out, ended, graph, out_texts}
use Rattle.nb_ledger.specs.Flat.{Heard, flat}
use Rattle.nb_ledger.specs.GraphRun.{GraphRunOf}
use Rattle.nb_ledger.specs.Ledger.{object_lives, run_state}
use Rattle.nb_ledger.specs.declared.event.GraphEvent.{GraphEvent}
use Rattle.nb_ledger.specs.declared.event.GraphEvent.TheVariants.{Closed}
use Rattle.nb_ledger.specs.declared.port.Port.{Port}
use Rattle.nb_graph.specs.Whole.{Objects}
use Rattle.nb_nodes.specs.declared.obj.Obj.{Obj}
use Rattle.nb_frames.specs.Frames.{KeepsOthers, is_one_of}
use Rattle.nb_frames.specs.Within.{IsEventWithin}
use Rattle.nb_traced.specs.Plain.{without_graph}
use Rattle.nb_stack.specs.Client.{Client}
use Rattle.nb_machine.specs.Lives.{close, Live, exchange, continued}
use Rattle.nb_traced.specs.Holdings.{serials}
use Rattle.nb_traced.specs.Outputs.{CallsOpen, ShutsOpen, own_serials}
use Rattle.nb_traced.specs.Pieces.{AreInner, event_records, first_close_of}
use Rattle.nb_chains.specs.declared.chain.Chain.{Chain}
use Rattle.nb_chains.specs.declared.kind.ChainKind.{ChainKind}
use Rattle.nb_chains.specs.Calls.{ShutsChain, ShutsChainBeside}
use Rattle.nb_chains.specs.Chains.{AreOthers, IsReleased, chain_ids}
use Rattle.nb_teller.specs.Spelling.{Spelling}
use Rattle.nb_open.specs.declared.open.Open.{Open}
use Rattle.nb_machine.specs.Kinds.{Keeps}
use Rattle.nb_machine.specs.Takings.{end_among}
use Rattle.nb_webchains.specs.WebCalls.{ShutsWeb}
use Rattle.nb_drivechains.specs.DriveChains.{three_of}
use Rattle.nb_open.specs.declared.objects.OpenObjects.{OpenObjects}
use Rattle.nb_open.specs.declared.objects.OpenObjects.TheVariants as objects
use Rattle.nb_open.specs.Objects.{AreObjectsReleased, objects_ids}
use Rattle.nb_open.specs.Open.{IsOpenOf, kin_of_open, pieces_of}
use Rattle.nb_open.specs.Begins.{count_waiting, waiting_pieces}
use Rattle.std.specs.List.{AllByRecursion}

-- at a close from above an open puts what its connection says then, if it has one, and its end
abbrev pub closed_open : Live → Cause → Client → List Out → Live
closed_open l cause link put = continued l (exchange (close cause) link (put ++ (ended l.number cause ∷ [])))

-- The user closes it with this cause, and its objects are let go: for whatever it has received.
pub record ClosesOpen (o : Open) (cause : Cause) (link : Client) (old new : Objects Obj) (s : Spelling) : Type 0 where
  pub records : List Out
  pub text : s.text ≡ out_texts records
  pub keeps : (l : Live) → IsOpenOf old o l → Keeps (closed_open l cause link (without_graph records))
  pub its_end : (k : ℕ) → end_among k (without_graph records ++ (ended k cause ∷ [])) ≡ Some cause
  -- the first record is the graph's, of a port that is closed with this cause
  pub closes_first : (p : Port) × (rest : List Out) × (records ≡ graph (flat (Closed p cause)) ∷ rest)
  pub released : AreObjectsReleased o.objects old new
  pub call : CallsOpen (kin_of_open o) None records (run_state old.book []) (run_state new.book [])
  pub close : first_close_of (own_serials (kin_of_open o)) records ≡ Some cause

abbrev pub chain_ids_of : Option Chain → List ℕ
chain_ids_of None = []
chain_ids_of (Some c) = chain_ids c

-- what waits is none of these objects
abbrev pub WaitsApart : Option Chain → OpenObjects → Type 0
WaitsApart None o = Unit {0}
WaitsApart (Some w) o = AreOthers (objects_ids o) (chain_ids w)

-- what waits does so beside the look-up of a name, so never beside an open on a connection
abbrev pub MayWaitBeside : Option Chain → OpenObjects → Type 0
MayWaitBeside waits (objects.Chain kind chain) = Unit {0}
MayWaitBeside waits (objects.Web port own chain) = waits ≡ None
MayWaitBeside waits (objects.Drive port own chain) = waits ≡ None

abbrev pub ShutsChainOr : Option Chain → Chain → Objects Obj → Objects Obj → Cause → Heard → Heard → Type 0
ShutsChainOr None c old new cause before after = ShutsChain c old new cause before after
ShutsChainOr (Some w) c old new cause before after = ShutsChainBeside c w old new cause before after

-- its objects end with the run, and those of what waits
abbrev pub ShutsOr : Option Chain → OpenObjects → Objects Obj → Objects Obj → Cause → Heard → Heard → Type 0
ShutsOr waits (objects.Chain kind chain) old new cause before after = ShutsChainOr waits chain old new cause before after
ShutsOr waits (objects.Web port own chain) old new cause before after = ShutsWeb chain old new cause before after
ShutsOr waits (objects.Drive port own chain) old new cause before after = ShutsWeb (three_of chain) old new cause before after

-- The run ends: all ports of its objects are closed, first those of what waits, and all are let go.
pub record ShutsWith (kind : ChainKind) (o : Open) (waits : Option Chain) (cause : Cause) (link : Client) (old new : Objects Obj) (s : Spelling) : Type 0 where
  pub records : List Out
  pub text : s.text ≡ out_texts records
  pub keeps : (l : Live) → IsOpenOf old o l → Keeps (closed_open l cause link (without_graph records))
  pub its_end : (k : ℕ) → end_among k (without_graph records ++ (ended k cause ∷ [])) ≡ Some cause
  -- the first record is the graph's, of a port that is closed with this cause
  pub closes_first : (p : Port) × (rest : List Out) × (records ≡ graph (flat (Closed p cause)) ∷ rest)
  pub call : ShutsOpen (kin_of_open o) (waiting_pieces kind waits) records (run_state old.book []) (run_state new.book [])
  pub close : first_close_of (own_serials (kin_of_open o)) records ≡ Some cause
  pub gone : (x : ℕ) → is_one_of (objects_ids o.objects ++ chain_ids_of waits) x ≡ true → object_lives new.book x ≡ false
  pub others : KeepsOthers (is_one_of (objects_ids o.objects ++ chain_ids_of waits)) old new
  pub number : length new.book.objects + (length (objects_ids o.objects) + count_waiting waits) ≡ length old.book.objects
  pub same_room : new.book.room ≡ old.book.room

-- What waits is let go, as no open comes of it.
pub record GivesUp (kind : ChainKind) (waits : Chain) (old new : Objects Obj) (s : Spelling) : Type 0 where
  pub events : List GraphEvent
  pub text : s.text ≡ out_texts (event_records events)
  pub run : GraphRunOf (run_state old.book []) events (run_state new.book [])
  pub within : AllByRecursion (IsEventWithin (is_one_of (serials (pieces_of kind waits)))) events
  pub inner : (x : ℕ) → AreInner x events
  pub released : IsReleased waits old new
