-- What came to an open, by the notices of the call: for this open of the machine it goes on, or has ended.
use Rattle.std.proofs.Common.{◌≡◌, true, false, List, [], ◌∷◌, ◌++◌, Some, None, unwrap_or, sym, subst}
use Rattle.nb_terms.specs.declared.cause.Cause.{Cause}
use Rattle.nb_defs.specs.Causes.{is_ok_cause}
use Rattle.nb_defs.specs.Records.{Out, ended}
use Rattle.nb_ledger.specs.Flat.{Heard, Notice}
use Rattle.nb_graph.specs.Deeds.{no_memory}
use Rattle.nb_graph.specs.Whole.{Objects}
use Rattle.nb_nodes.specs.declared.obj.Obj.{Obj}
use Rattle.nb_traced.specs.Plain.{without_graph}
use Rattle.nb_opens.specs.Notices.{first_close}
use Rattle.nb_stack.specs.Client.{Client}
use Rattle.nb_machine.specs.CommandRecords.{no_route}
use Rattle.nb_machine.specs.Kinds.{Keeps, fetched, granted, moved as place_moved, resolved}
use Rattle.nb_machine.specs.Lives.{Live, OpenInput}
use Rattle.nb_chains.specs.declared.chain.Chain.{Chain}
use Rattle.nb_chains.specs.Calls.{ClosesChain, IsOpenChain}
use Rattle.nb_chains.specs.declared.kind.ChainKind.{ChainKind}
use Rattle.nb_teller.specs.declared.speaker.Speaker.{Speaker}
use Rattle.nb_teller.specs.Deliveries.{delivered_address, delivered_answer, delivered_blocks, delivered_bytes}
use Rattle.nb_teller.specs.Tellings.{any_lacks_route, told_records}
use Rattle.nb_open.specs.declared.open.Open.{Open}
use Rattle.nb_open.specs.declared.objects.Brought.{Brought}
use Rattle.nb_open.specs.declared.objects.OpenObjects.TheVariants as objects
use Rattle.nb_open.specs.DriveAnswers.{AnswersFor, AnswersLast, found_bytes}
use Rattle.nb_open.specs.Exchanges.{IsLeaseMessage, with_exchange}
use Rattle.nb_open.specs.Objects.{AreObjectsChained, AreObjectsOpen, AreObjectsShut, ClosesObjects, HandsBrought}
use Rattle.nb_open.specs.Open.{IsOpenOf}
use Rattle.nb_open.proofs.Delivering.{AreEvents}
use Rattle.nb_open.proofs.DriveOrders.{HandsUp}
use Rattle.nb_open.proofs.Endings.{closed_events}
use Rattle.nb_open.proofs.Leaving.{AreOfTheirKinds, closing_told}
use Rattle.nb_open.proofs.Quiet.{AddsNothing, events_add}

-- the records of these notices but the graph's, and with ENDED
abbrev pub put_by : Open → Client → List Notice → List Out
put_by o link ns = without_graph (told_records link o.speaker ns)

abbrev pub last_by : Open → Live → Client → List Notice → Cause → List Out
last_by o l link ns cause = put_by o link ns ++ (ended l.number cause ∷ [])

-- an open on the objects of a chain
abbrev pub on_chain : Speaker → ChainKind → Chain → Open
on_chain who kind c = record { speaker = who; objects = objects.Chain kind c }

-- a chain sends nothing where the user closes it
pub chain_hushed : (link : Client) (who : Speaker) (c : Chain) (old new : Objects Obj) (m n : Heard) (cause : Cause) → IsOpenChain c old → (k : ClosesChain c old new cause m n) → AddsNothing link who k.ns
chain_hushed link who c old new m n cause is_open k = events_add link who k.ns (subst AreEvents (sym (k.are is_open)) (closed_events c.top.0 c.below cause))

-- nothing ends it but that a message found no route
pub record Goes (o : Open) (l : Live) (came : OpenInput) (link : Client) (new : Objects Obj) (ns : List Notice) : Type 0 where
  pub none : first_close ns ≡ None
  pub unshut : AreObjectsOpen o.objects new
  pub lives : any_lacks_route link o.speaker ns ≡ false → AreObjectsChained new o.objects → IsOpenOf new o (with_exchange l came link (put_by o link ns))
  pub stuck : any_lacks_route link o.speaker ns ≡ true → Keeps (with_exchange l came link (last_by o l link ns (no_route l.server)))
  pub silent : found_bytes o.objects (delivered_bytes ns) ≡ None
  pub answers : (any : Client) (put : List Out) → AnswersFor o.objects came l (with_exchange l came any put) (delivered_answer ns) (delivered_blocks ns)
  pub up : HandsUp o.objects ns
  -- where the user closes it then, that finds no route either
  pub kinds : AreOfTheirKinds o.objects new
  pub hushed : any_lacks_route link o.speaker ns ≡ true → (after : Objects Obj) (m n : Heard) (cause : Cause) (k : ClosesObjects o.objects new after cause m n) →
      AddsNothing link o.speaker (closing_told o.objects cause new after m n k)

-- what the objects brought is what the open has fetched, or the place to which it was moved
pub record Brings (o : Open) (l : Live) (new : Objects Obj) : Type 0 where
  pub body : (b : Brought) → HandsBrought o.objects new b → b.moved ≡ None → fetched l ≡ unwrap_or b.body []
  pub moved : (b : Brought) → HandsBrought o.objects new b → place_moved l ≡ b.moved

-- it has ended
pub record Overs (o : Open) (l : Live) (came : OpenInput) (link : Client) (new : Objects Obj) (ns : List Notice) (cause : Cause) : Type 0 where
  pub closes : first_close ns ≡ Some cause
  pub shut : AreObjectsShut o.objects new
  pub kept : Keeps (with_exchange l came link (last_by o l link ns cause))
  pub brings : is_ok_cause cause ≡ true → Brings o (with_exchange l came link (last_by o l link ns cause)) new
  pub bytes : granted (with_exchange l came link (last_by o l link ns cause)) ≡ found_bytes o.objects (delivered_bytes ns)
  pub address : resolved (with_exchange l came link (last_by o l link ns cause)) ≡ delivered_address ns
  pub message : IsLeaseMessage (found_bytes o.objects (delivered_bytes ns))
  pub answers : (any : Client) (put : List Out) → AnswersLast o.objects came l (with_exchange l came any put) (delivered_answer ns) (delivered_blocks ns)
  pub up : HandsUp o.objects ns

pub data Did (o : Open) (l : Live) (came : OpenInput) (link : Client) (new : Objects Obj) (ns : List Notice) : Type 0 where
  goes : Goes o l came link new ns → Did o l came link new ns
  overs : (cause : Cause) → Overs o l came link new ns cause → Did o l came link new ns
  fails : first_close ns ≡ Some no_memory → Did o l came link new ns
