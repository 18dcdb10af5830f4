-- What each call does to a chain, for whatever may be under way, and what the outside is given: one list of notices, of which
-- all is said. What an open's objects do is said of the graph of these objects alone. Our own.
use Rattle.std.specs.Prelude.{◌≡◌, ◌+◌, ℕ, true, false, List, ◌++◌, length, Option, Some, None}
use Rattle.nb_terms.specs.declared.cause.Cause.{Cause}
use Rattle.nb_ledger.specs.declared.event.GraphEvent.TheVariants.{Entered}
use Rattle.nb_ledger.specs.declared.event.Way.{Way}
use Rattle.nb_ledger.specs.declared.event.Way.TheVariants as way
use Rattle.nb_ledger.specs.declared.port.ObjId.{ObjId}
use Rattle.nb_ledger.specs.declared.port.Port.{Port}
use Rattle.nb_ledger.specs.Flat.{Heard, Notice}
use Rattle.nb_ledger.specs.Ledger.{object_lives}
use Rattle.nb_frames.specs.Frames.{KeepsOthers, is_one_of}
use Rattle.nb_frames.specs.Within.{IsEventWithin}
use Rattle.nb_dhcp.specs.declared.asker.Asker.{Asker}
use Rattle.nb_dns.specs.Lookups.{Lookup}
use Rattle.nb_graph.specs.Deeds.{no_memory}
use Rattle.nb_graph.specs.Trace.{Said}
use Rattle.nb_graph.specs.Whole.{Objects, port_at}
use Rattle.nb_nodes.specs.declared.obj.Obj.{Obj}
use Rattle.nb_nodes.specs.Asking.{AskValue, ask_in, begun_with}
use Rattle.nb_nodes.specs.EchoExchanges.{ping_service}
use Rattle.nb_nodes.specs.Exchanges.{Service}
use Rattle.nb_nodes.specs.LeaseExchanges.{lease_service}
use Rattle.nb_nodes.specs.LookupExchanges.{lookup_service}
use Rattle.nb_nodes.specs.declared.tag.Tag.TheVariants.{Datagram}
use Rattle.nb_nodes.specs.Tags.{tag_number}
use Rattle.nb_opens.specs.AloneNotices.{all_closed, alone_closed, alone_freed, alone_shut}
use Rattle.nb_opens.specs.Alones.{Begins, IsOpenLone, IsUnasked, IsShutLone, ReceivesEach, Talks, TicksEach}
use Rattle.nb_opens.specs.Notices.{closed_notices, first_close, shut_notices}
use Rattle.nb_opens.specs.Pairs.{AreGoing, AreMade, BeginDoes, CallDoes, Downloads, HasHandedOut, IsDownloading}
use Rattle.nb_ping.specs.Pings.{Pinged}
use Rattle.nb_tftp.specs.Asks.{Begun}
use Rattle.nb_tftp.specs.History.{Call, Entry}
use Rattle.nb_chains.specs.declared.arrival.Arrival.{Arrival}
use Rattle.nb_chains.specs.declared.chain.Chain.{Chain}
use Rattle.nb_chains.specs.declared.kind.ChainKind.{ChainKind}
use Rattle.nb_chains.specs.declared.kind.ChainKind.TheVariants.{File, Name, Lease, Echo, Drive}
use Rattle.nb_chains.specs.Chains.{IsReadyChain, IsReleased, IsShutChain, chain_ids, last_serial, own_graph, released_notices}
use Rattle.nb_chains.specs.Ends.{HasNoLinks, first_close_among, free_notices}
use Rattle.nb_chains.specs.Giving.{CallGives, ChainGives}
use Rattle.nb_chains.specs.Kinds.{top_mark}
use Rattle.nb_chains.specs.Shapes.{HasShapeOrFails, SendsNone}

-- WHAT IS UNDER WAY

-- an exchange of this kind is under way
abbrev pub IsTalking : {S B C : Type 0} → Service S B C → ℕ → Objects Obj → ℕ → Type 0
IsTalking {S} {B} {C} s kind g x = (b : B) × (start : ℕ) × (calls : List C) × Talks s kind g x b start calls

-- an open of this kind is under way; a drive that is has objects that are no chain
abbrev pub IsChainUnderWay : ChainKind → Chain → Objects Obj → Type 0
IsChainUnderWay File c g = (t : ObjId) × (c.below ≡ Some t) × IsDownloading (own_graph c g) c.top.0 t.0
IsChainUnderWay Name c g = (c.below ≡ None) × IsTalking lookup_service (top_mark Name) (own_graph c g) c.top.0
IsChainUnderWay Lease c g = (c.below ≡ None) × IsTalking lease_service (top_mark Lease) (own_graph c g) c.top.0
IsChainUnderWay Echo c g = (c.below ≡ None) × IsTalking ping_service (top_mark Echo) (own_graph c g) c.top.0
IsChainUnderWay Drive c g = ⊥

-- What has come of a call: nothing was closed, and the open is under way; or its ports are closed, with the cause of the first
-- close; or memory ran out.
pub data ComesOf (kind : ChainKind) (c : Chain) (g : Objects Obj) (ns : List Notice) : Type 0 where
  stays_under_way : first_close ns ≡ None → IsChainUnderWay kind c g → ComesOf kind c g ns
  has_closed : (cause : Cause) → first_close ns ≡ Some cause → IsShutChain c g → ComesOf kind c g ns
  has_failed : first_close ns ≡ Some no_memory → ComesOf kind c g ns

-- THE USER BEGINS

-- of two: what a transfer asks at first leaves, or memory runs out
abbrev pub BeginsTwo : Chain → Objects Obj → Objects Obj → List ℕ → ℕ → ℕ → List Notice → Type 0
BeginsTwo c old new bytes now rec ns =
    (t : ObjId) (a : AskValue) → c.below ≡ Some t → AreMade (own_graph c old) c.top.0 t.0 → ask_in bytes ≡ Some a
    → BeginDoes (own_graph c new) c.top.0 t.0 (begun_with a) now rec ns

-- the same of one that asks by itself
abbrev pub BeginsOne : {S B C : Type 0} → Service S B C → ℕ → Chain → Objects Obj → Objects Obj → List ℕ → ℕ → ℕ → List Notice → Type 0
BeginsOne {S} {B} {C} s kind c old new bytes now rec ns =
    (b : B) → s.asked bytes ≡ Some b → IsUnasked (own_graph c old) c.top.0 kind → Begins s kind (own_graph c new) c.top.0 b now rec ns

-- the bytes ask for what such an open does
abbrev pub IsAsk : ChainKind → List ℕ → Type 0
IsAsk File bytes = (a : AskValue) × (ask_in bytes ≡ Some a)
IsAsk Name bytes = (b : Lookup) × (lookup_service.asked bytes ≡ Some b)
IsAsk Lease bytes = (b : Asker) × (lease_service.asked bytes ≡ Some b)
IsAsk Echo bytes = (b : Pinged) × (ping_service.asked bytes ≡ Some b)
IsAsk Drive bytes = ⊥

-- The user begins the open by these bytes.
pub record BeginsChain (c : Chain) (old new : Objects Obj) (bytes : List ℕ) (now rec : ℕ) (before after : Heard) : Type 0 where
  pub ns : List Notice
  pub gives : ChainGives c old new before after ns
  pub file : BeginsTwo c old new bytes now rec ns
  pub lookup : BeginsOne lookup_service (top_mark Name) c old new bytes now rec ns
  pub lease : BeginsOne lease_service (top_mark Lease) c old new bytes now rec ns
  pub echo : BeginsOne ping_service (top_mark Echo) c old new bytes now rec ns
  pub shape : (kind : ChainKind) → IsReadyChain kind c old → IsAsk kind bytes → HasShapeOrFails (last_serial c) None ns
  pub comes : (kind : ChainKind) → IsReadyChain kind c old → IsAsk kind bytes → ComesOf kind c new ns

-- A MESSAGE OR A TIME COMES

-- what a datagram or a time does to two, for each transfer that may be under way
abbrev pub CallsTwo : Chain → Objects Obj → Objects Obj → (ℕ → Port) → Way → ℕ → Call → List Notice → Type 0
CallsTwo c old new at by rec call ns =
    (t : ObjId) → c.below ≡ Some t → (b : Begun) (start : ℕ) (calls : List Entry) (body : List ℕ) → Downloads (own_graph c old) c.top.0 t.0 b start calls body
    → CallDoes (own_graph c new) c.top.0 t.0 b start calls body (at t.0) by rec call ns

-- what a message or a time does to the one object x that asks by itself, of each kind
pub record ReceivesAny (old new : Objects Obj) (x : ℕ) (m : Said) (now : ℕ) (ns : List Notice) : Type 0 where
  pub lookup : ReceivesEach lookup_service (top_mark Name) old new x m now ns
  pub lease : ReceivesEach lease_service (top_mark Lease) old new x m now ns
  pub ping : ReceivesEach ping_service (top_mark Echo) old new x m now ns

pub record TicksAny (old new : Objects Obj) (x now : ℕ) (ns : List Notice) : Type 0 where
  pub lookup : TicksEach lookup_service (top_mark Name) old new x now ns
  pub lease : TicksEach lease_service (top_mark Lease) old new x now ns
  pub ping : TicksEach ping_service (top_mark Echo) old new x now ns

abbrev pub ReceivesOne : Chain → Objects Obj → Objects Obj → Said → ℕ → List Notice → Type 0
ReceivesOne c old new m now ns = c.below ≡ None → ReceivesAny (own_graph c old) (own_graph c new) c.top.0 m now ns

abbrev pub TicksOne : Chain → Objects Obj → Objects Obj → ℕ → List Notice → Type 0
TicksOne c old new now ns = c.below ≡ None → TicksAny (own_graph c old) (own_graph c new) c.top.0 now ns

-- a message that comes from below
abbrev pub arrival_said : ℕ → Arrival → Said
arrival_said rec a = record { tag = tag_number Datagram; rec = rec; a = a.port; b = a.source.0; bytes = a.body.now }

-- A message comes to the last object, in the record rec: to a transfer it is this call, to one that asks by itself this message.
pub record ReceivesChain (c : Chain) (old new : Objects Obj) (rec : ℕ) (call : Call) (m : Said) (now : ℕ) (before after : Heard) : Type 0 where
  pub ns : List Notice
  pub gives : ChainGives c old new before after ns
  pub file : CallsTwo c old new (λ t. port_at t 1) way.Up rec call ns
  pub one : ReceivesOne c old new m now ns
  pub shape : (kind : ChainKind) → IsChainUnderWay kind c old → HasShapeOrFails (last_serial c) (Some (Entered (port_at (last_serial c) 1) way.Up)) ns
  pub comes : (kind : ChainKind) → IsChainUnderWay kind c old → ComesOf kind c new ns

-- A time comes to it.
pub record TicksChain (c : Chain) (old new : Objects Obj) (call : Call) (now : ℕ) (before after : Heard) : Type 0 where
  pub ns : List Notice
  pub gives : ChainGives c old new before after ns
  pub file : CallsTwo c old new (λ t. port_at t 4) way.Time 0 call ns
  pub one : TicksOne c old new now ns
  pub shape : (kind : ChainKind) → IsChainUnderWay kind c old → HasShapeOrFails (last_serial c) (Some (Entered (port_at (last_serial c) 4) way.Time)) ns
  pub comes : (kind : ChainKind) → IsChainUnderWay kind c old → ComesOf kind c new ns

-- ITS END

-- its ports to the user and the network are open, and those between its objects: nothing was asked of it, or it is under way
abbrev pub IsOpenBy : Option ObjId → ℕ → Objects Obj → Type 0
IsOpenBy None x g = IsOpenLone g x
IsOpenBy (Some t) x g = AreGoing g x t.0

abbrev pub IsOpenChain : Chain → Objects Obj → Type 0
IsOpenChain c g = IsOpenBy c.below c.top.0 (own_graph c g)

-- what the outside is given where the user closes it
abbrev pub closing_notices : ℕ → Option ObjId → Cause → List Notice
closing_notices x None cause = alone_closed x cause
closing_notices x (Some t) cause = closed_notices x t.0 cause

-- of two nothing is left to hand out; of each the ports to the user, to the network and between them are closed
abbrev pub ClosesTwo : Chain → Objects Obj → Objects Obj → Type 0
ClosesTwo c old new = (t : ObjId) → c.below ≡ Some t → AreGoing (own_graph c old) c.top.0 t.0 → HasHandedOut (own_graph c new) c.top.0 t.0 None

abbrev pub ClosesSole : Chain → Objects Obj → Objects Obj → Type 0
ClosesSole c old new = c.below ≡ None → IsOpenLone (own_graph c old) c.top.0 → IsShutLone (own_graph c new) c.top.0

-- The user closes the open.
pub record ClosesChain (c : Chain) (old new : Objects Obj) (cause : Cause) (before after : Heard) : Type 0 where
  pub ns : List Notice
  pub gives : ChainGives c old new before after ns
  pub are : IsOpenChain c old → ns ≡ closing_notices c.top.0 c.below cause
  pub shut : IsOpenChain c old → IsShutChain c new
  pub file : ClosesTwo c old new
  pub one : ClosesSole c old new
  pub shape : IsOpenChain c old → SendsNone (last_serial c) ns

-- It is let go.
pub record ReleasesChain (c : Chain) (old new : Objects Obj) (before after : Heard) : Type 0 where
  pub gives : ChainGives c old new before after (released_notices c)
  pub released : IsReleased c old new
  pub shape : SendsNone (last_serial c) (released_notices c)

-- what the outside is given at the end of a run: the ports of the top object are closed, and so those of the other that are
-- plugged, then the ports that nothing is plugged to, and the objects are let go
abbrev pub shutting_notices : ℕ → Option ObjId → Cause → List Notice
shutting_notices x None cause = alone_shut x cause
shutting_notices x (Some t) cause = shut_notices x t.0 cause

-- The run ends.
pub record ShutsChain (c : Chain) (old new : Objects Obj) (cause : Cause) (before after : Heard) : Type 0 where
  pub gives : ChainGives c old new before after (shutting_notices c.top.0 c.below cause)
  pub released : IsReleased c old new
  pub shape : SendsNone (last_serial c) (shutting_notices c.top.0 c.below cause)

-- what the outside is given where all its ports are closed: those that are plugged, and then those that aren't
abbrev pub ports_closed_notices : ℕ → Option ObjId → Cause → List Notice
ports_closed_notices x below cause = closing_notices x below cause ++ free_notices x below cause

-- They are, and no object of it has a link.
pub record ClosesPorts (c : Chain) (old new : Objects Obj) (cause : Cause) (before after : Heard) : Type 0 where
  pub gives : ChainGives c old new before after (ports_closed_notices c.top.0 c.below cause)
  pub unlinked : HasNoLinks c.below c.top.0 new

-- what the outside is given at the end of a run where the object w waits beside it: the ports of w are closed by rising slot,
-- then those of the chain; w is let go, and then the chain
abbrev pub beside_notices : ℕ → Chain → Cause → List Notice
beside_notices w c cause = all_closed w cause ++ (ports_closed_notices c.top.0 c.below cause ++ (alone_freed w ++ released_notices c))

-- The run ends where another chain waits beside it. None of the objects of both lives any more, all else is as it was, and the
-- first close of a port of its own has the cause.
pub record ShutsChainBeside (c waits : Chain) (old new : Objects Obj) (cause : Cause) (before after : Heard) : Type 0 where
  pub gives : CallGives (IsEventWithin (is_one_of (chain_ids c ++ chain_ids waits))) old new before after (beside_notices waits.top.0 c cause)
  pub gone : (x : ℕ) → is_one_of (chain_ids c ++ chain_ids waits) x ≡ true → object_lives new.book x ≡ false
  pub others : KeepsOthers (is_one_of (chain_ids c ++ chain_ids waits)) old new
  pub number : length new.book.objects + (length (chain_ids c) + length (chain_ids waits)) ≡ length old.book.objects
  pub same_room : new.book.room ≡ old.book.room
  pub shape : SendsNone (last_serial c) (beside_notices waits.top.0 c cause)
  pub close : first_close_among (chain_ids c) (beside_notices waits.top.0 c cause) ≡ Some cause
