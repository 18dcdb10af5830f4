-- What each call does to an open by HTTP, and what the outside is given: one list of notices, of which all is said. What the
-- three do is said of the graph of these objects alone. Our own.
use Rattle.std.specs.Prelude.{◌≡◌, ◌<◌, ◌^◌, ℕ, List, [], ◌∷◌, ◌++◌, length, Option, Some, None, if◌then◌else◌}
use Rattle.nb_terms.specs.declared.cause.Cause.{Cause}
use Rattle.nb_conns.specs.declared.stream_tag.StreamTag.TheVariants.{Begin, Segment}
use Rattle.nb_conns.specs.StreamTags.{stream_tag_number}
use Rattle.nb_frames.specs.Frames.{is_one_of}
use Rattle.nb_frames.specs.Within.{IsEventWithin}
use Rattle.nb_graph.specs.Deeds.{Closes, Offers, Stage, Ticks}
use Rattle.nb_graph.specs.Noded.{AreNoded}
use Rattle.nb_graph.specs.Trace.{NodeEntry, Said}
use Rattle.nb_graph.specs.Went.{WentOne}
use Rattle.nb_graph.specs.Whole.{Objects, port_at}
use Rattle.nb_ledger.specs.declared.event.GraphEvent.{GraphEvent}
use Rattle.nb_ledger.specs.declared.event.GraphEvent.TheVariants.{Closed}
use Rattle.nb_ledger.specs.declared.port.Port.{Port}
use Rattle.nb_ledger.specs.Flat.{Heard, Notice, all}
use Rattle.nb_nodes.specs.declared.load.Load.{Load}
use Rattle.nb_nodes.specs.declared.obj.Obj.{Obj}
use Rattle.nb_nodes.specs.declared.obj.Obj.TheVariants as obj
use Rattle.nb_nodes.specs.Fetches.{closed_well, moved_uri, taken_below}
use Rattle.nb_nodes.specs.Objects.{obj_nature, rank_of_obj}
use Rattle.nb_nodes.specs.Standing.{ObjStands}
use Rattle.nb_opens.specs.AloneNotices.{alone_freed}
use Rattle.nb_opens.specs.Notices.{first_close, tells}
use Rattle.nb_chains.specs.declared.arrival.Arrival.{Arrival}
use Rattle.nb_chains.specs.Chains.{AreChained}
use Rattle.nb_chains.specs.Giving.{CallGives, IsMakeWithin}
use Rattle.nb_webchains.specs.declared.web_chain.WebChain.{WebChain}
use Rattle.nb_webchains.specs.Orders.{StandInOrder}
use Rattle.nb_webchains.specs.Releases.{AreCloses, AreShutWhole}
use Rattle.nb_webchains.specs.WebChains.{AreOfWeb, AreReleased, IsOpenWeb, IsShutWeb, KeepKinds, web_graph, web_ids}

-- no event names another object than these, and none is made
abbrev pub WebGives : WebChain → Objects Obj → Objects Obj → Heard → Heard → List Notice → Type 0
WebGives c old new before after ns = CallGives (IsEventWithin (is_one_of (web_ids c))) old new before after ns

-- no event names another object than these, of which some are made
abbrev pub WebMakes : WebChain → Objects Obj → Objects Obj → Heard → Heard → List Notice → Type 0
WebMakes c old new before after ns = CallGives (IsMakeWithin (is_one_of (web_ids c))) old new before after ns

-- What has come of a call: nothing was closed, and the open goes on; or all its ports are closed.
pub data ComesOfWeb (c : WebChain) (g : Objects Obj) (ns : List Notice) : Type 0 where
  goes_on : first_close ns ≡ None → IsOpenWeb c g → ComesOfWeb c g ns
  has_closed : (cause : Cause) → first_close ns ≡ Some cause → IsShutWeb c g → ComesOfWeb c g ns

-- a message whose bytes are fewer than 2^32, or a time
pub data AreShort : List (Stage Obj Load) → Type 0 where
  short_message : (p : Port) (m : Said) → length m.bytes < 2 ^ 32 → AreShort (Offers p m ∷ [])
  any_time : (x : ℕ) → AreShort (Ticks x ∷ [])

-- What a message or a time does: as a graph of their own they do what nb_graph says of this call. Where the connection is entered from
-- outside, that is its first event, and what goes down stands directly after an entry of it.
pub record DoesWeb (c : WebChain) (now : ℕ) (asks : List (Stage Obj Load)) (entry : Option GraphEvent) (old new : Objects Obj) (before after : Heard) : Type 0 where
  pub ns : List Notice
  pub gives : WebGives c old new before after ns
  pub own : (front : List Notice) → WentOne ObjStands obj_nature now asks (web_graph c old) (web_graph c new) (all front) (all (front ++ ns))
  pub comes : IsOpenWeb c old → ComesOfWeb c new ns
  pub order : IsOpenWeb c old → AreOfWeb c old → AreShort asks → StandInOrder c.conn.0 entry ns
  pub kinds : AreOfWeb c old → AreOfWeb c new
  pub keeps : KeepKinds (web_ids c) old new
  pub noded : AreNoded rank_of_obj new
  pub still : AreChained new (web_ids c)

-- what is asked for where the user begins it by these bytes, of which so many are the host
abbrev pub begin_said : ℕ → ℕ → List ℕ → Said
begin_said rec host bytes = record { tag = stream_tag_number Begin; rec = rec; a = host; b = 0; bytes = bytes }

abbrev pub begins_web : WebChain → ℕ → ℕ → List ℕ → List (Stage Obj Load)
begins_web c rec host bytes = Offers (port_at c.fetch.0 0) (begin_said rec host bytes) ∷ []

-- where a segment comes
abbrev pub segment_said : ℕ → Arrival → Said
segment_said rec a = record { tag = stream_tag_number Segment; rec = rec; a = a.port; b = a.source.0; bytes = a.body.now }

abbrev pub receives_web : WebChain → ℕ → Arrival → List (Stage Obj Load)
receives_web c rec a = Offers (port_at c.conn.0 1) (segment_said rec a) ∷ []

-- and where a time does, of which only the connection hears
abbrev pub ticks_web : WebChain → List (Stage Obj Load)
ticks_web c = Ticks c.conn.0 ∷ []

-- As a graph of their own they do what nb_graph says where both ports of the Fetch are closed, one after the other.
pub record ClosesFetch (c : WebChain) (old new : Objects Obj) (cause : Cause) (ns : List Notice) : Type 0 where
  pub now : ℕ
  pub mid : Objects Obj
  pub first : List Notice
  pub second : List Notice
  pub are : ns ≡ first ++ second
  pub upper : (front : List Notice) → WentOne ObjStands obj_nature now (Closes (port_at c.fetch.0 0) cause ∷ []) (web_graph c old) mid (all front) (all (front ++ first))
  pub lower : (front : List Notice) → WentOne ObjStands obj_nature now (Closes (port_at c.fetch.0 1) cause ∷ []) mid (web_graph c new) (all front) (all (front ++ second))

-- The user closes the open: first its own port is closed, and what goes down then stands directly after an entry of the connection.
pub record ClosesWeb (c : WebChain) (old new : Objects Obj) (cause : Cause) (before after : Heard) : Type 0 where
  pub ns : List Notice
  pub gives : WebGives c old new before after ns
  pub own : ClosesFetch c old new cause ns
  pub shut : IsOpenWeb c old → IsShutWeb c new
  pub first : IsOpenWeb c old → (rest : List Notice) × (ns ≡ tells (Closed (port_at c.fetch.0 0) cause) ∷ rest)
  pub order : IsOpenWeb c old → AreOfWeb c old → StandInOrder c.conn.0 None ns
  pub kinds : AreOfWeb c old → AreOfWeb c new
  pub keeps : KeepKinds (web_ids c) old new
  pub noded : AreNoded rank_of_obj new
  pub still : AreChained new (web_ids c)

-- the file that a Fetch has brought by this trace, if it has
abbrev pub file_brought : List (NodeEntry Obj Load) → Option (List ℕ)
file_brought t = if closed_well t then Some (taken_below t) else None

-- the URI that an object's file is at instead
abbrev pub text_of_obj : Obj → Option (List ℕ)
text_of_obj (obj.Fetch f) = moved_uri f
text_of_obj (obj.Http p) = None
text_of_obj (obj.Tcp p) = None
text_of_obj (obj.Iscsi p) = None
text_of_obj (obj.Disk p) = None
text_of_obj (obj.Tftp p) = None
text_of_obj (obj.Resolver r) = None
text_of_obj (obj.Dhcp d) = None
text_of_obj (obj.Ping p) = None

-- what the outside is given where these are let go
abbrev pub freed_each : List ℕ → List Notice
freed_each [] = []
freed_each (x ∷ xs) = alone_freed x ++ freed_each xs

-- These are let go.
pub record ReleasesEach (ids : List ℕ) (old new : Objects Obj) (before after : Heard) : Type 0 where
  pub gives : CallGives (IsEventWithin (is_one_of ids)) old new before after (freed_each ids)
  pub released : AreReleased ids old new

-- The run ends: the open is closed as its user does, then the ports that nothing is plugged to are, and they are let go.
pub record ShutsWeb (c : WebChain) (old new : Objects Obj) (cause : Cause) (before after : Heard) : Type 0 where
  pub closed : Objects Obj
  pub heard : Heard
  pub closes : ClosesWeb c old closed cause before heard
  -- what is told of the other ports
  pub free : List Notice
  pub are : AreCloses free
  pub mid : Objects Obj
  pub shut : AreShutWhole (web_ids c) mid
  pub gives : WebGives c old new before after (closes.ns ++ (free ++ freed_each (web_ids c)))
  pub released : AreReleased (web_ids c) old new
