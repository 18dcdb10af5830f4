-- What each call on the three does to the talk that they stand for. Our own.
use Rattle.std.specs.Prelude.{◌≡◌, ◌<◌, ◌^◌, ℕ, List, [], ◌∷◌, length, Option, Some, None}
use Rattle.nb_chains.specs.declared.arrival.Arrival.{Arrival}
use Rattle.nb_chains.specs.Chains.{AreChained}
use Rattle.nb_conns.specs.declared.conn_ask.ConnAsk.{ConnAsk}
use Rattle.nb_conns.specs.ConnAsks.{link_of}
use Rattle.nb_conns.specs.Dialogues.{arriving}
use Rattle.nb_graph.specs.Noded.{AreNoded}
use Rattle.nb_graph.specs.Whole.{Objects}
use Rattle.nb_ledger.specs.declared.event.GraphEvent.{GraphEvent}
use Rattle.nb_ledger.specs.Flat.{Heard, Notice}
use Rattle.nb_nodes.specs.declared.obj.Obj.{Obj}
use Rattle.nb_nodes.specs.Objects.{rank_of_obj}
use Rattle.nb_streams.specs.Flows.{TcpCall, conn_phase}
use Rattle.nb_streams.specs.Sending.{closing_segment, without_try}
use Rattle.nb_terms.specs.declared.cause.Cause.{Cause}
use Rattle.nb_tcpseg.specs.SegmentText.{IsLaidOut, SegmentParts}
use Rattle.nb_webchains.specs.declared.web_chain.WebChain.{WebChain}
use Rattle.nb_webchains.specs.WebCalls.{ClosesFetch, DoesWeb, begins_web, receives_web, ticks_web}
use Rattle.nb_webchains.specs.WebChains.{AreOfWeb, IsOpenWeb, IsReadyWeb, web_ids}
use Rattle.nb_webnodes.specs.WebAsks.{AskParts, web_ask_in}
use Rattle.nb_webtalks.specs.TalkStands.{AreHosted, StandsForTalk}
use Rattle.nb_webtalks.specs.Comings.{BeginComes, SegmentComes, TimeComes, sends_say}
use Rattle.nb_webtalks.specs.Tellings.{messages_of}

-- A call is made on the three, which are open, and are there after it.
pub record AreCalled (c : WebChain) (g h : Objects Obj) : Type 0 where
  pub was : AreChained g (web_ids c)
  pub is : AreChained h (web_ids c)
  pub hosted : AreHosted c g
  pub noded : AreNoded rank_of_obj h
  pub opened : IsOpenWeb c g
  pub kinds : AreOfWeb c g

-- The user begins it.
abbrev pub BeginsCome : Type 0
BeginsCome = (q : AskParts) (c : WebChain) (g h : Objects Obj) (rec now host : ℕ) (bytes : List ℕ) (before after : Heard) (d : DoesWeb c now (begins_web c rec host bytes) None g h before after)
    → AreCalled c g h → IsReadyWeb c g → web_ask_in host bytes ≡ Some q → length bytes < 2 ^ 32 → BeginComes q c h rec now d.ns

-- A segment of the peer comes.
abbrev pub SegmentsCome : Type 0
SegmentsCome = (a : ConnAsk) (start : ℕ) (calls : List TcpCall) (c : WebChain) (g h : Objects Obj) (rec now : ℕ) (came : Arrival) (s : SegmentParts) (entry : Option GraphEvent) (before after : Heard) (d : DoesWeb c now (receives_web c rec came) entry g h before after)
    → AreCalled c g h → StandsForTalk a start calls c g → came.port ≡ a.peer_port → came.source.0 ≡ a.peer.0 → IsLaidOut came.body.now s → length came.body.now < 2 ^ 32 → SegmentComes a start calls c h (arriving rec s) now d.ns

-- A time comes.
abbrev pub TimesComeToWeb : Type 0
TimesComeToWeb = (a : ConnAsk) (start : ℕ) (calls : List TcpCall) (c : WebChain) (g h : Objects Obj) (now : ℕ) (entry : Option GraphEvent) (before after : Heard) (d : DoesWeb c now (ticks_web c) entry g h before after)
    → AreCalled c g h → StandsForTalk a start calls c g → TimeComes a start calls c h now d.ns

-- The user closes them.
abbrev pub ClosesCome : Type 0
ClosesCome = (a : ConnAsk) (start : ℕ) (calls : List TcpCall) (c : WebChain) (g h : Objects Obj) (cause : Cause) (ns : List Notice) → ClosesFetch c g h cause ns
    → AreCalled c g h → AreOfWeb c h → StandsForTalk a start calls c g → messages_of ns ≡ sends_say (link_of a) 0 (without_try (closing_segment a.isn (conn_phase a.isn calls)) ∷ [])
