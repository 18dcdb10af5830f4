-- What the three objects of an open by HTTP have done, against the calls of its connection: the connection has had them, the fetch took all
-- of the stream that has come by them, and the Fetch all of the body that the fetch gave. Our own.
use Rattle.std.specs.Prelude.{◌≡◌, ℕ, true, false, List, Some, None}
use Rattle.nb_conns.specs.declared.conn_ask.ConnAsk.{ConnAsk}
use Rattle.nb_conns.specs.Dialogues.{Dialogue, unopened, talking, closed_off, given_up, ConversesTo}
use Rattle.nb_frames.specs.Frames.{is_one_of}
use Rattle.nb_graph.specs.Lived.{ObjectStands}
use Rattle.nb_graph.specs.Trace.{NodeEntry}
use Rattle.nb_graph.specs.Whole.{Objects, node_at}
use Rattle.nb_nodes.specs.declared.load.Load.{Load}
use Rattle.nb_nodes.specs.declared.obj.Obj.{Obj}
use Rattle.nb_nodes.specs.Carriers.{conn_carrier, web_carrier}
use Rattle.nb_nodes.specs.Fetches.{gathers, taken_below}
use Rattle.nb_nodes.specs.Standing.{ObjStands}
use Rattle.nb_streams.specs.Flows.{TcpCall, held_after}
use Rattle.nb_streams.specs.Streams.{front, has_ended}
use Rattle.nb_tcp.specs.ConnHistory.{delivered, tcp_calls}
use Rattle.nb_webchains.specs.declared.web_chain.WebChain.{WebChain}
use Rattle.nb_webchains.specs.WebChains.{web_graph, web_ids}
use Rattle.nb_webnodes.specs.WebTalks.{WebTalk, web_unasked, fetching, web_decided, cut_short, FetchedTo, ReadsOn}

-- all of the stream that has come by these calls
abbrev pub stream_by : ConnAsk → List TcpCall → List ℕ
stream_by a calls = front (held_after a.isn calls)

-- a connection that was asked for so, at a time, goes on after these calls, has delivered all that has come, and nothing of it is lent
abbrev pub HasHadCalls : ConnAsk → ℕ → List TcpCall → Dialogue → Type 0
HasHadCalls a start calls unopened = ⊥
HasHadCalls a start calls (talking b since entries out) = (b ≡ a) × (since ≡ start) × (tcp_calls entries ≡ calls) × (delivered entries ≡ stream_by a calls) × (out ≡ None)
HasHadCalls a start calls (closed_off b since entries) = ⊥
HasHadCalls a start calls given_up = ⊥

-- a fetch goes on that took this of the stream, and gave this of the body
abbrev pub HasTaken : (stream body : List ℕ) → WebTalk → Type 0
HasTaken stream body web_unasked = ⊥
HasTaken stream body (fetching a c taken given) = (taken ≡ stream) × (given ≡ body) × ReadsOn c taken given
HasTaken stream body (web_decided a c taken given over) = ⊥
HasTaken stream body cut_short = ⊥

-- The three, as a graph of their own, go on after these calls of a connection that was asked for so, at a time.
pub record StandsForTalk (a : ConnAsk) (start : ℕ) (calls : List TcpCall) (c : WebChain) (g : Objects Obj) : Type 0 where
  pub above : List (NodeEntry Obj Load)
  pub between : List (NodeEntry Obj Load)
  pub below : List (NodeEntry Obj Load)
  pub fetch : ObjectStands ObjStands (web_graph c g) c.fetch.0 above
  pub web : ObjectStands ObjStands (web_graph c g) c.web.0 between
  pub conn : ObjectStands ObjStands (web_graph c g) c.conn.0 below
  pub gathering : gathers above ≡ true
  pub took : (f : WebTalk) → FetchedTo web_carrier web_unasked between f → HasTaken (stream_by a calls) (taken_below above) f
  pub called : (f : Dialogue) → ConversesTo conn_carrier unopened below f → HasHadCalls a start calls f
  pub unended : has_ended (held_after a.isn calls) ≡ false

-- each of the three has its node
abbrev pub AreHosted : WebChain → Objects Obj → Type 0
AreHosted c g = (x : ℕ) → is_one_of (web_ids c) x ≡ true → (n : Obj) × (node_at g x ≡ Some n)
