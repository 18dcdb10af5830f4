-- What comes of a segment, a time and a begin: the messages to the network, the end, and what the three stand for then. Our own.
use Rattle.std.specs.Prelude.{◌≡◌, ℕ, ◌==◌, List, [], ◌∷◌, ◌++◌, map, Option, Some, None}
use Rattle.nb_terms.specs.declared.cause.Cause.{Cause}
use Rattle.nb_conns.specs.declared.conn_ask.ConnAsk.{ConnAsk}
use Rattle.nb_conns.specs.ConnAsks.{link_of}
use Rattle.nb_conns.specs.ConnEffects.{place_says, segments_say}
use Rattle.nb_graph.specs.Deeds.{no_memory}
use Rattle.nb_graph.specs.Lived.{ObjectStands}
use Rattle.nb_graph.specs.Trace.{NodeEntry, Said}
use Rattle.nb_graph.specs.Whole.{Objects}
use Rattle.nb_ledger.specs.Flat.{Notice}
use Rattle.nb_nodes.specs.declared.load.Load.{Load}
use Rattle.nb_nodes.specs.declared.obj.Obj.{Obj}
use Rattle.nb_nodes.specs.Fetches.{closed_well, moved_in, taken_below}
use Rattle.nb_nodes.specs.Standing.{ObjStands}
use Rattle.nb_opens.specs.Notices.{first_close}
use Rattle.nb_readings.specs.Ends.{text_of, verdict_end}
use Rattle.nb_responses.specs.Chunks.{Response}
use Rattle.nb_streams.specs.Endings.{due_end, segment_end}
use Rattle.nb_streams.specs.Flows.{TcpCall, conn_phase, segment_came, text_came, time_came}
use Rattle.nb_streams.specs.Segments.{Arrival}
use Rattle.nb_streams.specs.Sending.{calls_for, syn, with_first_try}
use Rattle.nb_talks.specs.TalkPromises.{Sends, closes_by, due_sends}
use Rattle.nb_streams.specs.Trying.{due_fired, fired, timer_after}
use Rattle.nb_retry.specs.declared.retry.Due.{Due}
use Rattle.nb_responses.specs.Requests.{request_text}
use Rattle.nb_webnodes.specs.WebAsks.{AskParts}
use Rattle.nb_tcp.specs.declared.link.Link.{Link}
use Rattle.nb_tcp.specs.ConnPromises.{last_try}
use Rattle.nb_tcp.specs.Messages.{outgoing_message}
use Rattle.nb_webs.specs.Webs.{response_come, web_put}
use Rattle.nb_webchains.specs.declared.web_chain.WebChain.{WebChain}
use Rattle.nb_webchains.specs.WebChains.{web_graph}
use Rattle.nb_webtalks.specs.TalkStands.{StandsForTalk}
use Rattle.nb_webtalks.specs.Tellings.{messages_of}

-- the message by which a connection's segments leave, of which the last may be a try
abbrev pub sends_say : Link → ℕ → Sends → List Said
sends_say l rec sends = segments_say rec (last_try sends) (map (λ s. outgoing_message l s.0) sends)

-- with a segment
abbrev pub calls_with_segment : List TcpCall → Arrival → ℕ → List TcpCall
calls_with_segment calls m now = calls ++ segment_came m now ∷ []

-- how the response ends that has come then
abbrev pub response_end : ConnAsk → List TcpCall → Arrival → ℕ → Option Cause
response_end a calls m now = verdict_end m.rec (response_come a.isn (calls_with_segment calls m now)).verdict

-- how far the stream has come, what the segment calls for, and the close of a response that is decided
abbrev pub segment_says : ConnAsk → List TcpCall → Arrival → ℕ → List Said
segment_says a calls m now =
    place_says m.rec (web_put a.isn calls m now).advance
    ++ (sends_say (link_of a) m.rec (calls_for a.isn (conn_phase a.isn calls) m.segment)
    ++ sends_say (link_of a) 0 (closes_by (response_end a calls m now) (segment_end a.isn (conn_phase a.isn calls) m) a.isn (conn_phase a.isn (calls_with_segment calls m now))))

-- The Fetch has its move, or all of its body where it was closed with Ok.
pub record HasBrought (c : WebChain) (h : Objects Obj) (r : Response) (x : Cause) : Type 0 where
  pub trace : List (NodeEntry Obj Load)
  pub stands : ObjectStands ObjStands (web_graph c h) c.fetch.0 trace
  pub moves : moved_in trace ≡ text_of r.verdict
  pub well : text_of r.verdict ≡ None → closed_well trace ≡ (x.code == 0)
  pub body : text_of r.verdict ≡ None → taken_below trace ≡ r.bytes

-- What comes of a segment: memory ran out, or it puts what its promise says, and the three go on or have brought the response.
pub data SegmentComes (a : ConnAsk) (start : ℕ) (calls : List TcpCall) (c : WebChain) (h : Objects Obj) (m : Arrival) (now : ℕ) (ns : List Notice) : Type 0 where
  segment_lacks_memory : first_close ns ≡ Some no_memory → SegmentComes a start calls c h m now ns
  segment_comes_so : messages_of ns ≡ segment_says a calls m now → first_close ns ≡ (web_put a.isn calls m now).over → (first_close ns ≡ None → StandsForTalk a start (calls_with_segment calls m now) c h)
      → ((x : Cause) → response_end a calls m now ≡ Some x → HasBrought c h (response_come a.isn (calls_with_segment calls m now)) x) → SegmentComes a start calls c h m now ns

-- What comes of a time: memory ran out, or what the plan that runs fires is put, and the three go on or have ended.
pub data TimeComes (a : ConnAsk) (start : ℕ) (calls : List TcpCall) (c : WebChain) (h : Objects Obj) (now : ℕ) (ns : List Notice) : Type 0 where
  time_lacks_memory : first_close ns ≡ Some no_memory → TimeComes a start calls c h now ns
  time_comes_so : (due : Due) → fired (timer_after a.isn start (calls ++ time_came now ∷ [])) ≡ fired (timer_after a.isn start calls) ++ due_fired now due
      → messages_of ns ≡ sends_say (link_of a) 0 (due_sends a.isn (conn_phase a.isn calls) due) → first_close ns ≡ due_end (timer_after a.isn start calls).plan due
      → (first_close ns ≡ None → StandsForTalk a start (calls ++ time_came now ∷ []) c h) → TimeComes a start calls c h now ns

-- What comes of a begin: memory ran out, or the SYN is sent, and the three stand for a talk that was given its request.
pub data BeginComes (q : AskParts) (c : WebChain) (h : Objects Obj) (rec now : ℕ) (ns : List Notice) : Type 0 where
  begin_lacks_memory : first_close ns ≡ Some no_memory → BeginComes q c h rec now ns
  begin_comes_so : messages_of ns ≡ sends_say (link_of q.conn) rec (with_first_try (syn q.conn.isn) ∷ []) → first_close ns ≡ None
      → StandsForTalk q.conn now (text_came (request_text q.host q.conn.peer_port q.path) now ∷ []) c h → BeginComes q c h rec now ns
