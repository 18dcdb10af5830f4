-- What a connection's object has done over its trace (RFC 9293), in terms of its core's calls: our own.
use Rattle.std.specs.Prelude.{◌≡◌, ℕ, ◌-◌, ◌==◌, ◌&&◌, Bool, true, false, not, List, [], ◌∷◌, ◌++◌, length, nat_lt, unwrap_or, Option, Some, None, if◌then◌else◌}
use Rattle.std.specs.Option.{is_some, is_none}
use Rattle.nb_terms.specs.declared.acts.Acts.{Acts}
use Rattle.nb_terms.specs.declared.cause.Cause.{Cause}
use Rattle.nb_effects.specs.declared.effects.Fx.{Fx}
use Rattle.nb_graph.specs.Trace.{Said, NodeEntry, up, down, closed, time, regain, silence, in_list}
use Rattle.nb_reasm.specs.declared.held.Held.{Held}
use Rattle.nb_reasm.specs.HeldWindows.{window}
use Rattle.nb_streams.specs.Segments.{Arrival}
use Rattle.nb_streams.specs.Streams.{has_ended}
use Rattle.nb_streams.specs.Flows.{segment_came, time_came, text_came, held_after}
use Rattle.nb_tcpseg.specs.SegmentText.{SegmentParts, IsLaidOut}
use Rattle.nb_tcp.specs.declared.conn.Conn.{Conn}
use Rattle.nb_tcp.specs.declared.link.Link.{Link}
use Rattle.nb_tcp.specs.Arriving.{sets_flag}
use Rattle.nb_tcp.specs.Replies.{only_ready}
use Rattle.nb_tcp.specs.ConnHistory.{ConnCall, calls_in, lends_out, comes_back, closes_from_above, ConnEntry, conn_entry, tcp_calls, advanced_to, is_waiting_after, is_lent_after, has_ended_after}
use Rattle.nb_tcp.specs.ConnPromises.{starting_acts, ConnKeeps}
use Rattle.nb_tcp.specs.ConnStanding.{WindowStands, GoesUp, ConnStands, HasDelivered, IsLent, has_window}
use Rattle.nb_conns.specs.declared.conn_ask.ConnAsk.{ConnAsk}
use Rattle.nb_conns.specs.declared.conn_load.Lent.{Lent}
use Rattle.nb_conns.specs.declared.stage.ConnStage.{ConnStage}
use Rattle.nb_conns.specs.declared.stage.ConnStage.TheVariants.{Waiting, Running, Over}
use Rattle.nb_conns.specs.declared.stage.Running.{Running as Connected}
use Rattle.nb_conns.specs.declared.stream_tag.StreamTag.TheVariants.{Begin, Segment, Send}
use Rattle.nb_conns.specs.declared.tcp.Tcp.{Tcp}
use Rattle.nb_conns.specs.StreamTags.{stream_tag_number}
use Rattle.nb_conns.specs.ConnAsks.{conn_ask_in, link_of}
use Rattle.nb_conns.specs.ConnLoads.{Carrier, window_of_conn, lent_bytes}
use Rattle.nb_conns.specs.ConnEffects.{ConnEffects, SaysNothing, TookAll, received_says, ups_for, closes_for}

-- How far a connection is: it wasn't asked for yet; it was asked for so, at a time, these calls were made of its core,
-- and this of it is lent; it has ended after such calls; or it ended before it was asked for.
pub data Dialogue : Type 0 where
  unopened : Dialogue
  talking : (a : ConnAsk) (start : ℕ) (calls : List ConnEntry) (out : Option Lent) → Dialogue
  closed_off : (a : ConnAsk) (start : ℕ) (calls : List ConnEntry) → Dialogue
  given_up : Dialogue

abbrev pub is_talking : Dialogue → Bool
is_talking unopened = false
is_talking (talking a start calls out) = true
is_talking (closed_off a start calls) = false
is_talking given_up = false

abbrev pub is_live : Dialogue → Bool
is_live unopened = true
is_live (talking a start calls out) = true
is_live (closed_off a start calls) = false
is_live given_up = false

-- nothing of it is lent, so far as it goes on
abbrev pub is_home : Dialogue → Bool
is_home unopened = true
is_home (talking a start calls out) = is_none out
is_home (closed_off a start calls) = true
is_home given_up = true

-- at its end
abbrev pub at_close : Dialogue → Dialogue
at_close unopened = given_up
at_close (talking a start calls out) = closed_off a start calls
at_close (closed_off a start calls) = closed_off a start calls
at_close given_up = given_up

-- after these calls, of which the last may have ended it
abbrev pub talked_on : ConnAsk → ℕ → List ConnEntry → Option Lent → Option Cause → Dialogue
talked_on a start calls out over = if is_some over then closed_off a start calls else talking a start calls out

-- a message by slot 1 that comes from the peer
abbrev pub comes_from_peer : ConnAsk → ℕ → Said → Bool
comes_from_peer a slot m = (slot == 1) && ((m.tag == stream_tag_number Segment) && ((m.a == a.peer_port) && (m.b == a.peer.0)))

abbrev pub comes_in : Dialogue → ℕ → Said → Bool
comes_in unopened slot m = false
comes_in (talking a start calls out) slot m = comes_from_peer a slot m
comes_in (closed_off a start calls) slot m = false
comes_in given_up slot m = false

-- a message from above that counts: it asks for the connection, or gives text to send
abbrev pub asks_below : Dialogue → Said → Bool
asks_below unopened m = (m.tag == stream_tag_number Begin) && is_some (conn_ask_in m.bytes)
asks_below (talking a start calls out) m = m.tag == stream_tag_number Send
asks_below (closed_off a start calls) m = false
asks_below given_up m = false

abbrev pub is_window : {L : Type 0} → Carrier L → L → Bool
is_window k load = nat_lt 0 (length (window_of_conn (k.as_conn load)))

-- an entry that calls nothing of the core
abbrev pub is_quiet : {N L : Type 0} → Carrier L → Dialogue → NodeEntry N L → Bool
is_quiet k d (up slot m now done fx) = done && not (comes_in d slot m)
is_quiet k d (down m now done fx) = done && not (asks_below d m)
is_quiet k d (closed slot cause now fx) = not (is_live d && nat_lt slot 2)
is_quiet k d (time now done fx) = done && not (is_talking d)
is_quiet k d (regain load) = not (is_talking d && is_window k load)

-- it ran out of memory, or a port was closed while nothing is to be sent for that
abbrev pub is_cut : {N L : Type 0} → Dialogue → NodeEntry N L → Bool
is_cut d (up slot m now done fx) = not done
is_cut d (down m now done fx) = not done
is_cut d (closed slot cause now fx) = is_live d && (nat_lt slot 2 && not (is_talking d && (slot == 0)))
is_cut d (time now done fx) = not done
is_cut d (regain load) = false

-- one that calls nothing asks for nothing
abbrev pub AsksIdly : {N L : Type 0} → NodeEntry N L → Type 0
AsksIdly (up slot m now done fx) = SaysNothing fx × (fx.closes.items ≡ []) × TookAll m fx
AsksIdly (down m now done fx) = SaysNothing fx × (fx.closes.items ≡ [])
AsksIdly (closed slot cause now fx) = SaysNothing fx × (fx.closes.items ≡ [])
AsksIdly (time now done fx) = SaysNothing fx × (fx.closes.items ≡ [])
AsksIdly (regain load) = Unit {0}

-- where a port was closed, the other one is closed with that cause
abbrev pub HandsOnClose : {N L : Type 0} → NodeEntry N L → Type 0
HandsOnClose (up slot m now done fx) = Unit {0}
HandsOnClose (down m now done fx) = Unit {0}
HandsOnClose (closed slot cause now fx) = SaysNothing fx × (fx.closes.items ≡ (1 - slot, cause) ∷ [])
HandsOnClose (time now done fx) = Unit {0}
HandsOnClose (regain load) = Unit {0}

-- a segment, as one that came
abbrev pub arriving : ℕ → SegmentParts → Arrival
arriving rec s = record {
  rec = rec;
  segment = record {
    number = s.seq;
    acknowledges = s.ack;
    fin = sets_flag s.flags 1;
    syn = sets_flag s.flags 2;
    rst = sets_flag s.flags 4;
    ack = sets_flag s.flags 16;
    window = s.window;
    mss = s.mss;
    body = s.body;
  };
}

-- these calls with one more
abbrev pub with_segment_call : List ConnEntry → ℕ → SegmentParts → ℕ → Acts → List ConnEntry
with_segment_call calls rec s now acts = calls ++ conn_entry (calls_in (segment_came (arriving rec s) now)) acts ∷ []

-- what is lent is a call too
abbrev pub with_lending : List ConnEntry → Option Lent → List ConnEntry
with_lending calls None = calls
with_lending calls (Some l) = calls ++ conn_entry (lends_out (lent_bytes l)) (only_ready false) ∷ []

-- bytes that were lent and came back at once are two calls
abbrev pub with_passing : List ConnEntry → List ℕ → List ConnEntry
with_passing calls bytes = calls ++ conn_entry (lends_out bytes) (only_ready false) ∷ conn_entry comes_back (only_ready false) ∷ []

-- After these calls a window is lent exactly where bytes wait: those below the place of the last advance go up of it.
abbrev pub LendsSo : List ConnEntry → Bool → Option Lent → Type 0
LendsSo calls false None = Unit {0}
LendsSo calls false (Some l) = ⊥
LendsSo calls true None = ⊥
LendsSo calls true (Some l) = (w : Held) × (l.held ≡ Some w) × GoesUp (window w) (advanced_to calls) (lent_bytes l)

-- all of the peer's stream has come by the last of these calls, and hadn't before
abbrev pub comes_to_end : ConnAsk → List ConnEntry → List ConnEntry → Bool
comes_to_end a before after = not (has_ended (held_after a.isn (tcp_calls before))) && has_ended (held_after a.isn (tcp_calls after))

-- One entry of a connection's object. Each call of the core stands in an entry, and an entry makes no other.
pub data Converses {N L : Type 0} (k : Carrier L) : Dialogue → NodeEntry N L → Dialogue → Type 0 where
  -- the SYN is sent
  is_asked : (a : ConnAsk) (m : Said) (now : ℕ) (fx : Fx N L) → m.tag ≡ stream_tag_number Begin → conn_ask_in m.bytes ≡ Some a
      → ConnEffects k m (starting_acts (link_of a)) [] [] [] fx → Converses k unopened (down m now true fx) (talking a now [] None)
  -- a segment of the peer, while nothing is lent: what waits then goes up, and then the end, where that has come
  takes_segment : (a : ConnAsk) (start : ℕ) (calls : List ConnEntry) (slot : ℕ) (m : Said) (now : ℕ) (fx : Fx N L) (s : SegmentParts) (acts : Acts) (out : Option Lent)
      → comes_from_peer a slot m ≡ true → IsLaidOut m.bytes s → LendsSo (with_segment_call calls m.rec s now acts) acts.ready out
      → ConnEffects k m acts (ups_for m.rec out (comes_to_end a calls (with_segment_call calls m.rec s now acts))) (closes_for acts.over) (in_list out) fx → TookAll m fx
      → Converses k (talking a start calls None) (up slot m now true fx) (talked_on a start (with_lending (with_segment_call calls m.rec s now acts) out) out acts.over)
  -- a segment of the peer that brings its body in order and no end, while nothing is lent: the body goes up as it stands in the message, so nothing is lent after it
  hands_on : (a : ConnAsk) (start : ℕ) (calls : List ConnEntry) (slot : ℕ) (m : Said) (now : ℕ) (fx : Fx N L) (s : SegmentParts) (acts : Acts)
      → comes_from_peer a slot m ≡ true → IsLaidOut m.bytes s → acts.over ≡ None → acts.ready ≡ true → comes_to_end a calls (with_segment_call calls m.rec s now acts) ≡ false
      → ConnEffects k m acts (received_says m.rec s.body ∷ []) [] [] fx → TookAll m fx
      → Converses k (talking a start calls None) (up slot m now true fx) (talking a start (with_passing (with_segment_call calls m.rec s now acts) s.body) None)
  -- bytes of the peer that are no segment
  takes_none : (a : ConnAsk) (start : ℕ) (calls : List ConnEntry) (out : Option Lent) (slot : ℕ) (m : Said) (now : ℕ) (fx : Fx N L)
      → ((s : SegmentParts) → IsLaidOut m.bytes s → ⊥) → SaysNothing fx → fx.closes.items ≡ [] → TookAll m fx → Converses k (talking a start calls out) (up slot m now true fx) (talking a start calls out)
  -- text to send
  takes_text : (a : ConnAsk) (start : ℕ) (calls : List ConnEntry) (out : Option Lent) (m : Said) (now : ℕ) (fx : Fx N L) (acts : Acts) → m.tag ≡ stream_tag_number Send
      → ConnEffects k m acts [] (closes_for acts.over) [] fx
      → Converses k (talking a start calls out) (down m now true fx) (talked_on a start (calls ++ conn_entry (calls_in (text_came m.bytes now)) acts ∷ []) out acts.over)
  takes_tick : (a : ConnAsk) (start : ℕ) (calls : List ConnEntry) (out : Option Lent) (now : ℕ) (fx : Fx N L) (acts : Acts)
      → ConnEffects k silence acts [] (closes_for acts.over) [] fx
      → Converses k (talking a start calls out) (time now true fx) (talked_on a start (calls ++ conn_entry (calls_in (time_came now)) acts ∷ []) out acts.over)
  -- what was lent comes back
  has_back : (a : ConnAsk) (start : ℕ) (calls : List ConnEntry) (l : Lent) (load : L) → window_of_conn (k.as_conn load) ≡ l ∷ []
      → Converses k (talking a start calls (Some l)) (regain load) (talking a start (calls ++ conn_entry comes_back (only_ready false) ∷ []) None)
  -- the port above was closed: the connection is closed, and so is the port below
  is_closed : (a : ConnAsk) (start : ℕ) (calls : List ConnEntry) (out : Option Lent) (cause : Cause) (now : ℕ) (fx : Fx N L) (acts : Acts)
      → ConnEffects k silence acts [] ((1, cause) ∷ []) [] fx
      → Converses k (talking a start calls out) (closed 0 cause now fx) (closed_off a start (calls ++ conn_entry closes_from_above acts ∷ []))
  ends_short : (d : Dialogue) (e : NodeEntry N L) → is_cut d e ≡ true → HandsOnClose e → Converses k d e (at_close d)
  rests_still : (d : Dialogue) (e : NodeEntry N L) → is_quiet k d e ≡ true → AsksIdly e → Converses k d e d

-- the entries lead from one to the other
abbrev pub ConversesTo : {N L : Type 0} → Carrier L → Dialogue → List (NodeEntry N L) → Dialogue → Type 0
ConversesTo k d [] f = d ≡ f
ConversesTo k d (e ∷ t) f = (g : Dialogue) × Converses k d e g × ConversesTo k g t f

-- of a connection with these calls this is lent, as its core has it
abbrev pub IsLentOut : ConnAsk → List ConnEntry → Conn → Option Lent → Type 0
IsLentOut a calls c None = HasDelivered c × (is_lent_after calls ≡ false)
IsLentOut a calls c (Some l) = (is_lent_after calls ≡ true) × ((w : Held) × (l.held ≡ Some w) × WindowStands (window w) (held_after a.isn (tcp_calls calls)))

-- the core stands for the calls that were made of it
pub record TalksSo (r : Connected) (a : ConnAsk) (start : ℕ) (calls : List ConnEntry) (out : Option Lent) : Type 0 where
  pub asked : r.ask ≡ a
  pub stands : ConnStands (link_of a) start r.conn calls
  pub goes_on : has_ended_after calls ≡ false
  pub none_waits : is_waiting_after calls ≡ false
  pub lends : IsLentOut a calls r.conn out

-- what the object is meanwhile
pub data IsConnAt : ConnStage → Dialogue → Type 0 where
  before_asked : IsConnAt Waiting unopened
  while_talking : (r : Connected) (a : ConnAsk) (start : ℕ) (calls : List ConnEntry) (out : Option Lent) → TalksSo r a start calls out → IsConnAt (Running r) (talking a start calls out)
  once_closed : (a : ConnAsk) (start : ℕ) (calls : List ConnEntry) → ConnKeeps (link_of a) start calls → IsConnAt Over (closed_off a start calls)
  never_asked : IsConnAt Over given_up

-- A connection's object stands for a trace whose entries lead from the beginning to where it is.
pub record TcpStands {N L : Type 0} (k : Carrier L) (p : Tcp) (t : List (NodeEntry N L)) : Type 0 where
  pub dialogue : Dialogue
  pub run : ConversesTo k unopened t dialogue
  pub at : IsConnAt p.stage dialogue

-- wherever the connection was before an entry, it is afterwards where the entry leads
abbrev pub CarriesOn : {N L : Type 0} → Carrier L → ConnStage → ConnStage → NodeEntry N L → Type 0
CarriesOn k old new e = (d : Dialogue) → IsConnAt old d → (f : Dialogue) × Converses k d e f × IsConnAt new f

-- the same while nothing of it is lent
abbrev pub CarriesOnHome : {N L : Type 0} → Carrier L → ConnStage → ConnStage → NodeEntry N L → Type 0
CarriesOnHome k old new e = (d : Dialogue) → is_home d ≡ true → IsConnAt old d → (f : Dialogue) × Converses k d e f × IsConnAt new f

-- whether a message from below counts, or one from above may, by what the object is
abbrev pub stage_takes : ConnStage → ℕ → Said → Bool
stage_takes Waiting slot m = false
stage_takes (Running r) slot m = comes_from_peer r.ask slot m
stage_takes Over slot m = false

abbrev pub stage_asks : ConnStage → Said → Bool
stage_asks Waiting m = m.tag == stream_tag_number Begin
stage_asks (Running r) m = m.tag == stream_tag_number Send
stage_asks Over m = false

abbrev pub conn_stage_is_over : ConnStage → Bool
conn_stage_is_over Waiting = false
conn_stage_is_over (Running r) = false
conn_stage_is_over Over = true

-- nothing was asked for yet
abbrev pub IsUnopened : Tcp → Type 0
IsUnopened p = p.stage ≡ Waiting

-- what a lent window has, if it has one
abbrev pub lent_out_of : Lent → Option Held → Option Lent
lent_out_of l None = None
lent_out_of l (Some w) = Some l

abbrev pub lent_out : Lent → Option Lent
lent_out l = lent_out_of l l.held

abbrev pub conn_stage_is_waiting : ConnStage → Bool
conn_stage_is_waiting Waiting = true
conn_stage_is_waiting (Running r) = false
conn_stage_is_waiting Over = false

-- a message from the peer is this segment
abbrev pub TakesHere : ConnStage → ℕ → Said → SegmentParts → Type 0
TakesHere Waiting slot m s = ⊥
TakesHere (Running r) slot m s = (comes_from_peer r.ask slot m ≡ true) × IsLaidOut m.bytes s
TakesHere Over slot m s = ⊥

-- the core stands for one call more
abbrev pub CallsConn : Conn → Conn → ConnCall → Acts → Type 0
CallsConn old new call acts = (l : Link) (start : ℕ) (h : List ConnEntry) → ConnStands l start old h → has_ended_after h ≡ false → ConnStands l start new (h ++ conn_entry call acts ∷ [])

-- what was lent of a connection comes back to it
abbrev pub ReturnsTo : Connected → Connected → Lent → Type 0
ReturnsTo old new l = (a : ConnAsk) (start : ℕ) (calls : List ConnEntry) → TalksSo old a start calls (Some l) → TalksSo new a start (calls ++ conn_entry comes_back (only_ready false) ∷ []) None

-- a window comes back: while the connection is talked on, its core has it again
abbrev pub TakesBack : ConnStage → ConnStage → Lent → Type 0
TakesBack Waiting new l = new ≡ Waiting
TakesBack (Running r) new l = (back : Connected) × (new ≡ Running back) × ReturnsTo r back l
TakesBack Over new l = new ≡ Over

-- What waits is lent, where something does: all that is below the place that this call told.
pub record LentFrom (old new : Connected) (acts : Acts) (l : Lent) : Type 0 where
  pub asked : new.ask ≡ old.ask
  pub still : acts.ready ≡ false → (new.conn ≡ old.conn) × (l.held ≡ None)
  pub lends : acts.ready ≡ true → has_window old.conn ≡ true → (w : Held) × (l.held ≡ Some w) × (l.count ≡ unwrap_or acts.advance 0 - (window w).base)
      × ((k : Link) (start : ℕ) (calls : List ConnEntry) → ConnStands k start old.conn calls → IsLent k start calls (window w) new.conn)

-- A segment was taken by a connection that these calls were made of, and its body goes up as it stands: the core stands
-- for the calls after it and for the passing of these bytes, and nothing of it is lent.
pub record HandedOn (a : ConnAsk) (start : ℕ) (before after : List ConnEntry) (bytes : List ℕ) (acts : Acts) (r : Connected) : Type 0 where
  pub talks : TalksSo r a start (with_passing after bytes) None
  pub alive : acts.over ≡ None
  pub ready : acts.ready ≡ true
  pub lasts : comes_to_end a before after ≡ false

-- A segment was taken by a connection that these calls were made of: with it, and with what is lent of it, the core
-- stands for the calls after it.
pub record TookSegment (a : ConnAsk) (start : ℕ) (before after : List ConnEntry) (acts : Acts) (l : Lent) (r : Connected) (ends : Bool) : Type 0 where
  pub asked : r.ask ≡ a
  pub lent_so : LendsSo after acts.ready (lent_out l)
  pub stands : ConnStands (link_of a) start r.conn (with_lending after (lent_out l))
  pub none_waits : is_waiting_after (with_lending after (lent_out l)) ≡ false
  pub over : has_ended_after (with_lending after (lent_out l)) ≡ is_some acts.over
  pub lends : IsLentOut a (with_lending after (lent_out l)) r.conn (lent_out l)
  pub to_end : ends ≡ comes_to_end a before after
