-- What each call of a connection's core makes of its dialogue.
use Rattle.std.proofs.Common.{◌≡◌, ℕ, ◌++◌, ◌||◌, Bool, true, false, List, [], ◌∷◌, length, min, Option, Some, None, refl, ap, sym, ◌∙◌, subst, if◌then◌else◌}
use Rattle.std.proofs.lemmas.Bool.{false≢true, eqb-true}
use Rattle.std.proofs.lemmas.Option.{none-some, same_Some}
use Rattle.std.specs.Option.{is_some}
use Rattle.std.specs.Prelude.{IsSomeAnd}
use Rattle.nb_terms.specs.declared.acts.Acts.{Acts}
use Rattle.nb_terms.specs.declared.cause.Cause.{Cause}
use Rattle.nb_effects.specs.declared.effects.Fx.{Fx}
use Rattle.nb_graph.specs.Trace.{Said, NodeEntry, up, down, closed, time, regain, silence, in_list, LacksLoad}
use Rattle.nb_reasm.specs.declared.held.Held.{Held}
use Rattle.nb_reasm.specs.HeldWindows.{window}
use Rattle.nb_streams.specs.Flows.{TcpCall, segment_came, time_came, text_came, held_after}
use Rattle.nb_streams.specs.Segments.{Arrival}
use Rattle.nb_tcpseg.specs.SegmentText.{SegmentParts, IsLaidOut, segment_parts}
use Rattle.nb_tcpseg.specs.declared.segment.Segment.{Segment}
use Rattle.nb_tcp.specs.declared.link.Link.{Link}
use Rattle.nb_tcp.specs.declared.conn.Conn.{Conn}
use Rattle.nb_tcp.specs.Replies.{only_ready}
use Rattle.nb_tcp.specs.ConnHistory.{calls_in, comes_back, closes_from_above, ConnEntry, conn_entry, tcp_calls, waits_after, is_waiting_after, is_lent_after}
use Rattle.nb_tcp.specs.ConnPromises.{starting_acts}
use Rattle.nb_tcp.specs.ConnStanding.{WindowStands, ConnStands, HasDelivered, KeepsWindow}
use Rattle.nb_tcp.proofs.ConnHistoryLemmas.{waiting-append, lent-append}
use Rattle.nb_tcp.proofs.ConnLaws.{held_stays}
use Rattle.nb_conns.specs.declared.conn_ask.ConnAsk.{ConnAsk}
use Rattle.nb_conns.specs.declared.conn_load.Lent.{Lent}
use Rattle.nb_conns.specs.declared.stage.ConnStage.{ConnStage}
use Rattle.nb_conns.specs.declared.stage.ConnStage.TheVariants.{Waiting, Running, Over}
use Rattle.nb_conns.specs.declared.stage.Running.{Running as Connected}
use Rattle.nb_conns.specs.declared.stream_tag.StreamTag.TheVariants.{Begin, Send}
use Rattle.nb_conns.specs.declared.tcp.Tcp.{Tcp}
use Rattle.nb_conns.specs.StreamTags.{stream_tag_number}
use Rattle.nb_conns.specs.ConnAsks.{conn_ask_in, link_of}
use Rattle.nb_conns.specs.ConnLoads.{Carrier, window_of_conn}
use Rattle.nb_conns.specs.ConnEffects.{ConnEffects, SaysNothing, TookAll, received_says, ups_for, closes_for}
use Rattle.nb_conns.specs.Dialogues.{Dialogue, unopened, talking, closed_off, given_up, is_home, talked_on, comes_from_peer, with_segment_call, with_lending, with_passing, Converses, is_asked, takes_segment, hands_on, takes_none, takes_text, takes_tick, has_back, is_closed, rests_still, ConversesTo, IsLentOut, TalksSo, IsConnAt, before_asked, while_talking, once_closed, never_asked, TcpStands, CarriesOn, CarriesOnHome, TakesHere, TakesBack, ReturnsTo, CallsConn, TookSegment, HandedOn, lent_out, stage_asks}
use Rattle.nb_conns.proofs.WindowLemmas.{lent_one}
use Rattle.nb_conns.proofs.TakenLemmas.{ended_then}
use Rattle.nb_conns.proofs.DialogueLemmas.{rests_on, stands_on, runs_more, quiet_other}

or_nothing : (b : Bool) → (b || false) ≡ b
or_nothing true = refl
or_nothing false = refl

-- where it ended, or goes on
at_talked : (r : Connected) (a : ConnAsk) (start : ℕ) (calls : List ConnEntry) (out : Option Lent) (over : Option Cause) → ConnStands (link_of a) start r.conn calls → (is_some over ≡ false → TalksSo r a start calls out)
    → IsConnAt (if is_some over then Over else Running r) (talked_on a start calls out over)
at_talked r a start calls out None stands talks = while_talking r a start calls out (talks refl)
at_talked r a start calls out (Some c) stands talks = once_closed a start calls stands.keeps

at_then : (new : ConnStage) (r : Connected) (a : ConnAsk) (start : ℕ) (calls : List ConnEntry) (out : Option Lent) (over : Option Cause) → new ≡ (if is_some over then Over else Running r) → ConnStands (link_of a) start r.conn calls → (is_some over ≡ false → TalksSo r a start calls out)
    → IsConnAt new (talked_on a start calls out over)
at_then new r a start calls out over e stands talks = subst (λ (z : ConnStage). IsConnAt z (talked_on a start calls out over)) (sym e) (at_talked r a start calls out over stands talks)

-- a call that brings nothing of the stream leaves what is lent as it was
out_still : (a : ConnAsk) (calls : List ConnEntry) (old new : Conn) (c : TcpCall) (acts : Acts) (out : Option Lent) → ((m : Arrival) (now : ℕ) → calls_in c ≡ calls_in (segment_came m now) → ⊥) → KeepsWindow old new → IsLentOut a calls old out → IsLentOut a (calls ++ conn_entry (calls_in c) acts ∷ []) new out
out_still a calls old new c acts None other keeps is = (keeps.delivered is.0, lent-append calls (conn_entry (calls_in c) acts) ∙ is.1)
out_still a calls old new c acts (Some l) other keeps is =
    (lent-append calls (conn_entry (calls_in c) acts) ∙ is.0, (is.1.0, is.1.1, subst (λ z. WindowStands (window is.1.0) z) (sym (held_stays (link_of a) calls (calls_in c) acts other)) is.1.2))

talks_then : (old new : Connected) (a : ConnAsk) (start : ℕ) (calls : List ConnEntry) (out : Option Lent) (c : TcpCall) (acts : Acts) → ((m : Arrival) (now : ℕ) → calls_in c ≡ calls_in (segment_came m now) → ⊥)
    → waits_after (is_waiting_after calls) (calls_in c) acts ≡ is_waiting_after calls → new.ask ≡ old.ask → KeepsWindow old.conn new.conn → CallsConn old.conn new.conn (calls_in c) acts → TalksSo old a start calls out
    → is_some acts.over ≡ false → TalksSo new a start (calls ++ conn_entry (calls_in c) acts ∷ []) out
talks_then old new a start calls out c acts other waits same keeps once t alive =
    record {
      asked = same ∙ t.asked;
      stands = once (link_of a) start calls t.stands t.goes_on;
      goes_on = ended_then calls (conn_entry (calls_in c) acts) t.goes_on ∙ or_nothing (is_some acts.over) ∙ alive;
      none_waits = waiting-append calls (conn_entry (calls_in c) acts) ∙ waits ∙ t.none_waits;
      lends = out_still a calls old.conn new.conn c acts out other keeps t.lends;
    }

-- text
text_at : {N L : Type 0} (k : Carrier L) (m : Said) (now : ℕ) (fx : Fx N L) (acts : Acts) (old r : Connected) (new : ConnStage) → m.tag ≡ stream_tag_number Send → ConnEffects k m acts [] (closes_for acts.over) [] fx → r.ask ≡ old.ask → KeepsWindow old.conn r.conn
    → CallsConn old.conn r.conn (calls_in (text_came m.bytes now)) acts → new ≡ (if is_some acts.over then Over else Running r)
    → (d : Dialogue) → IsConnAt (Running old) d → (f : Dialogue) × Converses k d (down m now true fx) f × IsConnAt new f
text_at k m now fx acts old r new tag effects same keeps once e _ (while_talking _ a start calls out t) = (
  talked_on a start (calls ++ conn_entry (calls_in (text_came m.bytes now)) acts ∷ []) out acts.over,
  takes_text a start calls out m now fx acts tag effects,
  at_then new r a start _ out acts.over e (once (link_of a) start calls t.stands t.goes_on) (talks_then old r a start calls out (text_came m.bytes now) acts (λ x n h. (let z = h in cc)) refl same keeps once t),
)

pub text_on : {N L : Type 0} (k : Carrier L) (m : Said) (now : ℕ) (fx : Fx N L) (acts : Acts) (old r : Connected) (new : ConnStage) → m.tag ≡ stream_tag_number Send → ConnEffects k m acts [] (closes_for acts.over) [] fx → r.ask ≡ old.ask → KeepsWindow old.conn r.conn
    → CallsConn old.conn r.conn (calls_in (text_came m.bytes now)) acts → new ≡ (if is_some acts.over then Over else Running r) → CarriesOn k (Running old) new (down m now true fx)
text_on k m now fx acts old r new tag effects same keeps once e = λ d at. text_at k m now fx acts old r new tag effects same keeps once e d at

-- a time
tick_at : {N L : Type 0} (k : Carrier L) (now : ℕ) (fx : Fx N L) (acts : Acts) (old r : Connected) (new : ConnStage) → ConnEffects k silence acts [] (closes_for acts.over) [] fx → r.ask ≡ old.ask → KeepsWindow old.conn r.conn
    → CallsConn old.conn r.conn (calls_in (time_came now)) acts → new ≡ (if is_some acts.over then Over else Running r)
    → (d : Dialogue) → IsConnAt (Running old) d → (f : Dialogue) × Converses k d (time now true fx) f × IsConnAt new f
tick_at k now fx acts old r new effects same keeps once e _ (while_talking _ a start calls out t) = (
  talked_on a start (calls ++ conn_entry (calls_in (time_came now)) acts ∷ []) out acts.over,
  takes_tick a start calls out now fx acts effects,
  at_then new r a start _ out acts.over e (once (link_of a) start calls t.stands t.goes_on) (talks_then old r a start calls out (time_came now) acts (λ x n h. (let z = h in cc)) refl same keeps once t),
)

pub tick_on : {N L : Type 0} (k : Carrier L) (now : ℕ) (fx : Fx N L) (acts : Acts) (old r : Connected) (new : ConnStage) → ConnEffects k silence acts [] (closes_for acts.over) [] fx → r.ask ≡ old.ask → KeepsWindow old.conn r.conn
    → CallsConn old.conn r.conn (calls_in (time_came now)) acts → new ≡ (if is_some acts.over then Over else Running r) → CarriesOn k (Running old) new (time now true fx)
tick_on k now fx acts old r new effects same keeps once e = λ d at. tick_at k now fx acts old r new effects same keeps once e d at

-- the beginning
begin_at : {N L : Type 0} (k : Carrier L) (a : ConnAsk) (m : Said) (now : ℕ) (fx : Fx N L) (r : Connected) (new : ConnStage) → m.tag ≡ stream_tag_number Begin → conn_ask_in m.bytes ≡ Some a → ConnEffects k m (starting_acts (link_of a)) [] [] [] fx → TalksSo r a now [] None → new ≡ Running r
    → (d : Dialogue) → IsConnAt Waiting d → (f : Dialogue) × Converses k d (down m now true fx) f × IsConnAt new f
begin_at k a m now fx r new tag asks effects talks e _ before_asked =
    (talking a now [] None, is_asked a m now fx tag asks effects, subst (λ (z : ConnStage). IsConnAt z (talking a now [] None)) (sym e) (while_talking r a now [] None talks))

pub begin_on : {N L : Type 0} (k : Carrier L) (a : ConnAsk) (m : Said) (now : ℕ) (fx : Fx N L) (r : Connected) (acts : Acts) (new : ConnStage) → m.tag ≡ stream_tag_number Begin → conn_ask_in m.bytes ≡ Some a → acts ≡ starting_acts (link_of a) → ConnEffects k m acts [] (closes_for acts.over) [] fx → TalksSo r a now [] None
    → new ≡ (if is_some acts.over then Over else Running r) → CarriesOn k Waiting new (down m now true fx)
begin_on k a m now fx r acts new tag asks is effects talks e = λ d at.
    begin_at k a m now fx r new tag asks (subst (λ (z : Acts). ConnEffects k m z [] (closes_for z.over) [] fx) is effects) talks (e ∙ ap (λ (z : Acts). if is_some z.over then Over else Running r) is) d at

-- a segment
segment_at : {N L : Type 0} (k : Carrier L) (slot : ℕ) (m : Said) (now : ℕ) (fx : Fx N L) (s : SegmentParts) (acts : Acts) (old r : Connected) (l : Lent) (ends : Bool) (new : ConnStage) → TakesHere (Running old) slot m s
    → ConnEffects k m acts (ups_for m.rec (lent_out l) ends) (closes_for acts.over) (in_list (lent_out l)) fx → TookAll m fx
    → ((a : ConnAsk) (start : ℕ) (calls : List ConnEntry) → TalksSo old a start calls None → TookSegment a start calls (with_segment_call calls m.rec s now acts) acts l r ends) → new ≡ (if is_some acts.over then Over else Running r)
    → (d : Dialogue) → is_home d ≡ true → IsConnAt (Running old) d → (f : Dialogue) × Converses k d (up slot m now true fx) f × IsConnAt new f
segment_at k slot m now fx s acts old r l ends new here effects all took e _ home (while_talking _ a start calls (Some x) t) = absurd (false≢true home)
segment_at {N} {L} k slot m now fx s acts old r l ends new here effects all took e _ home (while_talking _ a start calls None t) =
    let after = with_segment_call calls m.rec s now acts in
    let is = took a start calls t in
    let from : comes_from_peer a slot m ≡ true = ap (λ z. comes_from_peer z slot m) (sym t.asked) ∙ here.0 in (
      talked_on a start (with_lending after (lent_out l)) (lent_out l) acts.over,
      takes_segment a start calls slot m now fx s acts (lent_out l) from here.1 is.lent_so (subst (λ z. ConnEffects k m acts (ups_for m.rec (lent_out l) z) (closes_for acts.over) (in_list (lent_out l)) fx) is.to_end effects) all,
      at_then new r a start (with_lending after (lent_out l)) (lent_out l) acts.over e is.stands (λ alive. record { asked = is.asked; stands = is.stands; goes_on = is.over ∙ alive; none_waits = is.none_waits; lends = is.lends }),
    )

pub segment_on : {N L : Type 0} (k : Carrier L) (slot : ℕ) (m : Said) (now : ℕ) (fx : Fx N L) (s : SegmentParts) (acts : Acts) (old r : Connected) (l : Lent) (ends : Bool) (new : ConnStage) → TakesHere (Running old) slot m s
    → ConnEffects k m acts (ups_for m.rec (lent_out l) ends) (closes_for acts.over) (in_list (lent_out l)) fx → TookAll m fx
    → ((a : ConnAsk) (start : ℕ) (calls : List ConnEntry) → TalksSo old a start calls None → TookSegment a start calls (with_segment_call calls m.rec s now acts) acts l r ends) → new ≡ (if is_some acts.over then Over else Running r)
    → CarriesOnHome k (Running old) new (up slot m now true fx)
segment_on k slot m now fx s acts old r l ends new here effects all took e = λ d home at. segment_at k slot m now fx s acts old r l ends new here effects all took e d home at

-- a segment whose body goes up as it stands
handed_at : {N L : Type 0} (k : Carrier L) (slot : ℕ) (m : Said) (now : ℕ) (fx : Fx N L) (s : SegmentParts) (acts : Acts) (old r : Connected) (new : ConnStage) → TakesHere (Running old) slot m s
    → ConnEffects k m acts (received_says m.rec s.body ∷ []) [] [] fx → TookAll m fx
    → ((a : ConnAsk) (start : ℕ) (calls : List ConnEntry) → TalksSo old a start calls None → HandedOn a start calls (with_segment_call calls m.rec s now acts) s.body acts r) → new ≡ Running r
    → (d : Dialogue) → is_home d ≡ true → IsConnAt (Running old) d → (f : Dialogue) × Converses k d (up slot m now true fx) f × IsConnAt new f
handed_at k slot m now fx s acts old r new here effects all handed e _ home (while_talking _ a start calls (Some x) t) = absurd (false≢true home)
handed_at {N} {L} k slot m now fx s acts old r new here effects all handed e _ home (while_talking _ a start calls None t) =
    let after = with_passing (with_segment_call calls m.rec s now acts) s.body in
    let is = handed a start calls t in
    let from : comes_from_peer a slot m ≡ true = ap (λ z. comes_from_peer z slot m) (sym t.asked) ∙ here.0 in (
      talking a start after None,
      hands_on a start calls slot m now fx s acts from here.1 is.alive is.ready is.lasts effects all,
      subst (λ (z : ConnStage). IsConnAt z (talking a start after None)) (sym e) (while_talking r a start after None is.talks),
    )

pub handed_on : {N L : Type 0} (k : Carrier L) (slot : ℕ) (m : Said) (now : ℕ) (fx : Fx N L) (s : SegmentParts) (acts : Acts) (old r : Connected) (new : ConnStage) → TakesHere (Running old) slot m s
    → ConnEffects k m acts (received_says m.rec s.body ∷ []) [] [] fx → TookAll m fx
    → ((a : ConnAsk) (start : ℕ) (calls : List ConnEntry) → TalksSo old a start calls None → HandedOn a start calls (with_segment_call calls m.rec s now acts) s.body acts r) → new ≡ Running r
    → CarriesOnHome k (Running old) new (up slot m now true fx)
handed_on k slot m now fx s acts old r new here effects all handed e = λ d home at. handed_at k slot m now fx s acts old r new here effects all handed e d home at

-- bytes that are no segment
none_at : {N L : Type 0} (k : Carrier L) (slot : ℕ) (m : Said) (now : ℕ) (fx : Fx N L) (r : Connected) → ((s : SegmentParts) → IsLaidOut m.bytes s → ⊥) → SaysNothing fx → fx.closes.items ≡ [] → TookAll m fx
    → (d : Dialogue) → IsConnAt (Running r) d → (f : Dialogue) × Converses k d (up slot m now true fx) f × IsConnAt (Running r) f
none_at k slot m now fx r none says shut all _ (while_talking _ a start calls out t) = (
  talking a start calls out,
  takes_none a start calls out slot m now fx none says shut all,
  while_talking r a start calls out t,
)

pub none_on : {N L : Type 0} (k : Carrier L) (slot : ℕ) (m : Said) (now : ℕ) (fx : Fx N L) (r : Connected) → ((s : SegmentParts) → IsLaidOut m.bytes s → ⊥) → SaysNothing fx → fx.closes.items ≡ [] → TookAll m fx → CarriesOn k (Running r) (Running r) (up slot m now true fx)
none_on k slot m now fx r none says shut all = λ d at. none_at k slot m now fx r none says shut all d at

pub none_goes : {N L : Type 0} (k : Carrier L) (slot : ℕ) (m : Said) (now : ℕ) (fx : Fx N L) (w : ConnStage) (r : Connected) → w ≡ Running r → (bytes : List ℕ) → m.bytes ≡ bytes → {found : Option Segment} → ((s : SegmentParts) → IsLaidOut bytes s → IsSomeAnd found (λ x. segment_parts x ≡ s)) → found ≡ None → SaysNothing fx × (fx.closes.items ≡ []) → fx.took ≡ min (length bytes) 4294967295
    → CarriesOn k w w (up slot m now true fx)
none_goes k slot m now fx w r is bytes b {found} complete none blank took =
    subst (λ (z : ConnStage). CarriesOn k z z (up slot m now true fx)) (sym is)
    (none_on k slot m now fx r (λ s has. refused found none s (complete s (subst (λ z. IsLaidOut z s) b has))) blank.0 blank.1 (took ∙ ap (λ (z : List ℕ). min (length z) 4294967295) (sym b)))
  where
    refused : (o : Option Segment) → o ≡ None → (s : SegmentParts) → IsSomeAnd o (λ x. segment_parts x ≡ s) → ⊥
    refused None e s h = h
    refused (Some x) e s h = none-some x (sym e)

-- a message that is text for a connection
pub send_tag : (w : ConnStage) (r : Connected) (m : Said) → w ≡ Running r → stage_asks w m ≡ true → m.tag ≡ stream_tag_number Send
send_tag w r m is h = eqb-true m.tag (stream_tag_number Send) (ap (λ (z : ConnStage). stage_asks z m) (sym is) ∙ h)

-- a message from the peer, where the object is talked to
pub here_in : (w : ConnStage) (r : Connected) (slot : ℕ) (m : Said) (s : SegmentParts) → w ≡ Running r → TakesHere w slot m s → TakesHere (Running r) slot m s
here_in w r slot m s is h = subst (λ (z : ConnStage). TakesHere z slot m s) is h

-- a close from above
shut_at : {N L : Type 0} (k : Carrier L) (cause : Cause) (now : ℕ) (fx : Fx N L) (acts : Acts) (r : Connected) (c : Conn) → ConnEffects k silence acts [] ((1, cause) ∷ []) [] fx → CallsConn r.conn c closes_from_above acts
    → (d : Dialogue) → IsConnAt (Running r) d → (f : Dialogue) × Converses k d (closed 0 cause now fx) f × IsConnAt Over f
shut_at k cause now fx acts r c effects once _ (while_talking _ a start calls out t) =
    (closed_off a start (calls ++ conn_entry closes_from_above acts ∷ []), is_closed a start calls out cause now fx acts effects, once_closed a start _ (once (link_of a) start calls t.stands t.goes_on).keeps)

pub shut_on : {N L : Type 0} (k : Carrier L) (cause : Cause) (now : ℕ) (fx : Fx N L) (acts : Acts) (r : Connected) (c : Conn) → ConnEffects k silence acts [] ((1, cause) ∷ []) [] fx → CallsConn r.conn c closes_from_above acts → CarriesOn k (Running r) Over (closed 0 cause now fx)
shut_on k cause now fx acts r c effects once = λ d at. shut_at k cause now fx acts r c effects once d at

-- a window comes back
pub back_talks : (old new : Connected) (l : Lent) (w : Held) → new.ask ≡ old.ask → l.held ≡ Some w
    → ((k : Link) (start : ℕ) (h : List ConnEntry) → ConnStands k start old.conn h → is_lent_after h ≡ true → WindowStands (window w) (held_after k.isn (tcp_calls h)) → ConnStands k start new.conn (h ++ conn_entry comes_back (only_ready false) ∷ []))
    → HasDelivered new.conn → ReturnsTo old new l
back_talks old new l w asked held stands delivered = λ a start calls t.
    let same : window t.lends.1.0 ≡ window w = ap (λ (z : Held). window z) (same_Some t.lends.1.0 w (sym t.lends.1.1 ∙ held)) in
    record {
      asked = asked ∙ t.asked;
      stands = stands (link_of a) start calls t.stands t.lends.0 (subst (λ z. WindowStands z (held_after a.isn (tcp_calls calls))) same t.lends.1.2);
      goes_on = ended_then calls (conn_entry comes_back (only_ready false)) t.goes_on;
      none_waits = waiting-append calls (conn_entry comes_back (only_ready false));
      lends = (delivered, lent-append calls (conn_entry comes_back (only_ready false)));
    }

pub back_none : (w : ConnStage) (l : Lent) → l.held ≡ None → TakesBack w w l
back_none Waiting l held = refl
back_none (Running old) l held = (old, refl, λ a start calls t. absurd (none-some t.lends.1.0 (sym held ∙ t.lends.1.1)))
back_none Over l held = refl

-- the object takes it
back_step : {N L : Type 0} (k : Carrier L) (w new : ConnStage) (d : Dialogue) (t : List (NodeEntry N L)) (load : L) (l : Lent) → TakesBack w new l → ConversesTo k unopened t d → IsConnAt w d → LacksLoad t load → window_of_conn (k.as_conn load) ≡ l ∷ []
    → (f : Dialogue) × Converses {N = N} k d (regain load) f × IsConnAt new f
back_step k _ new _ t load l back run before_asked lacks is = (unopened, rests_still unopened (regain load) refl tt, subst (λ (z : ConnStage). IsConnAt z unopened) (sym back) before_asked)
back_step k _ new _ t load l back run (once_closed a start calls keeps) lacks is = (closed_off a start calls, rests_still (closed_off a start calls) (regain load) refl tt, subst (λ (z : ConnStage). IsConnAt z (closed_off a start calls)) (sym back) (once_closed a start calls keeps))
back_step k _ new _ t load l back run never_asked lacks is = (given_up, rests_still given_up (regain load) refl tt, subst (λ (z : ConnStage). IsConnAt z given_up) (sym back) never_asked)
back_step {N} {L} k _ new _ t load l back run (while_talking r a start calls out so) lacks is =
    let one : out ≡ Some l = lent_one k a start calls out t load l run lacks is in (
      talking a start (calls ++ conn_entry comes_back (only_ready false) ∷ []) None,
      subst (λ z. Converses {N = N} k (talking a start calls z) (regain load) (talking a start (calls ++ conn_entry comes_back (only_ready false) ∷ []) None)) (sym one) (has_back a start calls l load is),
      subst (λ (z : ConnStage). IsConnAt z (talking a start (calls ++ conn_entry comes_back (only_ready false) ∷ []) None)) (sym back.1) (while_talking back.0 a start _ None (back.2 a start calls (subst (λ z. TalksSo r a start calls z) one so))),
    )

pub back_on : {N L : Type 0} (k : Carrier L) (p q : Tcp) (t : List (NodeEntry N L)) (load : L) (l : Lent) → TakesBack p.stage q.stage l → window_of_conn (k.as_conn load) ≡ l ∷ [] → TcpStands k p t → LacksLoad t load → TcpStands k q (t ++ regain load ∷ [])
back_on k p q t load l back is s lacks =
    let g = back_step k p.stage q.stage s.dialogue t load l back s.run s.at lacks is in
    record { dialogue = g.0; run = runs_more k unopened s.dialogue g.0 t (regain load) s.run g.1; at = g.2 }

pub other_on : {N L : Type 0} (k : Carrier L) (p q : Tcp) (t : List (NodeEntry N L)) (load : L) → q.stage ≡ p.stage → window_of_conn (k.as_conn load) ≡ [] → TcpStands k p t → TcpStands k q (t ++ regain load ∷ [])
other_on {N} {L} k p q t load same is s = stands_on k p q t (regain load) (subst (λ (z : ConnStage). CarriesOn {N = N} k p.stage z (regain load)) (sym same) (rests_on k p.stage (regain load) (λ d at. quiet_other N k load d is) tt)) s
