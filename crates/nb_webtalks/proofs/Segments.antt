-- A segment puts what its promise says, and the three go on, or have brought the response.
use Rattle.std.proofs.Common.{◌≡◌, ℕ, suc, ◌+◌, ◌<◌, ◌^◌, ◌==◌, ◌&&◌, Bool, true, false, not, List, [], ◌∷◌, ◌++◌, length, Option, Some, None, refl, sym, ap, ◌∙◌, subst, append_assoc, append-nil, length-append, arith}
use Rattle.std.proofs.lemmas.Bool.{eqb-true, false≢true}
use Rattle.std.proofs.lemmas.List.Concat.{flat_map-append}
use Rattle.std.proofs.lemmas.Option.{none-some, same_Some}
use Rattle.nb_terms.specs.declared.acts.Acts.{Acts}
use Rattle.nb_terms.specs.declared.cause.Cause.{Cause}
use Rattle.nb_graph.specs.Deeds.{Offers, told_of}
use Rattle.nb_graph.specs.Trace.{Said}
use Rattle.nb_graph.specs.Whole.{Objects, port_at}
use Rattle.nb_ledger.specs.Flat.{Notice}
use Rattle.nb_streams.specs.Endings.{segment_end}
use Rattle.nb_streams.specs.Flows.{TcpCall, ConnPhase, after_tcp_call, conn_phase, held_after, held_in, segment_came}
use Rattle.nb_streams.specs.Segments.{Arrival}
use Rattle.nb_streams.specs.Sending.{calls_for, closing_segment, without_try}
use Rattle.nb_streams.specs.Streams.{front, grown, has_ended, next}
use Rattle.nb_talks.specs.TalkPromises.{closes_by, earlier}
use Rattle.nb_streams.proofs.FlowLaws.{front_grows}
use Rattle.nb_tcp.specs.ConnHistory.{ConnEntry, EachConnEntry, calls_in, closes_from_above, conn_entry, delivered, lends_out, tcp_calls, tcp_calls_of}
use Rattle.nb_tcp.specs.ConnPromises.{AsksAsPromised, ConnKeeps, segment_asks}
use Rattle.nb_tcp.proofs.ConnHistoryLemmas.{calls-append, delivered-append, phase-append}
use Rattle.nb_tcp.specs.Replies.{only_ready}
use Rattle.nb_tcpseg.specs.SegmentText.{IsLaidOut, SegmentParts}
use Rattle.nb_conns.specs.declared.conn_ask.ConnAsk.{ConnAsk}
use Rattle.nb_conns.specs.declared.conn_load.Lent.{Lent}
use Rattle.nb_conns.specs.ConnAsks.{link_of}
use Rattle.nb_conns.specs.ConnEffects.{downs_for, place_says}
use Rattle.nb_conns.specs.Dialogues.{ConversesTo, Dialogue, IsConnAt, arriving, comes_from_peer, comes_to_end, is_talking, talked_on, talking, unopened, with_segment_call}
use Rattle.nb_http.proofs.RunLaws.{goes_on_undecided}
use Rattle.nb_http.specs.Standing.{Core}
use Rattle.nb_nodes.specs.declared.obj.Obj.{Obj}
use Rattle.nb_nodes.specs.Carriers.{conn_carrier, web_carrier}
use Rattle.nb_nodes.specs.Fetches.{closed_well, moved_in, taken_below}
use Rattle.nb_opens.specs.Entries.{entries_of}
use Rattle.nb_opens.specs.Notices.{first_close}
use Rattle.nb_readings.specs.Ends.{text_of, verdict_end}
use Rattle.nb_readings.specs.Readings.{response_read}
use Rattle.nb_responses.specs.Chunks.{Response}
use Rattle.nb_webs.specs.Webs.{response_come, web_put}
use Rattle.nb_webchains.specs.declared.web_chain.WebChain.{WebChain}
use Rattle.nb_webchains.specs.WebChains.{IsInOrder}
use Rattle.nb_webnodes.specs.WebAsks.{AskParts}
use Rattle.nb_webnodes.specs.WebTalks.{FetchedTo, ReadsOn, WebTalk, fetching, web_decided, web_unasked}
use Rattle.nb_webtalks.specs.TalkStands.{StandsForTalk, stream_by}
use Rattle.nb_webtalks.specs.Tellings.{messages_of}
use Rattle.nb_webtalks.specs.Comings.{HasBrought, SegmentComes, response_end, segment_comes_so, segment_lacks_memory, segment_says, sends_say, calls_with_segment}
use Rattle.nb_webtalks.proofs.Upward.{LetsUp, lets_all, lets_gave, lets_none, lets_silent}
use Rattle.nb_webtalks.proofs.Walking.{WebCall}
use Rattle.nb_webtalks.proofs.Steps.{walked}
use Rattle.nb_webtalks.proofs.Lowers.{asked_at, had}
use Rattle.nb_webtalks.proofs.Rising.{ClosingOf, told_a_close, told_none}
use Rattle.nb_webtalks.proofs.Calls.{CallDid, did_break, did_decide, did_fail, did_go}
use Rattle.nb_webtalks.proofs.Entering.{SegmentDid, segment_does, segment_fails, segment_walk}
use Rattle.nb_webtalks.proofs.Starting.{Started, call_of}
use Rattle.nb_webtalks.proofs.Coming.{GoesOn, conversed_parts, each_at, fetched_parts, is_fetching, is_talked, kept_at, on_from}
use Rattle.nb_webtalks.proofs.Going.{PairGoes, stands_then}

-- WHERE A CALL LEFT A CONNECTION

pub had_then : (a : ConnAsk) (start : ℕ) (es : List ConnEntry) (out : Option Lent) (over : Option Cause) → had (talked_on a start es out over) ≡ es
had_then a start es out None = refl
had_then a start es out (Some y) = refl

pub asked_then : (a : ConnAsk) (start : ℕ) (es : List ConnEntry) (out : Option Lent) (over : Option Cause) → asked_at (talked_on a start es out over) ≡ Some (a, start)
asked_then a start es out None = refl
asked_then a start es out (Some y) = refl

pub over_then : (a : ConnAsk) (start : ℕ) (es : List ConnEntry) (out : Option Lent) (over : Option Cause) → is_talking (talked_on a start es out over) ≡ true → over ≡ None
over_then a start es out None on = refl
over_then a start es out (Some y) on = absurd (false≢true on)

pub ended_then : (a : ConnAsk) (start : ℕ) (es : List ConnEntry) (out : Option Lent) (over : Option Cause) → is_talking (talked_on a start es out over) ≡ false → (y : Cause) × (over ≡ Some y)
ended_then a start es out None off = absurd (false≢true (sym off))
ended_then a start es out (Some y) off = (y, refl)

-- ALL THAT HAS COME

no_longer : (xs rest ys : List ℕ) → ys ≡ xs ++ rest → length xs ≡ length ys → xs ≡ ys
no_longer xs [] ys is same = sym (append-nil xs) ∙ sym is
no_longer xs (r ∷ rest) ys is same = absurd (let z : length ys ≡ length xs + length (r ∷ rest) = ap length is ∙ length-append xs (r ∷ rest) in omega (arith, z, same))

-- nothing more waited after a segment: as much has come as before
none_more : (isn : ℕ) (calls : List TcpCall) (c : TcpCall) → (next (held_after isn calls) == next (held_after isn (calls ++ c ∷ []))) ≡ true → front (held_after isn calls) ≡ front (held_after isn (calls ++ c ∷ []))
none_more isn calls c same = let p = front_grows isn calls (c ∷ []) in no_longer (front (held_after isn calls)) p.0 (front (held_after isn (calls ++ c ∷ []))) p.1 (eqb-true _ _ same)

not_off : (b : Bool) → not b ≡ false → b ≡ true
not_off true h = refl
not_off false h = absurd (false≢true (sym h))

module _ (a : ConnAsk) (start : ℕ) (calls : List TcpCall) (entries : List ConnEntry) (called : tcp_calls entries ≡ calls) (gave : delivered entries ≡ stream_by a calls) (m : Arrival) (now : ℕ) (acts : Acts) where
  abbrev entry : ConnEntry
  entry = conn_entry (calls_in (segment_came m now)) acts

  abbrev phase : ConnPhase
  phase = conn_phase a.isn calls

  -- what the entry asked is what its promise says
  asks_so : (es more : List ConnEntry) → es ≡ entries ++ entry ∷ more → ConnKeeps (link_of a) start es → acts ≡ segment_asks (link_of a) phase m now
  asks_so es more is keeps =
      (each_at (AsksAsPromised (link_of a) start) [] entries entry more (subst (EachConnEntry (AsksAsPromised (link_of a) start) []) is keeps.each)).0 ∙ ap (λ z. segment_asks (link_of a) (conn_phase a.isn z) m now) called

  come_then : after_tcp_call a.isn phase (segment_came m now) ≡ conn_phase a.isn (calls_with_segment calls m now)
  come_then = sym (phase-append a.isn calls (segment_came m now))

  module _ (asked : acts ≡ segment_asks (link_of a) phase m now) where
    says_so : downs_for m.rec acts ≡ place_says m.rec (web_put a.isn calls m now).advance ++ sends_say (link_of a) m.rec (calls_for a.isn phase m.segment)
    says_so =
        ap (downs_for m.rec) asked
        ∙ ap (λ z. place_says m.rec (grown (next (held_in phase)) (next (held_in z))) ++ sends_say (link_of a) m.rec (calls_for a.isn phase m.segment)) come_then

    ends_so : acts.over ≡ segment_end a.isn phase m
    ends_so = ap (λ (z : Acts). z.over) asked

    -- with what rose all has
    comes_so : (es more behind : List ConnEntry) (sent : List ℕ) → es ≡ entries ++ entry ∷ (behind ++ more) → ConnKeeps (link_of a) start es → LetsUp acts.ready behind sent → stream_by a calls ++ sent ≡ stream_by a (calls_with_segment calls m now)
    comes_so es more _ _ is keeps (lets_none idle) =
        append-nil (stream_by a calls)
        ∙ none_more a.isn calls (segment_came m now) (ap (λ z. next (held_in phase) == next (held_in z)) (sym come_then) ∙ not_off _ (sym (ap (λ (z : Acts). z.ready) asked) ∙ idle))
    comes_so es more _ _ is keeps (lets_all bytes back silent holds) =
        let lends : ConnEntry = conn_entry (lends_out bytes) (only_ready false) in
        let es_is : es ≡ (entries ++ entry ∷ []) ++ lends ∷ (back ++ more) = is ∙ sym (append_assoc entries (entry ∷ []) (lends ∷ (back ++ more))) in
        ap (λ z. z ++ bytes) (sym gave ∙ sym (append-nil (delivered entries)) ∙ sym (delivered-append entries entry))
        ∙ each_at (AsksAsPromised (link_of a) start) [] (entries ++ entry ∷ []) lends (back ++ more) (subst (EachConnEntry (AsksAsPromised (link_of a) start) []) es_is keeps.each)
        ∙ ap (stream_by a) (calls-append entries entry ∙ ap (λ z. z ++ segment_came m now ∷ []) called)

-- what is known where a call left the connection so
record Knows (a : ConnAsk) (start : ℕ) (calls : List TcpCall) (m : Arrival) (now : ℕ) (acts : Acts) (sent : List ℕ) (p : Dialogue) : Type 0 where
  keeps : ConnKeeps (link_of a) start (had p)
  asked : acts ≡ segment_asks (link_of a) (conn_phase a.isn calls) m now
  all : stream_by a calls ++ sent ≡ stream_by a (calls_with_segment calls m now)

module _ (c : WebChain) (order : IsInOrder c) (g h : Objects Obj) (now : ℕ) (ns : List Notice) (a : ConnAsk) (start : ℕ) (calls : List TcpCall) (s : StandsForTalk a start calls c g) (msg : Said) (sp : SegmentParts)
    (comes : comes_from_peer a 1 msg ≡ true) (is : IsLaidOut msg.bytes sp) (short : length msg.bytes < 2 ^ 32) (st : Started c order g h now (Offers (port_at c.conn.0 1) msg ∷ []) ns s.above s.between s.below) where
  abbrev m : Arrival
  m = arriving msg.rec sp

  abbrev end_of : WebTalk → Dialogue → WebCall
  end_of w d = call_of c order h now (s.above ++ entries_of c.fetch.0 st.deeds) w d

  -- by these runs it did so
  record Did (w : WebTalk) (d : Dialogue) : Type 0 where
    entries : List ConnEntry
    q : AskParts
    called : tcp_calls entries ≡ calls
    gave : delivered entries ≡ stream_by a calls
    did : SegmentDid (end_of w d) (suc (length st.deeds)) st.deeds a start entries q (stream_by a calls) msg sp

  did_by : (w : WebTalk) (d : Dialogue) → FetchedTo web_carrier web_unasked (s.between ++ entries_of c.web.0 st.deeds) w → ConversesTo conn_carrier unopened (s.below ++ entries_of c.conn.0 st.deeds) d → Did w d
  did_by w d reads talks =
      let p = fetched_parts web_unasked w s.between (entries_of c.web.0 st.deeds) reads in
      let e = conversed_parts unopened d s.below (entries_of c.conn.0 st.deeds) talks in
      let f = is_fetching p.0 (stream_by a calls) (taken_below s.above) (s.took p.0 p.1) in
      let t = is_talked e.0 a start calls (s.called e.0 e.1) in
      record {
        entries = t.entries;
        q = f.q;
        called = t.called;
        gave = t.gave;
        did = segment_walk f.reads s.gathering refl msg sp comes is short
            (st.walk (fetching f.q f.core (stream_by a calls) (taken_below s.above)) w (talking a start t.entries None) d (subst (λ z. FetchedTo web_carrier z (entries_of c.web.0 st.deeds) w) f.is p.2) (subst (λ z. ConversesTo conn_carrier z (entries_of c.conn.0 st.deeds) d) t.is e.2));
      }

  told_close : first_close (told_of st.deeds) ≡ first_close ns
  told_close = ap first_close st.told

  -- where nothing was closed all go on
  pair : first_close ns ≡ None → (w : WebTalk) (d : Dialogue) → FetchedTo web_carrier web_unasked (s.between ++ entries_of c.web.0 st.deeds) w → ConversesTo conn_carrier unopened (s.below ++ entries_of c.conn.0 st.deeds) d
      → PairGoes c order g h now (Offers (port_at c.conn.0 1) msg ∷ []) ns s.above s.between s.below st a start calls (segment_came m now) (stream_by a calls) msg.rec w d
  pair none w d reads talks = let y = did_by w d reads talks in record { entries = y.entries; q = y.q; called = y.called; gave = y.gave; goes = by y.entries y.q y.did }
    where
      by : (entries : List ConnEntry) (q : AskParts) → SegmentDid (end_of w d) (suc (length st.deeds)) st.deeds a start entries q (stream_by a calls) msg sp → GoesOn (end_of w d) st.deeds a start entries (segment_came m now) q (stream_by a calls) msg.rec
      by entries q (segment_fails out) = absurd (none-some _ (sym (told_close ∙ none) ∙ out))
      by entries q (segment_does acts es behind sent out is lets did) = (on_from acts es behind sent out _ is (lets_silent acts.ready behind sent lets) (lets_gave acts.ready behind sent lets) did (told_close ∙ none)).0

  module _ (entries : List ConnEntry) (q : AskParts) (called : tcp_calls entries ≡ calls) (gave : delivered entries ≡ stream_by a calls) (acts : Acts) (es behind : List ConnEntry) (sent : List ℕ) (out : Option Lent)
      (es_is : es ≡ entries ++ conn_entry (calls_in (segment_came m now)) acts ∷ behind) (lets : LetsUp acts.ready behind sent) where
    abbrev left_at : Dialogue
    left_at = talked_on a start es out acts.over

    knows : (p : Dialogue) (rest : List ConnEntry) → p ≡ st.dialogue → asked_at p ≡ Some (a, start) → had p ≡ es ++ rest → Knows a start calls m now acts sent p
    knows p rest at asked had_is =
        let e : ConnEntry = conn_entry (calls_in (segment_came m now)) acts in
        let keeps = kept_at st.state p a start (subst (IsConnAt st.state) (sym at) st.is_conn) asked in
        let p_is : had p ≡ entries ++ e ∷ (behind ++ rest) = had_is ∙ ap (λ z. z ++ rest) es_is ∙ append_assoc entries (e ∷ behind) rest in
        let so = asks_so a start calls entries called gave m now acts (had p) (behind ++ rest) p_is keeps in
        record { keeps = keeps; asked = so; all = comes_so a start calls entries called gave m now acts so (had p) rest behind sent p_is keeps lets }

    -- whether the stream has ended then
    ends_then : (b : Bool) → comes_to_end a entries (with_segment_call entries msg.rec sp now acts) ≡ b → has_ended (held_after a.isn (calls_with_segment calls m now)) ≡ b
    ends_then b is_so =
        let e : ConnEntry = conn_entry (calls_in (segment_came m now)) acts in
        let was : has_ended (held_after a.isn (tcp_calls entries)) ≡ false = ap (λ z. has_ended (held_after a.isn z)) called ∙ s.unended in
        ap (λ z. has_ended (held_after a.isn z)) (ap (λ z. z ++ segment_came m now ∷ []) (sym called) ∙ sym (calls-append entries e))
        ∙ ap (λ z. not z && has_ended (held_after a.isn (tcp_calls (with_segment_call entries msg.rec sp now acts)))) (sym was) ∙ is_so

    abbrev phase_at : ConnPhase
    phase_at = conn_phase a.isn calls

    abbrev close_says : Option Cause → Option Cause → List Said
    close_says ends other = sends_say (link_of a) 0 (closes_by ends other a.isn (conn_phase a.isn (calls_with_segment calls m now)))

    -- its messages, with those of the close
    all_says : (told : List Said) → messages_of (told_of st.deeds) ≡ downs_for msg.rec acts ++ told → acts ≡ segment_asks (link_of a) phase_at m now → (ends : Option Cause) → response_end a calls m now ≡ ends
        → told ≡ close_says ends acts.over → messages_of ns ≡ segment_says a calls m now
    all_says told says asked ends is_so closes =
        let place = place_says msg.rec (web_put a.isn calls m now).advance in
        let sends = sends_say (link_of a) msg.rec (calls_for a.isn phase_at m.segment) in
        ap messages_of (sym st.told) ∙ says ∙ ap (λ z. z ++ told) (says_so a start calls entries called gave m now acts asked) ∙ append_assoc place sends told
        ∙ ap (λ z. place ++ (sends ++ z)) (closes ∙ ap (close_says ends) (ends_so a start calls entries called gave m now acts asked) ∙ ap (λ z. close_says z (segment_end a.isn phase_at m)) (sym is_so))

    -- what reads on ends nothing
    none_ends : (core : Core) (given : List ℕ) → ReadsOn core (stream_by a calls ++ sent) given → stream_by a calls ++ sent ≡ stream_by a (calls_with_segment calls m now) → comes_to_end a entries (with_segment_call entries msg.rec sp now acts) ≡ false
        → response_end a calls m now ≡ None
    none_ends core given reads all off =
        let stream = stream_by a calls ++ sent in
        let y = goes_on_undecided reads.rec core stream given None reads.ran reads.goes_on in
        ap (λ (r : Response). verdict_end msg.rec r.verdict) (ap (λ z. response_read z (has_ended (held_after a.isn (calls_with_segment calls m now)))) (sym all) ∙ ap (response_read stream) (ends_then false off) ∙ y.0)

    came_of : CallDid (end_of st.talk st.dialogue) (suc (length st.deeds)) st.deeds left_at acts.over (downs_for msg.rec acts) q msg.rec (stream_by a calls) sent (comes_to_end a entries (with_segment_call entries msg.rec sp now acts))
        → SegmentComes a start calls c h m now ns
    came_of (did_fail fails) = segment_lacks_memory (sym told_close ∙ fails)
    came_of (did_go core given b p over off reads going taken r owes w) =
        let t = walked w in
        let k = knows p r.more t.4 (r.asked ∙ asked_then a start es out acts.over) (r.grows ∙ ap (λ z. z ++ r.more) (had_then a start es out acts.over)) in
        let none : first_close ns ≡ None = sym told_close ∙ t.1 in
        let ends = none_ends core given reads k.all off in
        segment_comes_so
        (all_says [] (t.0 ∙ sym (append-nil (downs_for msg.rec acts))) k.asked None ends refl)
        (none ∙ sym over ∙ ends_so a start calls entries called gave m now acts k.asked ∙ ap (λ z. earlier z (segment_end a.isn phase_at m)) (sym ends))
        (λ _. stands_then c order g h now (Offers (port_at c.conn.0 1) msg ∷ []) ns s.above s.between s.below st a start calls (segment_came m now) (stream_by a calls) msg.rec (pair none) (ends_then false off))
        (λ x e. absurd (none-some x (sym ends ∙ e)))
    came_of (did_break core given y b p over off reads r w) =
        let t = walked w in
        let k = knows p r.more t.4 (r.asked ∙ asked_then a start es out acts.over) (r.grows ∙ ap (λ z. z ++ r.more) (had_then a start es out acts.over)) in
        let some : first_close ns ≡ Some y = sym told_close ∙ t.1 in
        let ends = none_ends core given reads k.all off in
        segment_comes_so
        (all_says [] (t.0 ∙ sym (append-nil (downs_for msg.rec acts))) k.asked None ends refl)
        (some ∙ sym over ∙ ends_so a start calls entries called gave m now acts k.asked ∙ ap (λ z. earlier z (segment_end a.isn phase_at m)) (sym ends))
        (λ none. absurd (none-some y (sym none ∙ some)))
        (λ x e. absurd (none-some x (sym ends ∙ e)))
    came_of (did_decide core taken later given by_end x b p net told v cut whole answers closing w) = by closing
      where
        t : (messages_of (told_of st.deeds) ≡ told) × (first_close (told_of st.deeds) ≡ Some x) × (b ≡ s.above ++ entries_of c.fetch.0 st.deeds) × (web_decided q core taken given (Some x) ≡ st.talk) × (p ≡ st.dialogue)
        t = walked w

        decided : (acts ≡ segment_asks (link_of a) phase_at m now) → stream_by a calls ++ sent ≡ stream_by a (calls_with_segment calls m now) → (closed : List Said) → told ≡ downs_for msg.rec acts ++ closed → closed ≡ close_says (Some x) acts.over → SegmentComes a start calls c h m now ns
        decided asked all closed told_is closes =
            let ended = has_ended (held_after a.isn (calls_with_segment calls m now)) in
            let y = answers.answered later ended (λ end. let z = whole end in (z.0, ends_then true z.1)) in
            let same : response_read (taken ++ later) ended ≡ response_come a.isn (calls_with_segment calls m now) = ap (λ z. response_read z ended) (sym cut ∙ all) in
            let ends : response_end a calls m now ≡ Some x = ap (λ (r : Response). verdict_end msg.rec r.verdict) (sym same) ∙ sym y.cause in
            segment_comes_so
            (all_says closed (t.0 ∙ told_is) asked (Some x) ends closes)
            (sym told_close ∙ t.1 ∙ ap (λ z. earlier z (segment_end a.isn phase_at m)) (sym ends))
            (λ none. absurd (none-some x (sym none ∙ sym told_close ∙ t.1)))
            (λ z e. subst (HasBrought c h (response_come a.isn (calls_with_segment calls m now))) (same_Some x z (sym ends ∙ e)) (record {
              trace = s.above ++ entries_of c.fetch.0 st.deeds;
              stands = st.fetch;
              moves = ap moved_in (sym t.2) ∙ answers.moves ∙ y.moves ∙ ap (λ (r : Response). text_of r.verdict) same;
              well = λ none. ap closed_well (sym t.2) ∙ answers.well (y.moves ∙ ap (λ (r : Response). text_of r.verdict) same ∙ none);
              body = λ none. ap taken_below (sym t.2) ∙ answers.body (y.moves ∙ ap (λ (r : Response). text_of r.verdict) same ∙ none) ∙ sym y.all ∙ ap (λ (r : Response). r.bytes) same;
            }))

        by : ClosingOf left_at p net (downs_for msg.rec acts) told → SegmentComes a start calls c h m now ns
        by (told_none off r _ told_is) =
            let k = knows p r.more t.4 (r.asked ∙ asked_then a start es out acts.over) (r.grows ∙ ap (λ z. z ++ r.more) (had_then a start es out acts.over)) in
            let y = ended_then a start es out acts.over off in
            decided k.asked k.all [] (told_is ∙ sym (append-nil (downs_for msg.rec acts))) (sym (ap (close_says (Some x)) y.1))
        by (told_a_close closing before after on asked grows none nothing off _ told_is) =
            let close : ConnEntry = conn_entry closes_from_above closing in
            let had_is : had p ≡ (es ++ before) ++ close ∷ after = grows ∙ ap (λ z. (z ++ before) ++ close ∷ after) (had_then a start es out acts.over) in
            let k = knows p (before ++ close ∷ after) t.4 (asked ∙ asked_then a start es out acts.over) (had_is ∙ append_assoc es before (close ∷ after)) in
            let over = over_then a start es out acts.over on in
            let kept = each_at (AsksAsPromised (link_of a) start) [] (es ++ before) close after (subst (EachConnEntry (AsksAsPromised (link_of a) start) []) had_is k.keeps.each) in
            let e : ConnEntry = conn_entry (calls_in (segment_came m now)) acts in
            let none_behind : tcp_calls behind ≡ [] = lets_silent acts.ready behind sent lets in
            let come : tcp_calls (es ++ before) ≡ calls_with_segment calls m now =
            flat_map-append (λ (z : ConnEntry). tcp_calls_of z.call) es before ∙ ap (λ z. tcp_calls es ++ z) none ∙ append-nil (tcp_calls es) ∙ ap tcp_calls es_is
            ∙ flat_map-append (λ (z : ConnEntry). tcp_calls_of z.call) entries (e ∷ behind) ∙ ap (λ z. tcp_calls entries ++ segment_came m now ∷ z) none_behind ∙ ap (λ z. z ++ segment_came m now ∷ []) called in
            decided k.asked k.all (downs_for 0 closing) told_is
            (ap (downs_for 0) kept ∙ ap (λ z. sends_say (link_of a) 0 (without_try (closing_segment a.isn (conn_phase a.isn z)) ∷ [])) come ∙ sym (ap (close_says (Some x)) over))

  pub segment_comes : SegmentComes a start calls c h m now ns
  segment_comes = let y = did_by st.talk st.dialogue st.fetched st.talked in by y.entries y.q y.called y.gave y.did
    where
      by : (entries : List ConnEntry) (q : AskParts) → tcp_calls entries ≡ calls → delivered entries ≡ stream_by a calls → SegmentDid (end_of st.talk st.dialogue) (suc (length st.deeds)) st.deeds a start entries q (stream_by a calls) msg sp → SegmentComes a start calls c h m now ns
      by entries q called gave (segment_fails out) = segment_lacks_memory (sym told_close ∙ out)
      by entries q called gave (segment_does acts es behind sent out is lets did) = came_of entries q called gave acts es behind sent out is lets did
