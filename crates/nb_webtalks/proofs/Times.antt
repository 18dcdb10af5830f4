-- A time puts what the plan that runs fires, and the three go on or have ended.
use Rattle.std.proofs.Common.{◌≡◌, ℕ, suc, Bool, false, List, [], ◌∷◌, ◌++◌, length, Some, None, refl, sym, ap, ◌∙◌, subst, append_assoc, append-nil}
use Rattle.std.proofs.lemmas.Bool.{false≢true}
use Rattle.std.proofs.lemmas.Option.{none-some}
use Rattle.nb_retry.specs.declared.plan.Plan.{Plan}
use Rattle.nb_retry.specs.declared.retry.Due.{Due}
use Rattle.nb_retry.specs.declared.retry.Due.TheVariants.{Again, Not, Over}
use Rattle.nb_terms.specs.declared.acts.Acts.{Acts}
use Rattle.nb_terms.specs.declared.cause.Cause.{Cause}
use Rattle.nb_graph.specs.Deeds.{Ticks, told_of}
use Rattle.nb_graph.specs.Whole.{Objects}
use Rattle.nb_ledger.specs.Flat.{Notice}
use Rattle.nb_streams.specs.Endings.{due_end}
use Rattle.nb_streams.specs.Flows.{TcpCall, ConnPhase, conn_phase, held_after, time_came}
use Rattle.nb_streams.specs.Streams.{has_ended}
use Rattle.nb_talks.specs.TalkPromises.{due_sends}
use Rattle.nb_streams.specs.Trying.{due_fired, fired, timer_after}
use Rattle.nb_tcp.specs.declared.link.Link.{Link}
use Rattle.nb_tcp.specs.ConnHistory.{ConnEntry, EachConnEntry, calls_in, conn_entry, delivered, due_said, is_waiting_after, tcp_calls}
use Rattle.nb_tcp.specs.ConnPromises.{AsksAsPromised, ConnKeeps, due_asks}
use Rattle.nb_tcp.proofs.ConnHistoryLemmas.{calls-append}
use Rattle.nb_tcp.proofs.ConnLaws.{held_stays}
use Rattle.nb_conns.specs.declared.conn_ask.ConnAsk.{ConnAsk}
use Rattle.nb_conns.specs.ConnAsks.{link_of}
use Rattle.nb_conns.specs.ConnEffects.{downs_for}
use Rattle.nb_conns.specs.Dialogues.{ConversesTo, Dialogue, IsConnAt, talked_on, talking, unopened}
use Rattle.nb_http.specs.Runs.{EndsAsRead}
use Rattle.nb_http.specs.Standing.{Core}
use Rattle.nb_http.proofs.RunLaws.{goes_on_undecided}
use Rattle.nb_nodes.specs.declared.obj.Obj.{Obj}
use Rattle.nb_nodes.specs.Carriers.{conn_carrier, web_carrier}
use Rattle.nb_nodes.specs.Fetches.{taken_below}
use Rattle.nb_opens.specs.Entries.{entries_of}
use Rattle.nb_opens.specs.Notices.{first_close}
use Rattle.nb_readings.specs.Ends.{is_decided}
use Rattle.nb_readings.specs.Readings.{response_read}
use Rattle.nb_responses.specs.Chunks.{Response}
use Rattle.nb_webchains.specs.declared.web_chain.WebChain.{WebChain}
use Rattle.nb_webchains.specs.WebChains.{IsInOrder}
use Rattle.nb_webnodes.specs.WebAsks.{AskParts}
use Rattle.nb_webnodes.specs.WebTalks.{FetchedTo, ReadsOn, WebTalk, fetching, web_unasked}
use Rattle.nb_webtalks.specs.TalkStands.{StandsForTalk, stream_by}
use Rattle.nb_webtalks.specs.Tellings.{messages_of}
use Rattle.nb_webtalks.specs.Comings.{TimeComes, sends_say, time_comes_so, time_lacks_memory}
use Rattle.nb_webtalks.proofs.Walking.{WebCall}
use Rattle.nb_webtalks.proofs.Steps.{walked}
use Rattle.nb_webtalks.proofs.Lowers.{asked_at, had}
use Rattle.nb_webtalks.proofs.Calls.{CallDid, did_break, did_decide, did_fail, did_go}
use Rattle.nb_webtalks.proofs.Entering.{TimeDid, time_does, time_fails, time_walk}
use Rattle.nb_webtalks.proofs.Starting.{Started, call_of}
use Rattle.nb_webtalks.proofs.Coming.{GoesOn, conversed_parts, each_at, fetched_parts, is_fetching, is_talked, kept_at, on_from}
use Rattle.nb_webtalks.proofs.Going.{PairGoes, stands_then}
use Rattle.nb_webtalks.proofs.Segments.{asked_then, had_then}

-- what is due asks
due_says : (l : Link) (p : ConnPhase) (waits : Bool) (plan : Plan) (due : Due) → downs_for 0 (due_asks l p waits plan due) ≡ sends_say l 0 (due_sends l.isn p due)
due_says l p waits plan Not = refl
due_says l p waits plan (Again n) = refl
due_says l p waits plan Over = refl

due_overs : (l : Link) (p : ConnPhase) (waits : Bool) (plan : Plan) (due : Due) → (due_asks l p waits plan due).over ≡ due_end plan due
due_overs l p waits plan Not = refl
due_overs l p waits plan (Again n) = refl
due_overs l p waits plan Over = refl

module _ (c : WebChain) (order : IsInOrder c) (g h : Objects Obj) (now : ℕ) (ns : List Notice) (a : ConnAsk) (start : ℕ) (calls : List TcpCall) (s : StandsForTalk a start calls c g) (st : Started c order g h now (Ticks c.conn.0 ∷ []) ns s.above s.between s.below) where
  abbrev end_of : WebTalk → Dialogue → WebCall
  end_of w d = call_of c order h now (s.above ++ entries_of c.fetch.0 st.deeds) w d

  -- by these runs it did so
  record Did (w : WebTalk) (d : Dialogue) : Type 0 where
    entries : List ConnEntry
    q : AskParts
    called : tcp_calls entries ≡ calls
    gave : delivered entries ≡ stream_by a calls
    core : Core
    reads : ReadsOn core (stream_by a calls) (taken_below s.above)
    did : TimeDid (end_of w d) (suc (length st.deeds)) st.deeds a start entries q (stream_by a calls)

  did_by : (w : WebTalk) (d : Dialogue) → FetchedTo web_carrier web_unasked (s.between ++ entries_of c.web.0 st.deeds) w → ConversesTo conn_carrier unopened (s.below ++ entries_of c.conn.0 st.deeds) d → Did w d
  did_by w d reads talks =
      let p = fetched_parts web_unasked w s.between (entries_of c.web.0 st.deeds) reads in
      let e = conversed_parts unopened d s.below (entries_of c.conn.0 st.deeds) talks in
      let f = is_fetching p.0 (stream_by a calls) (taken_below s.above) (s.took p.0 p.1) in
      let t = is_talked e.0 a start calls (s.called e.0 e.1) in
      let reads_on = subst (λ z. FetchedTo web_carrier z (entries_of c.web.0 st.deeds) w) f.is p.2 in
      let talks_on = subst (λ z. ConversesTo conn_carrier z (entries_of c.conn.0 st.deeds) d) t.is e.2 in
      let here : WebTalk = fetching f.q f.core (stream_by a calls) (taken_below s.above) in
      let there : Dialogue = talking a start t.entries None in
      record {
        entries = t.entries;
        q = f.q;
        called = t.called;
        gave = t.gave;
        core = f.core;
        reads = f.reads;
        did = time_walk f.reads s.gathering refl (st.walk here w there d reads_on talks_on) (st.lives here w there d reads_on talks_on);
      }

  told_close : first_close (told_of st.deeds) ≡ first_close ns
  told_close = ap first_close st.told

  -- where nothing was closed all go on
  pair : first_close ns ≡ None → (w : WebTalk) (d : Dialogue) → FetchedTo web_carrier web_unasked (s.between ++ entries_of c.web.0 st.deeds) w → ConversesTo conn_carrier unopened (s.below ++ entries_of c.conn.0 st.deeds) d
      → PairGoes c order g h now (Ticks c.conn.0 ∷ []) ns s.above s.between s.below st a start calls (time_came now) (stream_by a calls) 0 w d
  pair none w d reads talks = let y = did_by w d reads talks in record { entries = y.entries; q = y.q; called = y.called; gave = y.gave; goes = by y.entries y.q y.did }
    where
      by : (entries : List ConnEntry) (q : AskParts) → TimeDid (end_of w d) (suc (length st.deeds)) st.deeds a start entries q (stream_by a calls) → GoesOn (end_of w d) st.deeds a start entries (time_came now) q (stream_by a calls) 0
      by entries q (time_fails out) = absurd (none-some _ (sym (told_close ∙ none) ∙ out))
      by entries q (time_does acts did) = (on_from acts (entries ++ conn_entry (calls_in (time_came now)) acts ∷ []) [] [] None false refl refl refl did (told_close ∙ none)).0

  module _ (entries : List ConnEntry) (q : AskParts) (called : tcp_calls entries ≡ calls) (acts : Acts) (core : Core) (reads : ReadsOn core (stream_by a calls) (taken_below s.above)) where
    abbrev entry : ConnEntry
    entry = conn_entry (calls_in (time_came now)) acts

    abbrev left_at : Dialogue
    left_at = talked_on a start (entries ++ entry ∷ []) None acts.over

    -- the stream is as it was
    unended_then : has_ended (held_after a.isn (calls ++ time_came now ∷ [])) ≡ false
    unended_then =
        ap (λ z. has_ended (held_after a.isn z)) (ap (λ z. z ++ time_came now ∷ []) (sym called) ∙ sym (calls-append entries entry))
        ∙ ap has_ended (held_stays (link_of a) entries (calls_in (time_came now)) acts (λ m other e. absurd (let z = e in cc))) ∙ ap (λ z. has_ended (held_after a.isn z)) called ∙ s.unended

    -- what it asked is what is due
    time_so : (p : Dialogue) (more : List ConnEntry) → p ≡ st.dialogue → asked_at p ≡ Some (a, start) → had p ≡ (entries ++ entry ∷ []) ++ more → messages_of (told_of st.deeds) ≡ downs_for 0 acts → first_close ns ≡ acts.over
        → (first_close ns ≡ None → StandsForTalk a start (calls ++ time_came now ∷ []) c h) → TimeComes a start calls c h now ns
    time_so p more at asked had_is says close stands =
        let keeps : ConnKeeps (link_of a) start (had p) = kept_at st.state p a start (subst (IsConnAt st.state) (sym at) st.is_conn) asked in
        let y = each_at (AsksAsPromised (link_of a) start) [] entries entry more (subst (EachConnEntry (AsksAsPromised (link_of a) start) []) (had_is ∙ append_assoc entries (entry ∷ []) more) keeps.each) in
        let due : Due = due_said acts in
        let plan : List TcpCall → Plan = λ z. (timer_after a.isn start z).plan in
        let so : acts ≡ due_asks (link_of a) (conn_phase a.isn calls) (is_waiting_after entries) (plan calls) due = y.0 ∙ ap (λ z. due_asks (link_of a) (conn_phase a.isn z) (is_waiting_after entries) (plan z) due) called in
        time_comes_so due
        (ap (λ z. fired (timer_after a.isn start (z ++ time_came now ∷ []))) (sym called) ∙ y.1 ∙ ap (λ z. fired (timer_after a.isn start z) ++ due_fired now due) called)
        (ap messages_of (sym st.told) ∙ says ∙ ap (downs_for 0) so ∙ due_says (link_of a) (conn_phase a.isn calls) (is_waiting_after entries) (plan calls) due)
        (close ∙ ap (λ (z : Acts). z.over) so ∙ due_overs (link_of a) (conn_phase a.isn calls) (is_waiting_after entries) (plan calls) due)
        stands

    -- a stream of which nothing more came decides nothing
    undecided : {x : Cause} {core2 : Core} {given : List ℕ} {rec : ℕ} (taken later : List ℕ) → stream_by a calls ++ [] ≡ taken ++ later → ((E : Bool) → (E ≡ false) → EndsAsRead rec core2 given (Some x) (response_read (taken ++ later) E)) → ⊥
    undecided taken later cut answers =
        let y = goes_on_undecided reads.rec core (stream_by a calls) (taken_below s.above) None reads.ran reads.goes_on in
        let e = answers false refl in
        false≢true (sym (ap (λ (r : Response). is_decided r.verdict) (ap (λ z. response_read z false) (sym cut ∙ append-nil (stream_by a calls)) ∙ y.0)) ∙ e.decided)

    came_of : CallDid (end_of st.talk st.dialogue) (suc (length st.deeds)) st.deeds left_at acts.over (downs_for 0 acts) q 0 (stream_by a calls) [] false → TimeComes a start calls c h now ns
    came_of (did_fail fails) = time_lacks_memory (sym told_close ∙ fails)
    came_of (did_go core2 given b p over off reads2 going taken r owes w) =
        let t = walked w in
        let none : first_close ns ≡ None = sym told_close ∙ t.1 in
        time_so p r.more t.4 (r.asked ∙ asked_then a start (entries ++ entry ∷ []) None acts.over) (r.grows ∙ ap (λ z. z ++ r.more) (had_then a start (entries ++ entry ∷ []) None acts.over)) t.0 (none ∙ sym over)
        (λ _. stands_then c order g h now (Ticks c.conn.0 ∷ []) ns s.above s.between s.below st a start calls (time_came now) (stream_by a calls) 0 (pair none) unended_then)
    came_of (did_break core2 given y b p over off reads2 r w) =
        let t = walked w in
        let some : first_close ns ≡ Some y = sym told_close ∙ t.1 in
        time_so p r.more t.4 (r.asked ∙ asked_then a start (entries ++ entry ∷ []) None acts.over) (r.grows ∙ ap (λ z. z ++ r.more) (had_then a start (entries ++ entry ∷ []) None acts.over)) t.0 (some ∙ sym over)
        (λ none. absurd (none-some y (sym none ∙ some)))
    came_of (did_decide core2 taken later given by_end x b p net told v cut whole answers closing w) =
        absurd (undecided taken later cut (λ E off. answers.answered later E (λ end. absurd (false≢true (whole end).1))))

  pub time_comes : TimeComes a start calls c h now ns
  time_comes = let y = did_by st.talk st.dialogue st.fetched st.talked in by y.entries y.q y.called y.core y.reads y.did
    where
      by : (entries : List ConnEntry) (q : AskParts) → tcp_calls entries ≡ calls → (core : Core) → ReadsOn core (stream_by a calls) (taken_below s.above) → TimeDid (end_of st.talk st.dialogue) (suc (length st.deeds)) st.deeds a start entries q (stream_by a calls) → TimeComes a start calls c h now ns
      by entries q called core reads (time_fails out) = time_lacks_memory (sym told_close ∙ out)
      by entries q called core reads (time_does acts did) = came_of entries q called acts core reads did
