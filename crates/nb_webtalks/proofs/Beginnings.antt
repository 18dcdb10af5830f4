-- A begin sends the SYN, and the three stand for a talk that was given its request.
use Rattle.std.proofs.Common.{◌≡◌, ℕ, ◌<◌, ◌^◌, true, List, [], ◌∷◌, ◌++◌, length, Some, None, refl, sym, ap, ◌∙◌, subst, append_assoc, append-nil}
use Rattle.std.proofs.lemmas.List.Concat.{flat_map-append}
use Rattle.std.proofs.lemmas.Option.{none-some}
use Rattle.nb_terms.specs.declared.acts.Acts.{Acts}
use Rattle.nb_graph.specs.Deeds.{Offers, told_of}
use Rattle.nb_graph.specs.Whole.{Objects, port_at}
use Rattle.nb_ledger.specs.Flat.{Notice}
use Rattle.nb_responses.specs.Requests.{request_text}
use Rattle.nb_streams.specs.Flows.{after_tcp_call, asking, conn_phase, held_after, held_in, text_came}
use Rattle.nb_streams.specs.Sending.{text_calls_for}
use Rattle.nb_streams.specs.Streams.{front, has_ended, nothing_held}
use Rattle.nb_tcp.specs.ConnHistory.{ConnEntry, EachConnEntry, calls_in, conn_entry, delivered, delivered_by, is_waiting_after, tcp_calls, tcp_calls_of}
use Rattle.nb_tcp.specs.ConnPromises.{AsksAsPromised, ConnKeeps, asked_sends, starting_acts}
use Rattle.nb_tcp.specs.Replies.{only_ready}
use Rattle.nb_tcp.proofs.ConnHistoryLemmas.{calls-append, delivered-append, phase-append}
use Rattle.nb_conns.specs.ConnAsks.{link_of}
use Rattle.nb_conns.specs.ConnEffects.{downs_for}
use Rattle.nb_conns.specs.Dialogues.{ConversesTo, Dialogue, IsConnAt, is_talking, talked_on, talking, unopened}
use Rattle.nb_http.specs.Standing.{Core}
use Rattle.nb_nodes.specs.declared.obj.Obj.{Obj}
use Rattle.nb_nodes.specs.Carriers.{conn_carrier, web_carrier}
use Rattle.nb_nodes.specs.Fetches.{gathers, taken_below}
use Rattle.nb_opens.specs.Entries.{entries_of}
use Rattle.nb_opens.specs.Notices.{first_close}
use Rattle.nb_webchains.specs.declared.web_chain.WebChain.{WebChain}
use Rattle.nb_webchains.specs.WebCalls.{begin_said}
use Rattle.nb_webchains.specs.WebChains.{IsInOrder}
use Rattle.nb_webnodes.specs.WebAsks.{AskParts, web_ask_in}
use Rattle.nb_webnodes.specs.WebTalks.{FetchedTo, ReadsOn, WebTalk, fetching, web_unasked}
use Rattle.nb_webtalks.specs.TalkStands.{HasHadCalls, HasTaken, StandsForTalk, stream_by}
use Rattle.nb_webtalks.specs.Tellings.{messages_of}
use Rattle.nb_webtalks.specs.Comings.{BeginComes, begin_comes_so, begin_lacks_memory}
use Rattle.nb_webtalks.proofs.Walking.{WebCall}
use Rattle.nb_webtalks.proofs.Steps.{walked}
use Rattle.nb_webtalks.proofs.Lowers.{asked_at, had, lent_of}
use Rattle.nb_webtalks.proofs.Begins.{BeginDid, begin_breaks, begin_fails, begin_goes, begin_walk, home_at, nothing_owed}
use Rattle.nb_webtalks.proofs.Starting.{Started, call_of}
use Rattle.nb_webtalks.proofs.Coming.{each_at, kept_at}
use Rattle.nb_webtalks.proofs.Segments.{asked_then, had_then}

phase_nothing : (isn : ℕ) → conn_phase isn [] ≡ asking []
unfolding conn_phase
phase_nothing isn = refl

-- nothing has come by text that is given
held_begun : (isn : ℕ) (bytes : List ℕ) (now : ℕ) → held_after isn (text_came bytes now ∷ []) ≡ nothing_held
held_begun isn bytes now = ap held_in (phase-append isn [] (text_came bytes now) ∙ ap (λ p. after_tcp_call isn p (text_came bytes now)) (phase_nothing isn))

module _ (c : WebChain) (order : IsInOrder c) (g h : Objects Obj) (now rec host : ℕ) (bytes : List ℕ) (ns : List Notice) (q : AskParts) (asked : web_ask_in host bytes ≡ Some q) (short : length bytes < 2 ^ 32)
    (st : Started c order g h now (Offers (port_at c.fetch.0 0) (begin_said rec host bytes) ∷ []) ns [] [] []) where
  abbrev request : List ℕ
  request = request_text q.host q.conn.peer_port q.path

  abbrev end_of : WebTalk → Dialogue → WebCall
  end_of w d = call_of c order h now (entries_of c.fetch.0 st.deeds) w d

  did_by : (w : WebTalk) (d : Dialogue) → FetchedTo web_carrier web_unasked (entries_of c.web.0 st.deeds) w → ConversesTo conn_carrier unopened (entries_of c.conn.0 st.deeds) d → (n : ℕ) × BeginDid (end_of w d) n st.deeds q rec
  did_by w d reads talks = begin_walk rec host bytes asked short (st.walk web_unasked w unopened d reads talks)

  told_close : first_close (told_of st.deeds) ≡ first_close ns
  told_close = ap first_close st.told

  -- what is asked with the request
  abbrev entry : Acts → ConnEntry
  entry acts = conn_entry (calls_in (text_came request now)) acts

  -- where nothing was closed the fetch has read nothing, and the connection has the request
  record Begun (w : WebTalk) (d : Dialogue) : Type 0 where
    acts : Acts
    core : Core
    before : List ConnEntry
    after : List ConnEntry
    more : List ConnEntry
    web : w ≡ fetching q core [] []
    reads : ReadsOn core [] []
    gathering : gathers (entries_of c.fetch.0 st.deeds) ≡ true
    taken : taken_below (entries_of c.fetch.0 st.deeds) ≡ []
    conn : d ≡ talking q.conn now after None
    says : messages_of (told_of st.deeds) ≡ downs_for rec (starting_acts (link_of q.conn)) ++ downs_for rec acts
    silent : tcp_calls before ≡ []
    grows : after ≡ before ++ entry acts ∷ more
    called : tcp_calls after ≡ text_came request now ∷ []
    gave : delivered after ≡ []

  begun_by : first_close ns ≡ None → (w : WebTalk) (d : Dialogue) → FetchedTo web_carrier web_unasked (entries_of c.web.0 st.deeds) w → ConversesTo conn_carrier unopened (entries_of c.conn.0 st.deeds) d → Begun w d
  begun_by none w d reads talks = let y = did_by w d reads talks in by y.1
    where
      by : {n : ℕ} → BeginDid (end_of w d) n st.deeds q rec → Begun w d
      by (begin_fails out) = absurd (none-some _ (sym (told_close ∙ none) ∙ out))
      by (begin_breaks a calls acts y p silent over r k) = absurd (none-some y (sym (told_close ∙ none) ∙ (walked k).1))
      by (begin_goes core a calls acts p reads2 going taken silent gave over r owes k) =
          let t = walked k in
          let here = calls ++ entry acts ∷ [] in
          let left : talked_on q.conn now here None acts.over ≡ talking q.conn now here None = ap (talked_on q.conn now here None) over in
          let on : is_talking p ≡ true = r.talks ∙ ap is_talking left in
          let at = home_at q.conn now p (r.asked ∙ ap asked_at left) on (nothing_owed (lent_of p) (owes on)) in
          let grows : had p ≡ here ++ r.more = r.grows ∙ ap (λ z. had z ++ r.more) left in
          record {
            acts = acts;
            core = core;
            before = calls;
            after = had p;
            more = r.more;
            web = sym t.3;
            reads = reads2;
            gathering = subst (λ z. gathers z ≡ true) t.2 going;
            taken = subst (λ z. taken_below z ≡ []) t.2 taken;
            conn = sym t.4 ∙ at;
            says = t.0;
            silent = silent;
            grows = grows ∙ append_assoc calls (entry acts ∷ []) r.more;
            called = ap tcp_calls grows ∙ flat_map-append (λ (x : ConnEntry). tcp_calls_of x.call) here r.more ∙ ap (λ z. tcp_calls here ++ z) r.silent ∙ append-nil (tcp_calls here) ∙ calls-append calls (entry acts) ∙ ap (λ z. z ++ text_came request now ∷ []) silent;
            gave = ap delivered grows ∙ flat_map-append (λ (x : ConnEntry). delivered_by x.call) here r.more ∙ ap (λ z. delivered here ++ z) r.holds ∙ append-nil (delivered here) ∙ delivered-append calls (entry acts) ∙ append-nil (delivered calls) ∙ gave;
          }

  -- what is given to a connection that asks puts nothing, and ends nothing
  text_asks : (es before more : List ConnEntry) (acts : Acts) → tcp_calls before ≡ [] → es ≡ before ++ entry acts ∷ more → ConnKeeps (link_of q.conn) now es → (downs_for rec acts ≡ []) × (acts.over ≡ None)
  text_asks es before more acts silent is keeps =
      let y = each_at (AsksAsPromised (link_of q.conn) now) [] before (entry acts) more (subst (EachConnEntry (AsksAsPromised (link_of q.conn) now) []) is keeps.each) in
      let so : acts ≡ asked_sends (link_of q.conn) [] (only_ready (is_waiting_after before)) =
      y.0 ∙ ap (λ z. asked_sends (link_of q.conn) (text_calls_for z request) (only_ready (is_waiting_after before))) (ap (conn_phase q.conn.isn) silent ∙ phase_nothing q.conn.isn) in
      (ap (downs_for rec) so, ap (λ (z : Acts). z.over) so)

  stands_then : first_close ns ≡ None → StandsForTalk q.conn now (text_came request now ∷ []) c h
  stands_then none =
      let one = begun_by none st.talk st.dialogue st.fetched st.talked in
      let come : stream_by q.conn (text_came request now ∷ []) ≡ [] = ap front (held_begun q.conn.isn request now) in
      record {
        above = entries_of c.fetch.0 st.deeds;
        between = entries_of c.web.0 st.deeds;
        below = entries_of c.conn.0 st.deeds;
        fetch = st.fetch;
        web = st.web;
        conn = st.conn;
        gathering = one.gathering;
        took = λ w reads. let y = begun_by none w st.dialogue reads st.talked in subst (HasTaken (stream_by q.conn (text_came request now ∷ [])) (taken_below (entries_of c.fetch.0 st.deeds))) (sym y.web) (sym come, sym y.taken, y.reads);
        called = λ d talks. let y = begun_by none st.talk d st.fetched talks in subst (HasHadCalls q.conn now (text_came request now ∷ [])) (sym y.conn) (refl, refl, y.called, y.gave ∙ sym come, refl);
        unended = ap has_ended (held_begun q.conn.isn request now);
      }

  pub begin_comes : BeginComes q c h rec now ns
  begin_comes = let y = did_by st.talk st.dialogue st.fetched st.talked in by y.1
    where
      kept : (p : Dialogue) → p ≡ st.dialogue → asked_at p ≡ Some (q.conn, now) → ConnKeeps (link_of q.conn) now (had p)
      kept p at asked = kept_at st.state p q.conn now (subst (IsConnAt st.state) (sym at) st.is_conn) asked

      by : {n : ℕ} → BeginDid (end_of st.talk st.dialogue) n st.deeds q rec → BeginComes q c h rec now ns
      by (begin_fails out) = begin_lacks_memory (sym told_close ∙ out)
      by (begin_breaks a calls acts y p silent over r k) =
          let here = calls ++ entry acts ∷ [] in
          let is = r.grows ∙ ap (λ z. z ++ r.more) (had_then q.conn now here None acts.over) ∙ append_assoc calls (entry acts ∷ []) r.more in
          absurd (none-some y (sym (text_asks (had p) calls r.more acts silent is (kept p (walked k).4 (r.asked ∙ asked_then q.conn now here None acts.over))).1 ∙ over))
      by (begin_goes core a calls acts p reads2 going taken silent gave over r owes k) =
          let t = walked k in
          let here = calls ++ entry acts ∷ [] in
          let is = r.grows ∙ ap (λ z. z ++ r.more) (had_then q.conn now here None acts.over) ∙ append_assoc calls (entry acts ∷ []) r.more in
          let none : first_close ns ≡ None = sym told_close ∙ t.1 in
          let first = downs_for rec (starting_acts (link_of q.conn)) in
          begin_comes_so
          (ap messages_of (sym st.told) ∙ t.0 ∙ ap (λ z. first ++ z) (text_asks (had p) calls r.more acts silent is (kept p t.4 (r.asked ∙ asked_then q.conn now here None acts.over))).0 ∙ append-nil first)
          none (stands_then none)
