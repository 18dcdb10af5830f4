-- The user closes the three: the connection says what its promise does.
use Rattle.std.proofs.Common.{◌≡◌, ℕ, ◌&&◌, true, false, not, List, [], ◌∷◌, ◌++◌, None, refl, sym, ap, ◌∙◌, subst, append_assoc, append-nil, arith}
use Rattle.std.proofs.lemmas.Bool.{false≢true}
use Rattle.nb_terms.specs.declared.acts.Acts.{Acts}
use Rattle.nb_terms.specs.declared.cause.Cause.{Cause}
use Rattle.nb_ledger.specs.declared.event.Way.TheVariants as way
use Rattle.nb_ledger.specs.declared.event.GraphEvent.TheVariants.{Closed}
use Rattle.nb_ledger.specs.Flat.{Notice, all}
use Rattle.nb_effects.specs.declared.effects.Fx.{Fx}
use Rattle.nb_graph.specs.Deeds.{Deed, Stage, Closes, Holds, MustUnplug, told_of, trace_after, writes}
use Rattle.nb_graph.specs.Lived.{ObjectStands}
use Rattle.nb_graph.specs.Noded.{AreNoded}
use Rattle.nb_graph.specs.Scene.{Scene, after_noted, scene_of}
use Rattle.nb_graph.specs.Trace.{NodeEntry, closed, silence}
use Rattle.nb_graph.specs.Went.{WentOne, all_of}
use Rattle.nb_graph.specs.Whole.{Objects, port_at}
use Rattle.nb_graph.proofs.Laws.{close_open, nothing, only_call}
use Rattle.nb_chains.specs.Chains.{AreChained}
use Rattle.nb_chains.proofs.GivingLemmas.{known_notices}
use Rattle.nb_opens.specs.Entries.{entries_of}
use Rattle.nb_opens.specs.Notices.{tells}
use Rattle.nb_opens.proofs.Shutting.{ClosesAlone, closes_alone}
use Rattle.nb_streams.specs.Flows.{TcpCall, conn_phase}
use Rattle.nb_streams.specs.Sending.{closing_segment, without_try}
use Rattle.nb_tcp.specs.ConnHistory.{ConnEntry, EachConnEntry, closes_from_above, conn_entry}
use Rattle.nb_tcp.specs.ConnPromises.{AsksAsPromised}
use Rattle.nb_conns.specs.declared.conn_ask.ConnAsk.{ConnAsk}
use Rattle.nb_conns.specs.ConnAsks.{link_of}
use Rattle.nb_conns.specs.ConnEffects.{SaysNothing, downs_for}
use Rattle.nb_conns.specs.Dialogues.{ConversesTo, Dialogue, talking, unopened}
use Rattle.nb_nodes.specs.declared.load.Load.{Load}
use Rattle.nb_nodes.specs.declared.obj.Obj.{Obj}
use Rattle.nb_nodes.specs.Carriers.{conn_carrier, web_carrier}
use Rattle.nb_nodes.specs.Fetches.{taken_below}
use Rattle.nb_nodes.specs.Objects.{obj_nature, rank_of_obj}
use Rattle.nb_nodes.specs.Standing.{ObjStands}
use Rattle.nb_webchains.specs.declared.web_chain.WebChain.{WebChain}
use Rattle.nb_webchains.specs.WebCalls.{ClosesFetch}
use Rattle.nb_webchains.specs.WebChains.{AreOfWeb, IsOpenWeb, web_graph, web_ids}
use Rattle.nb_webchains.proofs.Three.{conn_in}
use Rattle.nb_webnodes.specs.WebTalks.{Fetched, FetchedTo, WebTalk, cut_short, ends_early, fetching, is_open_web, stays_idle, web_unasked}
use Rattle.nb_webtalks.specs.TalkStands.{AreHosted, StandsForTalk, stream_by}
use Rattle.nb_webtalks.specs.Tellings.{messages_of}
use Rattle.nb_webtalks.specs.Comings.{sends_say}
use Rattle.nb_webtalks.proofs.Scenes.{Sees, all_open, closes_user}
use Rattle.nb_webtalks.proofs.Walking.{Walk, WebCall, view}
use Rattle.nb_webtalks.proofs.Steps.{close_upper_down, left_by, some_more, unplug_upper_down, walked}
use Rattle.nb_webtalks.proofs.Uppers.{as_stages, runs_silent}
use Rattle.nb_webtalks.proofs.Lowers.{ClosedBelow, asked_at, closes_too, conn_closed, had, is_over_already}
use Rattle.nb_webtalks.proofs.Starting.{StartedAt, seen_held, seen_live, sees_open, started_from}
use Rattle.nb_webtalks.proofs.Coming.{conversed_parts, each_at, fetched_parts, is_fetching, is_talked, kept_at}

-- HOW THE FETCH AND THE CONNECTION HEAR OF IT

cut_web : {r q : WebTalk} (x : Cause) (now : ℕ) (fx : Fx Obj Load) → is_open_web r ≡ true → Fetched {L = Load} web_carrier r (closed 0 x now fx) q → (q ≡ cut_short) × SaysNothing fx × (fx.closes.items ≡ (1, x) ∷ [])
cut_web x now fx on (ends_early _ _ cut hands) = (refl, hands.0, hands.1)
cut_web {r = r} x now fx on (stays_idle _ _ quiet asks) = absurd (false≢true (sym (ap (λ z. not (z && true)) on) ∙ quiet))

-- the connection sent what a close does, once
record HeardClose (c : WebCall) (d : Dialogue) (ds : List (Deed Obj Load)) : Type 0 where
  acts : Acts
  more : List ConnEntry
  says : messages_of (told_of ds) ≡ downs_for 0 acts
  asked : asked_at c.conn_end ≡ asked_at d
  grows : had c.conn_end ≡ had d ++ conn_entry closes_from_above acts ∷ more

close_walk : {c : WebCall} {n : ℕ} {a : List (NodeEntry Obj Load)} {ds : List (Deed Obj Load)} {r : WebTalk} {x : Cause} (b : ConnAsk) (start : ℕ) (entries : List ConnEntry) → is_open_web r ≡ true
    → Walk c n (view false true true true) (Closes (port_at c.fetch 1) x ∷ []) a r (talking b start entries None) [] None ds → HeardClose c (talking b start entries None) ds
close_walk {c = c} {a = a} {ds = ds} {x = x} b start entries on k =
    let s = some_more k in
    let w = close_upper_down s.0 s.1 k in
    let h = cut_web x c.now w.0 on w.2 in
    let hs : List (Stage Obj Load) = Holds (port_at c.web 0) way.Close None ∷ MustUnplug (port_at c.fetch 1) (port_at c.web 0) ∷ [] in
    let one = as_stages (Closes (port_at c.web 1) x ∷ hs) (ap (λ (z : List (Stage Obj Load)). z ++ hs) (runs_silent c.web silence w.0 ((1, x) ∷ []) h.1 h.2)) w.3 in
    by s.0 w.1 (conn_closed tt one)
  where
    by : (m : ℕ) (q : WebTalk) → ClosedBelow c m false false (Holds (port_at c.web 0) way.Close None ∷ MustUnplug (port_at c.fetch 1) (port_at c.web 0) ∷ []) a q (talking b start entries None) [] x ds → HeardClose c (talking b start entries None) ds
    by m q (closes_too e acts more talks asked grows silent off k2) =
        let t = walked (unplug_upper_down (left_by k2)) in
        record { acts = acts; more = more; says = t.0; asked = ap asked_at (sym t.4) ∙ asked; grows = ap had (sym t.4) ∙ grows ∙ append_assoc entries (conn_entry closes_from_above acts ∷ []) more }
    by m q (is_over_already off k2) = absurd (false≢true (sym off))

-- THE PORT TO THE USER IS CLOSED FIRST

module _ (c : WebChain) (g h : Objects Obj) (cause : Cause) (ns : List Notice) (was : AreChained g (web_ids c)) (is : AreChained h (web_ids c)) (hosted : AreHosted c g) (noded : AreNoded rank_of_obj h) (opened : IsOpenWeb c g) (kinds : AreOfWeb c h) (own : ClosesFetch c g h cause ns)
    (a : ConnAsk) (start : ℕ) (calls : List TcpCall) (s : StandsForTalk a start calls c g) where
  abbrev top : Scene
  top = scene_of (web_graph c g).book

  sees : Sees c.fetch.0 c.web.0 c.conn.0 all_open top
  sees = sees_open c g was hosted opened

  abbrev below : List (Stage Obj Load)
  below = Closes (port_at c.fetch.0 1) cause ∷ []

  abbrev first_call : WentOne ObjStands obj_nature own.now (Closes (port_at c.fetch.0 0) cause ∷ []) (web_graph c g) own.mid (all []) (all own.first)
  first_call = own.upper []

  alone : ClosesAlone (web_graph c g) own.mid (all []) (all own.first) (port_at c.fetch.0 0) cause
  alone = closes_alone (web_graph c g) own.mid (all []) (all own.first) own.now (port_at c.fetch.0 0) cause sees.user first_call

  -- that is all that happens then
  record Before : Type 0 where
    deeds : all_of first_call.deeds ≡ writes (Closed (port_at c.fetch.0 0) cause) ∷ []
    scene : after_noted (Closed (port_at c.fetch.0 0) cause) top ≡ scene_of own.mid.book

  before : Before
  before =
      let one = only_call obj_nature top (scene_of own.mid.book) (record { now = own.now; asks = Closes (port_at c.fetch.0 0) cause ∷ [] }) first_call.deeds first_call.each in
      let k = close_open obj_nature own.now top (scene_of own.mid.book) (port_at c.fetch.0 0) cause [] one.0 sees.user one.2 in
      let none = nothing obj_nature own.now (after_noted (Closed (port_at c.fetch.0 0) cause) top) (scene_of own.mid.book) k.0 k.2 in
      record { deeds = ap all_of one.1 ∙ append-nil one.0 ∙ k.1 ∙ ap (λ y. writes (Closed (port_at c.fetch.0 0) cause) ∷ y) none.0; scene = none.1 }

  still : (x : ℕ) (t : List (NodeEntry Obj Load)) → ObjectStands ObjStands (web_graph c g) x t → ObjectStands ObjStands own.mid x t
  still x t was_so = subst (ObjectStands ObjStands own.mid x) (ap (trace_after x t) before.deeds) (first_call.keeps x t was_so)

  sees_mid : Sees c.fetch.0 c.web.0 c.conn.0 (view false true true true) (scene_of own.mid.book)
  sees_mid =
      let i = opened.order.web_later in
      let j = opened.order.conn_later in
      subst (Sees c.fetch.0 c.web.0 c.conn.0 (view false true true true)) before.scene
      (closes_user c.fetch.0 c.web.0 c.conn.0 (λ e. omega (arith, i, e)) (λ e. omega (arith, j, e)) (λ e. omega (arith, i, j, e)) all_open top cause sees)

  second : StartedAt (view false true true true) c opened.order h own.now below own.second s.above s.between s.below
  second =
      started_from (view false true true true) c opened.order own.mid h own.now below own.second s.above s.between s.below is noded kinds (tt, tt) (let e = alone.made in omega (arith, e))
      (λ x o. alone.held x ∙ seen_held c g was hosted x o) sees_mid (alone.live c.conn.0 ∙ seen_live c g was hosted c.conn.0 (conn_in c))
      (still c.fetch.0 s.above s.fetch) (still c.web.0 s.between s.web) (still c.conn.0 s.below s.conn) (own.lower [])

  -- what is told of it
  told_both : messages_of ns ≡ messages_of own.second
  told_both = ap messages_of (own.are ∙ ap (λ z. z ++ own.second) (sym (known_notices own.first (tells (Closed (port_at c.fetch.0 0) cause) ∷ []) alone.told)))

  pub closing_says : messages_of ns ≡ sends_say (link_of a) 0 (without_try (closing_segment a.isn (conn_phase a.isn calls)) ∷ [])
  closing_says =
      let st = second in
      let p = fetched_parts web_unasked st.talk s.between (entries_of c.web.0 st.deeds) st.fetched in
      let e = conversed_parts unopened st.dialogue s.below (entries_of c.conn.0 st.deeds) st.talked in
      let f = is_fetching p.0 (stream_by a calls) (taken_below s.above) (s.took p.0 p.1) in
      let t = is_talked e.0 a start calls (s.called e.0 e.1) in
      let y = close_walk a start t.entries refl
      (st.walk (fetching f.q f.core (stream_by a calls) (taken_below s.above)) st.talk (talking a start t.entries None) st.dialogue (subst (λ z. FetchedTo web_carrier z (entries_of c.web.0 st.deeds) st.talk) f.is p.2) (subst (λ z. ConversesTo conn_carrier z (entries_of c.conn.0 st.deeds) st.dialogue) t.is e.2)) in
      let keeps = kept_at st.state st.dialogue a start st.is_conn y.asked in
      let kept = each_at (AsksAsPromised (link_of a) start) [] t.entries (conn_entry closes_from_above y.acts) y.more (subst (EachConnEntry (AsksAsPromised (link_of a) start) []) y.grows keeps.each) in
      told_both ∙ ap messages_of (sym st.told) ∙ y.says ∙ ap (downs_for 0) kept ∙ ap (λ z. sends_say (link_of a) 0 (without_try (closing_segment a.isn (conn_phase a.isn z)) ∷ [])) t.called
