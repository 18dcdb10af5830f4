-- The user closes the three: the connection says what its promise does, and nothing is handed up.
use Rattle.std.proofs.Common.{◌≡◌, ℕ, Bool, true, false, List, [], ◌∷◌, ◌++◌, None, refl, sym, ap, ◌∙◌, subst, append-nil, arith}
use Rattle.std.proofs.lemmas.Bool.{false≢true}
use Rattle.std.proofs.lemmas.List.Concat.{flat_map-append}
use Rattle.nb_terms.specs.declared.cause.Cause.{Cause}
use Rattle.nb_ledger.specs.declared.event.GraphEvent.TheVariants.{Closed}
use Rattle.nb_ledger.specs.Flat.{Notice, all}
use Rattle.nb_graph.specs.Deeds.{Deed, Stage, Closes, trace_after, writes}
use Rattle.nb_graph.specs.Lived.{ObjectStands}
use Rattle.nb_graph.specs.Noded.{AreNoded}
use Rattle.nb_graph.specs.Scene.{Scene, after_noted, scene_of}
use Rattle.nb_graph.specs.Trace.{NodeEntry, Said}
use Rattle.nb_graph.specs.Went.{WentOne, all_of}
use Rattle.nb_graph.specs.Whole.{Objects, port_at}
use Rattle.nb_graph.proofs.Laws.{close_open, nothing, only_call}
use Rattle.nb_frames.specs.Frames.{is_one_of}
use Rattle.nb_frames.specs.Within.{AreLinkedWithin}
use Rattle.nb_frames.proofs.WithinLemmas.{deed_links}
use Rattle.nb_chains.specs.Chains.{AreChained}
use Rattle.nb_chains.proofs.GivingLemmas.{known_notices}
use Rattle.nb_opens.specs.Notices.{tells}
use Rattle.nb_opens.specs.Entries.{entries_of}
use Rattle.nb_opens.proofs.Shutting.{ClosesAlone, closes_alone}
use Rattle.nb_streams.specs.Flows.{conn_phase}
use Rattle.nb_streams.specs.Sending.{closing_segment, without_try}
use Rattle.nb_tcp.specs.ConnHistory.{ConnEntry, EachConnEntry, closes_from_above, conn_entry, tcp_calls, tcp_calls_of}
use Rattle.nb_tcp.specs.ConnPromises.{AsksAsPromised}
use Rattle.nb_conns.specs.ConnAsks.{link_of}
use Rattle.nb_conns.specs.ConnEffects.{downs_for}
use Rattle.nb_conns.specs.Dialogues.{Dialogue, IsConnAt, talking}
use Rattle.nb_drivechains.specs.declared.drive_chain.DriveChain.{DriveChain}
use Rattle.nb_drivechains.specs.DriveChains.{AreOfDrive, drive_ids, three_of}
use Rattle.nb_drivenodes.specs.DriveAsks.{DriveAskParts}
use Rattle.nb_nodes.specs.declared.load.Load.{Load}
use Rattle.nb_nodes.specs.declared.obj.Obj.{Obj}
use Rattle.nb_nodes.specs.Objects.{obj_nature, rank_of_obj}
use Rattle.nb_nodes.specs.Standing.{ObjStands}
use Rattle.nb_sans.specs.Sessions.{ReadTask}
use Rattle.nb_talks.specs.Talking.{Talk, come_of}
use Rattle.nb_talks.specs.TalkPromises.{phase_of}
use Rattle.nb_webchains.specs.WebCalls.{ClosesFetch}
use Rattle.nb_webchains.specs.WebChains.{IsOpenWeb, web_graph}
use Rattle.nb_webchains.proofs.Three.{conn_in, fetch_in, web_in}
use Rattle.nb_webchains.proofs.Downward.{closed_opens}
use Rattle.nb_webtalks.specs.TalkStands.{AreHosted}
use Rattle.nb_webtalks.specs.Tellings.{messages_of}
use Rattle.nb_webtalks.specs.Comings.{sends_say}
use Rattle.nb_webtalks.proofs.Scenes.{Sees, all_open, closes_user}
use Rattle.nb_webtalks.proofs.Coming.{each_at, kept_at}
use Rattle.nb_webtalks.proofs.Rising.{ClosingOf, told_a_close, told_none}
use Rattle.nb_webtalks.proofs.Starting.{seen_held, seen_live, seen_stands, sees_open}
use Rattle.nb_drivetalks.specs.Orders.{StandInDriveOrder}
use Rattle.nb_drivetalks.specs.SessionStands.{StandsForSession}
use Rattle.nb_drivetalks.specs.Tellings.{told_above, told_below}
use Rattle.nb_drivetalks.proofs.DriveOrders.{hidden_seen, links_seen, order_first}
use Rattle.nb_drivetalks.proofs.Endings.{closed_below}
use Rattle.nb_drivetalks.proofs.OrderEntries.{Hidden, hidden_later}
use Rattle.nb_drivetalks.proofs.Reading.{session_reads_on}
use Rattle.nb_drivetalks.proofs.Standing.{parted}
use Rattle.nb_drivetalks.proofs.Starting.{StartedAt, begun_from, started_from}
use Rattle.nb_drivetalks.proofs.Steps.{walked}
use Rattle.nb_drivetalks.proofs.Walking.{view}

-- THE PORT TO THE USER IS CLOSED FIRST

module _ (c : DriveChain) (g h : Objects Obj) (cause : Cause) (ns : List Notice) (was : AreChained g (drive_ids c)) (is : AreChained h (drive_ids c)) (hosted : AreHosted (three_of c) g) (noded : AreNoded rank_of_obj h)
    (opened : IsOpenWeb (three_of c) g) (kinds : AreOfDrive c h) (own : ClosesFetch (three_of c) g h cause ns) where
  abbrev top : Scene
  top = scene_of (web_graph (three_of c) g).book

  sees : Sees c.unit.0 c.session.0 c.conn.0 all_open top
  sees = sees_open (three_of c) g was hosted opened

  abbrev below : List (Stage Obj Load)
  below = Closes (port_at c.unit.0 1) cause ∷ []

  abbrev first_call : WentOne ObjStands obj_nature own.now (Closes (port_at c.unit.0 0) cause ∷ []) (web_graph (three_of c) g) own.mid (all []) (all own.first)
  first_call = own.upper []

  alone : ClosesAlone (web_graph (three_of c) g) own.mid (all []) (all own.first) (port_at c.unit.0 0) cause
  alone = closes_alone (web_graph (three_of c) g) own.mid (all []) (all own.first) own.now (port_at c.unit.0 0) cause sees.user first_call

  -- that is all that happens then
  record Before : Type 0 where
    deeds : all_of first_call.deeds ≡ writes (Closed (port_at c.unit.0 0) cause) ∷ []
    scene : after_noted (Closed (port_at c.unit.0 0) cause) top ≡ scene_of own.mid.book

  before : Before
  before =
      let one = only_call obj_nature top (scene_of own.mid.book) (record { now = own.now; asks = Closes (port_at c.unit.0 0) cause ∷ [] }) first_call.deeds first_call.each in
      let k = close_open obj_nature own.now top (scene_of own.mid.book) (port_at c.unit.0 0) cause [] one.0 sees.user one.2 in
      let none = nothing obj_nature own.now (after_noted (Closed (port_at c.unit.0 0) cause) top) (scene_of own.mid.book) k.0 k.2 in
      record { deeds = ap all_of one.1 ∙ append-nil one.0 ∙ k.1 ∙ ap (λ y. writes (Closed (port_at c.unit.0 0) cause) ∷ y) none.0; scene = none.1 }

  still : (x : ℕ) (t : List (NodeEntry Obj Load)) → ObjectStands ObjStands (web_graph (three_of c) g) x t → ObjectStands ObjStands own.mid x t
  still x t was_so = subst (ObjectStands ObjStands own.mid x) (ap (trace_after x t) before.deeds) (first_call.keeps x t was_so)

  sees_mid : Sees c.unit.0 c.session.0 c.conn.0 (view false true true true) (scene_of own.mid.book)
  sees_mid =
      let i = opened.order.web_later in
      let j = opened.order.conn_later in
      subst (Sees c.unit.0 c.session.0 c.conn.0 (view false true true true)) before.scene
      (closes_user c.unit.0 c.session.0 c.conn.0 (λ e. omega (arith, i, e)) (λ e. omega (arith, j, e)) (λ e. omega (arith, i, j, e)) all_open top cause sees)

  -- what is told of it
  told_both : ns ≡ tells (Closed (port_at c.unit.0 0) cause) ∷ own.second
  told_both = own.are ∙ ap (λ z. z ++ own.second) (sym (known_notices own.first (tells (Closed (port_at c.unit.0 0) cause) ∷ []) alone.told))

  -- IN WHICH ORDER IT IS TOLD

  hidden_mid : Hidden (drive_ids c) c.unit.0 c.conn.0 (scene_of own.mid.book)
  hidden_mid =
      subst (Hidden (drive_ids c) c.unit.0 c.conn.0) before.scene
      (hidden_later (drive_ids c) c.unit.0 c.conn.0 top (after_noted (Closed (port_at c.unit.0 0) cause) top) (closed_opens top (port_at c.unit.0 0) cause) (hidden_seen c g was hosted opened))

  links_mid : AreLinkedWithin (is_one_of (drive_ids c)) (scene_of own.mid.book).port
  links_mid =
      let one : Deed Obj Load = writes (Closed (port_at c.unit.0 0) cause) in
      subst (λ (z : Scene). AreLinkedWithin (is_one_of (drive_ids c)) z.port) before.scene (deed_links (is_one_of (drive_ids c)) one top (fetch_in (three_of c)) (links_seen c g was hosted opened))

  pub closing_order : StandInDriveOrder c.unit.0 c.conn.0 None ns
  closing_order =
      let w = three_of c in
      let seen = seen_stands w g was hosted in
      let t1 = was.stands c.unit.0 (fetch_in w) in
      let t2 = was.stands c.session.0 (web_in w) in
      let t3 = was.stands c.conn.0 (conn_in w) in
      let b = begun_from (view false true true true) c opened.order own.mid h own.now below own.second t1.0 t2.0 t3.0 is noded kinds (tt, tt) (let e = alone.made in omega (arith, e))
      (λ x o. alone.held x ∙ seen_held w g was hosted x o) sees_mid (alone.live c.conn.0 ∙ seen_live w g was hosted c.conn.0 (conn_in w))
      (still c.unit.0 t1.0 (seen c.unit.0 t1.0 (fetch_in w) t1.1)) (still c.session.0 t2.0 (seen c.session.0 t2.0 (web_in w) t2.1)) (still c.conn.0 t3.0 (seen c.conn.0 t3.0 (conn_in w) t3.1)) (own.lower []) in
      let y = order_first c opened.order (scene_of own.mid.book) h own.now below own.second t1.0 t2.0 t3.0 b links_mid hidden_mid (fetch_in w, tt) (tt, tt) in
      subst (StandInDriveOrder c.unit.0 c.conn.0 None) (sym told_both) (y.0, ((Closed (port_at c.unit.0 0) cause, refl, tt), y.1))

  -- WHAT IT SAYS

  module _ (a : DriveAskParts) (start : ℕ) (d : Talk ReadTask) (s : StandsForSession a start d c g) where
    second : StartedAt (view false true true true) c opened.order h own.now below own.second s.above s.between s.below
    second =
        started_from (view false true true true) c opened.order own.mid h own.now below own.second s.above s.between s.below is noded kinds (tt, tt) (let e = alone.made in omega (arith, e))
        (λ x o. alone.held x ∙ seen_held (three_of c) g was hosted x o) sees_mid (alone.live c.conn.0 ∙ seen_live (three_of c) g was hosted c.conn.0 (conn_in (three_of c)))
        (still c.unit.0 s.above s.unit) (still c.session.0 s.between s.session) (still c.conn.0 s.below s.conn) (own.lower [])

    says_closed : (entries : List ConnEntry) → tcp_calls entries ≡ d.calls → (q : Dialogue) (net : Bool) (told : List Said) → q ≡ second.dialogue → ClosingOf (talking a.conn start entries None) q net [] told
        → told ≡ sends_say (link_of a.conn) 0 (without_try (closing_segment a.conn.isn (phase_of a.conn.isn d)) ∷ [])
    says_closed entries called q net told at (told_none off r _ told_is) = absurd (false≢true (sym off))
    says_closed entries called q net told at (told_a_close acts between behind talks asked grows silent still_none off _ told_is) =
        let keeps = kept_at second.state q a.conn start (subst (IsConnAt second.state) (sym at) second.is_conn) asked in
        let kept = each_at (AsksAsPromised (link_of a.conn) start) [] (entries ++ between) (conn_entry closes_from_above acts) behind (subst (EachConnEntry (AsksAsPromised (link_of a.conn) start) []) grows keeps.each) in
        told_is ∙ ap (downs_for 0) kept
        ∙ ap (λ z. sends_say (link_of a.conn) 0 (without_try (closing_segment a.conn.isn (conn_phase a.conn.isn z)) ∷ []))
        (flat_map-append (λ (x : ConnEntry). tcp_calls_of x.call) entries between ∙ ap (λ z. tcp_calls entries ++ z) silent ∙ append-nil (tcp_calls entries) ∙ called)

    pub closing_says : (messages_of (told_below c.unit.0 ns) ≡ sends_say (link_of a.conn) 0 (without_try (closing_segment a.conn.isn (phase_of a.conn.isn d)) ∷ [])) × (told_above c.unit.0 ns ≡ [])
    closing_says =
        let st = second in
        let y = parted s (entries_of c.unit.0 st.deeds) (entries_of c.session.0 st.deeds) (entries_of c.conn.0 st.deeds) st.work st.talk st.dialogue st.worked st.talked st.conversed in
        let e = closed_below (session_reads_on a d.tasks (come_of a.conn.isn d) y.unit y.session y.reads) tt (st.walk y.unit st.work y.session st.talk (talking a.conn start y.entries None) st.dialogue y.works y.talks y.converses) in
        let t = walked e.walk in
        let all = told_both ∙ ap (λ z. tells (Closed (port_at c.unit.0 0) cause) ∷ z) (sym st.told) in
        (ap (λ z. messages_of (told_below c.unit.0 z)) all ∙ t.0 ∙ says_closed y.entries y.called e.at e.net e.told t.5 e.closing, ap (told_above c.unit.0) all ∙ t.1)
