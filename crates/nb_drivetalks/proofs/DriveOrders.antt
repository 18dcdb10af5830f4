-- In which order the notices of a call on a drive stand.
use Rattle.std.proofs.Common.{inr, ◌≡◌, ◌≤◌, ◌==◌, ℕ, zero, suc, Bool, true, false, List, [], ◌∷◌, Option, Some, None, refl, sym, ap, ◌∙◌, subst, arith, if◌then◌else◌}
use Rattle.std.specs.List.{AllByRecursion}
use Rattle.std.proofs.lemmas.Bool.{eq-eqb}
use Rattle.nb_ledger.specs.declared.port.Port.{Port}
use Rattle.nb_ledger.specs.declared.port.PortState.{PortState}
use Rattle.nb_ledger.specs.declared.port.PortState.TheVariants as port
use Rattle.nb_ledger.specs.declared.event.Way.TheVariants as way
use Rattle.nb_ledger.specs.declared.event.GraphEvent.{GraphEvent}
use Rattle.nb_ledger.specs.declared.event.GraphEvent.TheVariants.{Entered}
use Rattle.nb_ledger.specs.Flat.{Notice}
use Rattle.nb_ledger.specs.GraphRun.{link_count}
use Rattle.nb_ledger.specs.Ledger.{port as port_in}
use Rattle.nb_graph.specs.Deeds.{Deed, writes, begins, calls, turns, Holds, Offers, Stage, Ticks, told_of}
use Rattle.nb_graph.specs.Follows.{UsesStack, offered_down, offered_up, refused, ticks, ticks_none}
use Rattle.nb_graph.specs.Scene.{Scene, scene_of, state_at}
use Rattle.nb_graph.specs.Trace.{NodeEntry, Said, silence, up, down, closed, time, regain}
use Rattle.nb_graph.specs.Whole.{Objects, port_at}
use Rattle.nb_frames.specs.Frames.{is_one_of}
use Rattle.nb_frames.specs.Within.{AreLinkedWithin, AreStagesWithin, AsksNoMake, IsStageWithin, LeadsWithin}
use Rattle.nb_frames.proofs.OwnLemmas.{are_there}
use Rattle.nb_frames.proofs.OwnCallLemmas.{port_own}
use Rattle.nb_frames.proofs.WithinLemmas.{AsksNone}
use Rattle.nb_nodes.specs.declared.load.Load.{Load}
use Rattle.nb_nodes.specs.declared.obj.Obj.{Obj}
use Rattle.nb_nodes.specs.Objects.{obj_nature}
use Rattle.nb_chains.specs.Chains.{AreChained}
use Rattle.nb_conns.specs.Dialogues.{unopened}
use Rattle.nb_drivechains.specs.declared.drive_chain.DriveChain.{DriveChain}
use Rattle.nb_drivechains.specs.DriveChains.{drive_ids, three_of}
use Rattle.nb_drivenodes.specs.SessionTalks.{session_unasked}
use Rattle.nb_drivenodes.specs.UnitTalks.{unit_unasked}
use Rattle.nb_opens.specs.Entries.{entries_of}
use Rattle.nb_webchains.specs.Orders.{AreNoCalls, LeavesOnEntry}
use Rattle.nb_webchains.specs.WebCalls.{AreShort, short_message}
use Rattle.nb_webchains.specs.WebChains.{IsInOrder, IsOpenWeb, web_graph}
use Rattle.nb_webchains.proofs.Three.{conn_in, fetch_in, web_in}
use Rattle.nb_webtalks.specs.TalkStands.{AreHosted}
use Rattle.nb_webtalks.proofs.Coming.{conversed_parts}
use Rattle.nb_webtalks.proofs.Scenes.{Sees, all_open}
use Rattle.nb_webtalks.proofs.Starting.{seen_live, sees_open}
use Rattle.nb_webtalks.proofs.Staying.{of_three}
use Rattle.nb_drivetalks.specs.Orders.{BeginsDrive, StandInDriveOrder, by_network, by_time, by_user}
use Rattle.nb_drivetalks.specs.Tellings.{told_below}
use Rattle.nb_drivetalks.proofs.OrderEntries.{EntrySo, Hidden}
use Rattle.nb_drivetalks.proofs.OrderOnes.{conn_all, session_all, unit_all}
use Rattle.nb_drivetalks.proofs.OrderStages.{EagerStage, Fits}
use Rattle.nb_drivetalks.proofs.OrderSteps.{CallSo, tells_so}
use Rattle.nb_drivetalks.proofs.Standing.{session_parts, unit_parts}
use Rattle.nb_drivetalks.proofs.Starting.{BegunFrom}

-- WHAT EACH ENTRY ASKS FOR

this_one : (P : NodeEntry Obj Load → Type 0) (z : ℕ) (e : NodeEntry Obj Load) (es : List (NodeEntry Obj Load)) → AllByRecursion P (if z == z then e ∷ es else es) → P e
this_one P z e es h = (subst (λ b. AllByRecursion P (if b then e ∷ es else es)) (eq-eqb z z refl) h).0

those_after : (P : NodeEntry Obj Load → Type 0) (b : Bool) (e : NodeEntry Obj Load) (es : List (NodeEntry Obj Load)) → AllByRecursion P (if b then e ∷ es else es) → AllByRecursion P es
those_after P true e es h = h.1
those_after P false e es h = h

calls_so : (ids : List ℕ) (top x : ℕ) (ds : List (Deed Obj Load)) → ((y : ℕ) → is_one_of ids y ≡ true → AllByRecursion (EntrySo x y) (entries_of y ds)) → AllByRecursion (CallSo ids top x) ds
calls_so ids top x [] h = tt
calls_so ids top x (writes e ∷ ds) h = (tt, calls_so ids top x ds h)
calls_so ids top x (begins z n ∷ ds) h = (tt, calls_so ids top x ds h)
calls_so ids top x (calls z e ∷ ds) h = ((λ own. this_one (EntrySo x z) z e (entries_of z ds) (h z own)), calls_so ids top x ds (λ y own. those_after (EntrySo x y) (y == z) e (entries_of y ds) (h y own)))
calls_so ids top x (turns u ∷ ds) h = (tt, calls_so ids top x ds h)

no_make : (x y : ℕ) (e : NodeEntry Obj Load) → EntrySo x y e → AsksNoMake e
no_make x y (up slot m now done fx) h = λ d. (h.0 d).none
no_make x y (down m now done fx) h = λ d. (h d).none
no_make x y (closed slot cause now fx) h = h.none
no_make x y (time now done fx) h = λ d. (h d).none
no_make x y (regain l) h = tt

none_made : (ids : List ℕ) (top x : ℕ) (ds : List (Deed Obj Load)) → AllByRecursion (CallSo ids top x) ds → AllByRecursion (AsksNone (is_one_of ids)) ds
none_made ids top x [] h = tt
none_made ids top x (writes e ∷ ds) h = (tt, none_made ids top x ds h.1)
none_made ids top x (begins z n ∷ ds) h = (tt, none_made ids top x ds h.1)
none_made ids top x (calls z e ∷ ds) h = ((λ own. no_make x z e (h.0 own)), none_made ids top x ds h.1)
none_made ids top x (turns u ∷ ds) h = (tt, none_made ids top x ds h.1)

-- HOW A CALL BEGINS

-- it is entered, and its node is called next
abbrev EntersFirst : ℕ → Scene → Scene → GraphEvent → Stage Obj Load → List (Deed Obj Load) → Type 0
EntersFirst now s t e g ds = (es : List (Deed Obj Load)) × (ds ≡ writes e ∷ es) × UsesStack obj_nature now s (g ∷ []) es t

offer_enters : (now : ℕ) (s t : Scene) (p : Port) (m : Said) (ds : List (Deed Obj Load)) → 1 ≤ p.slot → state_at s p ≡ port.Open → UsesStack obj_nature now s (Offers p m ∷ []) ds t → EntersFirst now s t (Entered p way.Up) (Holds p way.Up (Some m)) ds
offer_enters now s t p m [] low is_open h = absurd h
offer_enters now s t _ _ (_ ∷ ds) low is_open (_, offered_up p m j e, h) = (ds, refl, h)
offer_enters now s t _ _ (_ ∷ ds) low is_open (_, offered_down p m j e, h) = absurd (omega (arith, low, j))
offer_enters now s t _ _ (_ ∷ ds) low is_open (_, refused p m e, h) = absurd (e is_open)

tick_enters : (now : ℕ) (s t : Scene) (x : ℕ) (ds : List (Deed Obj Load)) → s.live x ≡ true → UsesStack obj_nature now s (Ticks x ∷ []) ds t → EntersFirst now s t (Entered (port_at x 4) way.Time) (Holds (port_at x 4) way.Time (Some silence)) ds
tick_enters now s t x [] live h = absurd h
tick_enters now s t _ (_ ∷ ds) live (_, ticks x e, h) = (ds, refl, h)
tick_enters now s t _ (_ ∷ ds) live (_, ticks_none x e, h) = absurd (let z = sym live ∙ e in cc)

-- FROM THREE IN ORDER

module _ (c : DriveChain) (o : IsInOrder (three_of c)) where
  unit_not_conn : c.unit.0 ≡ c.conn.0 → ⊥
  unit_not_conn e = let i = o.web_later in let j = o.conn_later in omega (arith, e, i, j)

  session_not_conn : c.session.0 ≡ c.conn.0 → ⊥
  session_not_conn e = let j = o.conn_later in omega (arith, e, j)

module _ (c : DriveChain) (o : IsInOrder (three_of c)) (s : Scene) (h : Objects Obj) (now : ℕ) (asks : List (Stage Obj Load)) (ns : List Notice) (above between below : List (NodeEntry Obj Load)) (b : BegunFrom s c h now asks ns above between below)
    (links : AreLinkedWithin (is_one_of (drive_ids c)) s.port) (hidden : Hidden (drive_ids c) c.unit.0 c.conn.0 s) where
  all_calls : AllByRecursion (CallSo (drive_ids c) c.unit.0 c.conn.0) b.deeds
  all_calls =
      let u = unit_parts unit_unasked b.work above (entries_of c.unit.0 b.deeds) b.worked in
      let r = session_parts session_unasked b.talk between (entries_of c.session.0 b.deeds) b.talked in
      let p = conversed_parts unopened b.dialogue below (entries_of c.conn.0 b.deeds) b.conversed in
      calls_so (drive_ids c) c.unit.0 c.conn.0 b.deeds
      (of_three (three_of c) (λ y. AllByRecursion (EntrySo c.conn.0 y) (entries_of y b.deeds)) (unit_all c.conn.0 c.unit.0 (unit_not_conn c o) (entries_of c.unit.0 b.deeds) u.0 b.work u.2)
      (session_all c.conn.0 c.session.0 (session_not_conn c o) (entries_of c.session.0 b.deeds) r.0 b.talk r.2) (conn_all c.conn.0 c.conn.0 (entries_of c.conn.0 b.deeds) p.0 b.dialogue p.2))

  -- from what is asked for
  pub order_first : AreStagesWithin (is_one_of (drive_ids c)) asks → Fits c.unit.0 c.conn.0 false s asks → StandInDriveOrder c.unit.0 c.conn.0 None ns
  order_first within fits =
      let y = tells_so (drive_ids c) c.unit.0 c.conn.0 now false s (scene_of (web_graph (three_of c) h).book) asks b.deeds within links (none_made (drive_ids c) c.unit.0 c.conn.0 b.deeds all_calls) all_calls hidden fits b.uses in
      (subst (λ z. LeavesOnEntry c.conn.0 false (told_below c.unit.0 z)) b.told y.0, subst (AreNoCalls c.conn.0) b.told y.1)

  -- from the call of the connection's node
  order_entered : (e : GraphEvent) (stage : Stage Obj Load) → IsStageWithin (is_one_of (drive_ids c)) stage → EagerStage c.unit.0 c.conn.0 stage → EntersFirst now s (scene_of (web_graph (three_of c) h).book) e stage b.deeds
      → StandInDriveOrder c.unit.0 c.conn.0 (Some e) ns
  order_entered e stage in_them eager z =
      let made = subst (AllByRecursion (AsksNone (is_one_of (drive_ids c)))) z.1 (none_made (drive_ids c) c.unit.0 c.conn.0 b.deeds all_calls) in
      let so = subst (AllByRecursion (CallSo (drive_ids c) c.unit.0 c.conn.0)) z.1 all_calls in
      let y = tells_so (drive_ids c) c.unit.0 c.conn.0 now true s (scene_of (web_graph (three_of c) h).book) (stage ∷ []) z.0 (in_them, tt) links made.1 so.1 hidden (inr (eager, tt)) z.2 in
      (told_of z.0, sym b.told ∙ ap told_of z.1, y.0, y.1)

-- THAT ARE OPEN

linked_not_open : (v : PortState) (q : Port) → v ≡ port.Linked q → v ≡ port.Open → ⊥
linked_not_open v q e i = let z = sym e ∙ i in cc

same_link : (v : PortState) (p q : Port) → v ≡ port.Linked p → v ≡ port.Linked q → p ≡ q
same_link v p q e i = let z = sym e ∙ i in cc

module _ (c : DriveChain) (g : Objects Obj) (was : AreChained g (drive_ids c)) (hosted : AreHosted (three_of c) g) (o : IsOpenWeb (three_of c) g) where
  abbrev seen : Scene
  seen = scene_of (web_graph (three_of c) g).book

  same_port : (y k : ℕ) → is_one_of (drive_ids c) y ≡ true → seen.port y k ≡ port_in g.book y k
  same_port y k own = port_own (drive_ids c) g (are_there (drive_ids c) g was.lives hosted) y k own

  pub links_seen : AreLinkedWithin (is_one_of (drive_ids c)) seen.port
  links_seen y k own = subst (LeadsWithin (is_one_of (drive_ids c))) (sym (same_port y k own)) (was.links y k own)

  sees : Sees c.unit.0 c.session.0 c.conn.0 all_open seen
  sees = sees_open (three_of c) g was hosted o

  -- no other slot has a link
  loose : (y k : ℕ) (q : Port) → is_one_of (drive_ids c) y ≡ true → seen.port y (suc (suc k)) ≡ port.Linked q → ⊥
  loose y k q own e = let z = sym (ap link_count (sym (same_port y (suc (suc k)) own) ∙ e)) ∙ o.through.loose y (suc (suc k)) own (omega arith) in cc

  lowest : (k : ℕ) (q : Port) → seen.port c.conn.0 k ≡ port.Linked q → k ≡ 0
  lowest zero q e = refl
  lowest (suc zero) q e = absurd (linked_not_open _ q e sees.network)
  lowest (suc (suc k)) q e = absurd (loose c.conn.0 k q (conn_in (three_of c)) e)

  abbrev Leads : ℕ → Type 0
  Leads y = (k : ℕ) (q : Port) → seen.port y k ≡ port.Linked q → q.obj.0 ≡ c.conn.0 → q.slot ≡ 0

  unit_leads : Leads c.unit.0
  unit_leads zero q e at = absurd (linked_not_open _ q e sees.user)
  unit_leads (suc zero) q e at = ap (λ (p : Port). p.slot) (sym (same_link _ (port_at c.session.0 0) q sees.top e))
  unit_leads (suc (suc k)) q e at = absurd (loose c.unit.0 k q (fetch_in (three_of c)) e)

  session_leads : Leads c.session.0
  session_leads zero q e at = absurd (unit_not_conn c o.order (ap (λ (p : Port). p.obj.0) (same_link _ (port_at c.unit.0 1) q sees.web_top e) ∙ at))
  session_leads (suc zero) q e at = ap (λ (p : Port). p.slot) (sym (same_link _ (port_at c.conn.0 0) q sees.web_low e))
  session_leads (suc (suc k)) q e at = absurd (loose c.session.0 k q (web_in (three_of c)) e)

  conn_leads : Leads c.conn.0
  conn_leads zero q e at = absurd (session_not_conn c o.order (ap (λ (p : Port). p.obj.0) (same_link _ (port_at c.session.0 1) q sees.conn_top e) ∙ at))
  conn_leads (suc zero) q e at = absurd (linked_not_open _ q e sees.network)
  conn_leads (suc (suc k)) q e at = absurd (loose c.conn.0 k q (conn_in (three_of c)) e)

  pub hidden_seen : Hidden (drive_ids c) c.unit.0 c.conn.0 seen
  hidden_seen = record {
    above = of_three (three_of c) (λ y. (y ≡ c.unit.0 → ⊥) → seen.port y 0 ≡ port.Open → ⊥) (λ far. absurd (far refl)) (λ _. linked_not_open _ _ sees.web_top) (λ _. linked_not_open _ _ sees.conn_top);
    below = of_three (three_of c) (λ y. (y ≡ c.conn.0 → ⊥) → seen.port y 1 ≡ port.Open → ⊥) (λ _. linked_not_open _ _ sees.top) (λ _. linked_not_open _ _ sees.web_low) (λ far. absurd (far refl));
    lowest = lowest;
    leads = λ y k q own. of_three (three_of c) Leads unit_leads session_leads conn_leads y own k q;
  }

  pub in_order : (h : Objects Obj) (now : ℕ) (entry : Option GraphEvent) (asks : List (Stage Obj Load)) (ns : List Notice) (above between below : List (NodeEntry Obj Load)) → BegunFrom seen c h now asks ns above between below
      → BeginsDrive c entry asks → AreShort asks → StandInDriveOrder c.unit.0 c.conn.0 entry ns
  in_order h now _ _ ns above between below b (by_user m) short = order_first c o.order seen h now _ ns above between below b links_seen hidden_seen (fetch_in (three_of c), tt) ((refl, unit_not_conn c o.order), tt)
  in_order h now _ _ ns above between below b (by_network m) (short_message _ _ lt) =
      order_entered c o.order seen h now _ ns above between below b links_seen hidden_seen (Entered (port_at c.conn.0 1) way.Up) (Holds (port_at c.conn.0 1) way.Up (Some m)) (conn_in (three_of c)) (refl, lt)
      (offer_enters now seen (scene_of (web_graph (three_of c) h).book) (port_at c.conn.0 1) m b.deeds (omega arith) sees.network b.uses)
  in_order h now _ _ ns above between below b by_time short =
      order_entered c o.order seen h now _ ns above between below b links_seen hidden_seen (Entered (port_at c.conn.0 4) way.Time) (Holds (port_at c.conn.0 4) way.Time (Some silence)) (conn_in (three_of c)) (refl, tt)
      (tick_enters now seen (scene_of (web_graph (three_of c) h).book) c.conn.0 b.deeds (seen_live (three_of c) g was hosted c.conn.0 (conn_in (three_of c))) b.uses)
