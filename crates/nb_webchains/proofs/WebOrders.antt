-- In which order the notices of a call on the three stand.
use Rattle.std.proofs.Common.{inl, inr, ◌≡◌, ◌≤◌, ◌==◌, ℕ, zero, suc, Bool, true, false, List, [], ◌∷◌, ◌++◌, Option, Some, None, refl, sym, ap, ◌∙◌, subst, arith, if◌then◌else◌}
use Rattle.std.specs.List.{AllByRecursion}
use Rattle.std.proofs.lemmas.Bool.{cases_eq, eq-eqb, ne_eqb}
use Rattle.std.proofs.lemmas.List.{append-nil}
use Rattle.nb_terms.specs.declared.cause.Cause.{Cause}
use Rattle.nb_ledger.specs.declared.port.Port.{Port}
use Rattle.nb_ledger.specs.declared.port.PortState.{PortState}
use Rattle.nb_ledger.specs.declared.port.PortState.TheVariants as port
use Rattle.nb_ledger.specs.declared.event.Way.TheVariants as way
use Rattle.nb_ledger.specs.declared.event.GraphEvent.{GraphEvent}
use Rattle.nb_ledger.specs.declared.event.GraphEvent.TheVariants.{Entered}
use Rattle.nb_ledger.specs.Flat.{Heard}
use Rattle.nb_ledger.specs.GraphRun.{link_count}
use Rattle.nb_ledger.specs.Ledger.{port as port_in, rank}
use Rattle.nb_graph.specs.Deeds.{Deed, writes, begins, calls, turns, Closes, Holds, Offers, Stage, Ticks, told_of, trace_after}
use Rattle.nb_graph.specs.Follows.{UsesStack, offered_down, offered_up, refused, ticks, ticks_none}
use Rattle.nb_graph.specs.Noded.{AreNoded}
use Rattle.nb_graph.specs.Scene.{Scene, scene_of, state_at}
use Rattle.nb_graph.specs.Trace.{NodeEntry, Said, silence}
use Rattle.nb_graph.specs.Went.{WentOne, all_of}
use Rattle.nb_graph.specs.Whole.{IsLinked, Objects, node_at, port_at}
use Rattle.nb_graph.proofs.Laws.{only_call}
use Rattle.nb_graph.proofs.MarkLemmas.{BeginsNone}
use Rattle.nb_frames.specs.Frames.{is_one_of, IsOwnCall}
use Rattle.nb_frames.specs.Within.{AreStagesWithin, IsStageWithin}
use Rattle.nb_frames.proofs.FrameLemmas.{deeds_within}
use Rattle.nb_frames.proofs.WithinLemmas.{AsksNone, asks_none}
use Rattle.nb_nodes.specs.declared.load.Load.{Load}
use Rattle.nb_nodes.specs.declared.obj.Obj.{Obj}
use Rattle.nb_nodes.specs.declared.obj.Obj.TheVariants as obj
use Rattle.nb_nodes.specs.Carriers.{conn_carrier, web_carrier}
use Rattle.nb_nodes.specs.Objects.{is_handed, mark_of_obj, obj_nature, rank_of_obj}
use Rattle.nb_nodes.specs.Standing.{ObjStands}
use Rattle.nb_conns.specs.Dialogues.{unopened}
use Rattle.nb_webnodes.specs.WebTalks.{web_unasked}
use Rattle.nb_chains.specs.Chains.{AreChained}
use Rattle.nb_chains.proofs.FreshOnes.{sole_is}
use Rattle.nb_closings.proofs.Beginning.{one_first}
use Rattle.nb_webchains.specs.declared.web_chain.WebChain.{WebChain}
use Rattle.nb_webchains.specs.Orders.{StandInOrder}
use Rattle.nb_webchains.specs.WebCalls.{AreShort, short_message}
use Rattle.nb_webchains.specs.WebChains.{AreOfWeb, IsInOrder, IsOpenWeb, web_ids}
use Rattle.nb_webchains.proofs.Downward.{EagerStage, Fits}
use Rattle.nb_webchains.proofs.EntriesSo.{conn_all, fetch_all, web_all}
use Rattle.nb_webchains.proofs.EntryDowns.{EntrySo, Hidden}
use Rattle.nb_webchains.proofs.OrderSteps.{CallSo, TellsSo, tells_so}
use Rattle.nb_webchains.proofs.Three.{begins_none, conn_in, fetch_in, web_in}

-- WHAT EACH ENTRY ASKS FOR

each_front : (P : NodeEntry Obj Load → Type 0) (t u : List (NodeEntry Obj Load)) → AllByRecursion P (t ++ u) → AllByRecursion P t
each_front P [] u h = tt
each_front P (e ∷ t) u h = (h.0, each_front P t u h.1)

each_last : (P : NodeEntry Obj Load → Type 0) (t : List (NodeEntry Obj Load)) (e : NodeEntry Obj Load) → AllByRecursion P (t ++ e ∷ []) → P e
each_last P [] e h = h.0
each_last P (d ∷ t) e h = each_last P t e h.1

-- a fact of each entry of y among what happened
abbrev EntriesOf : (NodeEntry Obj Load → Type 0) → ℕ → List (Deed Obj Load) → Type 0
EntriesOf P y [] = Unit {0}
EntriesOf P y (writes e ∷ ds) = EntriesOf P y ds
EntriesOf P y (begins z n ∷ ds) = EntriesOf P y ds
EntriesOf P y (calls z e ∷ ds) = (y ≡ z → P e) × EntriesOf P y ds
EntriesOf P y (turns u ∷ ds) = EntriesOf P y ds

module _ (P : NodeEntry Obj Load → Type 0) (y : ℕ) where
  -- what is so of the trace after it was so of the trace before
  trace_front : (ds : List (Deed Obj Load)) (t : List (NodeEntry Obj Load)) → BeginsNone y ds → AllByRecursion P (trace_after y t ds) → AllByRecursion P t
  trace_front [] t none h = h
  trace_front (writes e ∷ ds) t none h = trace_front ds t none h
  trace_front (begins z n ∷ ds) t none h = trace_front ds t none.1 (rw (ne_eqb y z none.0) at h)
  trace_front (calls z e ∷ ds) t none h = elim (cases_eq y z) [
    | inl same ↦ each_front P t (e ∷ []) (trace_front ds (t ++ e ∷ []) none (rw (eq-eqb y z same) at h))
    | inr far ↦ trace_front ds t none (rw (ne_eqb y z far) at h)
  ]
  trace_front (turns u ∷ ds) t none h = trace_front ds t none h

  entries_so : (ds : List (Deed Obj Load)) (t : List (NodeEntry Obj Load)) → BeginsNone y ds → AllByRecursion P (trace_after y t ds) → EntriesOf P y ds
  entries_so [] t none h = tt
  entries_so (writes e ∷ ds) t none h = entries_so ds t none h
  entries_so (begins z n ∷ ds) t none h = entries_so ds (if y == z then [] else t) none.1 h
  entries_so (calls z e ∷ ds) t none h = ((λ same. each_last P t e (trace_front ds (t ++ e ∷ []) none (rw (eq-eqb y z same) at h))), entries_so ds (if y == z then t ++ e ∷ [] else t) none h)
  entries_so (turns u ∷ ds) t none h = entries_so ds t none h

calls_so : (ids : List ℕ) (top x : ℕ) (ds : List (Deed Obj Load)) → ((y : ℕ) → is_one_of ids y ≡ true → EntriesOf (EntrySo top x y) y ds) → AllByRecursion (CallSo ids top x) ds
calls_so ids top x [] h = tt
calls_so ids top x (writes e ∷ ds) h = (tt, calls_so ids top x ds h)
calls_so ids top x (begins z n ∷ ds) h = (tt, calls_so ids top x ds h)
calls_so ids top x (calls z e ∷ ds) h = ((λ own. (h z own).0 refl), calls_so ids top x ds (λ y own. (h y own).1))
calls_so ids top x (turns u ∷ ds) h = (tt, calls_so ids top x ds h)

-- BY THE KINDS OF THE THREE

low_mark : (b : Bool) (k : ℕ) → (if b then 1 else 0) ≡ k → 2 ≤ k → ⊥
low_mark true k e low = omega (arith, e, low)
low_mark false k e low = omega (arith, e, low)

module _ (top x y : ℕ) where
  fetch_entries : (n : Obj) (t : List (NodeEntry Obj Load)) → rank_of_obj n ≡ 5 → mark_of_obj n ≡ 0 → ObjStands n t → (y ≡ x → ⊥) → AllByRecursion (EntrySo top x y) t
  fetch_entries (obj.Fetch f) t at mark s far = fetch_all top x y far t [] s.asks
  fetch_entries (obj.Tftp p) t at mark s far = absurd (omega (arith, at))
  fetch_entries (obj.Resolver p) t at mark s far = absurd (omega (arith, at))
  fetch_entries (obj.Dhcp p) t at mark s far = absurd (omega (arith, at))
  fetch_entries (obj.Ping p) t at mark s far = absurd (omega (arith, mark))
  fetch_entries (obj.Http p) t at mark s far = absurd (omega (arith, at))
  fetch_entries (obj.Tcp p) t at mark s far = absurd (omega (arith, at))
  fetch_entries (obj.Iscsi p) t at mark s far = absurd (omega (arith, at))
  fetch_entries (obj.Disk p) t at mark s far = absurd (omega (arith, mark))

  web_entries : (n : Obj) (t : List (NodeEntry Obj Load)) → mark_of_obj n ≡ 2 → ObjStands n t → (y ≡ top → ⊥) → (y ≡ x → ⊥) → AllByRecursion (EntrySo top x y) t
  web_entries (obj.Fetch f) t mark s low far = absurd (low_mark (is_handed f) 2 mark (omega arith))
  web_entries (obj.Tftp p) t mark s low far = absurd (omega (arith, mark))
  web_entries (obj.Resolver p) t mark s low far = absurd (omega (arith, mark))
  web_entries (obj.Dhcp p) t mark s low far = absurd (omega (arith, mark))
  web_entries (obj.Ping p) t mark s low far = absurd (omega (arith, mark))
  web_entries (obj.Http p) t mark s low far = web_all top x y low far web_carrier t web_unasked s.talk s.run
  web_entries (obj.Tcp p) t mark s low far = absurd (omega (arith, mark))
  web_entries (obj.Iscsi p) t mark s low far = absurd (omega (arith, mark))
  web_entries (obj.Disk p) t mark s low far = absurd (omega (arith, mark))

  conn_entries : (n : Obj) (t : List (NodeEntry Obj Load)) → mark_of_obj n ≡ 3 → ObjStands n t → (y ≡ top → ⊥) → AllByRecursion (EntrySo top x y) t
  conn_entries (obj.Fetch f) t mark s low = absurd (low_mark (is_handed f) 3 mark (omega arith))
  conn_entries (obj.Tftp p) t mark s low = absurd (omega (arith, mark))
  conn_entries (obj.Resolver p) t mark s low = absurd (omega (arith, mark))
  conn_entries (obj.Dhcp p) t mark s low = absurd (omega (arith, mark))
  conn_entries (obj.Ping p) t mark s low = absurd (omega (arith, mark))
  conn_entries (obj.Http p) t mark s low = absurd (omega (arith, mark))
  conn_entries (obj.Tcp p) t mark s low = conn_all top x y low conn_carrier t unopened s.dialogue s.run
  conn_entries (obj.Iscsi p) t mark s low = absurd (omega (arith, mark))
  conn_entries (obj.Disk p) t mark s low = absurd (omega (arith, mark))

-- HOW A CALL BEGINS

-- what is asked for, and how the connection is entered by that from outside
pub data BeginsSo (c : WebChain) : Option GraphEvent → List (Stage Obj Load) → Type 0 where
  by_begin : (m : Said) → BeginsSo c None (Offers (port_at c.fetch.0 0) m ∷ [])
  by_segment : (m : Said) → BeginsSo c (Some (Entered (port_at c.conn.0 1) way.Up)) (Offers (port_at c.conn.0 1) m ∷ [])
  by_tick : BeginsSo c (Some (Entered (port_at c.conn.0 4) way.Time)) (Ticks c.conn.0 ∷ [])

-- it is entered, and its node is called next
abbrev EntersFirst : ℕ → Scene → Scene → GraphEvent → Stage Obj Load → List (Deed Obj Load) → Type 0
EntersFirst now s t e g ds = (es : List (Deed Obj Load)) × (ds ≡ writes e ∷ es) × UsesStack obj_nature now s (g ∷ []) es t

offer_enters : (now : ℕ) (s t : Scene) (p : Port) (m : Said) (ds : List (Deed Obj Load)) → 1 ≤ p.slot → state_at s p ≡ port.Open → UsesStack obj_nature now s (Offers p m ∷ []) ds t → EntersFirst now s t (Entered p way.Up) (Holds p way.Up (Some m)) ds
offer_enters now s t p m [] low is_open h = absurd h
offer_enters now s t _ _ (_ ∷ ds) low is_open (_, offered_up p m j e, h) = (ds, refl, h)
offer_enters now s t _ _ (_ ∷ ds) low is_open (_, offered_down p m j e, h) = absurd (omega (arith, low, j))
offer_enters now s t _ _ (_ ∷ ds) low is_open (_, refused p m e, h) = absurd (e is_open)

tick_enters : (now : ℕ) (s t : Scene) (x : ℕ) (ds : List (Deed Obj Load)) → s.live x ≡ true → UsesStack obj_nature now s (Ticks x ∷ []) ds t → EntersFirst now s t (Entered (port_at x 4) way.Time) (Holds (port_at x 4) way.Time (Some silence)) ds
tick_enters now s t x [] live h = absurd h
tick_enters now s t _ (_ ∷ ds) live (_, ticks x e, h) = (ds, refl, h)
tick_enters now s t _ (_ ∷ ds) live (_, ticks_none x e, h) = absurd (let z = sym live ∙ e in cc)

-- FROM THREE IN ORDER

module _ (c : WebChain) (o : IsInOrder c) where
  web_not_fetch : c.web.0 ≡ c.fetch.0 → ⊥
  web_not_fetch e = let i = o.web_later in omega (arith, e, i)

  conn_not_fetch : c.conn.0 ≡ c.fetch.0 → ⊥
  conn_not_fetch e = let i = o.web_later in let j = o.conn_later in omega (arith, e, i, j)

  web_not_conn : c.web.0 ≡ c.conn.0 → ⊥
  web_not_conn e = let j = o.conn_later in omega (arith, e, j)

  fetch_not_conn : c.fetch.0 ≡ c.conn.0 → ⊥
  fetch_not_conn e = conn_not_fetch (sym e)

  -- a fact of each of the three
  of_three : (P : ℕ → Type 0) → P c.fetch.0 → P c.web.0 → P c.conn.0 → (y : ℕ) → is_one_of (web_ids c) y ≡ true → P y
  of_three P f w k y i = elim (one_first c.fetch.0 (c.web.0 ∷ c.conn.0 ∷ []) y i) [
    | inl e ↦ subst P (sym e) f
    | inr j ↦ elim (one_first c.web.0 (c.conn.0 ∷ []) y j) [ inl e ↦ subst P (sym e) w | inr l ↦ subst P (sym (sole_is c.conn.0 y l)) k ]
  ]

-- THAT ARE OPEN

module _ (c : WebChain) (g : Objects Obj) (o : IsOpenWeb c g) where
  linked_not_open : (v : PortState) (q : Port) → v ≡ port.Linked q → v ≡ port.Open → ⊥
  linked_not_open v q e i = let z = sym e ∙ i in cc

  -- the connection is linked by its slot 0 alone
  lowest : (k : ℕ) (q : Port) → port_in g.book c.conn.0 k ≡ port.Linked q → k ≡ 0
  lowest zero q e = refl
  lowest (suc zero) q e = absurd (let z = sym o.through.ports.1.2.2 ∙ e in cc)
  lowest (suc (suc k)) q e = absurd (let z = sym (ap link_count e) ∙ o.through.loose c.conn.0 (suc (suc k)) (conn_in c) (omega arith) in cc)

  pub is_hidden : IsLinked (port_in g.book) (rank g.book) → Hidden (web_ids c) c.fetch.0 c.conn.0 (scene_of g.book)
  is_hidden links = record {
    above = of_three c o.order (λ y. (y ≡ c.fetch.0 → ⊥) → port_in g.book y 0 ≡ port.Open → ⊥) (λ far. absurd (far refl)) (λ _. linked_not_open _ _ o.through.ports.1.1) (λ _. linked_not_open _ _ o.through.ports.1.2.1);
    below = of_three c o.order (λ y. (y ≡ c.conn.0 → ⊥) → port_in g.book y 1 ≡ port.Open → ⊥) (λ _. linked_not_open _ _ o.through.ports.1.0) (λ _. linked_not_open _ _ o.through.ports.1.2.0) (λ far. absurd (far refl));
    lowest = lowest;
    leads = λ y k q own e at. lowest q.slot (port_at y k) (subst (λ z. port_in g.book z q.slot ≡ port.Linked (port_at y k)) at (links.back y k q e));
  }

module _ (c : WebChain) (now : ℕ) (asks : List (Stage Obj Load)) (g h : Objects Obj) (m n : Heard) (chained : AreChained g (web_ids c)) (within : AreStagesWithin (is_one_of (web_ids c)) asks)
    (after : AreNoded rank_of_obj h) (are : AreOfWeb c h) (k : WentOne ObjStands obj_nature now asks g h m n) (own : IsOwnCall (web_ids c) asks g h (all_of k.deeds)) (o : IsInOrder c) (hidden : Hidden (web_ids c) c.fetch.0 c.conn.0 (scene_of g.book)) where
  abbrev ds : List (Deed Obj Load)
  ds = all_of k.deeds

  -- each entry of one of them is so, by what that stands for afterwards
  their_entries : (y : ℕ) → is_one_of (web_ids c) y ≡ true → (P : NodeEntry Obj Load → Type 0) → ((node : Obj) → node_at h y ≡ Some node → rank_of_obj node ≡ rank h.book y → (t : List (NodeEntry Obj Load)) → ObjStands node t → AllByRecursion P t) → EntriesOf P y ds
  their_entries y i P so =
      let w = chained.stands y i in
      let node = after y (own.stays y i) in
      let theirs = deeds_within obj_nature ObjStands now asks g h m n (is_one_of (web_ids c)) within chained.links k own.makes in
      entries_so P y ds w.0 (begins_none (web_ids c) y ds theirs.0) (so node.node node.is_node node.at_rank (trace_after y w.0 ds) (k.keeps y w.0 w.1 node.node node.is_node).0)

  all_calls : AllByRecursion (CallSo (web_ids c) c.fetch.0 c.conn.0) ds
  all_calls = calls_so (web_ids c) c.fetch.0 c.conn.0 ds (of_three c o (λ y. EntriesOf (EntrySo c.fetch.0 c.conn.0 y) y ds)
      (their_entries c.fetch.0 (fetch_in c) (EntrySo c.fetch.0 c.conn.0 c.fetch.0) (λ node is at t s. fetch_entries c.fetch.0 c.conn.0 c.fetch.0 node t (at ∙ are.fetch_rank) (are.fetch node is) s (fetch_not_conn c o)))
      (their_entries c.web.0 (web_in c) (EntrySo c.fetch.0 c.conn.0 c.web.0) (λ node is at t s. web_entries c.fetch.0 c.conn.0 c.web.0 node t (are.web node is) s (web_not_fetch c o) (web_not_conn c o)))
      (their_entries c.conn.0 (conn_in c) (EntrySo c.fetch.0 c.conn.0 c.conn.0) (λ node is at t s. conn_entries c.fetch.0 c.conn.0 c.conn.0 node t (are.conn node is) s (conn_not_fetch c o))))

  none_asks : AllByRecursion (AsksNone (is_one_of (web_ids c))) ds
  none_asks = asks_none (is_one_of (web_ids c)) ds own.makes

  pub uses : UsesStack obj_nature now (scene_of g.book) asks ds (scene_of h.book)
  uses =
      let one = only_call obj_nature (scene_of g.book) (scene_of h.book) (record { now = now; asks = asks }) k.deeds k.each in
      subst (λ (es : List (Deed Obj Load)). UsesStack obj_nature now (scene_of g.book) asks es (scene_of h.book)) (sym (ap all_of one.1 ∙ append-nil one.0)) one.2

  -- from what is asked for
  pub at_first : Fits c.conn.0 false (scene_of g.book) asks → TellsSo (web_ids c) c.fetch.0 c.conn.0 false ds
  at_first fits = tells_so (web_ids c) c.fetch.0 c.conn.0 now false (scene_of g.book) (scene_of h.book) asks ds within chained.links none_asks all_calls hidden fits uses

  -- from the call of the connection's node
  pub once_entered : (e : GraphEvent) (stage : Stage Obj Load) → IsStageWithin (is_one_of (web_ids c)) stage → EagerStage c.conn.0 stage → (z : EntersFirst now (scene_of g.book) (scene_of h.book) e stage ds) → StandInOrder c.conn.0 (Some e) (told_of ds)
  once_entered e stage in_them eager z =
      let none = subst (AllByRecursion (AsksNone (is_one_of (web_ids c)))) z.1 none_asks in
      let calls = subst (AllByRecursion (CallSo (web_ids c) c.fetch.0 c.conn.0)) z.1 all_calls in
      let r = tells_so (web_ids c) c.fetch.0 c.conn.0 now true (scene_of g.book) (scene_of h.book) (stage ∷ []) z.0 (in_them, tt) chained.links none.1 calls.1 hidden (inr (eager, tt)) z.2 in
      (told_of z.0, ap told_of z.1, r.0, r.1)

pub in_order : (c : WebChain) (entry : Option GraphEvent) (asks : List (Stage Obj Load)) → BeginsSo c entry asks → AreShort asks → (now : ℕ) (g h : Objects Obj) (m n : Heard) → AreChained g (web_ids c) → AreStagesWithin (is_one_of (web_ids c)) asks
    → IsLinked (port_in g.book) (rank g.book) → AreNoded rank_of_obj h → AreOfWeb c h → (k : WentOne ObjStands obj_nature now asks g h m n) → IsOwnCall (web_ids c) asks g h (all_of k.deeds) → IsOpenWeb c g → StandInOrder c.conn.0 entry (told_of (all_of k.deeds))
in_order c _ _ (by_begin w) short now g h m n chained within links after are k own o = at_first c now _ g h m n chained within after are k own o.order (is_hidden c g o links) ((refl, fetch_not_conn c o.order), tt)
in_order c _ _ (by_segment w) (short_message _ _ lt) now g h m n chained within links after are k own o =
    once_entered c now _ g h m n chained within after are k own o.order (is_hidden c g o links) (Entered (port_at c.conn.0 1) way.Up) (Holds (port_at c.conn.0 1) way.Up (Some w)) (conn_in c) (refl, lt)
    (offer_enters now (scene_of g.book) (scene_of h.book) (port_at c.conn.0 1) w (all_of k.deeds) (omega arith) o.through.ports.1.2.2 (uses c now _ g h m n chained within after are k own o.order (is_hidden c g o links)))
in_order c _ _ by_tick short now g h m n chained within links after are k own o =
    once_entered c now _ g h m n chained within after are k own o.order (is_hidden c g o links) (Entered (port_at c.conn.0 4) way.Time) (Holds (port_at c.conn.0 4) way.Time (Some silence)) (conn_in c) (refl, tt)
    (tick_enters now (scene_of g.book) (scene_of h.book) c.conn.0 (all_of k.deeds) (chained.lives c.conn.0 (conn_in c)) (uses c now _ g h m n chained within after are k own o.order (is_hidden c g o links)))

-- where a port is closed from outside nothing leaves at once
pub closing_order : (c : WebChain) (p : Port) (z : Cause) (now : ℕ) (g h : Objects Obj) (m n : Heard) → AreChained g (web_ids c) → is_one_of (web_ids c) p.obj.0 ≡ true → AreNoded rank_of_obj h → AreOfWeb c h
    → (k : WentOne ObjStands obj_nature now (Closes p z ∷ []) g h m n) → IsOwnCall (web_ids c) (Closes p z ∷ []) g h (all_of k.deeds) → IsInOrder c → Hidden (web_ids c) c.fetch.0 c.conn.0 (scene_of g.book) → StandInOrder c.conn.0 None (told_of (all_of k.deeds))
closing_order c p z now g h m n chained own_one after are k own o hidden = at_first c now (Closes p z ∷ []) g h m n chained (own_one, tt) after are k own o hidden (tt, tt)
