-- What a call on the three is read from: what each has done, and the walk that begins it.
use Rattle.std.proofs.Common.{◌≡◌, ℕ, suc, ◌≤◌, Bool, true, false, List, [], ◌∷◌, ◌++◌, length, Some, None, refl, sym, ap, ◌∙◌, subst, append_assoc, append-nil, arith, if◌then◌else◌}
use Rattle.nb_ledger.specs.Flat.{Given, Notice, all}
use Rattle.nb_ledger.specs.GraphRun.{GraphRunOf}
use Rattle.nb_ledger.specs.Ledger.{holds, object_lives, port as port_in, run_state}
use Rattle.nb_graph.specs.Deeds.{Deed, Stage, events_of, told_of, trace_after}
use Rattle.nb_graph.specs.Lived.{ObjectStands}
use Rattle.nb_graph.specs.Noded.{AreNoded}
use Rattle.nb_graph.specs.Scene.{scene_of}
use Rattle.nb_graph.specs.Trace.{NodeEntry}
use Rattle.nb_graph.specs.Went.{WentOne, all_of}
use Rattle.nb_graph.specs.Whole.{Objects, node_at}
use Rattle.nb_graph.proofs.Laws.{only_call}
use Rattle.nb_frames.specs.Frames.{is_one_of}
use Rattle.nb_frames.proofs.OwnLemmas.{AreThere, are_there, own_holds, own_lives}
use Rattle.nb_frames.proofs.OwnCallLemmas.{node_own, port_own}
use Rattle.nb_nodes.specs.declared.fetch.Fetch.{Fetch}
use Rattle.nb_nodes.specs.declared.load.Load.{Load}
use Rattle.nb_nodes.specs.declared.obj.Obj.{Obj}
use Rattle.nb_nodes.specs.declared.obj.Obj.TheVariants as obj
use Rattle.nb_nodes.specs.Carriers.{conn_carrier, web_carrier}
use Rattle.nb_nodes.specs.Fetches.{AsksOfFetch, EachOf, FetchStands}
use Rattle.nb_nodes.specs.Objects.{is_handed, mark_of_obj, obj_nature, rank_of_obj}
use Rattle.nb_nodes.specs.Standing.{ObjStands}
use Rattle.nb_opens.specs.Entries.{entries_of}
use Rattle.nb_opens.proofs.HoldLemmas.{NotFreed, held_stays}
use Rattle.nb_opens.proofs.QuietLemmas.{AreQuiet, LeavesObject, quiet_run}
use Rattle.nb_chains.specs.Chains.{AreChained}
use Rattle.nb_chains.proofs.GivingLemmas.{known_notices}
use Rattle.nb_conns.specs.declared.stage.ConnStage.{ConnStage}
use Rattle.nb_conns.specs.declared.tcp.Tcp.{Tcp}
use Rattle.nb_conns.specs.Dialogues.{ConversesTo, Dialogue, IsConnAt, TcpStands, unopened}
use Rattle.nb_webnodes.specs.declared.stage.WebStage.{WebStage}
use Rattle.nb_webnodes.specs.declared.web.Web.{Web}
use Rattle.nb_webnodes.specs.WebTalks.{FetchedTo, IsWebAt, WebStands, WebTalk, web_unasked}
use Rattle.nb_webchains.specs.declared.web_chain.WebChain.{WebChain}
use Rattle.nb_webchains.specs.WebChains.{AreOfWeb, IsInOrder, IsOpenWeb, web_graph, web_ids}
use Rattle.nb_webchains.proofs.Three.{conn_in, fetch_in, web_in}
use Rattle.nb_webtalks.specs.TalkStands.{AreHosted}
use Rattle.nb_webtalks.proofs.Scenes.{Sees, View, all_open}
use Rattle.nb_webtalks.proofs.Walking.{Walk, WebCall}

-- a fact of each entry, of those after some
each_behind : (P : List (NodeEntry Obj Load) → NodeEntry Obj Load → Type 0) (before s t : List (NodeEntry Obj Load)) → EachOf P before (s ++ t) → EachOf P (before ++ s) t
each_behind P before [] t h = subst (λ z. EachOf P z t) (sym (append-nil before)) h
each_behind P before (e ∷ s) t h = subst (λ z. EachOf P z t) (append_assoc before (e ∷ []) s) (each_behind P (before ++ e ∷ []) s t h.1)

-- THE NODES

fetch_node : (n : Obj) (t : List (NodeEntry Obj Load)) → rank_of_obj n ≡ 5 → mark_of_obj n ≡ 0 → ObjStands n t → (f : Fetch) × FetchStands f t
fetch_node (obj.Fetch f) t r m s = (f, s)
fetch_node (obj.Tftp p) t r m s = absurd (omega (arith, r))
fetch_node (obj.Resolver p) t r m s = absurd (omega (arith, r))
fetch_node (obj.Dhcp p) t r m s = absurd (omega (arith, r))
fetch_node (obj.Ping p) t r m s = absurd (omega (arith, m))
fetch_node (obj.Http p) t r m s = absurd (omega (arith, r))
fetch_node (obj.Tcp p) t r m s = absurd (omega (arith, r))
fetch_node (obj.Iscsi p) t r m s = absurd (omega (arith, r))
fetch_node (obj.Disk p) t r m s = absurd (omega (arith, m))

-- a Fetch has another mark
fetch_marks : (handed : Bool) (k : ℕ) → (if handed then 1 else 0) ≡ k → 2 ≤ k → ⊥
fetch_marks true k e two = omega (arith, e, two)
fetch_marks false k e two = omega (arith, e, two)

web_node : (n : Obj) (t : List (NodeEntry Obj Load)) → mark_of_obj n ≡ 2 → ObjStands n t → (p : Web) × WebStands web_carrier p t
web_node (obj.Fetch f) t m s = absurd (fetch_marks (is_handed f) 2 m (omega arith))
web_node (obj.Tftp p) t m s = absurd (omega (arith, m))
web_node (obj.Resolver p) t m s = absurd (omega (arith, m))
web_node (obj.Dhcp p) t m s = absurd (omega (arith, m))
web_node (obj.Ping p) t m s = absurd (omega (arith, m))
web_node (obj.Http p) t m s = (p.value, s)
web_node (obj.Tcp p) t m s = absurd (omega (arith, m))
web_node (obj.Iscsi p) t m s = absurd (omega (arith, m))
web_node (obj.Disk p) t m s = absurd (omega (arith, m))

conn_node : (n : Obj) (t : List (NodeEntry Obj Load)) → mark_of_obj n ≡ 3 → ObjStands n t → (p : Tcp) × TcpStands conn_carrier p t
conn_node (obj.Fetch f) t m s = absurd (fetch_marks (is_handed f) 3 m (omega arith))
conn_node (obj.Tftp p) t m s = absurd (omega (arith, m))
conn_node (obj.Resolver p) t m s = absurd (omega (arith, m))
conn_node (obj.Dhcp p) t m s = absurd (omega (arith, m))
conn_node (obj.Ping p) t m s = absurd (omega (arith, m))
conn_node (obj.Http p) t m s = absurd (omega (arith, m))
conn_node (obj.Tcp p) t m s = (p.value, s)
conn_node (obj.Iscsi p) t m s = absurd (omega (arith, m))
conn_node (obj.Disk p) t m s = absurd (omega (arith, m))

-- WHERE THE THREE ARE

-- they are there, between calls
all_there : (c : WebChain) (g : Objects Obj) → AreChained g (web_ids c) → AreHosted c g → AreThere (web_ids c) g
all_there c g chained hosted = are_there (web_ids c) g chained.lives hosted

pub are_hosted : (c : WebChain) (g : Objects Obj) → AreChained g (web_ids c) → AreNoded rank_of_obj g → AreHosted c g
are_hosted c g chained noded = λ x o. let n = noded x (chained.lives x o) in (n.node, n.is_node)

module _ (c : WebChain) (g : Objects Obj) (chained : AreChained g (web_ids c)) (hosted : AreHosted c g) where
  seen_port : (x k : ℕ) → is_one_of (web_ids c) x ≡ true → port_in (web_graph c g).book x k ≡ port_in g.book x k
  seen_port x k o = port_own (web_ids c) g (all_there c g chained hosted) x k o

  -- what one stands for it stands for there
  pub seen_stands : (x : ℕ) (t : List (NodeEntry Obj Load)) → is_one_of (web_ids c) x ≡ true → ObjectStands ObjStands g x t → ObjectStands ObjStands (web_graph c g) x t
  seen_stands x t o s = λ n e. s n (sym (node_own (web_ids c) g (all_there c g chained hosted) x o) ∙ e)

  -- all their ports are open
  pub sees_open : IsOpenWeb c g → Sees c.fetch.0 c.web.0 c.conn.0 all_open (scene_of (web_graph c g).book)
  sees_open o = record {
    user = seen_port c.fetch.0 0 (fetch_in c) ∙ o.through.ports.0;
    top = seen_port c.fetch.0 1 (fetch_in c) ∙ o.through.ports.1.0;
    web_top = seen_port c.web.0 0 (web_in c) ∙ o.through.ports.1.1;
    web_low = seen_port c.web.0 1 (web_in c) ∙ o.through.ports.1.2.0;
    conn_top = seen_port c.conn.0 0 (conn_in c) ∙ o.through.ports.1.2.1;
    network = seen_port c.conn.0 1 (conn_in c) ∙ o.through.ports.1.2.2;
  }

  pub seen_held : (x : ℕ) → is_one_of (web_ids c) x ≡ true → holds (web_graph c g).book x ≡ 1
  seen_held x o = own_holds g (web_ids c) (all_there c g chained hosted) x ∙ rw o (chained.held x o)

  pub seen_live : (x : ℕ) → is_one_of (web_ids c) x ≡ true → object_lives (web_graph c g).book x ≡ true
  seen_live x o = own_lives g (web_ids c) (all_there c g chained hosted) x ∙ rw o (chained.lives x o)

-- a call of the three
abbrev pub call_of : (c : WebChain) → IsInOrder c → Objects Obj → ℕ → List (NodeEntry Obj Load) → WebTalk → Dialogue → WebCall
call_of c order h now above w d = record {
  now = now;
  fetch = c.fetch.0;
  web = c.web.0;
  conn = c.conn.0;
  web_later = order.web_later;
  conn_later = order.conn_later;
  end = scene_of (web_graph c h).book;
  above = above;
  web_end = w;
  conn_end = d;
}

-- What was done in a call whose outside was told this, after these traces.
pub record StartedAt (v : View) (c : WebChain) (order : IsInOrder c) (h : Objects Obj) (now : ℕ) (asks : List (Stage Obj Load)) (ns : List Notice) (above between below : List (NodeEntry Obj Load)) : Type 0 where
  pub deeds : List (Deed Obj Load)
  pub told : told_of deeds ≡ ns
  pub fetch : ObjectStands ObjStands (web_graph c h) c.fetch.0 (above ++ entries_of c.fetch.0 deeds)
  pub web : ObjectStands ObjStands (web_graph c h) c.web.0 (between ++ entries_of c.web.0 deeds)
  pub conn : ObjectStands ObjStands (web_graph c h) c.conn.0 (below ++ entries_of c.conn.0 deeds)
  pub top : Fetch
  pub gathered : FetchStands top (above ++ entries_of c.fetch.0 deeds)
  pub stage : WebStage
  pub talk : WebTalk
  pub fetched : FetchedTo web_carrier web_unasked (between ++ entries_of c.web.0 deeds) talk
  pub is_web : IsWebAt stage talk
  pub state : ConnStage
  pub dialogue : Dialogue
  pub talked : ConversesTo conn_carrier unopened (below ++ entries_of c.conn.0 deeds) dialogue
  pub is_conn : IsConnAt state dialogue
  -- by any run of the fetch and of the connection
  pub walk : (r w : WebTalk) (p d : Dialogue) → FetchedTo web_carrier r (entries_of c.web.0 deeds) w → ConversesTo conn_carrier p (entries_of c.conn.0 deeds) d
      → Walk (call_of c order h now (above ++ entries_of c.fetch.0 deeds) w d) (suc (length deeds)) v asks above r p [] None deeds
  pub lives : (r w : WebTalk) (p d : Dialogue) (reads : FetchedTo web_carrier r (entries_of c.web.0 deeds) w) (talks : ConversesTo conn_carrier p (entries_of c.conn.0 deeds) d) → (walk r w p d reads talks).scene.live c.conn.0 ≡ true

-- that of a call on three of which all is open
abbrev pub Started : (c : WebChain) → IsInOrder c → (g h : Objects Obj) → ℕ → List (Stage Obj Load) → List Notice → (above between below : List (NodeEntry Obj Load)) → Type 0
Started c order g h now asks ns above between below = StartedAt all_open c order h now asks ns above between below

-- from any graph of the three
module _ (v : View) (c : WebChain) (order : IsInOrder c) (gw h : Objects Obj) (now : ℕ) (asks : List (Stage Obj Load)) (ns : List Notice) (above between below : List (NodeEntry Obj Load)) (is : AreChained h (web_ids c)) (after : AreNoded rank_of_obj h) (kinds : AreOfWeb c h)
    (quiet : AreQuiet {N = Obj} {L = Load} c.conn.0 asks) (made : c.conn.0 ≤ gw.book.made) (held : (x : ℕ) → is_one_of (web_ids c) x ≡ true → holds gw.book x ≡ 1) (sees : Sees c.fetch.0 c.web.0 c.conn.0 v (scene_of gw.book)) (live : object_lives gw.book c.conn.0 ≡ true) where
  pub started_from : ObjectStands ObjStands gw c.fetch.0 above → ObjectStands ObjStands gw c.web.0 between → ObjectStands ObjStands gw c.conn.0 below → WentOne ObjStands obj_nature now asks gw (web_graph c h) (all []) (all ns)
      → StartedAt v c order h now asks ns above between below
  started_from up mid down k =
      let one = only_call obj_nature (scene_of gw.book) (scene_of (web_graph c h).book) (record { now = now; asks = asks }) k.deeds k.each in
      let ds : List (Deed Obj Load) = one.0 in
      let whole : all_of k.deeds ≡ ds = ap all_of one.1 ∙ append-nil ds in
      let last : c.conn.0 ≤ c.conn.0 = omega arith in
      let later : (x : ℕ) → x ≤ c.conn.0 → LeavesObject obj_nature x ds = λ x i. quiet_run obj_nature now c.conn.0 x _ _ asks ds i quiet made one.2 in
      let run : GraphRunOf (run_state gw.book []) (events_of ds) (run_state (web_graph c h).book []) = subst (λ z. GraphRunOf (run_state gw.book []) z (run_state (web_graph c h).book [])) (sym k.events ∙ ap events_of whole) k.runs.run in
      let stay : (x : ℕ) → is_one_of (web_ids c) x ≡ true → x ≤ c.conn.0 → NotFreed x (events_of ds) = λ x o i. (held_stays x (events_of ds) (run_state gw.book []) (run_state (web_graph c h).book []) run (let e = held x o in omega (arith, e)) tt (later x i).0).1.0 in
      let grows : (x : ℕ) (t : List (NodeEntry Obj Load)) → x ≤ c.conn.0 → ObjectStands ObjStands gw x t → ObjectStands ObjStands (web_graph c h) x (t ++ entries_of x ds) =
      λ x t i s. subst (ObjectStands ObjStands (web_graph c h) x) (ap (trace_after x t) whole ∙ (later x i).1 t) (k.keeps x t s) in
      let node : (x : ℕ) → (o : is_one_of (web_ids c) x ≡ true) → node_at (web_graph c h) x ≡ Some (after x (is.lives x o)).node = λ x o. node_own (web_ids c) h (all_there c h is (are_hosted c h is after)) x o ∙ (after x (is.lives x o)).is_node in
      let i = order.web_later in
      let j = order.conn_later in
      let upper : c.fetch.0 ≤ c.conn.0 = omega (arith, i, j) in
      let middle : c.web.0 ≤ c.conn.0 = omega (arith, j) in
      let new_up = grows c.fetch.0 above upper up in
      let new_mid = grows c.web.0 between middle mid in
      let new_down = grows c.conn.0 below last down in
      let n1 = after c.fetch.0 (is.lives c.fetch.0 (fetch_in c)) in
      let n2 = after c.web.0 (is.lives c.web.0 (web_in c)) in
      let n3 = after c.conn.0 (is.lives c.conn.0 (conn_in c)) in
      let f = fetch_node n1.node (above ++ entries_of c.fetch.0 ds) (n1.at_rank ∙ kinds.fetch_rank) (kinds.fetch n1.node n1.is_node) (new_up n1.node (node c.fetch.0 (fetch_in c))).0 in
      let w = web_node n2.node (between ++ entries_of c.web.0 ds) (kinds.web n2.node n2.is_node) (new_mid n2.node (node c.web.0 (web_in c))).0 in
      let t = conn_node n3.node (below ++ entries_of c.conn.0 ds) (kinds.conn n3.node n3.is_node) (new_down n3.node (node c.conn.0 (conn_in c))).0 in
      record {
        deeds = ds;
        told = known_notices ns (told_of ds) (subst (λ z. Given (all []) (all ns) (told_of z)) whole k.tells);
        fetch = new_up;
        web = new_mid;
        conn = new_down;
        top = f.0;
        gathered = f.1;
        stage = w.0.stage;
        talk = w.1.talk;
        fetched = w.1.run;
        is_web = w.1.at;
        state = t.0.stage;
        dialogue = t.1.dialogue;
        talked = t.1.run;
        is_conn = t.1.at;
        walk = λ r q p d reads talks. record {
          left = ds;
          scene = scene_of gw.book;
          sees = sees;
          told = record {
            says = refl;
            closes = refl;
            tail = record {
              asks = each_behind AsksOfFetch [] above (entries_of c.fetch.0 ds) f.1.asks;
              fetched = refl {a = above ++ entries_of c.fetch.0 ds};
              reads = reads;
              talks = talks;
              fetch_stays = stay c.fetch.0 (fetch_in c) upper;
              web_stays = stay c.web.0 (web_in c) middle;
              conn_stays = stay c.conn.0 (conn_in c) last;
            };
            few = omega arith;
          };
          uses = one.2;
        };
        lives = λ r q p d reads talks. live;
      }

module _ (c : WebChain) (g h : Objects Obj) (now : ℕ) (asks : List (Stage Obj Load)) (ns : List Notice) (above between below : List (NodeEntry Obj Load)) (was : AreChained g (web_ids c)) (is : AreChained h (web_ids c))
    (before : AreHosted c g) (after : AreNoded rank_of_obj h) (opened : IsOpenWeb c g) (kinds : AreOfWeb c h) (quiet : AreQuiet {N = Obj} {L = Load} c.conn.0 asks) where
  pub started : ObjectStands ObjStands (web_graph c g) c.fetch.0 above → ObjectStands ObjStands (web_graph c g) c.web.0 between → ObjectStands ObjStands (web_graph c g) c.conn.0 below
      → WentOne ObjStands obj_nature now asks (web_graph c g) (web_graph c h) (all []) (all ns) → Started c opened.order g h now asks ns above between below
  started = started_from all_open c opened.order (web_graph c g) h now asks ns above between below is after kinds quiet (omega arith) (seen_held c g was before) (sees_open c g was before opened) (seen_live c g was before c.conn.0 (conn_in c))
