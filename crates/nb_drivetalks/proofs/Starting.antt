-- What a call on a drive is read from: what each object has done, and the walk that begins it.
use Rattle.std.proofs.Common.{◌≡◌, ℕ, suc, ◌≤◌, Bool, true, false, List, [], ◌++◌, length, Some, None, refl, sym, ap, ◌∙◌, subst, append-nil, arith, if◌then◌else◌}
use Rattle.nb_ledger.specs.Flat.{Given, Notice, all}
use Rattle.nb_ledger.specs.GraphRun.{GraphRunOf}
use Rattle.nb_ledger.specs.Ledger.{holds, object_lives, run_state}
use Rattle.nb_graph.specs.Deeds.{Deed, Stage, events_of, told_of, trace_after}
use Rattle.nb_graph.specs.Lived.{ObjectStands}
use Rattle.nb_graph.specs.Noded.{AreNoded}
use Rattle.nb_graph.specs.Follows.{UsesStack}
use Rattle.nb_graph.specs.Scene.{Scene, scene_of}
use Rattle.nb_graph.specs.Trace.{NodeEntry}
use Rattle.nb_graph.specs.Went.{WentOne, all_of}
use Rattle.nb_graph.specs.Whole.{Objects, node_at}
use Rattle.nb_graph.proofs.Laws.{only_call}
use Rattle.nb_frames.specs.Frames.{is_one_of}
use Rattle.nb_frames.proofs.OwnLemmas.{are_there}
use Rattle.nb_frames.proofs.OwnCallLemmas.{node_own}
use Rattle.nb_nodes.specs.declared.load.Load.{Load}
use Rattle.nb_nodes.specs.declared.obj.Obj.{Obj}
use Rattle.nb_nodes.specs.declared.obj.Obj.TheVariants as obj
use Rattle.nb_nodes.specs.Carriers.{conn_carrier, text_carrier}
use Rattle.nb_nodes.specs.Objects.{is_handed, mark_of_obj, obj_nature, rank_of_obj}
use Rattle.nb_nodes.specs.Standing.{ObjStands}
use Rattle.nb_opens.specs.Entries.{entries_of}
use Rattle.nb_opens.proofs.HoldLemmas.{NotFreed, held_stays}
use Rattle.nb_opens.proofs.QuietLemmas.{AreQuiet, LeavesObject, quiet_run}
use Rattle.nb_chains.specs.Chains.{AreChained}
use Rattle.nb_chains.proofs.GivingLemmas.{known_notices}
use Rattle.nb_conns.specs.declared.stage.ConnStage.{ConnStage}
use Rattle.nb_conns.specs.declared.tcp.Tcp.{Tcp}
use Rattle.nb_conns.specs.Dialogues.{ConversesTo, Dialogue, IsConnAt, TcpStands, unopened}
use Rattle.nb_drivechains.specs.declared.drive_chain.DriveChain.{DriveChain}
use Rattle.nb_drivechains.specs.DriveChains.{AreOfDrive, drive_ids, three_of}
use Rattle.nb_drivenodes.specs.declared.iscsi.Iscsi.{Iscsi}
use Rattle.nb_drivenodes.specs.declared.logical_unit.LogicalUnit.{LogicalUnit}
use Rattle.nb_drivenodes.specs.SessionTalks.{IscsiStands, SessionTalk, SessionTalksTo, session_unasked}
use Rattle.nb_drivenodes.specs.UnitTalks.{UnitStands, UnitTalk, UnitTalksTo, unit_unasked}
use Rattle.nb_webchains.specs.WebChains.{IsInOrder, IsOpenWeb, web_graph}
use Rattle.nb_webchains.proofs.Three.{conn_in, fetch_in, web_in}
use Rattle.nb_webtalks.specs.TalkStands.{AreHosted}
use Rattle.nb_webtalks.proofs.Scenes.{Sees, View, all_open}
use Rattle.nb_webtalks.proofs.Starting.{are_hosted, seen_held, seen_live, sees_open}
use Rattle.nb_drivetalks.proofs.Walking.{DriveCall, Walk}

-- THE NODES

low_mark : (handed : Bool) (k : ℕ) → (if handed then 1 else 0) ≡ k → 2 ≤ k → ⊥
low_mark true k e two = omega (arith, e, two)
low_mark false k e two = omega (arith, e, two)

unit_node : (n : Obj) (t : List (NodeEntry Obj Load)) → mark_of_obj n ≡ 9 → ObjStands n t → (p : LogicalUnit) × UnitStands text_carrier p t
unit_node (obj.Fetch f) t m s = absurd (low_mark (is_handed f) 9 m (omega arith))
unit_node (obj.Tftp p) t m s = absurd (omega (arith, m))
unit_node (obj.Resolver p) t m s = absurd (omega (arith, m))
unit_node (obj.Dhcp p) t m s = absurd (omega (arith, m))
unit_node (obj.Ping p) t m s = absurd (omega (arith, m))
unit_node (obj.Http p) t m s = absurd (omega (arith, m))
unit_node (obj.Tcp p) t m s = absurd (omega (arith, m))
unit_node (obj.Iscsi p) t m s = absurd (omega (arith, m))
unit_node (obj.Disk p) t m s = (p.value, s)

session_node : (n : Obj) (t : List (NodeEntry Obj Load)) → mark_of_obj n ≡ 8 → ObjStands n t → (p : Iscsi) × IscsiStands text_carrier p t
session_node (obj.Fetch f) t m s = absurd (low_mark (is_handed f) 8 m (omega arith))
session_node (obj.Tftp p) t m s = absurd (omega (arith, m))
session_node (obj.Resolver p) t m s = absurd (omega (arith, m))
session_node (obj.Dhcp p) t m s = absurd (omega (arith, m))
session_node (obj.Ping p) t m s = absurd (omega (arith, m))
session_node (obj.Http p) t m s = absurd (omega (arith, m))
session_node (obj.Tcp p) t m s = absurd (omega (arith, m))
session_node (obj.Iscsi p) t m s = (p.value, s)
session_node (obj.Disk p) t m s = absurd (omega (arith, m))

conn_node : (n : Obj) (t : List (NodeEntry Obj Load)) → mark_of_obj n ≡ 3 → ObjStands n t → (p : Tcp) × TcpStands conn_carrier p t
conn_node (obj.Fetch f) t m s = absurd (low_mark (is_handed f) 3 m (omega arith))
conn_node (obj.Tftp p) t m s = absurd (omega (arith, m))
conn_node (obj.Resolver p) t m s = absurd (omega (arith, m))
conn_node (obj.Dhcp p) t m s = absurd (omega (arith, m))
conn_node (obj.Ping p) t m s = absurd (omega (arith, m))
conn_node (obj.Http p) t m s = absurd (omega (arith, m))
conn_node (obj.Tcp p) t m s = (p.value, s)
conn_node (obj.Iscsi p) t m s = absurd (omega (arith, m))
conn_node (obj.Disk p) t m s = absurd (omega (arith, m))

-- a call of the three
abbrev pub call_of : (c : DriveChain) → IsInOrder (three_of c) → Objects Obj → ℕ → UnitTalk → SessionTalk → Dialogue → DriveCall
call_of c order h now u r d = record {
  now = now;
  unit = c.unit.0;
  session = c.session.0;
  conn = c.conn.0;
  session_later = order.web_later;
  conn_later = order.conn_later;
  end = scene_of (web_graph (three_of c) h).book;
  unit_end = u;
  session_end = r;
  conn_end = d;
}

-- What was done in a call whose outside was told this, after these traces.
pub record StartedAt (v : View) (c : DriveChain) (order : IsInOrder (three_of c)) (h : Objects Obj) (now : ℕ) (asks : List (Stage Obj Load)) (ns : List Notice) (above between below : List (NodeEntry Obj Load)) : Type 0 where
  pub deeds : List (Deed Obj Load)
  pub told : told_of deeds ≡ ns
  pub unit : ObjectStands ObjStands (web_graph (three_of c) h) c.unit.0 (above ++ entries_of c.unit.0 deeds)
  pub session : ObjectStands ObjStands (web_graph (three_of c) h) c.session.0 (between ++ entries_of c.session.0 deeds)
  pub conn : ObjectStands ObjStands (web_graph (three_of c) h) c.conn.0 (below ++ entries_of c.conn.0 deeds)
  pub work : UnitTalk
  pub worked : UnitTalksTo text_carrier unit_unasked (above ++ entries_of c.unit.0 deeds) work
  pub talk : SessionTalk
  pub talked : SessionTalksTo text_carrier session_unasked (between ++ entries_of c.session.0 deeds) talk
  pub state : ConnStage
  pub dialogue : Dialogue
  pub conversed : ConversesTo conn_carrier unopened (below ++ entries_of c.conn.0 deeds) dialogue
  pub is_conn : IsConnAt state dialogue
  -- by any run of the three
  pub walk : (a u : UnitTalk) (r w : SessionTalk) (p d : Dialogue) → UnitTalksTo text_carrier a (entries_of c.unit.0 deeds) u → SessionTalksTo text_carrier r (entries_of c.session.0 deeds) w → ConversesTo conn_carrier p (entries_of c.conn.0 deeds) d
      → Walk (call_of c order h now u w d) (suc (length deeds)) v asks a r p [] [] None deeds
  pub lives : (a u : UnitTalk) (r w : SessionTalk) (p d : Dialogue) (works : UnitTalksTo text_carrier a (entries_of c.unit.0 deeds) u) (reads : SessionTalksTo text_carrier r (entries_of c.session.0 deeds) w) (talks : ConversesTo conn_carrier p (entries_of c.conn.0 deeds) d)
      → (walk a u r w p d works reads talks).scene.live c.conn.0 ≡ true

-- What was done in a call, from where they were seen, with all that each of them has done.
pub record BegunFrom (from : Scene) (c : DriveChain) (h : Objects Obj) (now : ℕ) (asks : List (Stage Obj Load)) (ns : List Notice) (above between below : List (NodeEntry Obj Load)) : Type 0 where
  pub deeds : List (Deed Obj Load)
  pub told : told_of deeds ≡ ns
  pub uses : UsesStack obj_nature now from asks deeds (scene_of (web_graph (three_of c) h).book)
  pub work : UnitTalk
  pub worked : UnitTalksTo text_carrier unit_unasked (above ++ entries_of c.unit.0 deeds) work
  pub talk : SessionTalk
  pub talked : SessionTalksTo text_carrier session_unasked (between ++ entries_of c.session.0 deeds) talk
  pub dialogue : Dialogue
  pub conversed : ConversesTo conn_carrier unopened (below ++ entries_of c.conn.0 deeds) dialogue

-- from any graph of the three
module _ (v : View) (c : DriveChain) (order : IsInOrder (three_of c)) (gw h : Objects Obj) (now : ℕ) (asks : List (Stage Obj Load)) (ns : List Notice) (above between below : List (NodeEntry Obj Load)) (is : AreChained h (drive_ids c))
    (after : AreNoded rank_of_obj h) (kinds : AreOfDrive c h)
    (quiet : AreQuiet {N = Obj} {L = Load} c.conn.0 asks) (made : c.conn.0 ≤ gw.book.made) (held : (x : ℕ) → is_one_of (drive_ids c) x ≡ true → holds gw.book x ≡ 1) (sees : Sees c.unit.0 c.session.0 c.conn.0 v (scene_of gw.book))
    (live : object_lives gw.book c.conn.0 ≡ true) where
  both_from : ObjectStands ObjStands gw c.unit.0 above → ObjectStands ObjStands gw c.session.0 between → ObjectStands ObjStands gw c.conn.0 below → WentOne ObjStands obj_nature now asks gw (web_graph (three_of c) h) (all []) (all ns)
      → StartedAt v c order h now asks ns above between below × BegunFrom (scene_of gw.book) c h now asks ns above between below
  both_from up mid down k =
      let w = three_of c in
      let one = only_call obj_nature (scene_of gw.book) (scene_of (web_graph w h).book) (record { now = now; asks = asks }) k.deeds k.each in
      let ds : List (Deed Obj Load) = one.0 in
      let whole : all_of k.deeds ≡ ds = ap all_of one.1 ∙ append-nil ds in
      let last : c.conn.0 ≤ c.conn.0 = omega arith in
      let later : (x : ℕ) → x ≤ c.conn.0 → LeavesObject obj_nature x ds = λ x i. quiet_run obj_nature now c.conn.0 x _ _ asks ds i quiet made one.2 in
      let run : GraphRunOf (run_state gw.book []) (events_of ds) (run_state (web_graph w h).book []) = subst (λ z. GraphRunOf (run_state gw.book []) z (run_state (web_graph w h).book [])) (sym k.events ∙ ap events_of whole) k.runs.run in
      let stay : (x : ℕ) → is_one_of (drive_ids c) x ≡ true → x ≤ c.conn.0 → NotFreed x (events_of ds) = λ x o i. (held_stays x (events_of ds) (run_state gw.book []) (run_state (web_graph w h).book []) run (let e = held x o in omega (arith, e)) tt (later x i).0).1.0 in
      let grows : (x : ℕ) (t : List (NodeEntry Obj Load)) → x ≤ c.conn.0 → ObjectStands ObjStands gw x t → ObjectStands ObjStands (web_graph w h) x (t ++ entries_of x ds) =
      λ x t i s. subst (ObjectStands ObjStands (web_graph w h) x) (ap (trace_after x t) whole ∙ (later x i).1 t) (k.keeps x t s) in
      let there = are_there (drive_ids c) h is.lives (are_hosted w h is after) in
      let node : (x : ℕ) → (o : is_one_of (drive_ids c) x ≡ true) → node_at (web_graph w h) x ≡ Some (after x (is.lives x o)).node = λ x o. node_own (drive_ids c) h there x o ∙ (after x (is.lives x o)).is_node in
      let i = order.web_later in
      let j = order.conn_later in
      let upper : c.unit.0 ≤ c.conn.0 = omega (arith, i, j) in
      let middle : c.session.0 ≤ c.conn.0 = omega (arith, j) in
      let new_up = grows c.unit.0 above upper up in
      let new_mid = grows c.session.0 between middle mid in
      let new_down = grows c.conn.0 below last down in
      let n1 = after c.unit.0 (is.lives c.unit.0 (fetch_in w)) in
      let n2 = after c.session.0 (is.lives c.session.0 (web_in w)) in
      let n3 = after c.conn.0 (is.lives c.conn.0 (conn_in w)) in
      let f = unit_node n1.node (above ++ entries_of c.unit.0 ds) (kinds.unit n1.node n1.is_node) (new_up n1.node (node c.unit.0 (fetch_in w))).0 in
      let g = session_node n2.node (between ++ entries_of c.session.0 ds) (kinds.session n2.node n2.is_node) (new_mid n2.node (node c.session.0 (web_in w))).0 in
      let t = conn_node n3.node (below ++ entries_of c.conn.0 ds) (kinds.conn n3.node n3.is_node) (new_down n3.node (node c.conn.0 (conn_in w))).0 in
      let is_told : told_of ds ≡ ns = known_notices ns (told_of ds) (subst (λ z. Given (all []) (all ns) (told_of z)) whole k.tells) in (
        record {
          deeds = ds;
          told = is_told;
          unit = new_up;
          session = new_mid;
          conn = new_down;
          work = f.1.talk;
          worked = f.1.run;
          talk = g.1.talk;
          talked = g.1.run;
          state = t.0.stage;
          dialogue = t.1.dialogue;
          conversed = t.1.run;
          is_conn = t.1.at;
          walk = λ a u r q p d works reads talks. record {
            left = ds;
            scene = scene_of gw.book;
            sees = sees;
            told = record {
              says = refl;
              hands = refl;
              closes = refl;
              tail = record {
                works = works;
                reads = reads;
                talks = talks;
                unit_stays = stay c.unit.0 (fetch_in w) upper;
                session_stays = stay c.session.0 (web_in w) middle;
                conn_stays = stay c.conn.0 (conn_in w) last;
              };
              few = omega arith;
            };
            uses = one.2;
          };
          lives = λ a u r q p d works reads talks. live;
        },
        record { deeds = ds; told = is_told; uses = one.2; work = f.1.talk; worked = f.1.run; talk = g.1.talk; talked = g.1.run; dialogue = t.1.dialogue; conversed = t.1.run },
      )

  pub started_from : ObjectStands ObjStands gw c.unit.0 above → ObjectStands ObjStands gw c.session.0 between → ObjectStands ObjStands gw c.conn.0 below → WentOne ObjStands obj_nature now asks gw (web_graph (three_of c) h) (all []) (all ns)
      → StartedAt v c order h now asks ns above between below
  started_from up mid down k = (both_from up mid down k).0

  pub begun_from : ObjectStands ObjStands gw c.unit.0 above → ObjectStands ObjStands gw c.session.0 between → ObjectStands ObjStands gw c.conn.0 below → WentOne ObjStands obj_nature now asks gw (web_graph (three_of c) h) (all []) (all ns)
      → BegunFrom (scene_of gw.book) c h now asks ns above between below
  begun_from up mid down k = (both_from up mid down k).1

-- that of a call on three of which all is open
abbrev pub Started : (c : DriveChain) → IsInOrder (three_of c) → (h : Objects Obj) → ℕ → List (Stage Obj Load) → List Notice → (above between below : List (NodeEntry Obj Load)) → Type 0
Started c order h now asks ns above between below = StartedAt all_open c order h now asks ns above between below

module _ (c : DriveChain) (g h : Objects Obj) (now : ℕ) (asks : List (Stage Obj Load)) (ns : List Notice) (above between below : List (NodeEntry Obj Load)) (was : AreChained g (drive_ids c)) (is : AreChained h (drive_ids c))
    (before : AreHosted (three_of c) g) (after : AreNoded rank_of_obj h) (opened : IsOpenWeb (three_of c) g) (kinds : AreOfDrive c h) (quiet : AreQuiet {N = Obj} {L = Load} c.conn.0 asks) where
  pub started : ObjectStands ObjStands (web_graph (three_of c) g) c.unit.0 above → ObjectStands ObjStands (web_graph (three_of c) g) c.session.0 between → ObjectStands ObjStands (web_graph (three_of c) g) c.conn.0 below
      → WentOne ObjStands obj_nature now asks (web_graph (three_of c) g) (web_graph (three_of c) h) (all []) (all ns) → Started c opened.order h now asks ns above between below
  started = started_from all_open c opened.order (web_graph (three_of c) g) h now asks ns above between below is after kinds quiet (omega arith) (seen_held (three_of c) g was before) (sees_open (three_of c) g was before opened) (seen_live (three_of c) g was before c.conn.0 (conn_in (three_of c)))

  pub begun : ObjectStands ObjStands (web_graph (three_of c) g) c.unit.0 above → ObjectStands ObjStands (web_graph (three_of c) g) c.session.0 between → ObjectStands ObjStands (web_graph (three_of c) g) c.conn.0 below
      → WentOne ObjStands obj_nature now asks (web_graph (three_of c) g) (web_graph (three_of c) h) (all []) (all ns) → BegunFrom (scene_of (web_graph (three_of c) g).book) c h now asks ns above between below
  begun = begun_from all_open c opened.order (web_graph (three_of c) g) h now asks ns above between below is after kinds quiet (omega arith) (seen_held (three_of c) g was before) (sees_open (three_of c) g was before opened) (seen_live (three_of c) g was before c.conn.0 (conn_in (three_of c)))
