-- What a call of the graph on the two objects of an open is to be read from.
use Rattle.std.proofs.Common.{◌≡◌, ℕ, ◌≤◌, true, List, [], ◌∷◌, ◌++◌, refl, sym, ap, ◌∙◌, subst, append_assoc, arith}
use Rattle.std.proofs.lemmas.List.{append-nil}
use Rattle.nb_ledger.specs.Flat.{Heard, Given}
use Rattle.nb_ledger.specs.Ledger.{object_lives, holds, rank, run_state}
use Rattle.nb_ledger.specs.GraphRun.{GraphRunOf}
use Rattle.nb_ledger.proofs.PortLemmas.{held-live}
use Rattle.nb_graph.specs.Trace.{NodeEntry}
use Rattle.nb_graph.specs.Deeds.{Deed, Stage, events_of, told_of, trace_after}
use Rattle.nb_graph.specs.Scene.{scene_of}
use Rattle.nb_graph.specs.Follows.{UsesStack}
use Rattle.nb_graph.specs.Lived.{ObjectStands}
use Rattle.nb_graph.specs.Whole.{Objects, node_at}
use Rattle.nb_graph.specs.Noded.{AreNoded}
use Rattle.nb_graph.specs.Went.{WentOne, all_of}
use Rattle.nb_graph.proofs.Laws.{only_call}
use Rattle.nb_nodes.specs.declared.fetch.Fetch.{Fetch}
use Rattle.nb_nodes.specs.declared.tftp.Tftp.{Tftp}
use Rattle.nb_nodes.specs.declared.load.Load.{Load}
use Rattle.nb_nodes.specs.declared.obj.Obj.{Obj}
use Rattle.nb_nodes.specs.declared.obj.Obj.TheVariants as obj
use Rattle.nb_nodes.specs.declared.tftp.Work.{Work}
use Rattle.nb_nodes.specs.Objects.{obj_nature, rank_of_obj, mark_of_obj}
use Rattle.nb_nodes.specs.Conversations.{Conversation, unbegun, RunsTo, TftpStands, WorksAt, waits, runs as works, stays, never}
use Rattle.nb_nodes.specs.Fetches.{EachOf, AsksOfFetch, FetchStands}
use Rattle.nb_nodes.specs.Standing.{ObjStands}
use Rattle.nb_opens.specs.Entries.{entries_of}
use Rattle.nb_opens.specs.Marks.{IsOfKind}
use Rattle.nb_opens.specs.Pairs.{AreTwo, AreUnharvested}
use Rattle.nb_opens.proofs.HoldLemmas.{held_stays}
use Rattle.nb_opens.proofs.TalkLemmas.{TalkMeets, talk_goes_on}
use Rattle.nb_opens.proofs.QuietLemmas.{AreQuiet, LeavesObject, quiet_run, begins_none}
use Rattle.nb_opens.proofs.Going.{Case, Tail}
use Rattle.nb_graph.specs.Hosts.{Hosts}
use Rattle.nb_graph.proofs.MarkLemmas.{BeginsNone, mark_stays}

-- two serials, one after the other
abbrev pub case_of : (now f t : ℕ) → (f ≡ t → ⊥) → (h : Objects Obj) → (top bottom : List (NodeEntry Obj Load)) → Conversation → Case
case_of now f t apart h top bottom talk = record { now = now; fetch = f; tftp = t; apart = apart; end = scene_of h.book; above = top; below = bottom; talk = talk }

pub record Started (g h : Objects Obj) (m n : Heard) (now f t : ℕ) (asks : List (Stage Obj Load)) (above below : List (NodeEntry Obj Load)) (v : Conversation) : Type 0 where
  pub deeds : List (Deed Obj Load)
  pub told : Given m n (told_of deeds)
  pub apart : f ≡ t → ⊥
  pub top : List (NodeEntry Obj Load)
  pub bottom : List (NodeEntry Obj Load)
  pub talk : Conversation
  pub uses : UsesStack obj_nature now (scene_of g.book) asks deeds (scene_of h.book)
  pub tail : Tail (case_of now f t apart h top bottom talk) above below v deeds
  pub fetch : ObjectStands ObjStands h f top
  pub tftp : ObjectStands ObjStands h t bottom
  pub fetch_is : Fetch
  pub fetch_stands : FetchStands fetch_is top
  pub runs : RunsTo unbegun bottom talk
  pub meets : TalkMeets talk
  pub unharvested : AreUnharvested g f t → AreUnharvested h f t
  pub fetch_held : holds h.book f ≡ 1
  pub tftp_held : holds h.book t ≡ 1
  pub fetch_rank : rank h.book f ≡ 5
  pub tftp_rank : rank h.book t ≡ 2
  pub run : GraphRunOf (run_state g.book []) (events_of deeds) (run_state h.book [])

-- a fact of each entry, of those after some
each-behind : (P : List (NodeEntry Obj Load) → NodeEntry Obj Load → Type 0) (before s t : List (NodeEntry Obj Load)) → EachOf P before (s ++ t) → EachOf P (before ++ s) t
each-behind P before [] t h = subst (λ z. EachOf P z t) (sym (append-nil before)) h
each-behind P before (e ∷ s) t h = subst (λ z. EachOf P z t) (append_assoc before (e ∷ []) s) (each-behind P (before ++ e ∷ []) s t h.1)

-- what works at a conversation meets its promises
meets-at : (work : Work) (v : Conversation) → WorksAt work v → TalkMeets v
meets-at _ _ waits = tt
meets-at _ _ (works b start calls state s e) = s.meets
meets-at _ _ (stays b start calls m) = m
meets-at _ _ never = tt

-- the node of rank 5 and mark 0 is a Fetch, that of rank 2 and mark 0 a Tftp
fetch-node : (n : Obj) (tx : List (NodeEntry Obj Load)) → rank_of_obj n ≡ 5 → mark_of_obj n ≡ 0 → ObjStands n tx → (fe : Fetch) × FetchStands fe tx
fetch-node (obj.Fetch fe) tx r m s = (fe, s)
fetch-node (obj.Tftp p) tx r m s = absurd (omega (arith, r))
fetch-node (obj.Resolver p) tx r m s = absurd (omega (arith, r))
fetch-node (obj.Dhcp p) tx r m s = absurd (omega (arith, r))
fetch-node (obj.Ping p) tx r m s = absurd (omega (arith, m))
fetch-node (obj.Http p) tx r m s = absurd (omega (arith, r))
fetch-node (obj.Tcp p) tx r m s = absurd (omega (arith, r))
fetch-node (obj.Iscsi p) tx r m s = absurd (omega (arith, r))
fetch-node (obj.Disk p) tx r m s = absurd (omega (arith, m))

tftp-node : (n : Obj) (tx : List (NodeEntry Obj Load)) → rank_of_obj n ≡ 2 → mark_of_obj n ≡ 0 → ObjStands n tx → (p : Tftp) × TftpStands p tx
tftp-node (obj.Fetch fe) tx r m s = absurd (omega (arith, r))
tftp-node (obj.Tftp p) tx r m s = (p.value, s)
tftp-node (obj.Resolver p) tx r m s = absurd (omega (arith, m))
tftp-node (obj.Dhcp p) tx r m s = absurd (omega (arith, m))
tftp-node (obj.Ping p) tx r m s = absurd (omega (arith, r))
tftp-node (obj.Http p) tx r m s = absurd (omega (arith, r))
tftp-node (obj.Tcp p) tx r m s = absurd (omega (arith, m))
tftp-node (obj.Iscsi p) tx r m s = absurd (omega (arith, m))
tftp-node (obj.Disk p) tx r m s = absurd (omega (arith, m))

-- what happened in the one call
abbrev pub deeds_in : (g h : Objects Obj) (m n : Heard) (now : ℕ) (asks : List (Stage Obj Load)) → WentOne ObjStands obj_nature now asks g h m n → List (Deed Obj Load)
deeds_in g h m n now asks k = (only_call obj_nature (scene_of g.book) (scene_of h.book) (record { now = now; asks = asks }) k.deeds k.each).0

-- the outside is told of it
pub told_in : (g h : Objects Obj) (m n : Heard) (now : ℕ) (asks : List (Stage Obj Load)) (k : WentOne ObjStands obj_nature now asks g h m n) → Given m n (told_of (deeds_in g h m n now asks k))
told_in g h m n now asks k =
    let one = only_call obj_nature (scene_of g.book) (scene_of h.book) (record { now = now; asks = asks }) k.deeds k.each in
    subst (λ z. Given m n (told_of z)) (ap all_of one.1 ∙ append-nil one.0) k.tells

module _ (g h : Objects Obj) (m n : Heard) (now f t : ℕ) (asks : List (Stage Obj Load)) (above below : List (NodeEntry Obj Load)) (v : Conversation) where
  -- the same, whatever transfer was under way
  pub started_with : AreTwo g f t → ObjectStands ObjStands g f above → ObjectStands ObjStands g t below → RunsTo unbegun below v → TalkMeets v → AreUnharvested g f t → AreNoded rank_of_obj h → AreQuiet t asks
      → (k : WentOne ObjStands obj_nature now asks g h m n) → (s : Started g h m n now f t asks above below v) × (s.deeds ≡ deeds_in g h m n now asks k)
  started_with two up down talk meets bare noded quiet k =
      let one = only_call obj_nature (scene_of g.book) (scene_of h.book) (record { now = now; asks = asks }) k.deeds k.each in
      let ds = one.0 in
      let all : all_of k.deeds ≡ ds = ap all_of one.1 ∙ append-nil ds in
      let lt : f ≤ t = omega (arith, two.older) in
      let made : t ≤ g.book.made = omega (arith, two.last) in
      let quiet-f : LeavesObject obj_nature f ds = quiet_run obj_nature now t f _ _ asks ds lt quiet made one.2 in
      let quiet-t : LeavesObject obj_nature t ds = quiet_run obj_nature now t t _ _ asks ds (omega arith) quiet made one.2 in
      let none : BeginsNone f ds = begins_none obj_nature now t f _ _ asks ds lt quiet made one.2 in
      let none-t : BeginsNone t ds = begins_none obj_nature now t t _ _ asks ds (omega arith) quiet made one.2 in
      let hosts : Hosts obj_nature ObjStands (node_at g) ds (node_at h) = subst (λ z. Hosts obj_nature ObjStands (node_at g) z (node_at h)) all k.hosts in
      let run : GraphRunOf (run_state g.book []) (events_of ds) (run_state h.book []) = subst (λ z. GraphRunOf (run_state g.book []) z (run_state h.book [])) (sym k.events ∙ ap events_of all) k.runs.run in
      let stay-f = held_stays f (events_of ds) (run_state g.book []) (run_state h.book []) run (omega (arith, two.fetch_held)) tt quiet-f.0 in
      let stay-t = held_stays t (events_of ds) (run_state g.book []) (run_state h.book []) run (omega (arith, two.tftp_held)) tt quiet-t.0 in
      let held-f : holds h.book f ≡ 1 = stay-f.0 ∙ two.fetch_held in
      let held-t : holds h.book t ≡ 1 = stay-t.0 ∙ two.tftp_held in
      let lives-f : object_lives h.book f ≡ true = held-live h.book f (omega (arith, held-f)) in
      let lives-t : object_lives h.book t ≡ true = held-live h.book t (omega (arith, held-t)) in
      let rank-f : rank h.book f ≡ 5 = (k.ages.kept f (omega (arith, two.last, two.older)) lives-f).1 ∙ two.fetch_rank in
      let rank-t : rank h.book t ≡ 2 = (k.ages.kept t (omega (arith, two.last)) lives-t).1 ∙ two.tftp_rank in
      let top-f : ObjectStands ObjStands h f (above ++ entries_of f ds) = subst (ObjectStands ObjStands h f) (ap (trace_after f above) all ∙ quiet-f.1 above) (k.keeps f above up) in
      let top-t : ObjectStands ObjStands h t (below ++ entries_of t ds) = subst (ObjectStands ObjStands h t) (ap (trace_after t below) all ∙ quiet-t.1 below) (k.keeps t below down) in
      let keeps-f : IsOfKind g f 0 → IsOfKind h f 0 = mark_stays obj_nature ObjStands (node_at g) (node_at h) f 0 ds none hosts in
      let keeps-t : IsOfKind g t 0 → IsOfKind h t 0 = mark_stays obj_nature ObjStands (node_at g) (node_at h) t 0 ds none-t hosts in
      let node-f = noded f lives-f in
      let node-t = noded t lives-t in
      let fe = fetch-node node-f.node (above ++ entries_of f ds) (node-f.at_rank ∙ rank-f) (keeps-f bare.0 node-f.node node-f.is_node) (top-f node-f.node node-f.is_node).0 in
      let tf = tftp-node node-t.node (below ++ entries_of t ds) (node-t.at_rank ∙ rank-t) (keeps-t bare.1 node-t.node node-t.is_node) (top-t node-t.node node-t.is_node).0 in
      let w = tf.1.conversation in
      let meets-w : TalkMeets w = meets-at tf.0.work w tf.1.works in (
        record {
          deeds = ds;
          told = subst (λ z. Given m n (told_of z)) all k.tells;
          apart = λ e. omega (arith, e, two.older);
          top = above ++ entries_of f ds;
          bottom = below ++ entries_of t ds;
          talk = w;
          uses = one.2;
          tail = record {
            asks = each-behind AsksOfFetch [] above (entries_of f ds) fe.1.asks;
            fetched = refl {a = above ++ entries_of f ds};
            talks = talk_goes_on below (entries_of t ds) v w talk meets tf.1.run meets-w;
            talked = refl {a = below ++ entries_of t ds};
            stays_fetch = stay-f.1.0;
            stays_tftp = stay-t.1.0;
          };
          fetch = top-f;
          tftp = top-t;
          fetch_is = fe.0;
          fetch_stands = fe.1;
          runs = tf.1.run;
          meets = meets-w;
          unharvested = λ was. (keeps-f was.0, keeps-t was.1);
          fetch_held = held-f;
          tftp_held = held-t;
          fetch_rank = rank-f;
          tftp_rank = rank-t;
          run = run;
        },
        refl {a = ds},
      )

  pub started : AreTwo g f t → ObjectStands ObjStands g f above → ObjectStands ObjStands g t below → RunsTo unbegun below v → TalkMeets v → AreUnharvested g f t → AreNoded rank_of_obj h → AreQuiet t asks
      → WentOne ObjStands obj_nature now asks g h m n → Started g h m n now f t asks above below v
  started two up down talk meets bare noded quiet k = (started_with two up down talk meets bare noded quiet k).0
