-- A call on the objects of a chain is one on the graph of these alone, and leaves all else as it was.
use Rattle.std.proofs.Common.{◌≡◌, ℕ, ◌≤◌, true, List, [], ◌∷◌, ◌++◌, refl, sym, ap, ◌∙◌, subst, arith}
use Rattle.std.proofs.lemmas.List.{append-nil}
use Rattle.nb_ledger.specs.declared.event.GraphEvent.{GraphEvent}
use Rattle.nb_ledger.specs.declared.event.GraphEvent.TheVariants.{Made, Held, LetGo, Plugged, Entered, Left, Dropped, Closed, Unplugged, Freed}
use Rattle.nb_ledger.specs.Flat.{Heard, Notice, all}
use Rattle.nb_ledger.specs.GraphRun.{GraphRunOf}
use Rattle.nb_ledger.specs.Ledger.{object_lives, holds, run_state}
use Rattle.nb_ledger.proofs.PortLemmas.{held-live}
use Rattle.nb_graph.specs.Deeds.{Deed, Stage, events_of, told_of, trace_after}
use Rattle.nb_graph.specs.Noded.{AreNoded}
use Rattle.nb_graph.specs.Scene.{scene_of}
use Rattle.nb_graph.specs.Went.{WentOne, all_of}
use Rattle.nb_graph.specs.Whole.{Objects, node_at}
use Rattle.nb_graph.proofs.HostLemmas.{stood}
use Rattle.nb_graph.proofs.Laws.{only_call}
use Rattle.nb_frames.specs.Frames.{is_one_of, graph_of, IsOwnCall, GoesAlone, KeepsOthers}
use Rattle.nb_frames.specs.Within.{AreStagesWithin, ArePlain, FreesNone, IsEventWithin, MakesNone}
use Rattle.nb_frames.proofs.FrameLemmas.{deeds_within, others_stay}
use Rattle.nb_frames.proofs.OwnLemmas.{are_there}
use Rattle.nb_frames.proofs.OwnCallLemmas.{goes_alone, noded_own}
use Rattle.nb_nodes.specs.declared.load.Load.{Load}
use Rattle.nb_nodes.specs.declared.obj.Obj.{Obj}
use Rattle.nb_nodes.specs.Objects.{obj_nature, rank_of_obj}
use Rattle.nb_nodes.specs.Standing.{ObjStands}
use Rattle.nb_opens.proofs.HoldLemmas.{NotFreed, held_stays}
use Rattle.nb_opens.proofs.QuietLemmas.{AreQuiet, LeavesObject, quiet_run}
use Rattle.nb_chains.specs.Chains.{AreChained, AreStillChained}
use Rattle.nb_chains.specs.Giving.{CallGives}
use Rattle.nb_chains.proofs.GivingLemmas.{call_gives, events_within, known_call}
use Rattle.nb_chains.proofs.NoMakes.{makes_none}

-- none of these frees x
frees_none : (x : ℕ) (es : List GraphEvent) → NotFreed x es → FreesNone x es
frees_none x [] h = tt
frees_none x (Made y kind ∷ es) h = (tt, frees_none x es h)
frees_none x (Held y ∷ es) h = (tt, frees_none x es h)
frees_none x (LetGo y ∷ es) h = (tt, frees_none x es h)
frees_none x (Plugged p q ∷ es) h = (tt, frees_none x es h)
frees_none x (Entered p by ∷ es) h = (tt, frees_none x es h)
frees_none x (Left p ∷ es) h = (tt, frees_none x es h)
frees_none x (Dropped p ∷ es) h = (tt, frees_none x es h)
frees_none x (Closed p c ∷ es) h = (tt, frees_none x es h)
frees_none x (Unplugged p q ∷ es) h = (tt, frees_none x es h)
frees_none x (Freed y ∷ es) h = (h.0, frees_none x es h.1)

-- what a call of the graph on these objects is, whatever the outside knew before it
pub record ChainCalled (ids : List ℕ) (now : ℕ) (asks : List (Stage Obj Load)) (g h : Objects Obj) (m n : Heard) : Type 0 where
  pub ns : List Notice
  pub alone : (front : List Notice) → WentOne ObjStands obj_nature now asks (graph_of ids g) (graph_of ids h) (all front) (all (front ++ ns))
  pub whole : (front : List Notice) → WentOne ObjStands obj_nature now asks g h (all front) (all (front ++ ns))
  pub noded : AreNoded rank_of_obj (graph_of ids h)
  pub on : AreStillChained ids g h
  pub gives : CallGives (IsEventWithin (is_one_of ids)) g h m n ns

module _ (ids : List ℕ) (now : ℕ) (asks : List (Stage Obj Load)) (g h : Objects Obj) (m n : Heard) where
  -- what is known of each of them after it
  record After (x : ℕ) (ds : List (Deed Obj Load)) : Type 0 where
    pub held : holds h.book x ≡ 1
    pub lives : object_lives h.book x ≡ true
    pub freed : FreesNone x (events_of ds)

  after_it : AreChained g ids → AreQuiet g.book.made asks → (k : WentOne ObjStands obj_nature now asks g h m n) → (x : ℕ) → is_one_of ids x ≡ true → After x (all_of k.deeds)
  after_it chained quiet k x o =
      let one = only_call obj_nature (scene_of g.book) (scene_of h.book) (record { now = now; asks = asks }) k.deeds k.each in
      let ds = one.0 in
      let same : all_of k.deeds ≡ ds = ap all_of one.1 ∙ append-nil ds in
      let calm : LeavesObject obj_nature x ds = quiet_run obj_nature now g.book.made x (scene_of g.book) (scene_of h.book) asks ds (chained.given x o) quiet (omega arith) one.2 in
      let run : GraphRunOf (run_state g.book []) (events_of ds) (run_state h.book []) = subst (λ z. GraphRunOf (run_state g.book []) z (run_state h.book [])) (sym k.events ∙ ap events_of same) k.runs.run in
      let was : holds g.book x ≡ 1 = chained.held x o in
      let stay = held_stays x (events_of ds) (run_state g.book []) (run_state h.book []) run (omega (arith, was)) tt calm.0 in
      let held : holds h.book x ≡ 1 = stay.0 ∙ was in
      record { held = held; lives = held-live h.book x (omega (arith, held)); freed = frees_none x (events_of (all_of k.deeds)) (subst (λ z. NotFreed x (events_of z)) (sym same) stay.1.0) }

  -- none of them makes another, and none is freed
  pub own_call : AreChained g ids → AreStagesWithin (is_one_of ids) asks → ArePlain asks → AreQuiet g.book.made asks → (k : WentOne ObjStands obj_nature now asks g h m n) → IsOwnCall ids asks g h (all_of k.deeds)
  own_call chained within plain quiet k =
      let after = after_it chained quiet k in
      record {
        links = chained.links;
        within = within;
        plain = plain;
        given = chained.given;
        lives = chained.lives;
        stays = λ x o. (after x o).lives;
        makes = λ x o. let t = chained.stands x o in makes_none x t.0 (all_of k.deeds) (stood obj_nature ObjStands (node_at g) (node_at h) x t.0 (all_of k.deeds) (λ i e. (t.1 i e).0) k.hosts (k.suits x t.0 t.1));
        frees = λ x o. (after x o).freed;
      }

  pub chain_call : AreChained g ids → AreStagesWithin (is_one_of ids) asks → ArePlain asks → AreQuiet g.book.made asks → AreNoded rank_of_obj g → AreNoded rank_of_obj h → WentOne ObjStands obj_nature now asks g h m n → ChainCalled ids now asks g h m n
  chain_call chained within plain quiet noded hosted k =
      let after = after_it chained quiet k in
      let own = own_call chained within plain quiet k in
      let z : GoesAlone ObjStands obj_nature ids now asks g h m n (all_of k.deeds) = goes_alone obj_nature ObjStands rank_of_obj ids now asks g h m n noded hosted k own in
      let others : KeepsOthers (is_one_of ids) g h = others_stay obj_nature ObjStands now asks g h m n (is_one_of ids) within chained.links k own.makes in
      let theirs = deeds_within obj_nature ObjStands now asks g h m n (is_one_of ids) within chained.links k own.makes in
      record {
        ns = told_of (all_of k.deeds);
        alone = λ front. known_call ObjStands obj_nature now asks (graph_of ids g) (graph_of ids h) m n z.went front (told_of (all_of k.deeds)) (ap told_of z.same);
        whole = λ front. known_call ObjStands obj_nature now asks g h m n k front (told_of (all_of k.deeds)) refl;
        gives = call_gives g h m n now asks k (IsEventWithin (is_one_of ids)) (events_within (is_one_of ids) (all_of k.deeds) theirs.0);
        noded = noded_own rank_of_obj ids h (are_there ids h own.stays (λ x o. let i = hosted x (own.stays x o) in (i.node, i.is_node))) hosted;
        on = record {
          chained = record {
            given = λ x o. subst (λ i. x ≤ i) (sym others.same_made) (chained.given x o);
            lives = own.stays;
            held = λ x o. (after x o).held;
            stands = λ x o. let t = chained.stands x o in (trace_after x t.0 (all_of k.deeds), k.keeps x t.0 t.1);
            links = z.links;
          };
          others = others;
          same_number = z.same_number;
          same_room = z.same_room;
        };
      }
