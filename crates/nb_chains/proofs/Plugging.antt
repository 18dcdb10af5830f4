-- An object is made below one that waits, and plugged to it.
use Rattle.std.proofs.Common.{◌≡◌, ℕ, ◌<◌, ◌≤◌, Bool, true, false, cond, eqb, List, [], ◌∷◌, length, refl, sym, ap, ◌∙◌, subst, arith}
use Rattle.std.specs.List.{AllByRecursion}
use Rattle.std.proofs.lemmas.Bool.{eq-eqb, ne_eqb}
use Rattle.std.proofs.lemmas.List.{append-nil}
use Rattle.nb_ledger.specs.declared.port.Port.{Port}
use Rattle.nb_ledger.specs.declared.port.PortState.{PortState}
use Rattle.nb_ledger.specs.declared.port.PortState.TheVariants as port
use Rattle.nb_ledger.specs.declared.event.GraphEvent.TheVariants.{Plugged}
use Rattle.nb_ledger.specs.Flat.{Heard}
use Rattle.nb_ledger.specs.GraphRun.{GraphRunOf, GraphState, new_ports, port_but}
use Rattle.nb_ledger.specs.Ledger.{object_lives, holds, rank, port as port_in, run_state}
use Rattle.nb_graph.specs.Deeds.{Deed, writes, MustPlug, events_of, told_of, trace_after}
use Rattle.nb_graph.specs.Follows.{UsesStack, plugs}
use Rattle.nb_graph.specs.Hosts.{Hosts}
use Rattle.nb_graph.specs.Lived.{ObjectStands}
use Rattle.nb_graph.specs.Noded.{AreNoded}
use Rattle.nb_graph.specs.Scene.{Scene, scene_of, after_noted}
use Rattle.nb_graph.specs.Went.{WentOne, all_of}
use Rattle.nb_graph.specs.Whole.{Objects, port_at, node_at}
use Rattle.nb_graph.proofs.Laws.{only_call}
use Rattle.nb_graph.proofs.MarkLemmas.{mark_stays}
use Rattle.nb_frames.specs.Frames.{is_one_of, graph_of, KeepsOthers}
use Rattle.nb_frames.specs.Within.{AreLinkedWithin, LeadsWithin, MakesNone}
use Rattle.nb_frames.proofs.FrameLemmas.{others_stay}
use Rattle.nb_frames.proofs.OwnLemmas.{AreThere, own_lives, own_holds}
use Rattle.nb_frames.proofs.OwnCallLemmas.{port_own, node_back, rank_own}
use Rattle.nb_nodes.specs.declared.load.Load.{Load}
use Rattle.nb_nodes.specs.declared.obj.Obj.{Obj}
use Rattle.nb_nodes.specs.Objects.{obj_nature, rank_of_obj}
use Rattle.nb_nodes.specs.Standing.{ObjStands}
use Rattle.nb_opens.specs.Notices.{tells}
use Rattle.nb_opens.specs.Pairs.{AreMade}
use Rattle.nb_opens.specs.Marks.{IsOfKind}
use Rattle.nb_chains.specs.Chains.{AreChained, IsFresh, StandsForSome}
use Rattle.nb_chains.specs.Giving.{CallGives, IsMakeWithin}
use Rattle.nb_chains.proofs.OfTwo.{first_in, neither_in, of_two, other_in}
use Rattle.nb_chains.proofs.FreshOnes.{open_within}
use Rattle.nb_chains.proofs.GivingLemmas.{call_gives}

plug_deeds : (now : ℕ) (s t : Scene) (p q : Port) (ds : List (Deed Obj Load)) → UsesStack obj_nature now s (MustPlug p q ∷ []) ds t → (ds ≡ writes (Plugged p q) ∷ []) × (after_noted (Plugged p q) s ≡ t)
plug_deeds now s t p q [] h = absurd h
plug_deeds now s t _ _ (_ ∷ []) (_, plugs p q e f, h) = (refl, h)
plug_deeds now s t _ _ (_ ∷ (_ ∷ ds)) (_, plugs p q e f, h) = absurd h

plug_holds : (p q : Port) (s t : GraphState) → GraphRunOf s (Plugged p q ∷ []) t → t.holds ≡ s.holds
plug_holds p q s t (a, step, run) = ap (λ (z : GraphState). z.holds) (sym run ∙ step.5)

-- the ports after it
two_ports : (x y : ℕ) (f : ℕ → ℕ → PortState) → ℕ → ℕ → PortState
two_ports x y f = port_but (port_at y 0) (port.Linked (port_at x 1)) (port_but (port_at x 1) (port.Linked (port_at y 0)) f)

upper : (x y k : ℕ) (f : ℕ → ℕ → PortState) → (x ≡ y → ⊥) → two_ports x y f x k ≡ cond (eqb k 1) (port.Linked (port_at y 0)) (f x k)
unfolding two_ports
upper x y k f apart = rw (ne_eqb x y apart) (rw (eq-eqb x x refl) refl)

lower : (x y k : ℕ) (f : ℕ → ℕ → PortState) → (x ≡ y → ⊥) → two_ports x y f y k ≡ cond (eqb k 0) (port.Linked (port_at x 1)) (f y k)
unfolding two_ports
lower x y k f apart = rw (eq-eqb y y refl) (rw (ne_eqb y x (λ e. apart (sym e))) refl)

module _ (b h : Objects Obj) (m n : Heard) (x y : ℕ) (lt : x < y) (top : IsFresh b x 5 0) (low : IsFresh b y 2 0) (k : WentOne ObjStands obj_nature 0 (MustPlug (port_at x 1) (port_at y 0) ∷ []) b h m n) where
  apart : x ≡ y → ⊥
  apart e = omega (arith, e, lt)

  one : (ds : List (Deed Obj Load)) × (k.deeds ≡ ds ∷ []) × UsesStack obj_nature 0 (scene_of b.book) (MustPlug (port_at x 1) (port_at y 0) ∷ []) ds (scene_of h.book)
  one = only_call obj_nature (scene_of b.book) (scene_of h.book) (record { now = 0; asks = MustPlug (port_at x 1) (port_at y 0) ∷ [] }) k.deeds k.each

  all : all_of k.deeds ≡ writes (Plugged (port_at x 1) (port_at y 0)) ∷ []
  all = ap all_of one.1 ∙ (append-nil one.0 ∙ (plug_deeds 0 (scene_of b.book) (scene_of h.book) (port_at x 1) (port_at y 0) one.0 one.2).0)

  seen : after_noted (Plugged (port_at x 1) (port_at y 0)) (scene_of b.book) ≡ scene_of h.book
  seen = (plug_deeds 0 (scene_of b.book) (scene_of h.book) (port_at x 1) (port_at y 0) one.0 one.2).1

  pub plug_made : h.book.made ≡ b.book.made
  plug_made = sym (ap (λ (z : Scene). z.made) seen)

  pub plug_number : length h.book.objects ≡ length b.book.objects
  plug_number = sym (ap (λ (z : Scene). z.number) seen)

  pub plug_room : h.book.room ≡ b.book.room
  plug_room = sym (ap (λ (z : Scene). z.room) seen)

  live : (z : ℕ) → object_lives h.book z ≡ object_lives b.book z
  live z = sym (ap (λ (s : Scene). s.live z) seen)

  ports : (z i : ℕ) → port_in h.book z i ≡ two_ports x y (port_in b.book) z i
  unfolding two_ports
  ports z i = sym (ap (λ (s : Scene). s.port z i) seen)

  held : (z : ℕ) → holds h.book z ≡ holds b.book z
  held z =
      let run : GraphRunOf (run_state b.book []) (Plugged (port_at x 1) (port_at y 0) ∷ []) (run_state h.book []) = subst (λ e. GraphRunOf (run_state b.book []) e (run_state h.book [])) (sym k.events ∙ ap events_of all) k.runs.run in
      ap (λ (f : ℕ → ℕ). f z) (plug_holds (port_at x 1) (port_at y 0) (run_state b.book []) (run_state h.book []) run)

  ranks : (z r : ℕ) → z ≤ b.book.made → object_lives h.book z ≡ true → rank b.book z ≡ r → rank h.book z ≡ r
  ranks z r i l e = (k.ages.kept z i l).1 ∙ e

  stands : (z : ℕ) → ObjectStands ObjStands b z [] → ObjectStands ObjStands h z []
  stands z up = subst (ObjectStands ObjStands h z) (ap (trace_after z []) all) (k.keeps z [] up)

  marks : (z i : ℕ) → IsOfKind b z i → IsOfKind h z i
  marks z i = mark_stays obj_nature ObjStands (node_at b) (node_at h) z i (writes (Plugged (port_at x 1) (port_at y 0)) ∷ []) tt (subst (λ e. Hosts obj_nature ObjStands (node_at b) e (node_at h)) all k.hosts)

  abbrev ids : List ℕ
  ids = x ∷ y ∷ []

  abbrev own : ℕ → Bool
  own = is_one_of ids

  fresh_within : (z r i : ℕ) → IsFresh b z r i → (j : ℕ) → LeadsWithin own (port_in b.book z j)
  fresh_within z r i f j = subst (LeadsWithin own) (sym (f.ports j)) (open_within own j)

  old_links : AreLinkedWithin own (port_in b.book)
  old_links z j o = of_two x y (λ (w : ℕ). LeadsWithin own (port_in b.book w j)) (fresh_within x 5 0 top j) (fresh_within y 2 0 low j) z o

  pub plug_others : KeepsOthers own b h
  plug_others = others_stay obj_nature ObjStands 0 (MustPlug (port_at x 1) (port_at y 0) ∷ []) b h m n own ((first_in x y, other_in x y), tt) old_links k (λ z o. subst (λ e. MakesNone z e) (sym all) tt)

  top_port : (j : ℕ) → port_in h.book x j ≡ cond (eqb j 1) (port.Linked (port_at y 0)) (new_ports j)
  top_port j = ports x j ∙ (upper x y j (port_in b.book) apart ∙ ap (λ (v : PortState). cond (eqb j 1) (port.Linked (port_at y 0)) v) (top.ports j))

  low_port : (j : ℕ) → port_in h.book y j ≡ cond (eqb j 0) (port.Linked (port_at x 1)) (new_ports j)
  low_port j = ports y j ∙ (lower x y j (port_in b.book) apart ∙ ap (λ (v : PortState). cond (eqb j 0) (port.Linked (port_at x 1)) v) (low.ports j))

  top_within : (c : Bool) (j : ℕ) → LeadsWithin own (cond c (port.Linked (port_at y 0)) (new_ports j))
  top_within true j = other_in x y
  top_within false j = open_within own j

  low_within : (c : Bool) (j : ℕ) → LeadsWithin own (cond c (port.Linked (port_at x 1)) (new_ports j))
  low_within true j = first_in x y
  low_within false j = open_within own j

  lives_x : object_lives h.book x ≡ true
  lives_x = live x ∙ top.lives

  lives_y : object_lives h.book y ≡ true
  lives_y = live y ∙ low.lives

  given_so : (z : ℕ) → z ≤ b.book.made → z ≤ h.book.made
  given_so z i = subst (λ (w : ℕ). z ≤ w) (sym plug_made) i

  pub plug_chained : AreChained h ids
  plug_chained = record {
    given = of_two x y (λ (z : ℕ). z ≤ h.book.made) (given_so x top.given) (given_so y low.given);
    lives = of_two x y (λ (z : ℕ). object_lives h.book z ≡ true) lives_x lives_y;
    held = of_two x y (λ (z : ℕ). holds h.book z ≡ 1) (held x ∙ top.held) (held y ∙ low.held);
    stands = of_two x y (λ (z : ℕ). StandsForSome h z) ([], stands x top.stands) ([], stands y low.stands);
    links = λ z j o. of_two x y (λ (w : ℕ). LeadsWithin own (port_in h.book w j)) (subst (LeadsWithin own) (sym (top_port j)) (top_within (eqb j 1) j)) (subst (LeadsWithin own) (sym (low_port j)) (low_within (eqb j 0) j)) z o;
  }

  -- as a graph of their own they are joined, and nothing was asked of them
  module _ (noded : AreNoded rank_of_obj h) where
    there : AreThere ids h
    there = let i = noded x lives_x in let j = noded y lives_y in (i.node, lives_x, i.is_node, (j.node, lives_y, j.is_node, tt))

    at_x : (j : ℕ) → port_in (graph_of ids h).book x j ≡ cond (eqb j 1) (port.Linked (port_at y 0)) (new_ports j)
    at_x j = port_own ids h there x j (first_in x y) ∙ top_port j

    at_y : (j : ℕ) → port_in (graph_of ids h).book y j ≡ cond (eqb j 0) (port.Linked (port_at x 1)) (new_ports j)
    at_y j = port_own ids h there y j (other_in x y) ∙ low_port j

    pub plug_ready : AreMade (graph_of ids h) x y
    plug_ready = record {
      joined = record {
        two = record {
          older = lt;
          last = refl;
          fetch_lives = own_lives h ids there x ∙ rw (first_in x y) lives_x;
          tftp_lives = own_lives h ids there y ∙ rw (other_in x y) lives_y;
          alone = λ z i j. own_lives h ids there z ∙ rw (neither_in x y z i j) refl;
          fetch_held = own_holds h ids there x ∙ rw (first_in x y) (held x ∙ top.held);
          tftp_held = own_holds h ids there y ∙ rw (other_in x y) (held y ∙ low.held);
          fetch_rank = rank_own ids h there x (first_in x y) ∙ ranks x 5 top.given lives_x top.ranked;
          tftp_rank = rank_own ids h there y (other_in x y) ∙ ranks y 2 low.given lives_y low.ranked;
          fetch_2 = at_x 2;
          fetch_3 = at_x 3;
          tftp_2 = at_y 2;
          tftp_3 = at_y 3;
        };
        user = at_x 0;
        link = at_x 1;
        back = at_y 0;
        below = at_y 1;
      };
      fetch = λ i e. stands x top.stands i (node_back ids h there x i e).1;
      tftp = λ i e. stands y low.stands i (node_back ids h there y i e).1;
      unharvested = ((λ i e. marks x 0 top.of_kind i (node_back ids h there x i e).1), (λ i e. marks y 0 low.of_kind i (node_back ids h there y i e).1));
    }

  pub plug_gives : CallGives (IsMakeWithin own) b h m n (tells (Plugged (port_at x 1) (port_at y 0)) ∷ [])
  plug_gives = subst (λ e. CallGives (IsMakeWithin own) b h m n (told_of e)) all
      (call_gives b h m n 0 (MustPlug (port_at x 1) (port_at y 0) ∷ []) k (IsMakeWithin own) (subst (λ e. AllByRecursion (IsMakeWithin own) (events_of e)) (sym all) ((first_in x y, other_in x y), tt)))
