-- An object is made and plugged below the last of some of which nothing was asked.
use Rattle.std.proofs.Common.{◌≡◌, ℕ, ◌+◌, ◌<◌, ◌≤◌, Bool, true, List, [], ◌∷◌, ◌++◌, length, Some, refl, sym, ap, ◌∙◌, subst, arith}
use Rattle.std.specs.List.{AllByRecursion}
use Rattle.std.proofs.lemmas.Bool.{eq-eqb, ne_eqb}
use Rattle.std.proofs.lemmas.List.{append-nil}
use Rattle.nb_ledger.specs.declared.port.ObjId.{ObjId}
use Rattle.nb_ledger.specs.declared.port.Port.{Port}
use Rattle.nb_ledger.specs.declared.port.PortState.{PortState}
use Rattle.nb_ledger.specs.declared.port.PortState.TheVariants as port
use Rattle.nb_ledger.specs.declared.event.GraphEvent.TheVariants.{Held, Plugged}
use Rattle.nb_ledger.specs.Flat.{Heard}
use Rattle.nb_ledger.specs.GraphRun.{GraphRunOf, GraphState, new_ports, port_but}
use Rattle.nb_ledger.specs.Ledger.{object_lives, holds, rank, port as port_in, run_state}
use Rattle.nb_graph.specs.Deeds.{Deed, writes, MustMake, MustPlug, Stage, Wants, events_of, told_of, trace_after}
use Rattle.nb_graph.specs.Follows.{UsesStack, plugs}
use Rattle.nb_graph.specs.Hosts.{Hosts}
use Rattle.nb_graph.specs.Lived.{ObjectStands}
use Rattle.nb_graph.specs.Scene.{Scene, scene_of, after_noted}
use Rattle.nb_graph.specs.Went.{WentOne, all_of}
use Rattle.nb_graph.specs.Whole.{IsMade, Objects, port_at, node_at}
use Rattle.nb_graph.proofs.Laws.{only_call}
use Rattle.nb_frames.specs.Frames.{is_one_of, KeepsObject, KeepsOthers}
use Rattle.nb_frames.specs.Within.{AreLinkedWithin, LeadsWithin, MakesNone}
use Rattle.nb_frames.proofs.FrameLemmas.{others_stay}
use Rattle.nb_frames.proofs.MadeLemmas.{made_keeps}
use Rattle.nb_nodes.specs.declared.load.Load.{Load}
use Rattle.nb_nodes.specs.declared.obj.Obj.{Obj}
use Rattle.nb_nodes.specs.Objects.{kind_of_obj, mark_of_obj, obj_nature, rank_of_obj}
use Rattle.nb_nodes.specs.Standing.{ObjStands}
use Rattle.nb_opens.specs.AloneNotices.{alone_made}
use Rattle.nb_opens.specs.Marks.{IsOfKind}
use Rattle.nb_opens.specs.Notices.{tells}
use Rattle.nb_chains.specs.Chains.{AreChained}
use Rattle.nb_chains.specs.Giving.{CallGives, IsMakeWithin}
use Rattle.nb_chains.proofs.FreshOnes.{made_gives, open_within}
use Rattle.nb_chains.proofs.GivingLemmas.{call_gives, gives_both}
use Rattle.nb_chains.proofs.GoingOn.{keeps_both}
use Rattle.nb_chains.proofs.MakingOne.{OneMade, one_made}
use Rattle.nb_closings.specs.Chained.{IsPluggedDown}
use Rattle.nb_closings.proofs.Joining.{first_in}
use Rattle.nb_closings.proofs.PlanLemmas.{at_it, but_there, elsewhere, is_but}
use Rattle.nb_webchains.specs.Plugs.{Extends, last_from}
use Rattle.nb_webchains.specs.WebChains.{AreReady, GrowsTo}
use Rattle.nb_webchains.proofs.Lists.{last_one, new_one, of_each, still_one}
use Rattle.nb_webchains.proofs.Ports.{plugged_down, plugged_same}

-- what leads within some leads within more
leads_more : (own more : ℕ → Bool) → ((v : ℕ) → own v ≡ true → more v ≡ true) → (s : PortState) → LeadsWithin own s → LeadsWithin more s
leads_more own more f port.Open h = tt
leads_more own more f (port.Linked q) h = f q.obj.0 h
leads_more own more f (port.Leaving q) h = f q.obj.0 h
leads_more own more f port.Closed h = tt

plug_deeds : (now : ℕ) (s t : Scene) (p q : Port) (ds : List (Deed Obj Load)) → UsesStack obj_nature now s (MustPlug p q ∷ []) ds t → (ds ≡ writes (Plugged p q) ∷ []) × (after_noted (Plugged p q) s ≡ t)
plug_deeds now s t p q [] h = absurd h
plug_deeds now s t _ _ (_ ∷ []) (_, plugs p q e f, h) = (refl, h)
plug_deeds now s t _ _ (_ ∷ (_ ∷ ds)) (_, plugs p q e f, h) = absurd h

plug_holds : (p q : Port) (s t : GraphState) → GraphRunOf s (Plugged p q ∷ []) t → t.holds ≡ s.holds
plug_holds p q s t (a, step, run) = ap (λ (z : GraphState). z.holds) (sym run ∙ step.5)

-- it is made
module _ (g a : Objects Obj) (m n : Heard) (z : ℕ) (given : z ≤ g.book.made) (y : ObjId) (node : Obj) (stands : ObjStands node []) (made : IsMade g a node (rank_of_obj node) y) (k : WentOne ObjStands obj_nature 0 (MustMake y node ∷ Wants (Held y) ∷ []) g a m n) where
  one : OneMade g a y.0 node
  one = one_made g a m n 0 y node stands made k

  kept : (v : ℕ) → v ≤ g.book.made → KeepsObject g a v
  kept v low = made_keeps obj_nature ObjStands 0 y node g a m n k v low

  new_port : (i : ℕ) → port_in a.book y.0 i ≡ new_ports i
  new_port i = one.ports y.0 i ∙ rw (eq-eqb y.0 y.0 refl) refl

  old_apart : (v : ℕ) → v ≤ g.book.made → v ≡ y.0 → ⊥
  old_apart v low e = let i = made.serial in omega (arith, e, i, low)

  pub upper_open : port_in g.book z 1 ≡ port.Open → port_in a.book z 1 ≡ port.Open
  upper_open h = (kept z given).ports 1 ∙ h

  pub lower_open : port_in a.book y.0 0 ≡ port.Open
  lower_open = new_port 0

  pub falls : rank_of_obj node < rank g.book z → rank a.book y.0 < rank a.book z
  falls lt = let e = one.at_rank in let i = (kept z given).ranked in omega (arith, e, i, lt)

  -- and plugged
  module _ (h : Objects Obj) (o : Heard) (j : WentOne ObjStands obj_nature 0 (MustPlug (port_at z 1) (port_at y.0 0) ∷ []) a h n o) where
    abbrev asked : List (Stage Obj Load)
    asked = MustPlug (port_at z 1) (port_at y.0 0) ∷ []

    only : (ds : List (Deed Obj Load)) × (j.deeds ≡ ds ∷ []) × UsesStack obj_nature 0 (scene_of a.book) asked ds (scene_of h.book)
    only = only_call obj_nature (scene_of a.book) (scene_of h.book) (record { now = 0; asks = asked }) j.deeds j.each

    all : all_of j.deeds ≡ writes (Plugged (port_at z 1) (port_at y.0 0)) ∷ []
    all = ap all_of only.1 ∙ (append-nil only.0 ∙ (plug_deeds 0 (scene_of a.book) (scene_of h.book) (port_at z 1) (port_at y.0 0) only.0 only.2).0)

    seen : after_noted (Plugged (port_at z 1) (port_at y.0 0)) (scene_of a.book) ≡ scene_of h.book
    seen = (plug_deeds 0 (scene_of a.book) (scene_of h.book) (port_at z 1) (port_at y.0 0) only.0 only.2).1

    same_made : h.book.made ≡ a.book.made
    same_made = sym (ap (λ (s : Scene). s.made) seen)

    pub next_made : h.book.made ≡ g.book.made + 1
    next_made = same_made ∙ (one.made ∙ made.serial)

    pub next_number : length h.book.objects ≡ length g.book.objects + 1
    next_number = sym (ap (λ (s : Scene). s.number) seen) ∙ one.number

    pub next_room : h.book.room ≡ g.book.room
    next_room = sym (ap (λ (s : Scene). s.room) seen) ∙ one.room

    live : (v : ℕ) → object_lives h.book v ≡ object_lives a.book v
    live v = sym (ap (λ (s : Scene). s.live v) seen)

    abbrev upper_linked : ℕ → ℕ → PortState
    upper_linked = port_but (port_at z 1) (port.Linked (port_at y.0 0)) (port_in a.book)

    ports : (v i : ℕ) → port_in h.book v i ≡ port_but (port_at y.0 0) (port.Linked (port_at z 1)) upper_linked v i
    ports v i = sym (ap (λ (s : Scene). s.port v i) seen)

    held : (v : ℕ) → holds h.book v ≡ holds a.book v
    held v =
        let run : GraphRunOf (run_state a.book []) (Plugged (port_at z 1) (port_at y.0 0) ∷ []) (run_state h.book []) = subst (λ e. GraphRunOf (run_state a.book []) e (run_state h.book [])) (sym j.events ∙ ap events_of all) j.runs.run in
        ap (λ (f : ℕ → ℕ). f v) (plug_holds (port_at z 1) (port_at y.0 0) (run_state a.book []) (run_state h.book []) run)

    node_was : (v : ℕ) (c : Obj) → node_at h v ≡ Some c → node_at a v ≡ Some c
    node_was v c e = (subst (λ ds. Hosts obj_nature ObjStands (node_at a) ds (node_at h)) all j.hosts) v c e

    stands_on : (v : ℕ) → ObjectStands ObjStands a v [] → ObjectStands ObjStands h v []
    stands_on v up = subst (ObjectStands ObjStands h v) (ap (trace_after v []) all) (j.keeps v [] up)

    apart : z ≡ y.0 → ⊥
    apart e = old_apart z given e

    at_low : port_in h.book y.0 0 ≡ port.Linked (port_at z 1)
    at_low = ports y.0 0 ∙ but_there (port_at y.0 0) (port.Linked (port_at z 1)) upper_linked

    at_top : port_in h.book z 1 ≡ port.Linked (port_at y.0 0)
    at_top = ports z 1 ∙ (rw (ne_eqb z y.0 apart) refl ∙ but_there (port_at z 1) (port.Linked (port_at y.0 0)) (port_in a.book))

    -- the other ports are as they were
    else_where : (v i : ℕ) → (v ≡ y.0 → i ≡ 0 → ⊥) → (v ≡ z → i ≡ 1 → ⊥) → port_in h.book v i ≡ port_in a.book v i
    else_where v i far near = ports v i ∙ (elim (is_but (port_at y.0 0) (port.Linked (port_at z 1)) upper_linked (port_at v i)) [
      | at_it e q ↦ absurd (far (ap (λ (p : Port). p.obj.0) e) (ap (λ (p : Port). p.slot) e))
      | elsewhere q ↦ q ∙ (elim (is_but (port_at z 1) (port.Linked (port_at y.0 0)) (port_in a.book) (port_at v i)) [
        | at_it e r ↦ absurd (near (ap (λ (p : Port). p.obj.0) e) (ap (λ (p : Port). p.slot) e))
        | elsewhere r ↦ r
      ])
    ])

    pub next_open : port_in h.book y.0 1 ≡ port.Open
    next_open = else_where y.0 1 (λ _ e. let q = e in cc) (λ e _. apart (sym e)) ∙ new_port 1

    lives_new : object_lives h.book y.0 ≡ true
    lives_new = live y.0 ∙ made.lives

    low_now : (v : ℕ) → v ≤ g.book.made → v ≤ a.book.made
    low_now v low = let e = one.made in let i = made.serial in omega (arith, e, i, low)

    new_given : y.0 ≤ a.book.made
    new_given = let e = one.made in omega (arith, e)

    pub next_ranked : rank h.book y.0 ≡ rank_of_obj node
    next_ranked = (j.ages.kept y.0 new_given lives_new).1 ∙ one.at_rank

    pub next_kind : IsOfKind h y.0 (mark_of_obj node)
    next_kind c e = one.own_mark c (node_was y.0 c e)

    -- below some of which nothing was asked
    module _ (x : ℕ) (xs : List ℕ) (r : AreReady g (x ∷ xs)) (last : last_from x xs ≡ z) (is_open : port_in g.book z 1 ≡ port.Open) where
      abbrev ids : List ℕ
      ids = x ∷ xs

      abbrev more : List ℕ
      more = ids ++ y.0 ∷ []

      low_of : (v : ℕ) → is_one_of ids v ≡ true → v ≤ g.book.made
      low_of v i = r.chained.given v i

      lives_old : (v : ℕ) → is_one_of ids v ≡ true → object_lives h.book v ≡ true
      lives_old v i = live v ∙ ((kept v (low_of v i)).live ∙ r.chained.lives v i)

      last_own : is_one_of more z ≡ true
      last_own = subst (λ v. is_one_of more v ≡ true) last (still_one ids y.0 (last_from x xs) (last_one x xs))

      new_own : is_one_of more y.0 ≡ true
      new_own = new_one ids y.0

      before_within : (v : ℕ) → is_one_of ids v ≡ true → (i : ℕ) → LeadsWithin (is_one_of more) (port_in a.book v i)
      before_within v o i = subst (LeadsWithin (is_one_of more)) (sym ((kept v (low_of v o)).ports i)) (leads_more (is_one_of ids) (is_one_of more) (still_one ids y.0) (port_in g.book v i) (r.chained.links v i o))

      new_within : (i : ℕ) → LeadsWithin (is_one_of more) (port_in a.book y.0 i)
      new_within i = subst (LeadsWithin (is_one_of more)) (sym (new_port i)) (open_within (is_one_of more) i)

      old_links : AreLinkedWithin (is_one_of more) (port_in a.book)
      old_links v i o = of_each ids y.0 (λ w. LeadsWithin (is_one_of more) (port_in a.book w i)) (λ w q. before_within w q i) (new_within i) v o

      still_others : KeepsOthers (is_one_of more) a h
      still_others = others_stay obj_nature ObjStands 0 asked a h n o (is_one_of more) ((last_own, new_own), tt) old_links j (λ v _. subst (λ ds. MakesNone v ds) (sym all) tt)

      stood_before : (v : ℕ) → is_one_of ids v ≡ true → ObjectStands ObjStands a v []
      stood_before v i = λ c e. r.stands v i c ((kept v (low_of v i)).node c e)

      stands_each : (v : ℕ) → is_one_of more v ≡ true → ObjectStands ObjStands h v []
      stands_each = of_each ids y.0 (λ v. ObjectStands ObjStands h v []) (λ v i. stands_on v (stood_before v i)) (stands_on y.0 one.begins)

      -- each port of theirs leads within
      within_at : (v i : ℕ) → is_one_of more v ≡ true → LeadsWithin (is_one_of more) (port_in h.book v i)
      within_at v i o = elim (is_but (port_at y.0 0) (port.Linked (port_at z 1)) upper_linked (port_at v i)) [
        | at_it e q ↦ subst (LeadsWithin (is_one_of more)) (sym (ports v i ∙ q)) last_own
        | elsewhere q ↦ elim (is_but (port_at z 1) (port.Linked (port_at y.0 0)) (port_in a.book) (port_at v i)) [
          | at_it e p ↦ subst (LeadsWithin (is_one_of more)) (sym (ports v i ∙ (q ∙ p))) new_own
          | elsewhere p ↦ subst (LeadsWithin (is_one_of more)) (sym (ports v i ∙ (q ∙ p))) (old_links v i o)
        ]
      ]

      next_chained : AreChained h more
      next_chained = record {
        given = of_each ids y.0 (λ v. v ≤ h.book.made) (λ v i. let e = next_made in let low = low_of v i in omega (arith, e, low)) (let e = same_made in let low = new_given in omega (arith, e, low));
        lives = of_each ids y.0 (λ v. object_lives h.book v ≡ true) lives_old lives_new;
        held = of_each ids y.0 (λ v. holds h.book v ≡ 1) (λ v i. held v ∙ ((kept v (low_of v i)).held ∙ r.chained.held v i)) (held y.0 ∙ one.own);
        stands = λ v o. ([], stands_each v o);
        links = within_at;
      }

      first_port : port_in h.book x 0 ≡ port.Open
      first_port = else_where x 0 (λ e _. old_apart x (low_of x (first_in x xs)) e) (λ _ e. let q = e in cc) ∙ ((kept x (low_of x (first_in x xs))).ports 0 ∙ r.ports.0)

      rest_new : (v i : ℕ) → is_one_of more v ≡ true → 2 ≤ i → port_in h.book v i ≡ new_ports i
      rest_new v i o low = else_where v i (λ _ e. omega (arith, e, low)) (λ _ e. omega (arith, e, low)) ∙ of_each ids y.0 (λ w. port_in a.book w i ≡ new_ports i) (λ w q. (kept w (low_of w q)).ports i ∙ r.rest w i q low) (new_port i) v o

      linked_before : IsPluggedDown (port_in a.book) x xs
      linked_before = plugged_same (port_in g.book) (port_in a.book) x xs (λ v i o. (kept v (low_of v o)).ports i) r.ports.1

      linked_now : IsPluggedDown (port_in h.book) x (xs ++ y.0 ∷ [])
      linked_now =
          plugged_down (port_in a.book) (port_in h.book) z y.0 at_top at_low next_open (λ v i far near. else_where v i (λ e _. far e) near) (upper_open is_open)
          x xs last (λ v o. old_apart v (low_of v o)) linked_before

      next_ready : AreReady h more
      next_ready = record { chained = next_chained; ports = (first_port, linked_now); rest = rest_new; stands = stands_each }

      next_grows : GrowsTo 1 more g h
      next_grows = record {
        made = next_made;
        number = next_number;
        same_room = next_room;
        others = λ v low far. keeps_both g a h v (kept v low) (still_others.others v (low_now v low) far);
      }

      plug_gives : CallGives (IsMakeWithin (is_one_of more)) a h n o (tells (Plugged (port_at z 1) (port_at y.0 0)) ∷ [])
      plug_gives = subst (λ ds. CallGives (IsMakeWithin (is_one_of more)) a h n o (told_of ds)) all
          (call_gives a h n o 0 asked j (IsMakeWithin (is_one_of more)) (subst (λ ds. AllByRecursion (IsMakeWithin (is_one_of more)) (events_of ds)) (sym all) ((last_own, new_own), tt)))

      pub extends : Extends ids z y.0 node g h m o
      extends = record {
        ready = next_ready;
        grows = next_grows;
        ranks = λ v i. (j.ages.kept v (low_now v (low_of v i)) (lives_old v i)).1 ∙ (kept v (low_of v i)).ranked;
        kinds = λ v mark i was c e. was c ((kept v (low_of v i)).node c (node_was v c e));
        gives = gives_both (IsMakeWithin (is_one_of more)) g a h m n o (alone_made y.0 (kind_of_obj node)) (tells (Plugged (port_at z 1) (port_at y.0 0)) ∷ []) (made_gives g a m n y node k (is_one_of more) new_own) plug_gives;
      }
