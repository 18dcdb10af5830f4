-- An object is made where there is room for it.
use Rattle.std.proofs.Common.{◌≡◌, ℕ, ◌+◌, true, List, [], ◌∷◌, length, Some, refl, sym, ap, ◌∙◌, subst}
use Rattle.std.proofs.lemmas.Bool.{eq-eqb}
use Rattle.std.proofs.lemmas.List.{append-nil}
use Rattle.nb_ledger.specs.declared.port.ObjId.{ObjId}
use Rattle.nb_ledger.specs.declared.event.GraphEvent.TheVariants.{Made, Held}
use Rattle.nb_ledger.specs.Flat.{Heard}
use Rattle.nb_ledger.specs.GraphRun.{GraphRunOf, GraphState, but_at, new_ports, ports_but}
use Rattle.nb_ledger.specs.Ledger.{object_lives, holds, rank, port as port_in, run_state}
use Rattle.nb_graph.specs.Deeds.{Deed, writes, begins, MustMake, Wants, events_of}
use Rattle.nb_graph.specs.Scene.{Scene, scene_of, after_noted}
use Rattle.nb_graph.specs.Follows.{UsesStack, made_outside, has_begun, held}
use Rattle.nb_graph.specs.Lived.{ObjectStands}
use Rattle.nb_graph.specs.Whole.{Objects, IsMade}
use Rattle.nb_graph.specs.Went.{WentOne, all_of}
use Rattle.nb_graph.proofs.Laws.{only_call}
use Rattle.nb_nodes.specs.declared.load.Load.{Load}
use Rattle.nb_nodes.specs.declared.obj.Obj.{Obj}
use Rattle.nb_nodes.specs.Objects.{obj_nature, rank_of_obj, kind_of_obj, mark_of_obj}
use Rattle.nb_nodes.specs.Standing.{ObjStands}
use Rattle.nb_opens.specs.Marks.{IsOfKind}

-- what happens where an object is made from outside
made_deeds : (now : ℕ) (s t : Scene) (x : ObjId) (n : Obj) (ds : List (Deed Obj Load)) → UsesStack obj_nature now s (MustMake x n ∷ Wants (Held x) ∷ []) ds t
    → (ds ≡ writes (Made x (kind_of_obj n)) ∷ begins x.0 n ∷ writes (Held x) ∷ []) × (after_noted (Made x (kind_of_obj n)) s ≡ t)
made_deeds now s t x n [] h = absurd h
made_deeds now s t _ _ (_ ∷ []) (_, made_outside x n f i, h) = absurd h
made_deeds now s t _ _ (_ ∷ (_ ∷ [])) (_, made_outside x n f i, (_, has_begun _ _, h)) = absurd h
made_deeds now s t _ _ (_ ∷ (_ ∷ (_ ∷ []))) (_, made_outside x n f i, (_, has_begun _ _, (_, held _ e, h))) = (refl, h)
made_deeds now s t _ _ (_ ∷ (_ ∷ (_ ∷ (_ ∷ ds)))) (_, made_outside x n f i, (_, has_begun _ _, (_, held _ e, h))) = absurd h

-- it has one hold then
made_holds : (x : ObjId) (kind : ℕ) (s t : GraphState) → GraphRunOf s (Made x kind ∷ Held x ∷ []) t → t.holds x.0 ≡ 1
made_holds x kind s t (a, first, (b, other, run)) =
    ap (λ (z : GraphState). z.holds x.0) (sym run ∙ other.2) ∙ (ap (λ (z : GraphState). but_at x.0 (z.holds x.0 + 1) z.holds x.0) first.2 ∙ rw (eq-eqb x.0 x.0 refl) refl)

module _ (g h : Objects Obj) (m n : Heard) (now : ℕ) (x : ObjId) (node : Obj) (k : WentOne ObjStands obj_nature now (MustMake x node ∷ Wants (Held x) ∷ []) g h m n) where
  one : (ds : List (Deed Obj Load)) × (k.deeds ≡ ds ∷ []) × UsesStack obj_nature now (scene_of g.book) (MustMake x node ∷ Wants (Held x) ∷ []) ds (scene_of h.book)
  one = only_call obj_nature (scene_of g.book) (scene_of h.book) (record { now = now; asks = MustMake x node ∷ Wants (Held x) ∷ [] }) k.deeds k.each

  -- all that happened
  pub made_all : all_of k.deeds ≡ writes (Made x (kind_of_obj node)) ∷ begins x.0 node ∷ writes (Held x) ∷ []
  made_all = ap all_of one.1 ∙ (append-nil one.0 ∙ (made_deeds now (scene_of g.book) (scene_of h.book) x node one.0 one.2).0)

-- one object was made
pub record OneMade (g h : Objects Obj) (x : ℕ) (node : Obj) : Type 0 where
  pub made : h.book.made ≡ x
  pub room : h.book.room ≡ g.book.room
  pub number : length h.book.objects ≡ length g.book.objects + 1
  pub live : (y : ℕ) → object_lives h.book y ≡ but_at x true (object_lives g.book) y
  pub own : holds h.book x ≡ 1
  pub ports : (y k : ℕ) → port_in h.book y k ≡ ports_but x new_ports (port_in g.book) y k
  pub at_rank : rank h.book x ≡ rank_of_obj node
  pub begins : ObjectStands ObjStands h x []
  pub own_mark : IsOfKind h x (mark_of_obj node)

module _ (g h : Objects Obj) (m n : Heard) (now : ℕ) (x : ObjId) (node : Obj) where
  pub one_made : ObjStands node [] → IsMade g h node (rank_of_obj node) x → WentOne ObjStands obj_nature now (MustMake x node ∷ Wants (Held x) ∷ []) g h m n → OneMade g h x.0 node
  one_made stands is k =
      let it = one g h m n now x node k in
      let seen = (made_deeds now (scene_of g.book) (scene_of h.book) x node it.0 it.2).1 in
      let run : GraphRunOf (run_state g.book []) (Made x (kind_of_obj node) ∷ Held x ∷ []) (run_state h.book []) =
      subst (λ z. GraphRunOf (run_state g.book []) z (run_state h.book [])) (sym k.events ∙ ap events_of (made_all g h m n now x node k)) k.runs.run in
      record {
        made = sym (ap (λ (z : Scene). z.made) seen);
        room = sym (ap (λ (z : Scene). z.room) seen);
        number = sym (ap (λ (z : Scene). z.number) seen);
        live = λ y. sym (ap (λ (z : Scene). z.live y) seen);
        own = made_holds x (kind_of_obj node) (run_state g.book []) (run_state h.book []) run;
        ports = λ y i. sym (ap (λ (z : Scene). z.port y i) seen);
        at_rank = is.at_rank;
        begins = λ c e. (subst (λ z. ObjStands z []) (let z : Some node ≡ Some c = sym is.is_node ∙ e in cc) stands, refl);
        own_mark = λ c e. subst (λ z. mark_of_obj z ≡ mark_of_obj node) (let z : Some node ≡ Some c = sym is.is_node ∙ e in cc) refl;
      }
