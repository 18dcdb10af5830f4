-- A port without a link is closed.
use Rattle.std.proofs.Common.{◌≡◌, ℕ, List, [], ◌∷◌, sym, ap, ◌∙◌, subst}
use Rattle.std.proofs.lemmas.List.{append-nil}
use Rattle.nb_terms.specs.declared.cause.Cause.{Cause}
use Rattle.nb_ledger.specs.declared.port.Port.{Port}
use Rattle.nb_ledger.specs.declared.port.PortState.TheVariants as port
use Rattle.nb_ledger.specs.declared.event.GraphEvent.TheVariants.{Closed}
use Rattle.nb_ledger.specs.Flat.{Heard, Given}
use Rattle.nb_ledger.specs.GraphRun.{GraphRunOf, GraphState, alone, linked, peer, port_but}
use Rattle.nb_ledger.specs.Ledger.{object_lives, holds, port as port_in, run_state}
use Rattle.nb_graph.specs.Deeds.{Deed, writes, Stage, Closes, events_of, told_of}
use Rattle.nb_graph.specs.Scene.{Scene, scene_of, state_at, shut_of, after_noted}
use Rattle.nb_graph.specs.Follows.{UsesStack}
use Rattle.nb_graph.specs.Whole.{Objects}
use Rattle.nb_graph.specs.Went.{WentOne, all_of}
use Rattle.nb_graph.proofs.Laws.{only_call, close_open, nothing}
use Rattle.nb_nodes.specs.declared.load.Load.{Load}
use Rattle.nb_nodes.specs.declared.obj.Obj.{Obj}
use Rattle.nb_nodes.specs.Objects.{obj_nature}
use Rattle.nb_nodes.specs.Standing.{ObjStands}
use Rattle.nb_opens.specs.Notices.{tells}

-- what happens where a port without a link is closed
closed_deeds : (now : ℕ) (s t : Scene) (p : Port) (z : Cause) (ds : List (Deed Obj Load)) → state_at s p ≡ port.Open → UsesStack obj_nature now s (Closes p z ∷ []) ds t
    → (ds ≡ writes (Closed p z) ∷ []) × (after_noted (Closed p z) s ≡ t)
closed_deeds now s t p z ds o h =
    let k = close_open obj_nature now s t p z [] ds o h in
    let none = nothing obj_nature now (after_noted (Closed p z) s) t k.0 k.2 in
    (k.1 ∙ ap (λ y. writes (Closed p z) ∷ y) none.0, none.1)

closed_holds : (p : Port) (z : Cause) (s t : GraphState) → GraphRunOf s (Closed p z ∷ []) t → t.holds ≡ s.holds
closed_holds p z s t (m, alone idle e u, run) = ap (λ (y : GraphState). y.holds) (sym run ∙ u)
closed_holds p z s t (m, linked q idle e u, run) = ap (λ (y : GraphState). y.holds) (sym run ∙ u)
closed_holds p z s t (m, peer q st top e u, run) = ap (λ (y : GraphState). y.holds) (sym run ∙ u)

-- one port was closed
pub record ClosesAlone (g h : Objects Obj) (m n : Heard) (p : Port) (z : Cause) : Type 0 where
  pub made : h.book.made ≡ g.book.made
  pub live : (y : ℕ) → object_lives h.book y ≡ object_lives g.book y
  pub held : (y : ℕ) → holds h.book y ≡ holds g.book y
  pub ports : (y k : ℕ) → port_in h.book y k ≡ port_but p port.Closed (port_in g.book) y k
  pub told : Given m n (tells (Closed p z) ∷ [])

pub closes_alone : (g h : Objects Obj) (m n : Heard) (now : ℕ) (p : Port) (z : Cause) → port_in g.book p.obj.0 p.slot ≡ port.Open → WentOne ObjStands obj_nature now (Closes p z ∷ []) g h m n → ClosesAlone g h m n p z
closes_alone g h m n now p z o k =
    let asks : List (Stage Obj Load) = Closes p z ∷ [] in
    let call = only_call obj_nature (scene_of g.book) (scene_of h.book) (record { now = now; asks = asks }) k.deeds k.each in
    let did = closed_deeds now (scene_of g.book) (scene_of h.book) p z call.0 o call.2 in
    let all : all_of k.deeds ≡ writes (Closed p z) ∷ [] = ap all_of call.1 ∙ append-nil call.0 ∙ did.0 in
    let run : GraphRunOf (run_state g.book []) (Closed p z ∷ []) (run_state h.book []) = subst (λ y. GraphRunOf (run_state g.book []) y (run_state h.book [])) (sym k.events ∙ ap events_of all) k.runs.run in
    record {
      made = sym (ap (λ (y : Scene). y.made) did.1);
      live = λ y. sym (ap (λ (s : Scene). s.live y) did.1);
      held = λ y. ap (λ (f : ℕ → ℕ). f y) (closed_holds p z (run_state g.book []) (run_state h.book []) run);
      ports = λ y i. sym (ap (λ (s : Scene). s.port y i) did.1) ∙ ap (λ v. port_but p (shut_of v) (port_in g.book) y i) o;
      told = subst (λ y. Given m n (told_of y)) all k.tells;
    }
