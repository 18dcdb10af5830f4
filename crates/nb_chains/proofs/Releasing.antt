-- An object whose only hold is let go is freed.
use Rattle.std.proofs.Common.{inl, inr, ◌≡◌, ℕ, zero, suc, ◌-◌, ◌<◌, false, List, [], ◌∷◌, length, refl, sym, ap, ◌∙◌, subst, arith}
use Rattle.std.proofs.lemmas.List.{append-nil}
use Rattle.nb_ledger.specs.declared.port.ObjId.{ObjId}
use Rattle.nb_ledger.specs.declared.event.GraphEvent.TheVariants.{LetGo, Freed}
use Rattle.nb_ledger.specs.Flat.{Heard, Given}
use Rattle.nb_ledger.specs.GraphRun.{GraphRunOf, but_at, link_count, links}
use Rattle.nb_ledger.specs.Ledger.{object_lives, holds, port as port_in, run_state}
use Rattle.nb_graph.specs.Deeds.{Deed, writes, turns, stays, Stage, Wants, events_of, told_of}
use Rattle.nb_graph.specs.Scene.{Scene, scene_of, after_noted}
use Rattle.nb_graph.specs.Follows.{UsesStack, let_go}
use Rattle.nb_graph.specs.Whole.{Objects}
use Rattle.nb_graph.specs.Went.{WentOne, all_of}
use Rattle.nb_graph.proofs.Laws.{only_call, settled, nothing}
use Rattle.nb_nodes.specs.declared.load.Load.{Load}
use Rattle.nb_nodes.specs.declared.obj.Obj.{Obj}
use Rattle.nb_nodes.specs.Objects.{obj_nature}
use Rattle.nb_nodes.specs.Standing.{ObjStands}
use Rattle.nb_opens.specs.AloneNotices.{alone_freed}
use Rattle.nb_opens.proofs.HoldLemmas.{let_go_frees}

-- a hold of x is let go, and x is freed, or stays
data LetGoDeeds (s t : Scene) (x : ObjId) (ds : List (Deed Obj Load)) : Type 0 where
  it_goes : ds ≡ writes (LetGo x) ∷ writes (Freed x) ∷ [] → after_noted (Freed x) s ≡ t → LetGoDeeds s t x ds
  it_stays : ds ≡ writes (LetGo x) ∷ turns (stays x.0) ∷ [] → LetGoDeeds s t x ds

let_go_deeds : (now : ℕ) (s t : Scene) (x : ObjId) (ds : List (Deed Obj Load)) → UsesStack obj_nature now s (Wants (LetGo x) ∷ []) ds t → LetGoDeeds s t x ds
let_go_deeds now s t x [] h = absurd h
let_go_deeds now s t _ (_ ∷ ds) (_, let_go x e, h) =
    elim (settled obj_nature now s t x [] ds h) [
      | inl k ↦
          let none = nothing obj_nature now (after_noted (Freed x) s) t k.0 k.2 in
          it_goes (ap (λ z. writes (LetGo x) ∷ z) (k.1 ∙ ap (λ z. writes (Freed x) ∷ z) none.0)) none.1
      | inr k ↦
          let none = nothing obj_nature now s t k.0 k.2 in
          it_stays (ap (λ z. writes (LetGo x) ∷ z) (k.1 ∙ ap (λ z. turns (stays x.0) ∷ z) none.0))
    ]

-- one object was let go
pub record LetsGo (g h : Objects Obj) (m n : Heard) (x : ℕ) : Type 0 where
  pub room : h.book.room ≡ g.book.room
  pub number : length h.book.objects ≡ length g.book.objects - 1
  pub live : (y : ℕ) → object_lives h.book y ≡ but_at x false (object_lives g.book) y
  pub told : Given m n (alone_freed x)

pub lets_one_go : (g h : Objects Obj) (m n : Heard) (now : ℕ) (x : ObjId) → holds g.book x.0 ≡ 1 → links (run_state g.book []) x.0 ≡ 0
    → WentOne ObjStands obj_nature now (Wants (LetGo x) ∷ []) g h m n → LetsGo g h m n x.0
lets_one_go g h m n now x one loose k =
    let asks : List (Stage Obj Load) = Wants (LetGo x) ∷ [] in
    let call = only_call obj_nature (scene_of g.book) (scene_of h.book) (record { now = now; asks = asks }) k.deeds k.each in
    let all : all_of k.deeds ≡ call.0 = ap all_of call.1 ∙ append-nil call.0 in
    elim (let_go_deeds now (scene_of g.book) (scene_of h.book) x call.0 call.2) [
      | it_goes i e ↦ record {
        room = sym (ap (λ (z : Scene). z.room) e);
        number = sym (ap (λ (z : Scene). z.number) e);
        live = λ y. sym (ap (λ (z : Scene). z.live y) e);
        told = subst (λ z. Given m n (told_of z)) (all ∙ i) k.tells;
      }
      | it_stays i ↦
          let went : GraphRunOf (run_state g.book []) (LetGo x ∷ []) (run_state h.book []) = subst (λ z. GraphRunOf (run_state g.book []) z (run_state h.book [])) (sym k.events ∙ ap events_of (all ∙ i)) k.runs.run in
          let more = let_go_frees x [] (run_state g.book []) (run_state h.book []) went refl refl one loose in
          absurd (let z = more.1 in cc)
    ]

-- what is true of the four slots of an object
pub four : (P : ℕ → Type 0) → P 0 → P 1 → P 2 → P 3 → (k : ℕ) → k < 4 → P k
four P a b c d zero h = a
four P a b c d (suc zero) h = b
four P a b c d (suc (suc zero)) h = c
four P a b c d (suc (suc (suc zero))) h = d
four P a b c d (suc (suc (suc (suc k)))) h = absurd (omega (arith, h))

pub no_links : (g : Objects Obj) (x : ℕ) → ((k : ℕ) → k < 4 → link_count (port_in g.book x k) ≡ 0) → links (run_state g.book []) x ≡ 0
no_links g x h =
    let a = h 0 (omega arith) in
    let b = h 1 (omega arith) in
    let c = h 2 (omega arith) in
    let d = h 3 (omega arith) in
    omega (arith, a, b, c, d)
