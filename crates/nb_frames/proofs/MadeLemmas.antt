-- A make from outside changes no object that was made before.
use Rattle.std.proofs.Common.{◌≡◌, ℕ, ◌+◌, ◌≤◌, List, [], ◌∷◌, Option, Some, refl, sym, ap, ◌∙◌, subst, arith}
use Rattle.std.proofs.lemmas.Bool.{ne_eqb}
use Rattle.std.proofs.lemmas.List.{append-nil}
use Rattle.nb_ledger.specs.declared.port.ObjId.{ObjId}
use Rattle.nb_ledger.specs.declared.event.GraphEvent.TheVariants.{Made, Held}
use Rattle.nb_ledger.specs.Flat.{Heard}
use Rattle.nb_ledger.specs.GraphRun.{GraphState, GraphRunOf, but_at}
use Rattle.nb_ledger.specs.Ledger.{object_lives, run_state}
use Rattle.nb_graph.specs.Trace.{Nature, NodeEntry}
use Rattle.nb_graph.specs.Deeds.{Deed, writes, begins, MustMake, Wants, events_of}
use Rattle.nb_graph.specs.Follows.{UsesStack, made_outside, has_begun, held}
use Rattle.nb_graph.specs.Hosts.{Hosts}
use Rattle.nb_graph.specs.Scene.{Scene, scene_of, after_noted}
use Rattle.nb_graph.specs.Went.{WentOne, all_of}
use Rattle.nb_graph.specs.Whole.{Objects, node_at}
use Rattle.nb_graph.proofs.Laws.{only_call}
use Rattle.nb_frames.specs.Frames.{KeepsObject}
use Rattle.nb_frames.proofs.FrameLemmas.{rank_keeps}

module _ {N L : Type 0} (known : Nature N L) (stands : N → List (NodeEntry N L) → Type 0) where
  -- what happens then
  made_so : (now : ℕ) (s t : Scene) (x : ObjId) (n : N) (ds : List (Deed N L)) → UsesStack known now s (MustMake x n ∷ Wants (Held x) ∷ []) ds t
      → (ds ≡ writes (Made x (known.kind n)) ∷ begins x.0 n ∷ writes (Held x) ∷ []) × (after_noted (Made x (known.kind n)) s ≡ t) × (x.0 ≡ s.made + 1)
  made_so now s t x n [] h = absurd h
  made_so now s t _ _ (_ ∷ []) (_, made_outside x n f i, h) = absurd h
  made_so now s t _ _ (_ ∷ (_ ∷ [])) (_, made_outside x n f i, (_, has_begun _ _, h)) = absurd h
  made_so now s t _ _ (_ ∷ (_ ∷ (_ ∷ []))) (_, made_outside x n f i, (_, has_begun _ _, (_, held _ e, h))) = (refl, h, i)
  made_so now s t _ _ (_ ∷ (_ ∷ (_ ∷ (_ ∷ ds)))) (_, made_outside x n f i, (_, has_begun _ _, (_, held _ e, h))) = absurd h

  -- the holds of another
  held_on : (x : ObjId) (kind y : ℕ) (s t : GraphState) → (y ≡ x.0 → ⊥) → GraphRunOf s (Made x kind ∷ Held x ∷ []) t → t.holds y ≡ s.holds y
  held_on x kind y s t n (a, first, (b, other, run)) =
      let e : a.holds ≡ but_at x.0 0 s.holds = ap (λ (z : GraphState). z.holds) first.2 in
      ap (λ (z : GraphState). z.holds y) (sym run ∙ other.2) ∙ (ap (λ (k : ℕ → ℕ). but_at x.0 (k x.0 + 1) k y) e ∙ rw (ne_eqb y x.0 n) refl)

  node_on : (f g : ℕ → Option N) (x kind y : ℕ) (i : ObjId) (n o : N) → (y ≡ x → ⊥) → Hosts known stands f (writes (Made i kind) ∷ begins x n ∷ writes (Held i) ∷ []) g → g y ≡ Some o → f y ≡ Some o
  node_on f g x kind y i n o apart h e = let was : but_at x (Some n) f y ≡ Some o = h.1 y o e in rw (ne_eqb y x apart) at was

  pub made_keeps : (now : ℕ) (x : ObjId) (n : N) (a b : Objects N) (before after : Heard) → WentOne stands known now (MustMake x n ∷ Wants (Held x) ∷ []) a b before after → (y : ℕ) → y ≤ a.book.made → KeepsObject a b y
  made_keeps now x n a b before after k y low =
      let one = only_call known (scene_of a.book) (scene_of b.book) (record { now = now; asks = MustMake x n ∷ Wants (Held x) ∷ [] }) k.deeds k.each in
      let did = made_so now (scene_of a.book) (scene_of b.book) x n one.0 one.2 in
      let all : all_of k.deeds ≡ writes (Made x (known.kind n)) ∷ begins x.0 n ∷ writes (Held x) ∷ [] = ap all_of one.1 ∙ (append-nil one.0 ∙ did.0) in
      let run : GraphRunOf (run_state a.book []) (Made x (known.kind n) ∷ Held x ∷ []) (run_state b.book []) = subst (λ z. GraphRunOf (run_state a.book []) z (run_state b.book [])) (sym k.events ∙ ap events_of all) k.runs.run in
      let serial = did.2 in
      let apart : y ≡ x.0 → ⊥ = λ e. omega (arith, e, low, serial) in
      let live : object_lives b.book y ≡ object_lives a.book y = sym (ap (λ (z : Scene). z.live y) did.1) ∙ rw (ne_eqb y x.0 apart) refl in
      record {
        live = live;
        held = held_on x (known.kind n) y (run_state a.book []) (run_state b.book []) apart run;
        ports = λ i. sym (ap (λ (z : Scene). z.port y i) did.1) ∙ rw (ne_eqb y x.0 apart) refl;
        ranked = rank_keeps a.book b.book y (object_lives a.book y) k.ages low refl live;
        node = λ o e. node_on (node_at a) (node_at b) x.0 (known.kind n) y x n o apart (subst (λ z. Hosts known stands (node_at a) z (node_at b)) all k.hosts) e;
      }
