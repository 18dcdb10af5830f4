-- What a call on some objects leaves of all others.
use Rattle.std.proofs.Common.{inl, inr, ◌≡◌, ℕ, ◌-◌, ◌≤◌, Bool, true, false, List, [], ◌∷◌, ◌++◌, Option, Some, None, is_some, refl, sym, ap, ◌∙◌, subst, arith}
use Rattle.std.specs.List.{AllByRecursion}
use Rattle.std.specs.Option.{option_map_or}
use Rattle.std.proofs.lemmas.Bool.{cases_eq, ne_eqb}
use Rattle.std.proofs.lemmas.List.{append-nil}
use Rattle.nb_ledger.specs.declared.port.Port.{Port}
use Rattle.nb_ledger.specs.declared.port.PortState.{PortState}
use Rattle.nb_ledger.specs.declared.port.PortState.TheVariants as port
use Rattle.nb_ledger.specs.declared.object.Object.{Object}
use Rattle.nb_ledger.specs.declared.event.GraphEvent.{GraphEvent}
use Rattle.nb_ledger.specs.declared.event.GraphEvent.TheVariants.{Made, Held, LetGo, Plugged, Entered, Left, Dropped, Closed, Unplugged, Freed}
use Rattle.nb_ledger.specs.Flat.{Heard}
use Rattle.nb_ledger.specs.GraphRun.{GraphState, GraphRunOf, Step, alone, linked, peer, but_at, port_but, owed, object_count}
use Rattle.nb_ledger.specs.Ledger.{Ledger, found, object_lives, rank, port as port_in, run_state}
use Rattle.nb_ledger.proofs.CountLemmas.{owed-zero, owed-some}
use Rattle.nb_graph.specs.Trace.{Nature, NodeEntry}
use Rattle.nb_graph.specs.Deeds.{Deed, writes, begins, calls, turns, Stage, events_of}
use Rattle.nb_graph.specs.Hosts.{Hosts}
use Rattle.nb_graph.specs.Scene.{Scene, scene_of, after_noted}
use Rattle.nb_graph.specs.Follows.{UsesStack, after_deed}
use Rattle.nb_graph.specs.Went.{WentOne, all_of}
use Rattle.nb_graph.specs.Whole.{Objects, Ages, node_at}
use Rattle.nb_graph.proofs.Laws.{only_call}
use Rattle.nb_frames.specs.Within.{AreLinkedWithin, IsEventWithin, AreStagesWithin, MakesNone}
use Rattle.nb_frames.specs.Frames.{KeepsOthers}
use Rattle.nb_frames.proofs.WithinLemmas.{IsDeedWithin, asks_none, apart, run_within}

-- the ports of y, and whether it lives
pub record KeepsSeen (s t : Scene) (y : ℕ) : Type 0 where
  pub ports : (k : ℕ) → t.port y k ≡ s.port y k
  pub live : t.live y ≡ s.live y

other_port : (own : ℕ → Bool) (p : Port) (v : PortState) (f : ℕ → ℕ → PortState) (y k : ℕ) → own p.obj.0 ≡ true → own y ≡ false → port_but p v f y k ≡ f y k
other_port own p v f y k i j = rw (ne_eqb y p.obj.0 (apart own p.obj.0 y i j)) refl

-- what is owed changes no holds
owed_holds : (x : ℕ) (s : GraphState) → (owed x s).holds ≡ s.holds
owed_holds x s = elim (cases_eq (object_count s x) 0) [
  | inl e ↦ ap (λ (z : GraphState). z.holds) (owed-zero s x e)
  | inr n ↦ ap (λ (z : GraphState). z.holds) (owed-some s x (omega (arith, n)))
]

module _ (own : ℕ → Bool) (y : ℕ) (far : own y ≡ false) where
  event_keeps : (e : GraphEvent) (s : Scene) → IsEventWithin own e → KeepsSeen s (after_noted e s) y
  event_keeps (Made x kind) s q = absurd q
  event_keeps (Held x) s q = record { ports = λ k. refl; live = refl }
  event_keeps (LetGo x) s q = record { ports = λ k. refl; live = refl }
  event_keeps (Plugged p r) s q = record { ports = λ k. other_port own r (port.Linked p) (port_but p (port.Linked r) s.port) y k q.1 far ∙ other_port own p (port.Linked r) s.port y k q.0 far; live = refl }
  event_keeps (Entered p by) s q = record { ports = λ k. refl; live = refl }
  event_keeps (Left p) s q = record { ports = λ k. refl; live = refl }
  event_keeps (Dropped p) s q = record { ports = λ k. refl; live = refl }
  event_keeps (Closed p c) s q = record { ports = λ k. other_port own p _ s.port y k q far; live = refl }
  event_keeps (Unplugged p r) s q = record { ports = λ k. other_port own r port.Closed (port_but p port.Closed s.port) y k q.1 far ∙ other_port own p port.Closed s.port y k q.0 far; live = refl }
  event_keeps (Freed x) s q =
      let n : y ≡ x.0 → ⊥ = apart own x.0 y q far in
      record { ports = λ k. rw (ne_eqb y x.0 n) refl; live = rw (ne_eqb y x.0 n) refl }

  deed_keeps : {N L : Type 0} (d : Deed N L) (s : Scene) → IsDeedWithin own d → KeepsSeen s (after_deed d s) y
  deed_keeps (writes e) s q = event_keeps e s q
  deed_keeps (begins x n) s q = absurd q
  deed_keeps (calls x e) s q = record { ports = λ k. refl; live = refl }
  deed_keeps (turns u) s q = record { ports = λ k. refl; live = refl }

  pub scene_keeps : {N L : Type 0} (known : Nature N L) (now : ℕ) (s t : Scene) (gs : List (Stage N L)) (ds : List (Deed N L)) → AllByRecursion (IsDeedWithin own) ds → UsesStack known now s gs ds t → KeepsSeen s t y
  scene_keeps known now s t [] [] q u = record { ports = λ k. ap (λ (z : Scene). z.port y k) (sym u); live = ap (λ (z : Scene). z.live y) (sym u) }
  scene_keeps known now s t [] (d ∷ ds) q u = absurd u
  scene_keeps known now s t (g ∷ gs) [] q u = absurd u
  scene_keeps known now s t (g ∷ gs) (d ∷ ds) q (more, b, u) =
      let one = deed_keeps d s q.0 in
      let others = scene_keeps known now (after_deed d s) t _ ds q.1 u in
      record { ports = λ k. others.ports k ∙ one.ports k; live = others.live ∙ one.live }

  -- its holds
  step_keeps : (e : GraphEvent) (s t : GraphState) → IsEventWithin own e → Step s e t → t.holds y ≡ s.holds y
  step_keeps (Made x kind) s t q k = absurd q
  step_keeps (Held x) s t q k = ap (λ (z : GraphState). z.holds y) k.2 ∙ rw (ne_eqb y x.0 (apart own x.0 y q far)) refl
  step_keeps (LetGo x) s t q k =
      ap (λ (z : GraphState). z.holds y) k.2 ∙ (ap (λ (f : ℕ → ℕ). f y) (owed_holds x.0 (record s { holds = but_at x.0 (s.holds x.0 - 1) s.holds })) ∙ rw (ne_eqb y x.0 (apart own x.0 y q far)) refl)
  step_keeps (Plugged p r) s t q k = ap (λ (z : GraphState). z.holds y) k.5
  step_keeps (Entered p by) s t q (inl k) = ap (λ (z : GraphState). z.holds y) k.2
  step_keeps (Entered p by) s t q (inr k) = ap (λ (z : GraphState). z.holds y) k.3
  step_keeps (Left p) s t q k = ap (λ (z : GraphState). z.holds y) k.3 ∙ ap (λ (f : ℕ → ℕ). f y) (owed_holds p.obj.0 _)
  step_keeps (Dropped p) s t q k = ap (λ (z : GraphState). z.holds y) k.2
  step_keeps (Closed p c) s t q (alone idle e u) = ap (λ (z : GraphState). z.holds y) u
  step_keeps (Closed p c) s t q (linked r idle e u) = ap (λ (z : GraphState). z.holds y) u
  step_keeps (Closed p c) s t q (peer r st top e u) = ap (λ (z : GraphState). z.holds y) u
  step_keeps (Unplugged p r) s t q k = ap (λ (z : GraphState). z.holds y) k.2 ∙ (ap (λ (f : ℕ → ℕ). f y) (owed_holds _ _) ∙ ap (λ (f : ℕ → ℕ). f y) (owed_holds _ _))
  step_keeps (Freed x) s t q k = ap (λ (z : GraphState). z.holds y) k.2 ∙ rw (ne_eqb y x.0 (apart own x.0 y q far)) refl

  pub holds_keep : {N L : Type 0} (ds : List (Deed N L)) (s t : GraphState) → AllByRecursion (IsDeedWithin own) ds → GraphRunOf s (events_of ds) t → t.holds y ≡ s.holds y
  holds_keep [] s t q k = ap (λ (z : GraphState). z.holds y) (sym k)
  holds_keep (writes e ∷ ds) s t q (m, step, k) = holds_keep ds m t q.1 k ∙ step_keeps e s m q.0 step
  holds_keep (begins x n ∷ ds) s t q k = absurd q.0
  holds_keep (calls x e ∷ ds) s t q k = holds_keep ds s t q.1 k
  holds_keep (turns u ∷ ds) s t q k = holds_keep ds s t q.1 k

  -- and its node
  pub node_keeps : {N L : Type 0} (known : Nature N L) (stands : N → List (NodeEntry N L) → Type 0) (f g : ℕ → Option N) (ds : List (Deed N L)) → AllByRecursion (IsDeedWithin own) ds → Hosts known stands f ds g → (n : N) → g y ≡ Some n → f y ≡ Some n
  node_keeps known stands f g [] q h n e = h y n e
  node_keeps known stands f g (writes i ∷ ds) q h n e = node_keeps known stands f g ds q.1 h n e
  node_keeps known stands f g (begins x i ∷ ds) q h n e = absurd q.0
  node_keeps known stands f g (calls x i ∷ ds) q h n e =
      let was : but_at x (Some h.1) f y ≡ Some n = node_keeps known stands (but_at x (Some h.1) f) g ds q.1 h.4 n e in
      rw (ne_eqb y x (apart own x y q.0 far)) at was
  node_keeps known stands f g (turns u ∷ ds) q h n e = node_keeps known stands f g ds q.1 h n e

-- a dead object has the rank 0
none_rank : (o : Option Object) → is_some o ≡ false → option_map_or (λ (z : Object). z.rank) o 0 ≡ 0
none_rank None e = refl
none_rank (Some o) e = absurd (let z = e in cc)

dead_rank : (l : Ledger) (x : ℕ) → object_lives l x ≡ false → rank l x ≡ 0
unfolding object_lives rank
dead_rank l x h = none_rank (found l.objects x) h

-- an object that lives as it did keeps its rank
pub rank_keeps : (a b : Ledger) (y : ℕ) (v : Bool) → Ages a b → y ≤ a.made → object_lives a y ≡ v → object_lives b y ≡ v → rank b y ≡ rank a y
rank_keeps a b y true ages low i j = (ages.kept y low j).1
rank_keeps a b y false ages low i j = dead_rank b y j ∙ sym (dead_rank a y i)

-- none is made
made_on : {N L : Type 0} (own : ℕ → Bool) (d : Deed N L) (s : Scene) → IsDeedWithin own d → (after_deed d s).made ≡ s.made
made_on own (writes (Made x kind)) s q = absurd q
made_on own (writes (Held x)) s q = refl
made_on own (writes (LetGo x)) s q = refl
made_on own (writes (Plugged p r)) s q = refl
made_on own (writes (Entered p by)) s q = refl
made_on own (writes (Left p)) s q = refl
made_on own (writes (Dropped p)) s q = refl
made_on own (writes (Closed p c)) s q = refl
made_on own (writes (Unplugged p r)) s q = refl
made_on own (writes (Freed x)) s q = refl
made_on own (begins x n) s q = refl
made_on own (calls x e) s q = refl
made_on own (turns u) s q = refl

made_stays : {N L : Type 0} (own : ℕ → Bool) (known : Nature N L) (now : ℕ) (s t : Scene) (gs : List (Stage N L)) (ds : List (Deed N L)) → AllByRecursion (IsDeedWithin own) ds → UsesStack known now s gs ds t → t.made ≡ s.made
made_stays own known now s t [] [] q u = ap (λ (z : Scene). z.made) (sym u)
made_stays own known now s t [] (d ∷ ds) q u = absurd u
made_stays own known now s t (g ∷ gs) [] q u = absurd u
made_stays own known now s t (g ∷ gs) (d ∷ ds) q (more, b, u) = made_stays own known now (after_deed d s) t (more ++ gs) ds q.1 u ∙ made_on own d s q.0

module _ {N L : Type 0} (known : Nature N L) (stands : N → List (NodeEntry N L) → Type 0) (now : ℕ) (asks : List (Stage N L)) (a b : Objects N) (m n : Heard) where
  -- what happened in a call on these objects is theirs
  pub deeds_within : (own : ℕ → Bool) → AreStagesWithin own asks → AreLinkedWithin own (port_in a.book) → (k : WentOne stands known now asks a b m n) → ((x : ℕ) → own x ≡ true → MakesNone x (all_of k.deeds))
      → AllByRecursion (IsDeedWithin own) (all_of k.deeds) × UsesStack known now (scene_of a.book) asks (all_of k.deeds) (scene_of b.book)
  deeds_within own q links k none =
      let one = only_call known (scene_of a.book) (scene_of b.book) (record { now = now; asks = asks }) k.deeds k.each in
      let all : all_of k.deeds ≡ one.0 = ap all_of one.1 ∙ append-nil one.0 in
      let uses : UsesStack known now (scene_of a.book) asks (all_of k.deeds) (scene_of b.book) = subst (λ z. UsesStack known now (scene_of a.book) asks z (scene_of b.book)) (sym all) one.2 in
      (run_within known own now (scene_of a.book) (scene_of b.book) asks (all_of k.deeds) q links (asks_none own (all_of k.deeds) none) uses, uses)

  pub others_stay : (own : ℕ → Bool) → AreStagesWithin own asks → AreLinkedWithin own (port_in a.book) → (k : WentOne stands known now asks a b m n) → ((x : ℕ) → own x ≡ true → MakesNone x (all_of k.deeds)) → KeepsOthers own a b
  others_stay own q links k none =
      let w = deeds_within own q links k none in
      let run : GraphRunOf (run_state a.book []) (events_of (all_of k.deeds)) (run_state b.book []) = subst (λ z. GraphRunOf (run_state a.book []) z (run_state b.book [])) (sym k.events) k.runs.run in
      record {
        same_made = made_stays own known now (scene_of a.book) (scene_of b.book) asks (all_of k.deeds) w.0 w.1;
        others = λ y low far.
            let seen = scene_keeps own y far known now (scene_of a.book) (scene_of b.book) asks (all_of k.deeds) w.0 w.1 in
            record {
              live = seen.live;
              held = holds_keep own y far (all_of k.deeds) (run_state a.book []) (run_state b.book []) w.0 run;
              ports = seen.ports;
              ranked = rank_keeps a.book b.book y (object_lives a.book y) k.ages low refl seen.live;
              node = node_keeps own y far known stands (node_at a) (node_at b) (all_of k.deeds) w.0 k.hosts;
            };
      }
