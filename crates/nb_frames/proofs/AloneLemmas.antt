-- A call on some objects by which none is made or freed goes on as if nothing else lived.
use Rattle.std.proofs.Common.{◌≡◌, ℕ, ◌==◌, Bool, true, false, List, [], ◌∷◌, ◌++◌, None, refl, sym, ap, ◌∙◌, subst, if◌then◌else◌}
use Rattle.std.specs.List.{AllByRecursion}
use Rattle.nb_ledger.specs.declared.port.Port.{Port}
use Rattle.nb_ledger.specs.declared.port.PortState.{PortState}
use Rattle.nb_ledger.specs.declared.port.PortState.TheVariants as port
use Rattle.nb_ledger.specs.declared.event.GraphEvent.TheVariants.{Made, Held, LetGo, Plugged, Entered, Left, Dropped, Closed, Unplugged, Freed}
use Rattle.nb_ledger.specs.GraphRun.{GraphState, GraphRunOf, IsOpen, port_but}
use Rattle.nb_ledger.specs.Ledger.{open_count}
use Rattle.nb_effects.specs.declared.effects.Fx.{Fx}
use Rattle.nb_graph.specs.Trace.{Nature, Said, silence}
use Rattle.nb_graph.specs.Deeds.{Deed, writes, begins, calls, turns, Stage, events_of, runs_of}
use Rattle.nb_graph.specs.Scene.{Scene, shut_of, state_at, after_noted}
use Rattle.nb_graph.specs.Follows.{Becomes, UsesStack, after_deed, closes_alone, closes_link, closes_none, peer_closes, peer_enters, peer_hears, unplugs, frees, keeps, passes, leaves, drops, returns, enters_up, enters_down, offered_up, offered_down, refused, takes, takes_down, drops_rest, ends, ticks, takes_time, ticks_none, makes, makes_none, finds_none, has_begun, plugs, made_outside, held, let_go, next, none_left, lets, lets_none}
use Rattle.nb_frames.specs.Within.{AreLinkedWithin, IsStageWithin, IsPlainStage, FreesNot, FreesNone}
use Rattle.nb_frames.proofs.StageLemmas.{IsAllowed, each-append, each-runs, each-settles}
use Rattle.nb_frames.proofs.WithinLemmas.{IsDeedWithin, AsksNone, becomes_within, deed_links}
use Rattle.nb_frames.proofs.MaskLemmas.{IsPlainEvent, mask, mask_port, own_scene, own_state, port_same, mask_but, step_own}

-- a deed by which nothing is made, held, let go, plugged or freed
abbrev pub IsPlainDeed : {N L : Type 0} → Deed N L → Type 0
IsPlainDeed (writes e) = IsPlainEvent e
IsPlainDeed (begins x n) = ⊥
IsPlainDeed (calls x e) = Unit {0}
IsPlainDeed (turns u) = Unit {0}

-- none of these objects is freed
abbrev pub FreesOther : {N L : Type 0} → (ℕ → Bool) → Deed N L → Type 0
FreesOther own (writes e) = (x : ℕ) → own x ≡ true → FreesNot x e
FreesOther own (begins x n) = Unit {0}
FreesOther own (calls x e) = Unit {0}
FreesOther own (turns u) = Unit {0}

pub frees_other : {N L : Type 0} (own : ℕ → Bool) (ds : List (Deed N L)) → ((x : ℕ) → own x ≡ true → FreesNone x (events_of ds)) → AllByRecursion (FreesOther own) ds
frees_other own [] h = tt
frees_other own (writes e ∷ ds) h = ((λ x o. (h x o).0), frees_other own ds (λ x o. (h x o).1))
frees_other own (begins y n ∷ ds) h = (tt, frees_other own ds h)
frees_other own (calls y e ∷ ds) h = (tt, frees_other own ds h)
frees_other own (turns u ∷ ds) h = (tt, frees_other own ds h)

module _ {N L : Type 0} (known : Nature N L) (own : ℕ → Bool) (number room made : ℕ) where
  abbrev the_scene : Scene → Scene
  the_scene s = own_scene own number room made s

  same_at : (s : Scene) (p : Port) → own p.obj.0 ≡ true → state_at (the_scene s) p ≡ state_at s p
  same_at s p o = port_same own s.port p.obj.0 p.slot o

  ports_at : (s : Scene) (f g : ℕ → ℕ → PortState) → f ≡ g → the_scene (record s { port = f }) ≡ the_scene (record s { port = g })
  ports_at s f g e = ap (λ (h : ℕ → ℕ → PortState). the_scene (record s { port = h })) e

  with_own : (s : Scene) (f g : ℕ → ℕ → PortState) → mask_port own f ≡ g → the_scene (record s { port = f }) ≡ record (the_scene s) { port = g }
  with_own s f g e = ap (λ (h : ℕ → ℕ → PortState). let z : Scene = record { port = h; live = mask own false s.live; number = number; room = room; made = made } in z) e

  closed_own : (s : Scene) (p : Port) (c : _) → own p.obj.0 ≡ true → the_scene (after_noted (Closed p c) s) ≡ after_noted (Closed p c) (the_scene s)
  closed_own s p c o =
      with_own s (port_but p (shut_of (state_at s p)) s.port) (port_but p (shut_of (state_at (the_scene s) p)) (mask_port own s.port))
      (mask_but own p (shut_of (state_at s p)) s.port o ∙ ap (λ (v : PortState). port_but p (shut_of v) (mask_port own s.port)) (sym (same_at s p o)))

  unplugged_own : (s : Scene) (p q : Port) → own p.obj.0 ≡ true → own q.obj.0 ≡ true → the_scene (after_noted (Unplugged p q) s) ≡ after_noted (Unplugged p q) (the_scene s)
  unplugged_own s p q o r =
      with_own s (port_but q port.Closed (port_but p port.Closed s.port)) (port_but q port.Closed (port_but p port.Closed (mask_port own s.port)))
      (mask_but own q port.Closed (port_but p port.Closed s.port) r ∙ ap (port_but q port.Closed) (mask_but own p port.Closed s.port o))

  -- what is asked for becomes the same, and leaves the same of these objects
  record GoesAlone (now : ℕ) (s : Scene) (g : Stage N L) (d : Deed N L) (more : List (Stage N L)) : Type 0 where
    pub becomes : Becomes known now (the_scene s) g d more
    pub plain : AllByRecursion IsPlainStage more
    pub is_plain : IsPlainDeed d
    pub same : the_scene (after_deed d s) ≡ after_deed d (the_scene s)

  allowed : (x : ℕ) → IsAllowed known (IsPlainStage {N = N} {L = L}) x
  allowed x = record { closes = λ k c. tt; sends = λ k m. tt; returns = λ l. tt }

  plain_runs : (x : ℕ) (m : Said) (done : Bool) (fx : Fx N L) (g : Stage N L) → (done ≡ true → fx.makes ≡ None) → IsPlainStage g → AllByRecursion IsPlainStage (runs_of known x m done fx ++ g ∷ [])
  plain_runs x m done fx g none h = each-append known IsPlainStage _ (g ∷ []) (each-runs known IsPlainStage x (allowed x) m done fx none) (h, tt)

  live_at : (s : Scene) (x : ℕ) → own x ≡ true → (the_scene s).live x ≡ s.live x
  live_at s x o = rw o refl

  -- one that isn't open there isn't open here
  shut_at : (s : Scene) (p : Port) → own p.obj.0 ≡ true → (state_at s p ≡ port.Open → ⊥) → state_at (the_scene s) p ≡ port.Open → ⊥
  shut_at s p o h e = h (sym (same_at s p o) ∙ e)

  open_at : (s : Scene) (p : Port) → own p.obj.0 ≡ true → IsOpen (state_at s p) → IsOpen (state_at (the_scene s) p)
  open_at s p o h = subst IsOpen (sym (same_at s p o)) h

  goes_alone : (now : ℕ) (s : Scene) (g : Stage N L) (d : Deed N L) (more : List (Stage N L)) → Becomes known now s g d more → IsStageWithin own g → IsPlainStage g → AsksNone own d → FreesOther own d → GoesAlone now s g d more
  goes_alone now s _ _ _ (closes_alone p c e) q i a f = record { becomes = closes_alone p c (same_at s p q ∙ e); plain = tt; is_plain = tt; same = closed_own s p c q }
  goes_alone now s _ _ _ (closes_link p r c e) q i a f = record { becomes = closes_link p r c (same_at s p q ∙ e); plain = (tt, (tt, tt)); is_plain = tt; same = closed_own s p c q }
  goes_alone now s _ _ _ (closes_none p c e) q i a f = record { becomes = closes_none p c (ap open_count (same_at s p q) ∙ e); plain = tt; is_plain = tt; same = refl }
  goes_alone now s _ _ _ (peer_closes p c) q i a f = record { becomes = peer_closes p c; plain = (tt, tt); is_plain = tt; same = closed_own s p c q }
  goes_alone now s _ _ _ (peer_enters p c) q i a f = record { becomes = peer_enters p c; plain = (tt, tt); is_plain = tt; same = refl }
  goes_alone now s _ _ _ (peer_hears x slot c fx) q i a f = record { becomes = peer_hears x slot c fx; plain = plain_runs x silence true fx _ (λ _. a q) tt; is_plain = tt; same = refl }
  goes_alone now s _ _ _ (unplugs p r) q i a f = record { becomes = unplugs p r; plain = (tt, (tt, tt)); is_plain = tt; same = unplugged_own s p r q.0 q.1 }
  goes_alone now s _ _ _ (frees x) q i a f = absurd (f x.0 q refl)
  goes_alone now s _ _ _ (keeps x) q i a f = record { becomes = keeps x; plain = tt; is_plain = tt; same = refl }
  goes_alone now s _ _ _ (passes p r m e) q i a f = record { becomes = passes p r m (same_at s p q ∙ e); plain = (tt, tt); is_plain = tt; same = refl }
  goes_alone now s _ _ _ (leaves p m e) q i a f = record { becomes = leaves p m (same_at s p q ∙ e); plain = tt; is_plain = tt; same = refl }
  goes_alone now s _ _ _ (drops p m e) q i a f = record { becomes = drops p m (ap open_count (same_at s p q) ∙ e); plain = tt; is_plain = tt; same = refl }
  goes_alone now s _ _ _ (returns x l) q i a f = record { becomes = returns x l; plain = tt; is_plain = tt; same = refl }
  goes_alone now s _ _ _ (enters_up p m j e) q i a f = record { becomes = enters_up p m j (open_at s p q e); plain = (tt, tt); is_plain = tt; same = refl }
  goes_alone now s _ _ _ (enters_down p m j e) q i a f = record { becomes = enters_down p m j (open_at s p q e); plain = (tt, tt); is_plain = tt; same = refl }
  goes_alone now s _ _ _ (offered_up p m j e) q i a f = record { becomes = offered_up p m j (same_at s p q ∙ e); plain = (tt, tt); is_plain = tt; same = refl }
  goes_alone now s _ _ _ (offered_down p m j e) q i a f = record { becomes = offered_down p m j (same_at s p q ∙ e); plain = (tt, tt); is_plain = tt; same = refl }
  goes_alone now s _ _ _ (refused p m e) q i a f = record { becomes = refused p m (shut_at s p q e); plain = tt; is_plain = tt; same = refl }
  goes_alone now s _ _ _ (takes x slot m done fx e) q i a f = record { becomes = takes x slot m done fx (subst IsOpen (sym (port_same own s.port x slot q)) e); plain = plain_runs x m done fx _ (a q) tt; is_plain = tt; same = refl }
  goes_alone now s _ _ _ (takes_down x m done fx) q i a f = record { becomes = takes_down x m done fx; plain = plain_runs x m done fx _ (a q) tt; is_plain = tt; same = refl }
  goes_alone now s _ _ _ (drops_rest p m e) q i a f = record { becomes = drops_rest p m (ap open_count (same_at s p q) ∙ e); plain = (tt, tt); is_plain = tt; same = refl }
  goes_alone now s _ _ _ (ends p by) q i a f = record { becomes = ends p by; plain = each-settles known IsPlainStage by p.obj.0 tt; is_plain = tt; same = refl }
  goes_alone now s _ _ _ (ticks x e) q i a f = record { becomes = ticks x (live_at s x q ∙ e); plain = (tt, tt); is_plain = tt; same = refl }
  goes_alone now s _ _ _ (takes_time x done fx) q i a f = record { becomes = takes_time x done fx; plain = plain_runs x silence done fx _ (a q) tt; is_plain = tt; same = refl }
  goes_alone now s _ _ _ (ticks_none x e) q i a f = record { becomes = ticks_none x (live_at s x q ∙ e); plain = tt; is_plain = tt; same = refl }
  goes_alone now s _ _ _ (makes p n x e g j) q i a f = absurd i
  goes_alone now s _ _ _ (makes_none p n e) q i a f = absurd i
  goes_alone now s _ _ _ (finds_none p n e g) q i a f = absurd i
  goes_alone now s _ _ _ (has_begun x n) q i a f = absurd i
  goes_alone now s _ _ _ (plugs p r e g) q i a f = absurd i
  goes_alone now s _ _ _ (made_outside x n e j) q i a f = absurd i
  goes_alone now s _ _ _ (held x e) q i a f = absurd i
  goes_alone now s _ _ _ (let_go x e) q i a f = absurd i
  goes_alone now s _ _ _ (next after x c j e g) q i a f = absurd i
  goes_alone now s _ _ _ (none_left after c g) q i a f = absurd i
  goes_alone now s _ _ _ (lets x) q i a f = absurd i
  goes_alone now s _ _ _ lets_none q i a f = absurd i

  -- so the whole call goes on
  pub run_alone : (now : ℕ) (s t : Scene) (gs : List (Stage N L)) (ds : List (Deed N L)) → AllByRecursion (IsStageWithin own) gs → AllByRecursion IsPlainStage gs → AreLinkedWithin own s.port → AllByRecursion (AsksNone own) ds → AllByRecursion (FreesOther own) ds
      → UsesStack known now s gs ds t → UsesStack known now (the_scene s) gs ds (the_scene t) × AllByRecursion IsPlainDeed ds
  run_alone now s t [] [] q i h a f u = (ap the_scene u, tt)
  run_alone now s t [] (d ∷ ds) q i h a f u = absurd u
  run_alone now s t (g ∷ gs) [] q i h a f u = absurd u
  run_alone now s t (g ∷ gs) (d ∷ ds) q i h a f (more, b, u) =
      let w = becomes_within known own now s g d more b q.0 h a.0 in
      let z = goes_alone now s g d more b q.0 i.0 a.0 f.0 in
      let others = run_alone now (after_deed d s) t (more ++ gs) ds (each-append known (IsStageWithin own) more gs w.0 q.1) (each-append known IsPlainStage more gs z.plain i.1) (deed_links own d s w.1 h) a.1 f.1 u in
      ((more, z.becomes, subst (λ (y : Scene). UsesStack known now y (more ++ gs) ds (the_scene t)) z.same others.0), (z.is_plain, others.1))

  -- and so does the run of its events
  pub states_alone : (ds : List (Deed N L)) (s t : GraphState) → AllByRecursion IsPlainDeed ds → AllByRecursion (IsDeedWithin own) ds → GraphRunOf s (events_of ds) t → GraphRunOf (own_state own made s) (events_of ds) (own_state own made t)
  states_alone [] s t i q k = ap (own_state own made) k
  states_alone (writes e ∷ ds) s t i q (m, step, k) = (own_state own made m, step_own own made e s m i.0 q.0 step, states_alone ds m t i.1 q.1 k)
  states_alone (begins x n ∷ ds) s t i q k = absurd q.0
  states_alone (calls x e ∷ ds) s t i q k = states_alone ds s t i.1 q.1 k
  states_alone (turns u ∷ ds) s t i q k = states_alone ds s t i.1 q.1 k

  -- what is closed stays closed
  shut_pick : (b c : Bool) (v w : PortState) → open_count v ≡ 0 → open_count w ≡ 0 → open_count (if b then (if c then v else w) else w) ≡ 0
  shut_pick true true v w h k = h
  shut_pick true false v w h k = k
  shut_pick false c v w h k = k

  shut_closed : (v : PortState) → open_count (shut_of v) ≡ 0
  shut_closed port.Open = refl
  shut_closed (port.Linked q) = refl
  shut_closed (port.Leaving q) = refl
  shut_closed port.Closed = refl

  deed_shuts : (d : Deed N L) (s : Scene) (x k : ℕ) → IsPlainDeed d → open_count (s.port x k) ≡ 0 → open_count ((after_deed d s).port x k) ≡ 0
  deed_shuts (writes (Made y kind)) s x k i h = absurd i
  deed_shuts (writes (Held y)) s x k i h = absurd i
  deed_shuts (writes (LetGo y)) s x k i h = absurd i
  deed_shuts (writes (Plugged p q)) s x k i h = absurd i
  deed_shuts (writes (Entered p by)) s x k i h = h
  deed_shuts (writes (Left p)) s x k i h = h
  deed_shuts (writes (Dropped p)) s x k i h = h
  deed_shuts (writes (Closed p c)) s x k i h = shut_pick (x == p.obj.0) (k == p.slot) (shut_of (state_at s p)) (s.port x k) (shut_closed (state_at s p)) h
  deed_shuts (writes (Unplugged p q)) s x k i h = shut_pick (x == q.obj.0) (k == q.slot) port.Closed _ refl (shut_pick (x == p.obj.0) (k == p.slot) port.Closed (s.port x k) refl h)
  deed_shuts (writes (Freed y)) s x k i h = absurd i
  deed_shuts (begins y n) s x k i h = h
  deed_shuts (calls y e) s x k i h = h
  deed_shuts (turns u) s x k i h = h

  pub run_shuts : (now : ℕ) (s t : Scene) (gs : List (Stage N L)) (ds : List (Deed N L)) (x k : ℕ) → AllByRecursion IsPlainDeed ds → UsesStack known now s gs ds t → open_count (s.port x k) ≡ 0 → open_count (t.port x k) ≡ 0
  run_shuts now s t [] [] x k i u h = ap (λ (z : Scene). open_count (z.port x k)) (sym u) ∙ h
  run_shuts now s t [] (d ∷ ds) x k i u h = absurd u
  run_shuts now s t (g ∷ gs) [] x k i u h = absurd u
  run_shuts now s t (g ∷ gs) (d ∷ ds) x k i (more, b, u) h = run_shuts now (after_deed d s) t (more ++ gs) ds x k i.1 u (deed_shuts d s x k i.0 h)

  -- as many live, and may live
  deed_counts : (d : Deed N L) (s : Scene) → IsPlainDeed d → ((after_deed d s).number ≡ s.number) × ((after_deed d s).room ≡ s.room)
  deed_counts (writes (Made y kind)) s i = absurd i
  deed_counts (writes (Held y)) s i = absurd i
  deed_counts (writes (LetGo y)) s i = absurd i
  deed_counts (writes (Plugged p q)) s i = absurd i
  deed_counts (writes (Entered p by)) s i = (refl, refl)
  deed_counts (writes (Left p)) s i = (refl, refl)
  deed_counts (writes (Dropped p)) s i = (refl, refl)
  deed_counts (writes (Closed p c)) s i = (refl, refl)
  deed_counts (writes (Unplugged p q)) s i = (refl, refl)
  deed_counts (writes (Freed y)) s i = absurd i
  deed_counts (begins y n) s i = (refl, refl)
  deed_counts (calls y e) s i = (refl, refl)
  deed_counts (turns u) s i = (refl, refl)

  pub run_counts : (now : ℕ) (s t : Scene) (gs : List (Stage N L)) (ds : List (Deed N L)) → AllByRecursion IsPlainDeed ds → UsesStack known now s gs ds t → (t.number ≡ s.number) × (t.room ≡ s.room)
  run_counts now s t [] [] i u = (ap (λ (z : Scene). z.number) (sym u), ap (λ (z : Scene). z.room) (sym u))
  run_counts now s t [] (d ∷ ds) i u = absurd u
  run_counts now s t (g ∷ gs) [] i u = absurd u
  run_counts now s t (g ∷ gs) (d ∷ ds) i (more, b, u) =
      let one = deed_counts d s i.0 in
      let others = run_counts now (after_deed d s) t (more ++ gs) ds i.1 u in
      (others.0 ∙ one.0, others.1 ∙ one.1)

  -- and no link leaves them
  pub run_links : (now : ℕ) (s t : Scene) (gs : List (Stage N L)) (ds : List (Deed N L)) → AllByRecursion (IsDeedWithin own) ds → UsesStack known now s gs ds t → AreLinkedWithin own s.port → AreLinkedWithin own t.port
  run_links now s t [] [] o u h = subst (λ (z : Scene). AreLinkedWithin own z.port) u h
  run_links now s t [] (d ∷ ds) o u h = absurd u
  run_links now s t (g ∷ gs) [] o u h = absurd u
  run_links now s t (g ∷ gs) (d ∷ ds) o (more, b, u) h = run_links now (after_deed d s) t (more ++ gs) ds o.1 u (deed_links own d s o.0 h)
