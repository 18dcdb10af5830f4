-- What happens in a call on some objects is of those objects alone.
use Rattle.std.proofs.Common.{inl, inr, ◌≡◌, ◌⊎◌, ℕ, ◌==◌, Bool, true, false, List, [], ◌∷◌, ◌++◌, None, min, max, refl, sym, ap, ◌∙◌, subst, arith, if◌then◌else◌}
use Rattle.std.specs.List.{AllByRecursion}
use Rattle.std.proofs.lemmas.Bool.{cases_eq, false≢true}
use Rattle.nb_ledger.specs.declared.port.Port.{Port}
use Rattle.nb_ledger.specs.declared.port.PortState.{PortState}
use Rattle.nb_ledger.specs.declared.port.PortState.TheVariants as port
use Rattle.nb_ledger.specs.declared.event.GraphEvent.{GraphEvent}
use Rattle.nb_ledger.specs.declared.event.GraphEvent.TheVariants.{Made, Held, LetGo, Plugged, Entered, Left, Dropped, Closed, Unplugged, Freed}
use Rattle.nb_ledger.specs.GraphRun.{port_but, ports_but}
use Rattle.nb_effects.specs.declared.effects.Fx.{Fx}
use Rattle.nb_graph.specs.Trace.{Nature, Said, silence}
use Rattle.nb_graph.specs.Deeds.{Deed, writes, begins, calls, turns, Stage, runs_of}
use Rattle.nb_graph.specs.Scene.{Scene, shut_of, state_at, after_noted}
use Rattle.nb_graph.specs.Follows.{Becomes, UsesStack, after_deed, closes_alone, closes_link, closes_none, peer_closes, peer_enters, peer_hears, unplugs, frees, keeps, passes, leaves, drops, returns, enters_up, enters_down, offered_up, offered_down, refused, takes, takes_down, drops_rest, ends, ticks, takes_time, ticks_none, makes, makes_none, finds_none, has_begun, plugs, made_outside, held, let_go, next, none_left, lets, lets_none}
use Rattle.nb_frames.specs.Within.{LeadsWithin, AreLinkedWithin, IsEventWithin, IsStageWithin, AreStagesWithin, AsksNoMake, MakesNone}
use Rattle.nb_frames.proofs.StageLemmas.{IsAllowed, each-append, each-runs, each-settles}

-- a deed of these objects, by which none is made
abbrev pub IsDeedWithin : {N L : Type 0} → (ℕ → Bool) → Deed N L → Type 0
IsDeedWithin own (writes e) = IsEventWithin own e
IsDeedWithin own (begins x n) = ⊥
IsDeedWithin own (calls x e) = own x ≡ true
IsDeedWithin own (turns u) = Unit {0}

-- an entry of one of them asks for no make
abbrev pub AsksNone : {N L : Type 0} → (ℕ → Bool) → Deed N L → Type 0
AsksNone own (writes e) = Unit {0}
AsksNone own (begins x n) = Unit {0}
AsksNone own (calls x e) = own x ≡ true → AsksNoMake e
AsksNone own (turns u) = Unit {0}

pub asks_none : {N L : Type 0} (own : ℕ → Bool) (ds : List (Deed N L)) → ((x : ℕ) → own x ≡ true → MakesNone x ds) → AllByRecursion (AsksNone own) ds
asks_none own [] h = tt
asks_none own (writes e ∷ ds) h = (tt, asks_none own ds h)
asks_none own (begins y n ∷ ds) h = (tt, asks_none own ds h)
asks_none own (calls y e ∷ ds) h = ((λ o. (h y o).0 refl), asks_none own ds (λ x o. (h x o).1))
asks_none own (turns u ∷ ds) h = (tt, asks_none own ds h)

-- one of them is another than one that isn't
pub apart : (own : ℕ → Bool) (x y : ℕ) → own x ≡ true → own y ≡ false → y ≡ x → ⊥
apart own x y i j e = false≢true (sym j ∙ (ap own e ∙ i))

either_min : (a b : ℕ) → (min a b ≡ a) ⊎ (min a b ≡ b)
either_min a b = elim (cases_eq (min a b) a) [ inl e ↦ inl e | inr n ↦ inr (omega (arith, n)) ]

either_max : (a b : ℕ) → (max a b ≡ a) ⊎ (max a b ≡ b)
either_max a b = elim (cases_eq (max a b) a) [ inl e ↦ inl e | inr n ↦ inr (omega (arith, n)) ]

module _ (own : ℕ → Bool) where
  pub own_min : (a b : ℕ) → own a ≡ true → own b ≡ true → own (min a b) ≡ true
  own_min a b h k = elim (either_min a b) [ inl e ↦ ap own e ∙ h | inr e ↦ ap own e ∙ k ]

  pub own_max : (a b : ℕ) → own a ≡ true → own b ≡ true → own (max a b) ≡ true
  own_max a b h k = elim (either_max a b) [ inl e ↦ ap own e ∙ h | inr e ↦ ap own e ∙ k ]

  pick : (b c : Bool) (v w : PortState) → LeadsWithin own v → LeadsWithin own w → LeadsWithin own (if b then (if c then v else w) else w)
  pick true true v w h k = h
  pick true false v w h k = k
  pick false c v w h k = k

  pick_all : (b : Bool) (v w : PortState) → LeadsWithin own v → LeadsWithin own w → LeadsWithin own (if b then v else w)
  pick_all true v w h k = h
  pick_all false v w h k = k

  shut_within : (v : PortState) → LeadsWithin own v → LeadsWithin own (shut_of v)
  shut_within port.Open h = tt
  shut_within (port.Linked q) h = h
  shut_within (port.Leaving q) h = h
  shut_within port.Closed h = tt

  but_within : (p : Port) (v : PortState) (f : ℕ → ℕ → PortState) → LeadsWithin own v → AreLinkedWithin own f → AreLinkedWithin own (port_but p v f)
  but_within p v f a h = λ x k o. pick (x == p.obj.0) (k == p.slot) v (f x k) a (h x k o)

  all_but_within : (y : ℕ) (g : ℕ → PortState) (f : ℕ → ℕ → PortState) → ((k : ℕ) → LeadsWithin own (g k)) → AreLinkedWithin own f → AreLinkedWithin own (ports_but y g f)
  all_but_within y g f a h = λ x k o. pick_all (x == y) (g k) (f x k) (a k) (h x k o)

  -- the links that the events of these objects leave lead to them
  event_links : (e : GraphEvent) (s : Scene) → IsEventWithin own e → AreLinkedWithin own s.port → AreLinkedWithin own (after_noted e s).port
  event_links (Made x kind) s q h = absurd q
  event_links (Held x) s q h = h
  event_links (LetGo x) s q h = h
  event_links (Plugged p r) s q h = but_within r (port.Linked p) (port_but p (port.Linked r) s.port) q.0 (but_within p (port.Linked r) s.port q.1 h)
  event_links (Entered p by) s q h = h
  event_links (Left p) s q h = h
  event_links (Dropped p) s q h = h
  event_links (Closed p c) s q h = but_within p (shut_of (state_at s p)) s.port (shut_within (state_at s p) (h p.obj.0 p.slot q)) h
  event_links (Unplugged p r) s q h = but_within r port.Closed (port_but p port.Closed s.port) tt (but_within p port.Closed s.port tt h)
  event_links (Freed x) s q h = all_but_within x.0 (λ _. port.Closed) s.port (λ k. tt) h

  pub deed_links : {N L : Type 0} (d : Deed N L) (s : Scene) → IsDeedWithin own d → AreLinkedWithin own s.port → AreLinkedWithin own (after_deed d s).port
  deed_links (writes e) s q h = event_links e s q h
  deed_links (begins x n) s q h = h
  deed_links (calls x e) s q h = h
  deed_links (turns u) s q h = h

  -- the other end of a link of one of them is one of them
  pub peer_within : (s : Scene) (p r : Port) → AreLinkedWithin own s.port → own p.obj.0 ≡ true → state_at s p ≡ port.Linked r → own r.obj.0 ≡ true
  peer_within s p r h q e = subst (LeadsWithin own) e (h p.obj.0 p.slot q)

module _ {N L : Type 0} (known : Nature N L) (own : ℕ → Bool) where
  allowed : (x : ℕ) → own x ≡ true → IsAllowed known (IsStageWithin {N = N} {L = L} own) x
  allowed x o = record { closes = λ k c. o; sends = λ k m. o; returns = λ l. o }

  runs_within : (x : ℕ) (m : Said) (done : Bool) (fx : Fx N L) (g : Stage N L) → own x ≡ true → (done ≡ true → fx.makes ≡ None) → IsStageWithin own g → AllByRecursion (IsStageWithin own) (runs_of known x m done fx ++ g ∷ [])
  runs_within x m done fx g o none h = each-append known (IsStageWithin own) _ (g ∷ []) (each-runs known (IsStageWithin own) x (allowed x o) m done fx none) (h, tt)

  -- what these objects are asked for becomes something that they are asked for
  pub becomes_within : (now : ℕ) (s : Scene) (g : Stage N L) (d : Deed N L) (more : List (Stage N L)) → Becomes known now s g d more → IsStageWithin own g → AreLinkedWithin own s.port → AsksNone own d
      → AllByRecursion (IsStageWithin own) more × IsDeedWithin own d
  becomes_within now s _ _ _ (closes_alone p c e) q h a = (tt, q)
  becomes_within now s _ _ _ (closes_link p r c e) q h a = let o = peer_within own s p r h q e in ((o, ((q, o), tt)), q)
  becomes_within now s _ _ _ (closes_none p c e) q h a = (tt, tt)
  becomes_within now s _ _ _ (peer_closes p c) q h a = ((q, tt), q)
  becomes_within now s _ _ _ (peer_enters p c) q h a = ((q, tt), q)
  becomes_within now s _ _ _ (peer_hears x slot c fx) q h a = (runs_within x silence true fx _ q (λ _. a q) q, q)
  becomes_within now s _ _ _ (unplugs p r) q h a = ((own_min own p.obj.0 r.obj.0 q.0 q.1, (own_max own p.obj.0 r.obj.0 q.0 q.1, tt)), q)
  becomes_within now s _ _ _ (frees x) q h a = (tt, q)
  becomes_within now s _ _ _ (keeps x) q h a = (tt, tt)
  becomes_within now s _ _ _ (passes p r m e) q h a = ((peer_within own s p r h q e, tt), tt)
  becomes_within now s _ _ _ (leaves p m e) q h a = (tt, tt)
  becomes_within now s _ _ _ (drops p m e) q h a = (tt, q)
  becomes_within now s _ _ _ (returns x l) q h a = (tt, q)
  becomes_within now s _ _ _ (enters_up p m i e) q h a = ((q, tt), q)
  becomes_within now s _ _ _ (enters_down p m i e) q h a = ((q, tt), q)
  becomes_within now s _ _ _ (offered_up p m i e) q h a = ((q, tt), q)
  becomes_within now s _ _ _ (offered_down p m i e) q h a = ((q, tt), q)
  becomes_within now s _ _ _ (refused p m e) q h a = (tt, q)
  becomes_within now s _ _ _ (takes x slot m done fx e) q h a = (runs_within x m done fx _ q (a q) q, q)
  becomes_within now s _ _ _ (takes_down x m done fx) q h a = (runs_within x m done fx _ q (a q) q, q)
  becomes_within now s _ _ _ (drops_rest p m e) q h a = ((q, tt), q)
  becomes_within now s _ _ _ (ends p by) q h a = (each-settles known (IsStageWithin own) by p.obj.0 q, q)
  becomes_within now s _ _ _ (ticks x e) q h a = ((q, tt), q)
  becomes_within now s _ _ _ (takes_time x done fx) q h a = (runs_within x silence done fx _ q (a q) q, q)
  becomes_within now s _ _ _ (ticks_none x e) q h a = (tt, tt)
  becomes_within now s _ _ _ (makes p n x e f i) q h a = absurd q
  becomes_within now s _ _ _ (makes_none p n e) q h a = absurd q
  becomes_within now s _ _ _ (finds_none p n e f) q h a = absurd q
  becomes_within now s _ _ _ (has_begun x n) q h a = absurd q
  becomes_within now s _ _ _ (plugs p r e f) q h a = (tt, q)
  becomes_within now s _ _ _ (made_outside x n e i) q h a = absurd q
  becomes_within now s _ _ _ (held x e) q h a = (tt, q)
  becomes_within now s _ _ _ (let_go x e) q h a = ((q, tt), q)
  becomes_within now s _ _ _ (next after x c i e f) q h a = absurd q
  becomes_within now s _ _ _ (none_left after c f) q h a = absurd q
  becomes_within now s _ _ _ (lets x) q h a = absurd q
  becomes_within now s _ _ _ lets_none q h a = absurd q

  -- so all that happens is theirs
  pub run_within : (now : ℕ) (s t : Scene) (gs : List (Stage N L)) (ds : List (Deed N L)) → AreStagesWithin own gs → AreLinkedWithin own s.port → AllByRecursion (AsksNone own) ds
      → UsesStack known now s gs ds t → AllByRecursion (IsDeedWithin own) ds
  run_within now s t [] [] q h a u = tt
  run_within now s t [] (d ∷ ds) q h a u = absurd u
  run_within now s t (g ∷ gs) [] q h a u = absurd u
  run_within now s t (g ∷ gs) (d ∷ ds) q h a (more, b, u) =
      let z = becomes_within now s g d more b q.0 h a.0 in
      (z.1, run_within now (after_deed d s) t (more ++ gs) ds (each-append known (IsStageWithin own) more gs z.0 q.1) (deed_links own d s z.1 h) a.1 u)
