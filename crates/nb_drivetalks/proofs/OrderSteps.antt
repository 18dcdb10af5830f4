-- The order of what is told of a call on some objects, where messages leave by slot 1 of the lowest, x, and to the user by slot 0 of the top one.
use Rattle.std.proofs.Common.{inl, inr, ◌≡◌, ◌⊎◌, ◌==◌, ◌&&◌, ℕ, Bool, true, false, List, [], ◌∷◌, ◌++◌, min, max, Option, Some, None, refl, sym, ap, ◌∙◌, subst, arith, if◌then◌else◌}
use Rattle.std.specs.List.{AllByRecursion}
use Rattle.std.proofs.lemmas.Bool.{cases_eq, eq-eqb, ne_eqb}
use Rattle.nb_terms.specs.declared.cause.Cause.{Cause}
use Rattle.nb_ledger.specs.declared.port.Port.{Port}
use Rattle.nb_ledger.specs.declared.port.PortState.TheVariants as port
use Rattle.nb_ledger.specs.declared.event.Way.{Way}
use Rattle.nb_ledger.specs.declared.event.Way.TheVariants as way
use Rattle.nb_ledger.specs.declared.event.GraphEvent.TheVariants.{Entered, Left, Dropped, Closed, Unplugged, Freed}
use Rattle.nb_ledger.specs.Flat.{flat, message}
use Rattle.nb_ledger.specs.Ledger.{open_count}
use Rattle.nb_effects.specs.declared.effects.Fx.{Fx}
use Rattle.nb_graph.specs.Deeds.{Deed, writes, begins, calls, turns, Turn, is_shut, is_full, comes_to, is_reached, is_dead, arrives, goes_out, stays, lets_go, none_held, Stage, Shut, Holds, MustHear, MustShut, MustUnplug, Sends, Settles, Gives, Returns, rest, runs_of, settles_by, told_of}
use Rattle.nb_graph.specs.Follows.{Becomes, UsesStack, after_deed, closes_alone, closes_link, closes_none, peer_closes, peer_enters, peer_hears, unplugs, frees, keeps, passes, leaves, drops, returns, enters_up, enters_down, offered_up, offered_down, refused, takes, takes_down, drops_rest, ends, ticks, takes_time, ticks_none, makes, makes_none, finds_none, has_begun, plugs, made_outside, held, let_go, next, none_left, lets, lets_none}
use Rattle.nb_graph.specs.Scene.{Scene, state_at, after_noted}
use Rattle.nb_graph.specs.Trace.{NodeEntry, Said, silence, up, down, closed, time}
use Rattle.nb_graph.specs.Whole.{port_at}
use Rattle.nb_frames.specs.Frames.{is_one_of}
use Rattle.nb_frames.specs.Within.{AreLinkedWithin, IsStageWithin}
use Rattle.nb_frames.proofs.StageLemmas.{each-append, each-settles}
use Rattle.nb_frames.proofs.WithinLemmas.{AsksNone, becomes_within, deed_links}
use Rattle.nb_nodes.specs.declared.load.Load.{Load}
use Rattle.nb_nodes.specs.declared.obj.Obj.{Obj}
use Rattle.nb_nodes.specs.Objects.{obj_nature}
use Rattle.nb_chains.specs.Shapes.{IsNoCall}
use Rattle.nb_webchains.specs.Orders.{AreNoCalls, LeavesOnEntry, enters_object}
use Rattle.nb_webchains.proofs.Downward.{IsShortBy, NoneOpens, closed_opens, freed_opens, none_changes, unplugged_opens}
use Rattle.nb_drivetalks.specs.Tellings.{goes_up, told_below}
use Rattle.nb_drivetalks.proofs.OrderStages.{AllCalm, CalmStage, EagerStage, Fits, all_calm_later, calm_fits, fits_calm, shut_downs}
use Rattle.nb_drivetalks.proofs.OrderEntries.{EntrySo, Hidden, SaysSo, called_fits, hidden_later}

not_open_at : (v : _) → open_count v ≡ 0 → v ≡ port.Open → ⊥
not_open_at v zero e = let z = sym (ap open_count e) ∙ zero in cc

-- which messages go up
lower_down : (x top : ℕ) → goes_up top (port_at x 1) ≡ false
lower_down x top = by (x == top)
  where
    by : (b : Bool) → (b && false) ≡ false
    by true = refl
    by false = refl

upper_up : (top : ℕ) → goes_up top (port_at top 0) ≡ true
upper_up top = ap (λ b. b && true) (eq-eqb top top refl)

module _ (ids : List ℕ) (top x : ℕ) where
  abbrev flag_after : Bool → Deed Obj Load → Bool
  flag_after flag (writes e) = enters_object x (flat e)
  flag_after flag (begins y n) = flag
  flag_after flag (calls y e) = flag
  flag_after flag (turns u) = flag

  abbrev TurnSo : Bool → Turn → Type 0
  TurnSo flag (is_shut p) = Unit {0}
  TurnSo flag (is_full p) = Unit {0}
  TurnSo flag (comes_to y) = Unit {0}
  TurnSo flag is_reached = Unit {0}
  TurnSo flag (is_dead y) = Unit {0}
  TurnSo flag (arrives p q) = Unit {0}
  TurnSo flag (goes_out p m) = ((flag ≡ true) × (p ≡ port_at x 1)) ⊎ (p ≡ port_at top 0)
  TurnSo flag (stays y) = Unit {0}
  TurnSo flag (lets_go y) = Unit {0}
  TurnSo flag none_held = Unit {0}

  abbrev DeedSo : Bool → Deed Obj Load → Type 0
  DeedSo flag (writes e) = IsNoCall x e
  DeedSo flag (begins y n) = Unit {0}
  DeedSo flag (calls y e) = Unit {0}
  DeedSo flag (turns u) = TurnSo flag u

  -- an entry of one of them is so
  abbrev pub CallSo : Deed Obj Load → Type 0
  CallSo (writes e) = Unit {0}
  CallSo (begins y n) = Unit {0}
  CallSo (calls y e) = is_one_of ids y ≡ true → EntrySo x y e
  CallSo (turns u) = Unit {0}

  record Ordered1 (flag : Bool) (s : Scene) (d : Deed Obj Load) (more gs : List (Stage Obj Load)) : Type 0 where
    pub so : DeedSo flag d
    pub fits : Fits top x (flag_after flag d) (after_deed d s) (more ++ gs)
    pub hidden : Hidden ids top x (after_deed d s)

  -- no call from outside, and the event is no entry of x
  module _ (flag : Bool) (s : Scene) (gs : List (Stage Obj Load)) (hidden : Hidden ids top x s) where
    abbrev Done : Deed Obj Load → List (Stage Obj Load) → Type 0
    Done d more = Ordered1 flag s d more gs

    -- an event, after which all is calm
    event_calm : (t : Scene) → NoneOpens s t → (b : Bool) (more : List (Stage Obj Load)) → AllCalm top x t more → AllCalm top x s gs → Fits top x b t (more ++ gs)
    event_calm t o b more m g = calm_fits top x b t (more ++ gs) (each-append obj_nature (CalmStage top x t) more gs m (all_calm_later top x s t o gs g))

    turned : (u : Turn) (more : List (Stage Obj Load)) → TurnSo flag u → AllCalm top x s more → AllCalm top x s gs → Done (turns u) more
    turned u more so m g = record { so = so; fits = event_calm s (none_changes s) flag more m g; hidden = hidden }

    -- the first of them is a message that is to be given to a node, or one that has to hear of a close
    record Head (here : Bool) (y : ℕ) (short : Type 0) : Type 0 where
      pub calm : AllCalm top x s gs
      pub at : y ≡ x → (here ≡ true) × short

    head_message : (b : Bool) (p : Port) (by : Way) (m : Said) → Fits top x b s (Holds p by (Some m) ∷ gs) → Head b p.obj.0 (IsShortBy by m)
    head_message false p by m h = record { calm = h.1; at = λ e. absurd (h.0 e) }
    head_message true p by m (inl (inl d)) = absurd d.0
    head_message true p by m (inl (inr h)) = record { calm = h.1; at = λ e. absurd (h.0 e) }
    head_message true p by m (inr e) = record { calm = e.1; at = λ _. (refl, e.0.1) }

    head_close : (b : Bool) (p : Port) (c : Cause) → Fits top x b s (MustHear p c ∷ gs) → Head b p.obj.0 (Unit {0})
    head_close false p c h = record { calm = h.1; at = λ e. absurd (h.0 e) }
    head_close true p c (inl (inl d)) = absurd d.0
    head_close true p c (inl (inr h)) = record { calm = h.1; at = λ e. absurd (h.0 e) }
    head_close true p c (inr e) = record { calm = e.1; at = λ _. (refl, tt) }

    -- a node is called
    called : (y k : ℕ) (own : is_one_of ids y ≡ true) (by : Way) (m : Said) (done : Bool) (fx : Fx Obj Load) (o : Option Said) (e : NodeEntry Obj Load) → (done ≡ true → SaysSo fx) → (y ≡ x → o ≡ None) → (y ≡ x → flag ≡ true) → AllCalm top x s gs
        → Done (calls y e) (runs_of obj_nature y m done fx ++ Holds (port_at y k) by o ∷ [])
    called y k own by m done fx o e so none at calm = record { so = tt; fits = called_fits ids top x s hidden y k own by m o gs calm flag done fx so none at; hidden = hidden }

    -- a message leaves, or is dropped
    sent_out : (b : Bool) (p : Port) (m : Said) → state_at s p ≡ port.Open → Fits top x b s (Sends p m ∷ gs) → (((b ≡ true) × (p ≡ port_at x 1)) ⊎ (p ≡ port_at top 0)) × Fits top x b s gs
    sent_out false p m open_one h = (inr (h.0 open_one), h.1)
    sent_out true p m open_one (inl (inl d)) = (inl (refl, d.0), inl d.1)
    sent_out true p m open_one (inl (inr h)) = (inr (h.0 open_one), calm_fits top x true s gs h.1)
    sent_out true p m open_one (inr e) = absurd e.0

    dropped : (b : Bool) (p : Port) (m : Said) → open_count (state_at s p) ≡ 0 → Fits top x b s (Sends p m ∷ gs) → AllCalm top x s gs
    dropped false p m zero h = h.1
    dropped true p m zero (inl (inl d)) = shut_downs top x s (λ e. not_open_at (state_at s p) zero (ap (state_at s) d.0 ∙ e)) gs d.1
    dropped true p m zero (inl (inr h)) = h.1
    dropped true p m zero (inr e) = absurd e.0

    passed : (b : Bool) (p q : Port) (m : Said) → is_one_of ids p.obj.0 ≡ true → state_at s p ≡ port.Linked q → Fits top x b s (Sends p m ∷ gs) → AllCalm top x s (Gives q m ∷ gs)
    passed false p q m own link h = (hidden.leads p.obj.0 p.slot q own link, h.1)
    passed true p q m own link (inl (inl d)) = absurd (let z = hidden.lowest 1 q (ap (state_at s) (sym d.0) ∙ link) in cc)
    passed true p q m own link (inl (inr h)) = (hidden.leads p.obj.0 p.slot q own link, h.1)
    passed true p q m own link (inr e) = absurd e.0

    returned : (b : Bool) (y : ℕ) (l : Load) → Fits top x b s (Returns y l ∷ gs) → Fits top x b s gs
    returned false y l h = h.1
    returned true y l (inl (inl d)) = inl d.1
    returned true y l (inl (inr h)) = calm_fits top x true s gs h.1
    returned true y l (inr e) = absurd e.0

  enters_it : (p : Port) (by : Way) → p.obj.0 ≡ x → enters_object x (flat (Entered p by)) ≡ true
  enters_it p by e = eq-eqb p.obj.0 x e

  enters_other : (p : Port) (by : Way) → (p.obj.0 ≡ x → ⊥) → enters_object x (flat (Entered p by)) ≡ false
  enters_other p by e = ne_eqb p.obj.0 x e

  -- an entry begins
  module _ (s : Scene) (gs : List (Stage Obj Load)) (calm : AllCalm top x s gs) where
    entered : (p : Port) (by : Way) (g : Stage Obj Load) → (p.obj.0 ≡ x → EagerStage top x g) → ((p.obj.0 ≡ x → ⊥) → CalmStage top x s g) → Fits top x (enters_object x (flat (Entered p by))) s (g ∷ gs)
    entered p by g eager else_calm = elim (cases_eq p.obj.0 x) [
      | inl e ↦ subst (λ b. Fits top x b s (g ∷ gs)) (sym (enters_it p by e)) (inr (eager e, calm))
      | inr far ↦ subst (λ b. Fits top x b s (g ∷ gs)) (sym (enters_other p by far)) (else_calm far, calm)
    ]

  none : ⊥ → ⊥
  none e = e

  step : (now : ℕ) (flag : Bool) (s : Scene) (g : Stage Obj Load) (d : Deed Obj Load) (more gs : List (Stage Obj Load)) → Becomes obj_nature now s g d more → IsStageWithin (is_one_of ids) g → CallSo d → Hidden ids top x s → Fits top x flag s (g ∷ gs)
      → Ordered1 flag s d more gs
  step now flag s g _ _ gs (closes_alone p c e) q so i f =
      let calm = fits_calm top x flag s g gs none none f in
      record { so = tt; fits = event_calm flag s gs i (after_noted (Closed p c) s) (closed_opens s p c) (flag_after flag (writes (Closed p c))) [] tt calm.1; hidden = hidden_later ids top x s (after_noted (Closed p c) s) (closed_opens s p c) i }
  step now flag s g _ _ gs (closes_link p r c e) q so i f =
      let calm = fits_calm top x flag s g gs none none f in
      record { so = tt; fits = event_calm flag s gs i (after_noted (Closed p c) s) (closed_opens s p c) (flag_after flag (writes (Closed p c))) (MustShut r c ∷ MustUnplug p r ∷ []) (tt, (tt, tt)) calm.1; hidden = hidden_later ids top x s (after_noted (Closed p c) s) (closed_opens s p c) i }
  step now flag s g _ _ gs (closes_none p c e) q so i f = turned flag s gs i (is_shut p) [] tt tt (fits_calm top x flag s g gs none none f).1
  step now flag s g _ _ gs (peer_closes p c) q so i f =
      let calm = fits_calm top x flag s g gs none none f in
      record { so = tt; fits = event_calm flag s gs i (after_noted (Closed p c) s) (closed_opens s p c) (flag_after flag (writes (Closed p c))) (Shut p c ∷ []) (tt, tt) calm.1; hidden = hidden_later ids top x s (after_noted (Closed p c) s) (closed_opens s p c) i }
  step now flag s g _ _ gs (peer_enters p c) q so i f = record { so = tt; fits = entered s gs (fits_calm top x flag s g gs none none f).1 p way.Close (MustHear p c) (λ e. e) (λ far. far); hidden = i }
  step now flag s _ _ _ gs (peer_hears y slot c fx) q so i f =
      let h = head_close flag s gs i flag (port_at y slot) c f in
      called flag s gs i y slot q way.Close silence true fx None (closed slot c now fx) (λ _. so q) (λ _. refl) (λ e. (h.at e).0) h.calm
  step now flag s g _ _ gs (unplugs p r) q so i f =
      let calm = fits_calm top x flag s g gs none none f in
      record { so = tt; fits = event_calm flag s gs i (after_noted (Unplugged p r) s) (unplugged_opens s p r) (flag_after flag (writes (Unplugged p r))) (Settles (min p.obj.0 r.obj.0) ∷ Settles (max p.obj.0 r.obj.0) ∷ []) (tt, (tt, tt)) calm.1; hidden = hidden_later ids top x s (after_noted (Unplugged p r) s) (unplugged_opens s p r) i }
  step now flag s g _ _ gs (frees y) q so i f =
      let calm = fits_calm top x flag s g gs none none f in
      record { so = tt; fits = event_calm flag s gs i (after_noted (Freed y) s) (freed_opens s y) (flag_after flag (writes (Freed y))) [] tt calm.1; hidden = hidden_later ids top x s (after_noted (Freed y) s) (freed_opens s y) i }
  step now flag s g _ _ gs (keeps y) q so i f = turned flag s gs i (stays y) [] tt tt (fits_calm top x flag s g gs none none f).1
  step now flag s _ _ _ gs (passes p r m e) q so i f = let calm = passed flag s gs i flag p r m q e f in turned flag s gs i (arrives p r) (Gives r m ∷ []) tt (calm.0, tt) calm.1
  step now flag s _ _ _ gs (leaves p m e) q so i f = let z = sent_out flag s gs i flag p m e f in record { so = z.0; fits = z.1; hidden = i }
  step now flag s _ _ _ gs (drops p m e) q so i f = record { so = tt; fits = event_calm flag s gs i s (none_changes s) (flag_after flag (writes (Dropped p))) [] tt (dropped flag s gs i flag p m e f); hidden = i }
  step now flag s _ _ _ gs (returns y l) q so i f = record { so = tt; fits = returned flag s gs i flag y l f; hidden = i }
  step now flag s g _ _ gs (enters_up p m j e) q so i f =
      let calm = fits_calm top x flag s g gs none none f in
      let far : p.obj.0 ≡ x → ⊥ = λ w. let z = calm.0 w in omega (arith, z, j) in
      record { so = far; fits = entered s gs calm.1 p way.Up (Holds p way.Up (Some m)) (λ w. absurd (far w)) (λ w. w); hidden = i }
  step now flag s g _ _ gs (enters_down p m j e) q so i f = record { so = tt; fits = entered s gs (fits_calm top x flag s g gs none none f).1 p way.Down (Holds p way.Down (Some m)) (λ w. (w, tt)) (λ far. far); hidden = i }
  step now flag s g _ _ gs (offered_up p m j e) q so i f = absurd (let calm = fits_calm top x flag s g gs none none f in let z = calm.0.0 in omega (arith, z, j))
  step now flag s g _ _ gs (offered_down p m j e) q so i f =
      let calm = fits_calm top x flag s g gs none none f in
      record { so = tt; fits = entered s gs calm.1 p way.Down (Holds p way.Down (Some m)) (λ w. (w, tt)) (λ far. far); hidden = i }
  step now flag s g _ _ gs (refused p m e) q so i f = record { so = tt; fits = event_calm flag s gs i s (none_changes s) (flag_after flag (writes (Dropped p))) [] tt (fits_calm top x flag s g gs none none f).1; hidden = i }
  step now flag s _ _ _ gs (takes y slot m done fx e) q so i f =
      let h = head_message flag s gs i flag (port_at y slot) way.Up m f in
      let asks = so q in
      called flag s gs i y slot q way.Up m done fx (rest m done fx) (up slot m now done fx) asks.0 (λ w. asks.1 w (h.at w).1) (λ w. (h.at w).0) h.calm
  step now flag s _ _ _ gs (takes_down y m done fx) q so i f =
      let h = head_message flag s gs i flag (port_at y 0) way.Down m f in
      called flag s gs i y 0 q way.Down m done fx None (down m now done fx) (so q) (λ _. refl) (λ w. (h.at w).0) h.calm
  step now flag s _ _ _ gs (drops_rest p m e) q so i f =
      let h = head_message flag s gs i flag p way.Up m f in
      record { so = tt; fits = event_calm flag s gs i s (none_changes s) (flag_after flag (writes (Dropped p))) (Holds p way.Up None ∷ []) (tt, tt) h.calm; hidden = i }
  step now flag s g _ _ gs (ends p by) q so i f =
      record { so = tt; fits = event_calm flag s gs i s (none_changes s) (flag_after flag (writes (Left p))) (settles_by by p.obj.0) (each-settles obj_nature (CalmStage top x s) by p.obj.0 tt) (fits_calm top x flag s g gs none none f).1; hidden = i }
  step now flag s g _ _ gs (ticks y e) q so i f = absurd (fits_calm top x flag s g gs none none f).0
  step now flag s _ _ _ gs (takes_time y done fx) q so i f =
      let h = head_message flag s gs i flag (port_at y 4) way.Time silence f in
      called flag s gs i y 4 q way.Time silence done fx None (time now done fx) (so q) (λ _. refl) (λ w. (h.at w).0) h.calm
  step now flag s g _ _ gs (ticks_none y e) q so i f = absurd (fits_calm top x flag s g gs none none f).0
  step now flag s g _ _ gs (makes p n y e j k) q so i f = absurd (fits_calm top x flag s g gs none none f).0
  step now flag s g _ _ gs (makes_none p n e) q so i f = absurd (fits_calm top x flag s g gs none none f).0
  step now flag s g _ _ gs (finds_none p n e j) q so i f = absurd (fits_calm top x flag s g gs none none f).0
  step now flag s g _ _ gs (has_begun y n) q so i f = absurd (fits_calm top x flag s g gs none none f).0
  step now flag s g _ _ gs (plugs p r e j) q so i f = absurd (fits_calm top x flag s g gs none none f).0
  step now flag s g _ _ gs (made_outside y n e j) q so i f = absurd (fits_calm top x flag s g gs none none f).0
  step now flag s g _ _ gs (held y e) q so i f = absurd (fits_calm top x flag s g gs none none f).0
  step now flag s g _ _ gs (let_go y e) q so i f = absurd (fits_calm top x flag s g gs none none f).0
  step now flag s g _ _ gs (next after y c j e k) q so i f = absurd (fits_calm top x flag s g gs none none f).0
  step now flag s g _ _ gs (none_left after c j) q so i f = absurd (fits_calm top x flag s g gs none none f).0
  step now flag s g _ _ gs (lets y) q so i f = absurd (fits_calm top x flag s g gs none none f).0
  step now flag s g _ _ gs lets_none q so i f = absurd (fits_calm top x flag s g gs none none f).0

  -- what is told of one deed, and of those after it
  abbrev pub TellsSo : Bool → List (Deed Obj Load) → Type 0
  TellsSo flag ds = LeavesOnEntry x flag (told_below top (told_of ds)) × AreNoCalls x (told_of ds)

  tells_first : (flag : Bool) (d : Deed Obj Load) (ds : List (Deed Obj Load)) → DeedSo flag d → TellsSo (flag_after flag d) ds → TellsSo flag (d ∷ ds)
  tells_first flag (writes e) ds so h = (h.0, ((e, refl, so), h.1))
  tells_first flag (begins y n) ds so h = h
  tells_first flag (calls y e) ds so h = h
  tells_first flag (turns (is_shut p)) ds so h = h
  tells_first flag (turns (is_full p)) ds so h = h
  tells_first flag (turns (comes_to y)) ds so h = h
  tells_first flag (turns is_reached) ds so h = h
  tells_first flag (turns (is_dead y)) ds so h = h
  tells_first flag (turns (arrives p q)) ds so h = h
  tells_first flag (turns (goes_out p m)) ds (inl so) h = (subst (LeavesOnEntry x flag) (sym (ap (λ b. if b then told_below top (told_of ds) else message p m.tag m.rec m.a m.b m.bytes ∷ told_below top (told_of ds)) (ap (goes_up top) so.1 ∙ lower_down x top))) (so.0, so.1, h.0), h.1)
  tells_first flag (turns (goes_out p m)) ds (inr up_out) h = (subst (LeavesOnEntry x flag) (sym (ap (λ b. if b then told_below top (told_of ds) else message p m.tag m.rec m.a m.b m.bytes ∷ told_below top (told_of ds)) (ap (goes_up top) up_out ∙ upper_up top))) h.0, h.1)
  tells_first flag (turns (stays y)) ds so h = h
  tells_first flag (turns (lets_go y)) ds so h = h
  tells_first flag (turns none_held) ds so h = h

  pub tells_so : (now : ℕ) (flag : Bool) (s t : Scene) (gs : List (Stage Obj Load)) (ds : List (Deed Obj Load)) → AllByRecursion (IsStageWithin (is_one_of ids)) gs → AreLinkedWithin (is_one_of ids) s.port
      → AllByRecursion (AsksNone (is_one_of ids)) ds
      → AllByRecursion CallSo ds → Hidden ids top x s → Fits top x flag s gs → UsesStack obj_nature now s gs ds t → TellsSo flag ds
  tells_so now flag s t [] [] q h a so i f u = (tt, tt)
  tells_so now flag s t [] (d ∷ ds) q h a so i f u = absurd u
  tells_so now flag s t (g ∷ gs) [] q h a so i f u = absurd u
  tells_so now flag s t (g ∷ gs) (d ∷ ds) q h a so i f (more, b, u) =
      let w = becomes_within obj_nature (is_one_of ids) now s g d more b q.0 h a.0 in
      let z = step now flag s g d more gs b q.0 so.0 i f in
      tells_first flag d ds z.so (tells_so now (flag_after flag d) (after_deed d s) t (more ++ gs) ds (each-append obj_nature (IsStageWithin (is_one_of ids)) more gs w.0 q.1) (deed_links (is_one_of ids) d s w.1 h) a.1 so.1 z.hidden z.fits u)
