-- Through all that happens in a call on some objects.
use Rattle.std.proofs.Common.{inl, inr, ◌≡◌, ◌⊎◌, ℕ, ◌<◌, ◌≤◌, ◌==◌, ◌||◌, Bool, true, false, not, List, [], ◌∷◌, ◌++◌, length, nat_lt, Option, Some, None, refl, sym, ap, ◌∙◌, subst, arith, if◌then◌else◌}
use Rattle.std.specs.List.{AllByRecursion}
use Rattle.std.proofs.lemmas.Bool.{lt-ltb}
use Rattle.std.proofs.lemmas.Grind.{common_steps}
use Rattle.nb_terms.specs.declared.cause.Cause.{Cause}
use Rattle.nb_ledger.specs.declared.port.Port.{Port}
use Rattle.nb_ledger.specs.declared.port.PortState.TheVariants as port
use Rattle.nb_ledger.specs.declared.event.Way.{Way}
use Rattle.nb_ledger.specs.declared.event.Way.TheVariants as way
use Rattle.nb_ledger.specs.declared.event.GraphEvent.TheVariants.{Made, Held, LetGo, Plugged, Entered, Left, Dropped, Closed, Unplugged, Freed}
use Rattle.nb_effects.specs.declared.effects.Fx.{Fx}
use Rattle.nb_graph.specs.Trace.{NodeEntry, Said, silence, up, down, closed, time, regain}
use Rattle.nb_graph.specs.Deeds.{Deed, writes, begins, calls, turns, Turn, Stage, Holds, events_of, rest, runs_of, settles_by, trace_after}
use Rattle.nb_graph.specs.Scene.{Scene, state_at, after_noted}
use Rattle.nb_graph.specs.Follows.{Becomes, UsesStack, after_deed, closes_alone, closes_link, closes_none, peer_closes, peer_enters, peer_hears, unplugs, frees, keeps, passes, leaves, drops, returns, enters_up, enters_down, offered_up, offered_down, refused, takes, takes_down, drops_rest, ends, ticks, takes_time, ticks_none, makes, makes_none, finds_none, has_begun, plugs, made_outside, held, let_go, next, none_left, lets, lets_none}
use Rattle.nb_graph.specs.Whole.{port_at}
use Rattle.nb_frames.specs.Frames.{is_one_of}
use Rattle.nb_frames.specs.Within.{AreLinkedWithin, IsPlainStage, IsStageWithin}
use Rattle.nb_frames.proofs.AloneLemmas.{FreesOther}
use Rattle.nb_frames.proofs.StageLemmas.{IsAllowed, each-append, each-runs, each-settles}
use Rattle.nb_frames.proofs.WithinLemmas.{AsksNone, becomes_within, deed_links}
use Rattle.nb_nodes.specs.declared.load.Load.{Load}
use Rattle.nb_nodes.specs.declared.obj.Obj.{Obj}
use Rattle.nb_nodes.specs.Objects.{obj_nature}
use Rattle.nb_closings.specs.Chained.{have_closing, is_closing}
use Rattle.nb_closings.specs.Passing.{ends_object, object_has_ended, ClosesBothOrNone, PassesEndOn}
use Rattle.nb_closings.proofs.Joining.{IsInner, joins_back, joins_inner}
use Rattle.nb_closings.proofs.PlanLemmas.{AnyPlan, Plan, WillClose, close_it, shut_it, unplug_them, tell_it, nothing, plan_of, plans, plans_append}
use Rattle.nb_closings.proofs.Keeping.{IsClosedAt, IsPlainPlan, Kept, Moves, Traces, moves}
use Rattle.nb_closings.proofs.PortSteps.{closed_alone, closed_before, closed_link, closed_peer, closes_there, is_gone, shut_before, stays_closed, unplug_shuts, unplugged}
use Rattle.nb_closings.proofs.EntrySteps.{EndsBoth, Runs, any_held, below_two, close_ended, close_passed, ended_still, entry_ended, goes_idle, heard_entry, own_entry, plain_runs, with_entry}

-- each entry of x passes on, as long as x hasn't ended
abbrev pub AllPass : ℕ → List (NodeEntry Obj Load) → List (Deed Obj Load) → Type 0
AllPass x t [] = Unit {0}
AllPass x t (writes e ∷ ds) = AllPass x t ds
AllPass x t (begins y n ∷ ds) = AllPass x (trace_after x t (begins y n ∷ [])) ds
AllPass x t (calls y e ∷ ds) = (x ≡ y → object_has_ended t ≡ false → PassesEndOn e) × AllPass x (trace_after x t (calls y e ∷ [])) ds
AllPass x t (turns u ∷ ds) = AllPass x t ds

abbrev pub after_traces : Deed Obj Load → Traces → Traces
after_traces (writes e) tr = tr
after_traces (begins y n) tr = λ x. trace_after x (tr x) (begins y n ∷ [])
after_traces (calls y e) tr = with_entry tr y e
after_traces (turns u) tr = tr

abbrev pub traces_after : Traces → List (Deed Obj Load) → Traces
traces_after tr [] = tr
traces_after tr (d ∷ ds) = traces_after (after_traces d tr) ds

-- they are the traces of the objects
pub trace_is : (tr : Traces) (ds : List (Deed Obj Load)) (x : ℕ) → traces_after tr ds x ≡ trace_after x (tr x) ds
trace_is tr [] x = refl
trace_is tr (writes e ∷ ds) x = trace_is tr ds x
trace_is tr (begins y n ∷ ds) x = trace_is (after_traces (begins y n) tr) ds x
trace_is tr (calls y e ∷ ds) x = trace_is (after_traces (calls y e) tr) ds x
trace_is tr (turns u ∷ ds) x = trace_is tr ds x

abbrev pub closing_deed : Deed Obj Load → Bool
closing_deed (writes e) = is_closing e
closing_deed (begins y n) = false
closing_deed (calls y e) = false
closing_deed (turns u) = false

or_off : (a b : Bool) → (a || b) ≡ false → (a ≡ false) × (b ≡ false)
or_off true b h = absurd (let z = h in cc)
or_off false b h = (refl, h)

two_up : (n : ℕ) → nat_lt n 2 ≡ false → 2 ≤ n
two_up n h = grind (arith, common_steps)

have_closing_first : (d : Deed Obj Load) (ds : List (Deed Obj Load)) → have_closing (events_of (d ∷ ds)) ≡ (closing_deed d || have_closing (events_of ds))
have_closing_first (writes e) ds = refl
have_closing_first (begins y n) ds = refl
have_closing_first (calls y e) ds = refl
have_closing_first (turns u) ds = refl

abbrev pub DeedPasses : Traces → (ℕ → Bool) → Deed Obj Load → Type 0
DeedPasses tr own (writes e) = Unit {0}
DeedPasses tr own (begins x n) = Unit {0}
DeedPasses tr own (calls x e) = own x ≡ true → object_has_ended (tr x) ≡ false → PassesEndOn e
DeedPasses tr own (turns u) = Unit {0}

deed_passes : (tr : Traces) (own : ℕ → Bool) (d : Deed Obj Load) (ds : List (Deed Obj Load)) → ((x : ℕ) → own x ≡ true → AllPass x (tr x) (d ∷ ds)) → DeedPasses tr own d
deed_passes tr own (writes e) ds h = tt
deed_passes tr own (begins y n) ds h = tt
deed_passes tr own (calls y e) ds h = λ o. (h y o).0 refl
deed_passes tr own (turns u) ds h = tt

later_pass : (tr : Traces) (own : ℕ → Bool) (d : Deed Obj Load) (ds : List (Deed Obj Load)) → ((x : ℕ) → own x ≡ true → AllPass x (tr x) (d ∷ ds)) → (x : ℕ) → own x ≡ true → AllPass x (after_traces d tr x) ds
later_pass tr own (writes e) ds h x o = h x o
later_pass tr own (begins y n) ds h x o = h x o
later_pass tr own (calls y e) ds h x o = (h x o).1
later_pass tr own (turns u) ds h x o = h x o

module _ (ids : List ℕ) (Exempt : ℕ → Type 0) (Aim : Port → Type 0) where
  -- a port of theirs is closed, or one of them has ended
  abbrev pub Ruined : Scene → Traces → Type 0
  Ruined s tr = (p : Port) × IsInner ids p × (IsClosedAt s p ⊎ (object_has_ended (tr p.obj.0) ≡ true))

  pub record Stepped (s : Scene) (tr : Traces) (d : Deed Obj Load) (more gs : List (Stage Obj Load)) : Type 0 where
    pub kept : Kept ids Exempt Aim (after_deed d s) (after_traces d tr) (plans (more ++ gs))
    pub plain : AllByRecursion IsPlainStage more
    pub ruins : closing_deed d ≡ true → Ruined (after_deed d s) (after_traces d tr)
    pub still : closing_deed d ≡ false → (p : Port) → IsClosedAt (after_deed d s) p → IsClosedAt s p
    pub shut : (p : Port) → IsClosedAt s p → IsClosedAt (after_deed d s) p
    pub ended : (x : ℕ) → object_has_ended (tr x) ≡ true → object_has_ended (after_traces d tr x) ≡ true

  module _ (s : Scene) (tr : Traces) (gs : List (Stage Obj Load)) where
    -- what is done first is nothing with a port
    pop : (vs : List Plan) → Kept ids Exempt Aim s tr (nothing ∷ vs) → Kept ids Exempt Aim s tr vs
    pop vs k = moves ids Exempt Aim s s tr tr nothing [] vs (record {
      fits = k.fits.1;
      shut = λ p h. h;
      same = λ p. inl refl;
      loose = λ p h. h;
      ended = λ x h. h;
      leaving = λ p q i l. inl (l, (λ h. h));
      closed = λ p h. absurd h;
      heard = λ x h. absurd h;
      both = λ p q j h. inl h;
      told = λ p i h. inl h;
      over = λ p i h. inl h;
    }) k

    push_told : (x : ℕ) (vs : List Plan) (P Q : Type 0) (R : Plan → Type 0) → P ⊎ (AnyPlan R vs ⊎ Q) → P ⊎ (AnyPlan R (nothing ∷ vs) ⊎ Q)
    push_told x vs P Q R (inl h) = inl h
    push_told x vs P Q R (inr (inl h)) = inr (inl (inr h))
    push_told x vs P Q R (inr (inr h)) = inr (inr h)

    push_close : (vs : List Plan) (P : Type 0) (R : Plan → Type 0) → P ⊎ AnyPlan R vs → P ⊎ AnyPlan R (nothing ∷ vs)
    push_close vs P R (inl h) = inl h
    push_close vs P R (inr h) = inr (inr h)

    push : (vs : List Plan) → Kept ids Exempt Aim s tr vs → Kept ids Exempt Aim s tr (nothing ∷ vs)
    push vs k = record {
      fits = (tt, k.fits);
      joined = k.joined;
      only = k.only;
      loose = k.loose;
      outer = k.outer;
      leaving = λ p q i l. inr (k.leaving p q i l);
      both = λ p q j h. push_close vs _ _ (k.both p q j h);
      over = λ p i h. push_close vs _ _ (k.over p i h);
      told = λ p i h. push_told p.obj.0 vs _ _ _ (k.told p i h);
      aims = λ p a. push_close vs _ _ (k.aims p a);
    }

    turn_rests : (u : Turn) (more : List (Stage Obj Load)) → AllByRecursion IsPlainStage more → Kept ids Exempt Aim s tr (plans (more ++ gs)) → Stepped s tr (turns u) more gs
    turn_rests u more plain k = record { kept = k; plain = plain; ruins = λ h. absurd (let z = h in cc); still = λ _ p h. h; shut = λ p h. h; ended = λ x h. h }

    enter_rests : (p : Port) (by : Way) (more : List (Stage Obj Load)) → AllByRecursion IsPlainStage more → Kept ids Exempt Aim s tr (plans (more ++ gs)) → Stepped s tr (writes (Entered p by)) more gs
    enter_rests p by more plain k = record { kept = k; plain = plain; ruins = λ h. absurd (let z = h in cc); still = λ _ p h. h; shut = λ p h. h; ended = λ x h. h }

    leave_rests : (p : Port) (more : List (Stage Obj Load)) → AllByRecursion IsPlainStage more → Kept ids Exempt Aim s tr (plans (more ++ gs)) → Stepped s tr (writes (Left p)) more gs
    leave_rests p more plain k = record { kept = k; plain = plain; ruins = λ h. absurd (let z = h in cc); still = λ _ p h. h; shut = λ p h. h; ended = λ x h. h }

    drop_rests : (p : Port) (more : List (Stage Obj Load)) → AllByRecursion IsPlainStage more → Kept ids Exempt Aim s tr (plans (more ++ gs)) → Stepped s tr (writes (Dropped p)) more gs
    drop_rests p more plain k = record { kept = k; plain = plain; ruins = λ h. absurd (let z = h in cc); still = λ _ p h. h; shut = λ p h. h; ended = λ x h. h }

    -- an entry
    calls_rest : (y : ℕ) (e : NodeEntry Obj Load) (more : List (Stage Obj Load)) → AllByRecursion IsPlainStage more → Kept ids Exempt Aim s (with_entry tr y e) (plans more ++ plans gs) → Stepped s tr (calls y e) more gs
    calls_rest y e more plain k = record {
      kept = subst (λ (vs : List Plan). Kept ids Exempt Aim s (with_entry tr y e) vs) (sym (plans_append more gs)) k;
      plain = plain;
      ruins = λ h. absurd (let z = h in cc);
      still = λ _ p h. h;
      shut = λ p h. h;
      ended = ended_still tr y e;
    }

    allowed : (x : ℕ) → IsAllowed obj_nature (IsPlainStage {N = Obj} {L = Load}) x
    allowed x = record { closes = λ k c. tt; sends = λ k m. tt; returns = λ l. tt }

    plain_stages : (x : ℕ) (m : Said) (done : Bool) (fx : Fx Obj Load) (p : Port) (by : Way) (o : Option Said) → (done ≡ true → fx.makes ≡ None) → AllByRecursion IsPlainStage (runs_of obj_nature x m done fx ++ Holds p by o ∷ [])
    plain_stages x m done fx p by o none = each-append obj_nature IsPlainStage _ (Holds p by o ∷ []) (each-runs obj_nature IsPlainStage x (allowed x) m done fx none) (tt, tt)

    held_too : (y k : ℕ) (fx : Fx Obj Load) (g : Stage Obj Load) → IsClosedAt s (port_at y k) ⊎ AnyPlan (WillClose (port_at y k)) (plans (runs_of obj_nature y silence true fx))
        → IsClosedAt s (port_at y k) ⊎ AnyPlan (WillClose (port_at y k)) (plans (runs_of obj_nature y silence true fx ++ g ∷ []))
    held_too y k fx g (inl h) = inl h
    held_too y k fx g (inr h) = inr (any_held (WillClose (port_at y k)) y silence true fx g h)

    -- an entry by a message or a time
    abbrev EntryEnds : NodeEntry Obj Load → Bool → Fx Obj Load → Type 0
    EntryEnds e done fx = ends_object e ≡ (not done || nat_lt 0 (length fx.closes.items))

    called : (y : ℕ) (e : NodeEntry Obj Load) (m : Said) (done : Bool) (fx : Fx Obj Load) (p : Port) (by : Way) (o : Option Said) → EntryEnds e done fx → (done ≡ true → fx.makes ≡ None)
        → (object_has_ended (tr y) ≡ false → done ≡ true → ClosesBothOrNone fx.closes.items) → Kept ids Exempt Aim s tr (nothing ∷ plans gs) → Stepped s tr (calls y e) (runs_of obj_nature y m done fx ++ Holds p by o ∷ []) gs
    called y e m done fx p by o is none pass k =
        calls_rest y e (runs_of obj_nature y m done fx ++ Holds p by o ∷ []) (plain_stages y m done fx p by o none)
        (own_entry ids Exempt Aim s tr y e (plans (runs_of obj_nature y m done fx ++ Holds p by o ∷ [])) (plans gs)
        (plain_runs tr y e m p by o done fx (λ h. goes_idle (object_has_ended (tr y)) done fx.closes.items (sym (entry_ended tr y e ∙ ap (λ z. object_has_ended (tr y) || z) is) ∙ h)))
        (λ f t slot low. inr (any_held (WillClose (port_at y slot)) y m done fx (Holds p by o) (close_ended y slot m done fx low (pass f) (sym is ∙ t)))) k)

    -- and by a close
    hears : (y slot : ℕ) (c : Cause) (now : ℕ) (fx : Fx Obj Load) → fx.makes ≡ None → (object_has_ended (tr y) ≡ false → PassesEndOn (closed slot c now fx)) → Kept ids Exempt Aim s tr (tell_it (port_at y slot) ∷ plans gs)
        → Stepped s tr (calls y (closed slot c now fx)) (runs_of obj_nature y silence true fx ++ Holds (port_at y slot) way.Close None ∷ []) gs
    hears y slot c now fx none pass k =
        let e : NodeEntry Obj Load = closed slot c now fx in
        calls_rest y e (runs_of obj_nature y silence true fx ++ Holds (port_at y slot) way.Close None ∷ []) (plain_stages y silence true fx (port_at y slot) way.Close None (λ _. none))
        (heard_entry ids Exempt Aim s tr y e (port_at y slot) (plans (runs_of obj_nature y silence true fx ++ Holds (port_at y slot) way.Close None ∷ [])) (plans gs) refl (λ low. lt-ltb slot 2 low)
        (plain_runs tr y e silence (port_at y slot) way.Close None true fx (λ h. let z = or_off (object_has_ended (tr y)) (nat_lt slot 2) (sym (entry_ended tr y e) ∙ h) in (refl, (pass z.0).1 (two_up slot z.1))))
        (λ f t k' low. held_too y k' fx (Holds (port_at y slot) way.Close None) (close_passed s y slot k' fx t low (is_gone ids Exempt Aim s tr (plans gs) (port_at y slot) k.fits.0) (pass f).0)) k)

  close_ruins : (s : Scene) (tr : Traces) (gs : List (Stage Obj Load)) (p : Port) (c : Cause) → is_one_of ids p.obj.0 ≡ true → Kept ids Exempt Aim s tr (close_it p ∷ plans gs) → Ruined (after_noted (Closed p c) s) tr
  close_ruins s tr gs p c own k = elim k.fits.0 [
    | inl h ↦ (port_at p.obj.0 0, record { own = own; low = omega arith }, inr h)
    | inr h ↦ (p, record { own = own; low = h.1 }, inl (closes_there s p c))
  ]

  settled : (by : Way) (s : Scene) (tr : Traces) (gs : List (Stage Obj Load)) (x : ℕ) → Kept ids Exempt Aim s tr (nothing ∷ plans gs) → Kept ids Exempt Aim s tr (plans (settles_by by x ++ gs))
  settled way.Up s tr gs x k = k
  settled way.Down s tr gs x k = k
  settled way.Time s tr gs x k = k
  settled way.Close s tr gs x k = pop s tr gs _ k

  -- one thing happens, first of all that is to be done
  pub step : (now : ℕ) (s : Scene) (tr : Traces) (g : Stage Obj Load) (d : Deed Obj Load) (more gs : List (Stage Obj Load)) → Becomes obj_nature now s g d more → IsStageWithin (is_one_of ids) g → IsPlainStage g
      → AsksNone (is_one_of ids) d → FreesOther (is_one_of ids) d → DeedPasses tr (is_one_of ids) d → Kept ids Exempt Aim s tr (plan_of g ∷ plans gs) → Stepped s tr d more gs
  step now s tr _ _ _ gs (closes_alone p c e) q i a f pass k = record {
    kept = closed_alone ids Exempt Aim s tr (plans gs) p c e k;
    plain = tt;
    ruins = λ _. close_ruins s tr gs p c q k;
    still = λ h. absurd (let z = h in cc);
    shut = stays_closed s p c;
    ended = λ x h. h;
  }
  step now s tr _ _ _ gs (closes_link p r c e) q i a f pass k = record {
    kept = closed_link ids Exempt Aim s tr (plans gs) p r c q e k;
    plain = (tt, (tt, tt));
    ruins = λ _. close_ruins s tr gs p c q k;
    still = λ h. absurd (let z = h in cc);
    shut = stays_closed s p c;
    ended = λ x h. h;
  }
  step now s tr _ _ _ gs (closes_none p c e) q i a f pass k = turn_rests s tr gs _ [] tt (closed_before ids Exempt Aim s tr (plans gs) p e k)
  step now s tr _ _ _ gs (peer_closes p c) q i a f pass k = record {
    kept = closed_peer ids Exempt Aim s tr (plans gs) p c k;
    plain = (tt, tt);
    ruins = λ _. (p, joins_inner ids p k.fits.0.0 (joins_back ids k.fits.0.0 p k.fits.0.1), inl (closes_there s p c));
    still = λ h. absurd (let z = h in cc);
    shut = stays_closed s p c;
    ended = λ x h. h;
  }
  step now s tr _ _ _ gs (peer_enters p c) q i a f pass k = enter_rests s tr gs p way.Close _ (tt, tt) k
  step now s tr _ _ _ gs (peer_hears x slot c fx) q i a f pass k = hears s tr gs x slot c now fx (a q) (pass q) k
  step now s tr _ _ _ gs (unplugs p r) q i a f pass k = record {
    kept = push (after_noted (Unplugged p r) s) tr gs _ (push (after_noted (Unplugged p r) s) tr gs _ (unplugged ids Exempt Aim s tr (plans gs) p r k));
    plain = (tt, (tt, tt));
    ruins = λ h. absurd (let z = h in cc);
    still = λ _ y h. shut_before ids Exempt Aim s tr (plans gs) p r y (is_gone ids Exempt Aim s tr (plans gs) p k.fits.0.0) (is_gone ids Exempt Aim s tr (plans gs) r k.fits.0.1) h;
    shut = unplug_shuts ids Exempt Aim s tr (plans gs) p r;
    ended = λ x h. h;
  }
  step now s tr _ _ _ gs (frees x) q i a f pass k = absurd (f x.0 q refl)
  step now s tr _ _ _ gs (keeps x) q i a f pass k = turn_rests s tr gs _ [] tt (pop s tr gs _ k)
  step now s tr _ _ _ gs (passes p r m e) q i a f pass k = turn_rests s tr gs _ _ (tt, tt) k
  step now s tr _ _ _ gs (leaves p m e) q i a f pass k = turn_rests s tr gs _ [] tt (pop s tr gs _ k)
  step now s tr _ _ _ gs (drops p m e) q i a f pass k = drop_rests s tr gs p [] tt (pop s tr gs _ k)
  step now s tr _ _ _ gs (returns x l) q i a f pass k = calls_rest s tr gs x (regain l) [] tt (own_entry ids Exempt Aim s tr x (regain l) [] (plans gs) tt (λ _ h. absurd (let z = h in cc)) k)
  step now s tr _ _ _ gs (enters_up p m j e) q i a f pass k = enter_rests s tr gs p way.Up _ (tt, tt) k
  step now s tr _ _ _ gs (enters_down p m j e) q i a f pass k = enter_rests s tr gs p way.Down _ (tt, tt) k
  step now s tr _ _ _ gs (offered_up p m j e) q i a f pass k = enter_rests s tr gs p way.Up _ (tt, tt) k
  step now s tr _ _ _ gs (offered_down p m j e) q i a f pass k = enter_rests s tr gs p way.Down _ (tt, tt) k
  step now s tr _ _ _ gs (refused p m e) q i a f pass k = drop_rests s tr gs p [] tt (pop s tr gs _ k)
  step now s tr _ _ _ gs (takes x slot m done fx e) q i a f pass k = called s tr gs x (up slot m now done fx) m done fx (port_at x slot) way.Up (rest m done fx) refl (a q) (pass q) k
  step now s tr _ _ _ gs (takes_down x m done fx) q i a f pass k = called s tr gs x (down m now done fx) m done fx (port_at x 0) way.Down None refl (a q) (pass q) k
  step now s tr _ _ _ gs (drops_rest p m e) q i a f pass k = drop_rests s tr gs p _ (tt, tt) k
  step now s tr _ _ _ gs (ends p by) q i a f pass k = leave_rests s tr gs p _ (each-settles obj_nature IsPlainStage by p.obj.0 tt) (settled by s tr gs p.obj.0 k)
  step now s tr _ _ _ gs (ticks x e) q i a f pass k = enter_rests s tr gs (port_at x 4) way.Time _ (tt, tt) k
  step now s tr _ _ _ gs (takes_time x done fx) q i a f pass k = called s tr gs x (time now done fx) silence done fx (port_at x 4) way.Time None refl (a q) (pass q) k
  step now s tr _ _ _ gs (ticks_none x e) q i a f pass k = turn_rests s tr gs _ [] tt (pop s tr gs _ k)
  step now s tr _ _ _ gs (makes p n x e g j) q i a f pass k = absurd i
  step now s tr _ _ _ gs (makes_none p n e) q i a f pass k = absurd i
  step now s tr _ _ _ gs (finds_none p n e g) q i a f pass k = absurd i
  step now s tr _ _ _ gs (has_begun x n) q i a f pass k = absurd i
  step now s tr _ _ _ gs (plugs p r e g) q i a f pass k = absurd i
  step now s tr _ _ _ gs (made_outside x n e j) q i a f pass k = absurd i
  step now s tr _ _ _ gs (held x e) q i a f pass k = absurd i
  step now s tr _ _ _ gs (let_go x e) q i a f pass k = absurd i
  step now s tr _ _ _ gs (next after x c j e g) q i a f pass k = absurd i
  step now s tr _ _ _ gs (none_left after c g) q i a f pass k = absurd i
  step now s tr _ _ _ gs (lets x) q i a f pass k = absurd i
  step now s tr _ _ _ gs lets_none q i a f pass k = absurd i

  -- so through the whole call
  pub record Ran (s t : Scene) (tr : Traces) (ds : List (Deed Obj Load)) : Type 0 where
    pub kept : Kept ids Exempt Aim t (traces_after tr ds) []
    pub ruins : have_closing (events_of ds) ≡ true → Ruined t (traces_after tr ds)
    pub ruined : Ruined s tr → Ruined t (traces_after tr ds)
    pub still : have_closing (events_of ds) ≡ false → (p : Port) → IsClosedAt t p → IsClosedAt s p

  ruined_on : (s : Scene) (tr : Traces) (d : Deed Obj Load) (more gs : List (Stage Obj Load)) → Stepped s tr d more gs → Ruined s tr → Ruined (after_deed d s) (after_traces d tr)
  ruined_on s tr d more gs z (p, i, inl h) = (p, i, inl (z.shut p h))
  ruined_on s tr d more gs z (p, i, inr h) = (p, i, inr (z.ended p.obj.0 h))

  first_or_later : {s t : Scene} {tr : Traces} {d : Deed Obj Load} {ds : List (Deed Obj Load)} {more gs : List (Stage Obj Load)} (b : Bool) → closing_deed d ≡ b → Stepped s tr d more gs → Ran (after_deed d s) t (after_traces d tr) ds
      → (b || have_closing (events_of ds)) ≡ true → Ruined t (traces_after tr (d ∷ ds))
  first_or_later true e z r h = r.ruined (z.ruins e)
  first_or_later false e z r h = r.ruins h

  pub run : (now : ℕ) (s t : Scene) (tr : Traces) (gs : List (Stage Obj Load)) (ds : List (Deed Obj Load)) → AllByRecursion (IsStageWithin (is_one_of ids)) gs → AllByRecursion IsPlainStage gs → AreLinkedWithin (is_one_of ids) s.port
      → AllByRecursion (AsksNone (is_one_of ids)) ds → AllByRecursion (FreesOther (is_one_of ids)) ds → ((x : ℕ) → is_one_of ids x ≡ true → AllPass x (tr x) ds) → UsesStack obj_nature now s gs ds t
      → Kept ids Exempt Aim s tr (plans gs) → Ran s t tr ds
  run now s t tr [] [] q i h a f pass u k = record {
    kept = subst (λ (z : Scene). Kept ids Exempt Aim z tr []) u k;
    ruins = λ w. absurd (let z = w in cc);
    ruined = λ w. subst (λ (z : Scene). Ruined z tr) u w;
    still = λ w p c. subst (λ (z : Scene). IsClosedAt z p) (sym u) c;
  }
  run now s t tr [] (d ∷ ds) q i h a f pass u k = absurd u
  run now s t tr (g ∷ gs) [] q i h a f pass u k = absurd u
  run now s t tr (g ∷ gs) (d ∷ ds) q i h a f pass (more, b, u) k =
      let w = becomes_within obj_nature (is_one_of ids) now s g d more b q.0 h a.0 in
      let z = step now s tr g d more gs b q.0 i.0 a.0 f.0 (deed_passes tr (is_one_of ids) d ds pass) k in
      let r = run now (after_deed d s) t (after_traces d tr) (more ++ gs) ds (each-append obj_nature (IsStageWithin (is_one_of ids)) more gs w.0 q.1) (each-append obj_nature IsPlainStage more gs z.plain i.1)
      (deed_links (is_one_of ids) d s w.1 h) a.1 f.1 (later_pass tr (is_one_of ids) d ds pass) u z.kept in
      record {
        kept = r.kept;
        ruins = λ c. first_or_later (closing_deed d) refl z r (sym (have_closing_first d ds) ∙ c);
        ruined = λ c. r.ruined (ruined_on s tr d more gs z c);
        still = λ c p l. let o = or_off (closing_deed d) (have_closing (events_of ds)) (sym (have_closing_first d ds) ∙ c) in z.still o.0 p (r.still o.1 p l);
      }
