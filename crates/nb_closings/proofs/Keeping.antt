-- What is true of some objects' ports and traces through all that happens in a call: where an object has ended its ports are
-- closed, or will be, and where a port of it is closed it has ended, or will hear of that.
use Rattle.std.proofs.Common.{inl, inr, ◌≡◌, ◌⊎◌, ℕ, ◌<◌, ◌≤◌, Bool, true, false, List, [], ◌∷◌, ◌++◌, refl, sym, ap, ◌∙◌, subst, arith}
use Rattle.std.specs.List.{AllByRecursion}
use Rattle.nb_ledger.specs.declared.port.Port.{Port}
use Rattle.nb_ledger.specs.declared.port.PortState.{PortState}
use Rattle.nb_ledger.specs.declared.port.PortState.TheVariants as port
use Rattle.nb_ledger.specs.GraphRun.{link_count}
use Rattle.nb_ledger.specs.Ledger.{open_count}
use Rattle.nb_graph.specs.Scene.{Scene, state_at}
use Rattle.nb_graph.specs.Trace.{NodeEntry}
use Rattle.nb_graph.specs.Whole.{port_at}
use Rattle.nb_nodes.specs.declared.load.Load.{Load}
use Rattle.nb_nodes.specs.declared.obj.Obj.{Obj}
use Rattle.nb_frames.specs.Frames.{is_one_of}
use Rattle.nb_closings.specs.Passing.{object_has_ended}
use Rattle.nb_closings.proofs.Joining.{Joins, IsOuter, IsInner, joins_inner, joins_back}
use Rattle.nb_closings.proofs.PlanLemmas.{AnyPlan, any_first, any_later, Plan, WillClose, WillTell, WillUnplug, close_it, shut_it, unplug_them, tell_it, nothing}

abbrev pub IsClosedAt : Scene → Port → Type 0
IsClosedAt s p = open_count (state_at s p) ≡ 0

abbrev pub IsOn : Port → List Port → Type 0
IsOn p [] = ⊥
IsOn p (q ∷ qs) = (p ≡ q) ⊎ IsOn p qs

-- it is closed, or is one of these, which will be by then
abbrev pub IsGone : Scene → List Port → Port → Type 0
IsGone s by p = IsClosedAt s p ⊎ IsOn p by

abbrev pub shut_by : Plan → List Port → List Port
shut_by (close_it p) by = by
shut_by (shut_it p) by = p ∷ by
shut_by (unplug_them p q) by = by
shut_by (tell_it p) by = by
shut_by nothing by = by

pub gone_on : (s t : Scene) (a b : List Port) → ((p : Port) → IsGone s a p → IsGone t b p) → (v : Plan) (p : Port) → IsGone s (shut_by v a) p → IsGone t (shut_by v b) p
gone_on s t a b f (close_it q) p h = f p h
gone_on s t a b f (shut_it q) p (inl h) = elim (f p (inl h)) [ inl i ↦ inl i | inr i ↦ inr (inr i) ]
gone_on s t a b f (shut_it q) p (inr (inl e)) = inr (inl e)
gone_on s t a b f (shut_it q) p (inr (inr h)) = elim (f p (inr h)) [ inl i ↦ inl i | inr i ↦ inr (inr i) ]
gone_on s t a b f (unplug_them q r) p h = f p h
gone_on s t a b f (tell_it q) p h = f p h
gone_on s t a b f nothing p h = f p h

abbrev pub Traces : Type 0
Traces = ℕ → List (NodeEntry Obj Load)

-- closes that an object asks for which has ended, and nothing else
abbrev pub IsPlainPlan : Traces → Plan → Type 0
IsPlainPlan tr (close_it p) = object_has_ended (tr p.obj.0) ≡ true
IsPlainPlan tr (shut_it p) = ⊥
IsPlainPlan tr (unplug_them p q) = ⊥
IsPlainPlan tr (tell_it p) = ⊥
IsPlainPlan tr nothing = Unit {0}

-- Objects of which these were joined; some of them may not hear of a close, since it is asked for from outside; and these
-- ports are to be closed.
module _ (ids : List ℕ) (Exempt : ℕ → Type 0) (Aim : Port → Type 0) where
  -- what is true of what is to be done next, where these are to be closed before it, and this is to be done after it
  abbrev pub Fits : Scene → Traces → List Port → List Plan → Plan → Type 0
  Fits s tr by later (close_it p) = (object_has_ended (tr p.obj.0) ≡ true) ⊎ (Exempt p.obj.0 × (p.slot < 2))
  Fits s tr by later (shut_it q) = (p : Port) × Joins ids p q × IsGone s by p × AnyPlan (WillUnplug q) later
  Fits s tr by later (unplug_them p q) = IsGone s by p × IsGone s by q
  Fits s tr by later (tell_it p) = IsGone s by p
  Fits s tr by later nothing = Unit {0}

  abbrev pub AllFit : Scene → Traces → List Port → List Plan → Type 0
  AllFit s tr by [] = Unit {0}
  AllFit s tr by (v ∷ vs) = Fits s tr by vs v × AllFit s tr (shut_by v by) vs

  fits_on : (s t : Scene) (tr ur : Traces) (a b : List Port) (vs : List Plan) → ((p : Port) → IsGone s a p → IsGone t b p) → ((x : ℕ) → object_has_ended (tr x) ≡ true → object_has_ended (ur x) ≡ true)
      → (v : Plan) → Fits s tr a vs v → Fits t ur b vs v
  fits_on s t tr ur a b vs f g (close_it p) (inl h) = inl (g p.obj.0 h)
  fits_on s t tr ur a b vs f g (close_it p) (inr h) = inr h
  fits_on s t tr ur a b vs f g (shut_it q) (p, j, h, u) = (p, j, f p h, u)
  fits_on s t tr ur a b vs f g (unplug_them p q) (h, i) = (f p h, f q i)
  fits_on s t tr ur a b vs f g (tell_it p) h = f p h
  fits_on s t tr ur a b vs f g nothing h = tt

  pub all_fit_on : (s t : Scene) (tr ur : Traces) (a b : List Port) (vs : List Plan) → ((p : Port) → IsGone s a p → IsGone t b p) → ((x : ℕ) → object_has_ended (tr x) ≡ true → object_has_ended (ur x) ≡ true) → AllFit s tr a vs → AllFit t ur b vs
  all_fit_on s t tr ur a b [] f g h = tt
  all_fit_on s t tr ur a b (v ∷ vs) f g h = (fits_on s t tr ur a b vs f g v h.0, all_fit_on s t tr ur (shut_by v a) (shut_by v b) vs (gone_on s t a b f v) g h.1)

  pub plain_fit : (s : Scene) (tr : Traces) (by : List Port) (vs ws : List Plan) → AllByRecursion (IsPlainPlan tr) vs → AllFit s tr by ws → AllFit s tr by (vs ++ ws)
  plain_fit s tr by [] ws a h = h
  plain_fit s tr by (close_it p ∷ vs) ws a h = (inl a.0, plain_fit s tr by vs ws a.1 h)
  plain_fit s tr by (shut_it p ∷ vs) ws a h = absurd a.0
  plain_fit s tr by (unplug_them p q ∷ vs) ws a h = absurd a.0
  plain_fit s tr by (tell_it p ∷ vs) ws a h = absurd a.0
  plain_fit s tr by (nothing ∷ vs) ws a h = (tt, plain_fit s tr by vs ws a.1 h)

  pub record Kept (s : Scene) (tr : Traces) (vs : List Plan) : Type 0 where
    pub fits : AllFit s tr [] vs
    -- joined ports are linked, or closed, and no others are linked
    pub joined : (p q : Port) → Joins ids p q → (state_at s p ≡ port.Linked q) ⊎ IsClosedAt s p
    pub only : (p q : Port) → is_one_of ids p.obj.0 ≡ true → state_at s p ≡ port.Linked q → Joins ids p q
    pub loose : (p : Port) → is_one_of ids p.obj.0 ≡ true → 2 ≤ p.slot → link_count (state_at s p) ≡ 0
    pub outer : (p : Port) → IsOuter ids p → (state_at s p ≡ port.Open) ⊎ IsClosedAt s p
    pub leaving : (p q : Port) → IsInner ids p → state_at s p ≡ port.Leaving q → AnyPlan (WillUnplug p) vs
    -- where one end of a link is closed, the other one is, or will be
    pub both : (p q : Port) → Joins ids p q → IsClosedAt s p → IsClosedAt s q ⊎ AnyPlan (WillClose q) vs
    pub over : (p : Port) → IsInner ids p → object_has_ended (tr p.obj.0) ≡ true → IsClosedAt s p ⊎ AnyPlan (WillClose p) vs
    pub told : (p : Port) → IsInner ids p → IsClosedAt s p → (object_has_ended (tr p.obj.0) ≡ true) ⊎ (AnyPlan (WillTell p.obj.0) vs ⊎ Exempt p.obj.0)
    pub aims : (p : Port) → Aim p → IsClosedAt s p ⊎ AnyPlan (WillClose p) vs

  -- From there to here: the first thing that was to be done is done, and this is to be done in its place.
  pub record Moves (s t : Scene) (tr ur : Traces) (v : Plan) (more vs : List Plan) : Type 0 where
    pub fits : AllFit t ur [] (more ++ vs)
    pub shut : (p : Port) → IsClosedAt s p → IsClosedAt t p
    pub same : (p : Port) → (state_at t p ≡ state_at s p) ⊎ IsClosedAt t p
    pub loose : (p : Port) → link_count (state_at s p) ≡ 0 → link_count (state_at t p) ≡ 0
    pub ended : (x : ℕ) → object_has_ended (tr x) ≡ true → object_has_ended (ur x) ≡ true
    pub leaving : (p q : Port) → IsInner ids p → state_at t p ≡ port.Leaving q → ((state_at s p ≡ port.Leaving q) × (WillUnplug p v → ⊥)) ⊎ AnyPlan (WillUnplug p) (more ++ vs)
    pub closed : (p : Port) → WillClose p v → IsClosedAt t p
    pub heard : (x : ℕ) → WillTell x v → (object_has_ended (ur x) ≡ true) ⊎ AnyPlan (WillTell x) more
    pub both : (p q : Port) → Joins ids p q → IsClosedAt t p → IsClosedAt s p ⊎ (IsClosedAt t q ⊎ AnyPlan (WillClose q) more)
    pub told : (p : Port) → IsInner ids p → IsClosedAt t p → IsClosedAt s p ⊎ ((object_has_ended (ur p.obj.0) ≡ true) ⊎ (AnyPlan (WillTell p.obj.0) more ⊎ Exempt p.obj.0))
    pub over : (p : Port) → IsInner ids p → object_has_ended (ur p.obj.0) ≡ true → (object_has_ended (tr p.obj.0) ≡ true) ⊎ (IsClosedAt t p ⊎ AnyPlan (WillClose p) more)

  linked_open : (s : Scene) (p q : Port) → state_at s p ≡ port.Linked q → IsClosedAt s p → ⊥
  linked_open s p q e h = let z = sym (ap open_count e) ∙ h in cc

  module _ (s t : Scene) (tr ur : Traces) (v : Plan) (more vs : List Plan) (m : Moves s t tr ur v more vs) (k : Kept s tr (v ∷ vs)) where
    will_close : (p : Port) → AnyPlan (WillClose p) (v ∷ vs) → IsClosedAt t p ⊎ AnyPlan (WillClose p) (more ++ vs)
    will_close p (inl h) = inl (m.closed p h)
    will_close p (inr h) = inr (any_later (WillClose p) more vs h)

    or_close : (p : Port) → IsClosedAt s p ⊎ AnyPlan (WillClose p) (v ∷ vs) → IsClosedAt t p ⊎ AnyPlan (WillClose p) (more ++ vs)
    or_close p (inl h) = inl (m.shut p h)
    or_close p (inr h) = will_close p h

    or_first : (p : Port) → IsClosedAt t p ⊎ AnyPlan (WillClose p) more → IsClosedAt t p ⊎ AnyPlan (WillClose p) (more ++ vs)
    or_first p (inl h) = inl h
    or_first p (inr h) = inr (any_first (WillClose p) more vs h)

    will_tell : (x : ℕ) → AnyPlan (WillTell x) (v ∷ vs) → (object_has_ended (ur x) ≡ true) ⊎ (AnyPlan (WillTell x) (more ++ vs) ⊎ Exempt x)
    will_tell x (inl h) = elim (m.heard x h) [ inl i ↦ inl i | inr i ↦ inr (inl (any_first (WillTell x) more vs i)) ]
    will_tell x (inr h) = inr (inl (any_later (WillTell x) more vs h))

    was_told : (x : ℕ) → (object_has_ended (tr x) ≡ true) ⊎ (AnyPlan (WillTell x) (v ∷ vs) ⊎ Exempt x) → (object_has_ended (ur x) ≡ true) ⊎ (AnyPlan (WillTell x) (more ++ vs) ⊎ Exempt x)
    was_told x (inl h) = inl (m.ended x h)
    was_told x (inr (inl h)) = will_tell x h
    was_told x (inr (inr h)) = inr (inr h)

    is_told : (x : ℕ) → (object_has_ended (ur x) ≡ true) ⊎ (AnyPlan (WillTell x) more ⊎ Exempt x) → (object_has_ended (ur x) ≡ true) ⊎ (AnyPlan (WillTell x) (more ++ vs) ⊎ Exempt x)
    is_told x (inl h) = inl h
    is_told x (inr (inl h)) = inr (inl (any_first (WillTell x) more vs h))
    is_told x (inr (inr h)) = inr (inr h)

    still_leaving : (p : Port) → (WillUnplug p v → ⊥) → AnyPlan (WillUnplug p) (v ∷ vs) → AnyPlan (WillUnplug p) (more ++ vs)
    still_leaving p not (inl h) = absurd (not h)
    still_leaving p not (inr h) = any_later (WillUnplug p) more vs h

    same_or_shut : (p : Port) {P : Type 0} → (state_at s p ≡ state_at t p → P) → (IsClosedAt t p → P) → P
    same_or_shut p f g = elim (m.same p) [ inl e ↦ f (sym e) | inr h ↦ g h ]

    pub moves : Kept t ur (more ++ vs)
    moves = record {
      fits = m.fits;
      joined = λ p q j. same_or_shut p (λ e. elim (k.joined p q j) [ inl l ↦ inl (sym e ∙ l) | inr h ↦ inr (m.shut p h) ]) (λ h. inr h);
      only = λ p q own l. same_or_shut p (λ e. k.only p q own (e ∙ l)) (λ h. absurd (linked_open t p q l h));
      loose = λ p own low. m.loose p (k.loose p own low);
      outer = λ p o. same_or_shut p (λ e. elim (k.outer p o) [ inl l ↦ inl (sym e ∙ l) | inr h ↦ inr (m.shut p h) ]) (λ h. inr h);
      leaving = λ p q i l. elim (m.leaving p q i l) [ inl w ↦ still_leaving p w.1 (k.leaving p q i w.0) | inr h ↦ h ];
      both = λ p q j h. elim (m.both p q j h) [ inl w ↦ or_close q (k.both p q j w) | inr w ↦ or_first q w ];
      over = λ p i h. elim (m.over p i h) [ inl w ↦ or_close p (k.over p i w) | inr w ↦ or_first p w ];
      told = λ p i h. elim (m.told p i h) [ inl w ↦ was_told p.obj.0 (k.told p i w) | inr w ↦ is_told p.obj.0 w ];
      aims = λ p a. or_close p (k.aims p a);
    }
