-- An object is called: where it ends by that, both its ports are closed, or will be.
use Rattle.std.proofs.Common.{inl, inr, ◌≡◌, ◌⊎◌, ℕ, zero, suc, ◌<◌, ◌≤◌, ◌-◌, ◌==◌, ◌||◌, Bool, true, false, not, List, [], ◌∷◌, ◌++◌, length, nat_lt, Option, refl, sym, ap, ◌∙◌, subst, arith, if◌then◌else◌}
use Rattle.std.specs.List.{AllByRecursion}
use Rattle.std.proofs.lemmas.Bool.{cases_eq, eq-eqb, ne_eqb, lt-ltb, le-ltb}
use Rattle.nb_terms.specs.declared.cause.Cause.{Cause}
use Rattle.nb_ledger.specs.declared.port.Port.{Port}
use Rattle.nb_ledger.specs.declared.port.PortState.TheVariants as port
use Rattle.nb_ledger.specs.declared.event.Way.{Way}
use Rattle.nb_effects.specs.declared.effects.Fx.{Fx}
use Rattle.nb_graph.specs.Deeds.{Holds, Stage, runs_of}
use Rattle.nb_graph.specs.Effects.{ClosesSlot}
use Rattle.nb_graph.specs.Scene.{Scene}
use Rattle.nb_graph.specs.Trace.{NodeEntry, Said, closed, regain, silence}
use Rattle.nb_graph.specs.Whole.{port_at}
use Rattle.nb_nodes.specs.declared.load.Load.{Load}
use Rattle.nb_nodes.specs.declared.obj.Obj.{Obj}
use Rattle.nb_nodes.specs.Objects.{obj_nature}
use Rattle.nb_closings.specs.Passing.{ends_object, object_has_ended, ClosesBothOrNone, PassesEndOn}
use Rattle.nb_closings.proofs.TraceLemmas.{ended_more}
use Rattle.nb_closings.proofs.Joining.{IsInner}
use Rattle.nb_closings.proofs.PlanLemmas.{AnyPlan, Plan, WillClose, WillTell, WillUnplug, nothing, tell_it, plans, each_append, runs_any, runs_idle, asked_close, failed_close}
use Rattle.nb_closings.proofs.Keeping.{AllFit, IsClosedAt, IsPlainPlan, Kept, Moves, Traces, all_fit_on, moves, plain_fit, shut_by}

abbrev pub Entry : Type 0
Entry = NodeEntry Obj Load

-- the traces with one entry more of y
abbrev pub with_entry : Traces → ℕ → Entry → Traces
with_entry tr y e = λ x. if x == y then tr x ++ e ∷ [] else tr x

either : (b : Bool) → (b ≡ true) ⊎ (b ≡ false)
either true = inl refl
either false = inr refl

or_first : (a b : Bool) → a ≡ true → (a || b) ≡ true
or_first true b h = refl
or_first false b h = absurd (let z = h in cc)

or_right : (a b : Bool) → b ≡ true → (a || b) ≡ true
or_right true b h = refl
or_right false b h = h

or_other : (a b : Bool) → (a || b) ≡ true → a ≡ false → b ≡ true
or_other true b h k = absurd (let z = k in cc)
or_other false b h k = h

or_off : (a b : Bool) → (a || b) ≡ false → (a ≡ false) × (b ≡ false)
or_off true b h = absurd (let z = h in cc)
or_off false b h = (refl, h)

module _ (tr : Traces) (y : ℕ) (e : Entry) where
  pub entry_there : with_entry tr y e y ≡ tr y ++ e ∷ []
  entry_there = rw (eq-eqb y y refl) refl

  pub entry_ended : object_has_ended (with_entry tr y e y) ≡ (object_has_ended (tr y) || ends_object e)
  entry_ended = ap object_has_ended entry_there ∙ ended_more (tr y) e

  entry_else : (x : ℕ) → (x ≡ y → ⊥) → with_entry tr y e x ≡ tr x
  entry_else x n = rw (ne_eqb x y n) refl

  pub ended_still : (x : ℕ) → object_has_ended (tr x) ≡ true → object_has_ended (with_entry tr y e x) ≡ true
  ended_still x h = elim (cases_eq x y) [
    | inl i ↦ ap (λ z. object_has_ended (with_entry tr y e z)) i ∙ (entry_ended ∙ or_first (object_has_ended (tr y)) (ends_object e) (ap (λ z. object_has_ended (tr z)) (sym i) ∙ h))
    | inr n ↦ ap object_has_ended (entry_else x n) ∙ h
  ]

  -- one that has ended then had before, or is y and ends by this
  pub ended_by : (x : ℕ) → object_has_ended (with_entry tr y e x) ≡ true → (object_has_ended (tr x) ≡ true) ⊎ ((x ≡ y) × (object_has_ended (tr y) ≡ false) × (ends_object e ≡ true))
  ended_by x h = elim (cases_eq x y) [
    | inl i ↦ elim (either (object_has_ended (tr y))) [
      | inl t ↦ inl (ap (λ z. object_has_ended (tr z)) i ∙ t)
      | inr f ↦ inr (i, f, or_other (object_has_ended (tr y)) (ends_object e) (sym entry_ended ∙ (ap (λ z. object_has_ended (with_entry tr y e z)) (sym i) ∙ h)) f)
    ]
    | inr n ↦ inl (sym (ap object_has_ended (entry_else x n)) ∙ h)
  ]

slot_of : (y : ℕ) (p : Port) → p.obj.0 ≡ y → port_at y p.slot ≡ p
slot_of y p e = ap (λ z. port_at z p.slot) (sym e)

module _ (ids : List ℕ) (Exempt : ℕ → Type 0) (Aim : Port → Type 0) (s : Scene) (tr : Traces) (y : ℕ) (e : Entry) where
  -- both ports of y are closed, or will be, where it ends by this entry
  abbrev pub EndsBoth : List Plan → Type 0
  EndsBoth more = object_has_ended (tr y) ≡ false → ends_object e ≡ true → (k : ℕ) → k < 2 → IsClosedAt s (port_at y k) ⊎ AnyPlan (WillClose (port_at y k)) more

  entered_over : (more : List Plan) → EndsBoth more → (p : Port) → IsInner ids p → object_has_ended (with_entry tr y e p.obj.0) ≡ true → (object_has_ended (tr p.obj.0) ≡ true) ⊎ (IsClosedAt s p ⊎ AnyPlan (WillClose p) more)
  entered_over more both p i h = elim (ended_by tr y e p.obj.0 h) [
    | inl w ↦ inl w
    | inr w ↦ inr (subst (λ (q : Port). IsClosedAt s q ⊎ AnyPlan (WillClose q) more) (slot_of y p w.0) (both w.1 w.2 p.slot i.low))
  ]

  entry_moves : (v : Plan) (more vs : List Plan) → shut_by v [] ≡ [] → ((p : Port) → WillClose p v → ⊥) → ((p : Port) → WillUnplug p v → ⊥) → ((x : ℕ) → WillTell x v → object_has_ended (with_entry tr y e x) ≡ true)
      → AllByRecursion (IsPlainPlan (with_entry tr y e)) more → EndsBoth more → Kept ids Exempt Aim s tr (v ∷ vs) → Kept ids Exempt Aim s (with_entry tr y e) (more ++ vs)
  entry_moves v more vs free closes unplugs tells plain both k =
      let ur = with_entry tr y e in
      moves ids Exempt Aim s s tr ur v more vs
      (record {
        fits = plain_fit ids Exempt Aim s ur [] more vs plain (all_fit_on ids Exempt Aim s s tr ur [] [] vs (λ p h. h) (ended_still tr y e) (subst (λ (w : List Port). AllFit ids Exempt Aim s tr w vs) free k.fits.1));
        shut = λ p h. h;
        same = λ p. inl refl;
        loose = λ p h. h;
        ended = ended_still tr y e;
        leaving = λ p q i l. inl (l, unplugs p);
        closed = λ p h. absurd (closes p h);
        heard = λ x h. inl (tells x h);
        both = λ p q j h. inl h;
        told = λ p i h. inl h;
        over = entered_over more both;
      }) k

  -- of an entry of its own, or by a close that it hears of
  pub own_entry : (more vs : List Plan) → AllByRecursion (IsPlainPlan (with_entry tr y e)) more → EndsBoth more → Kept ids Exempt Aim s tr (nothing ∷ vs) → Kept ids Exempt Aim s (with_entry tr y e) (more ++ vs)
  own_entry more vs plain both k = entry_moves nothing more vs refl (λ p h. h) (λ p h. h) (λ x h. absurd h) plain both k

  pub heard_entry : (p : Port) (more vs : List Plan) → p.obj.0 ≡ y → (p.slot < 2 → ends_object e ≡ true) → AllByRecursion (IsPlainPlan (with_entry tr y e)) more → EndsBoth more → Kept ids Exempt Aim s tr (tell_it p ∷ vs)
      → Kept ids Exempt Aim s (with_entry tr y e) (more ++ vs)
  heard_entry p more vs at ends plain both k =
      entry_moves (tell_it p) more vs refl (λ q h. h) (λ q h. h)
      (λ x h. ap (λ z. object_has_ended (with_entry tr y e z)) (sym h.0 ∙ at) ∙ (entry_ended tr y e ∙ or_right (object_has_ended (tr y)) (ends_object e) (ends h.1))) plain both k

-- WHAT IT ASKS FOR

any_plans : (P : Plan → Type 0) (gs hs : List (Stage Obj Load)) → AnyPlan P (plans gs) → AnyPlan P (plans (gs ++ hs))
any_plans P [] hs h = absurd h
any_plans P (g ∷ gs) hs (inl h) = inl h
any_plans P (g ∷ gs) hs (inr h) = inr (any_plans P gs hs h)

no_items : (xs : List (ℕ × Cause)) → nat_lt 0 (length xs) ≡ false → xs ≡ []
no_items [] h = refl
no_items (x ∷ xs) h = absurd (let z = sym h ∙ lt-ltb 0 (length (x ∷ xs)) (omega arith) in cc)

pub any_held : (P : Plan → Type 0) (y : ℕ) (m : Said) (done : Bool) (fx : Fx Obj Load) (g : Stage Obj Load) → AnyPlan P (plans (runs_of obj_nature y m done fx)) → AnyPlan P (plans (runs_of obj_nature y m done fx ++ g ∷ []))
any_held P y m done fx g h = any_plans P (runs_of obj_nature y m done fx) (g ∷ []) h

module _ (tr : Traces) (y : ℕ) (e : Entry) (m : Said) (p : Port) (by : Way) (o : Option Said) where
  abbrev pub Runs : Bool → Fx Obj Load → List (Stage Obj Load)
  Runs done fx = runs_of obj_nature y m done fx ++ Holds p by o ∷ []

  abbrev Plain : Plan → Type 0
  Plain = IsPlainPlan (with_entry tr y e)

  held_plain : (done : Bool) (fx : Fx Obj Load) → AllByRecursion Plain (plans (runs_of obj_nature y m done fx)) → AllByRecursion Plain (plans (Runs done fx))
  held_plain done fx h = each_append obj_nature Plain tt (runs_of obj_nature y m done fx) (Holds p by o ∷ []) h (tt, tt)

  by_done : (done : Bool) (fx : Fx Obj Load) → (done ≡ true) × (fx.closes.items ≡ []) → AllByRecursion Plain (plans (runs_of obj_nature y m done fx))
  by_done true fx h = runs_idle obj_nature Plain tt y m fx h.1
  by_done false fx h = absurd (let z = h.0 in cc)

  -- where y has ended then, it may close its ports; else it closes none
  pub plain_runs : (done : Bool) (fx : Fx Obj Load) → (object_has_ended (with_entry tr y e y) ≡ false → (done ≡ true) × (fx.closes.items ≡ [])) → AllByRecursion Plain (plans (Runs done fx))
  plain_runs done fx idle = elim (either (object_has_ended (with_entry tr y e y))) [
    | inl h ↦ held_plain done fx (runs_any obj_nature Plain tt y m done fx (λ k. h))
    | inr h ↦ held_plain done fx (by_done done fx (idle h))
  ]

-- a message or a time: whether it ends y, and what is closed then
pub goes_idle : (ended done : Bool) (xs : List (ℕ × Cause)) → (ended || (not done || nat_lt 0 (length xs))) ≡ false → (done ≡ true) × (xs ≡ [])
goes_idle true done xs h = absurd (let z = h in cc)
goes_idle false true xs h = (refl, no_items xs h)
goes_idle false false xs h = absurd (let z = h in cc)

close_asked : (y k : ℕ) (m : Said) (fx : Fx Obj Load) → k < 2 → ClosesBothOrNone fx.closes.items → nat_lt 0 (length fx.closes.items) ≡ true → AnyPlan (WillClose (port_at y k)) (plans (runs_of obj_nature y m true fx))
close_asked y k m fx low (inl none) some = absurd (let z = sym some ∙ ap (λ (xs : List (ℕ × Cause)). nat_lt 0 (length xs)) none in cc)
close_asked y zero m fx low (inr both) some = asked_close obj_nature y 0 m fx both.0
close_asked y (suc zero) m fx low (inr both) some = asked_close obj_nature y 1 m fx both.1
close_asked y (suc (suc k)) m fx low (inr both) some = absurd (omega arith)

pub close_ended : (y k : ℕ) (m : Said) (done : Bool) (fx : Fx Obj Load) → k < 2 → (done ≡ true → ClosesBothOrNone fx.closes.items) → (not done || nat_lt 0 (length fx.closes.items)) ≡ true → AnyPlan (WillClose (port_at y k)) (plans (runs_of obj_nature y m done fx))
close_ended y k m true fx low passes ends = close_asked y k m fx low (passes refl) ends
close_ended y k m false fx low passes ends = failed_close obj_nature y k m fx low

-- a close that y hears of: the other port is closed too
pub below_two : (n : ℕ) → nat_lt n 2 ≡ true → n < 2
below_two zero h = omega arith
below_two (suc zero) h = omega arith
below_two (suc (suc n)) h = absurd (let z = sym h ∙ le-ltb (suc (suc n)) 2 (omega arith) in cc)

other_slot : (slot k : ℕ) → slot < 2 → k < 2 → (k ≡ slot) ⊎ (k ≡ 1 - slot)
other_slot slot k h i = elim (cases_eq k slot) [ inl e ↦ inl e | inr n ↦ inr (omega (arith, n)) ]

pub close_passed : (s : Scene) (y slot k : ℕ) (fx : Fx Obj Load) → nat_lt slot 2 ≡ true → k < 2 → IsClosedAt s (port_at y slot) → (slot < 2 → ClosesSlot (1 - slot) fx.closes.items)
    → IsClosedAt s (port_at y k) ⊎ AnyPlan (WillClose (port_at y k)) (plans (runs_of obj_nature y silence true fx))
close_passed s y slot k fx at low gone passes =
    let below : slot < 2 = below_two slot at in
    elim (other_slot slot k below low) [
      | inl e ↦ inl (subst (λ z. IsClosedAt s (port_at y z)) (sym e) gone)
      | inr e ↦ inr (subst (λ z. AnyPlan (WillClose (port_at y z)) (plans (runs_of obj_nature y silence true fx))) (sym e) (asked_close obj_nature y (1 - slot) silence fx (passes below)))
    ]
