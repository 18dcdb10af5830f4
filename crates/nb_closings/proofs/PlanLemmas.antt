-- What is to be done with the ports of some objects, as what stands on the stack says.
use Rattle.std.proofs.Common.{inl, inr, ◌≡◌, ◌⊎◌, ℕ, zero, suc, ◌<◌, ◌==◌, Bool, true, false, List, [], ◌∷◌, ◌++◌, map, length, Option, Some, None, refl, sym, ap, ◌∙◌, subst, arith, if◌then◌else◌}
use Rattle.std.specs.List.{AllByRecursion}
use Rattle.std.proofs.lemmas.Bool.{cases_eq, eq-eqb, ne_eqb}
use Rattle.nb_terms.specs.declared.cause.Cause.{Cause}
use Rattle.nb_ledger.specs.declared.port.Port.{Port}
use Rattle.nb_ledger.specs.declared.port.PortState.{PortState}
use Rattle.nb_ledger.specs.declared.port.PortState.TheVariants as port
use Rattle.nb_ledger.specs.declared.event.Way.{Way}
use Rattle.nb_ledger.specs.declared.event.Way.TheVariants as way
use Rattle.nb_ledger.specs.GraphRun.{port_but}
use Rattle.nb_ledger.specs.Ledger.{open_count}
use Rattle.nb_effects.specs.declared.effects.Fx.{Fx}
use Rattle.nb_effects.specs.declared.effects.Few.{Few}
use Rattle.nb_effects.specs.declared.effects.Emit.{Emit}
use Rattle.nb_effects.specs.declared.effects.Make.{Make}
use Rattle.nb_graph.specs.Effects.{ClosesSlot}
use Rattle.nb_graph.specs.Trace.{Nature, Said, in_list, lent}
use Rattle.nb_graph.specs.Deeds.{Stage, Shut, MustHear, Holds, Makes, MustMake, MustBegin, MustPlug, Closes, MustShut, Ends, Sends, Gives, Offers, Ticks, Returns, Wants, MustUnplug, Settles, LetsAllGo, all_closes, no_memory, closes_of, makes_of, returns_of, emit_of, few_of, runs_of, settles_by}
use Rattle.nb_graph.specs.Whole.{port_at}
use Rattle.nb_nodes.specs.declared.load.Load.{Load}
use Rattle.nb_nodes.specs.declared.obj.Obj.{Obj}

-- a port is to be closed, or to be closed as its peer was; two are to be unplugged; an object is to hear that its port was
-- closed; or nothing of that
pub data Plan : Type 0 where
  close_it : (p : Port) → Plan
  shut_it : (p : Port) → Plan
  unplug_them : (p q : Port) → Plan
  tell_it : (p : Port) → Plan
  nothing : Plan

abbrev pub plan_of : {N L : Type 0} → Stage N L → Plan
plan_of (Shut p c) = tell_it p
plan_of (MustHear p c) = tell_it p
plan_of (Holds p by m) = nothing
plan_of (Makes p n) = nothing
plan_of (MustMake x n) = nothing
plan_of (MustBegin x n) = nothing
plan_of (MustPlug p q) = nothing
plan_of (Closes p c) = close_it p
plan_of (MustShut p c) = shut_it p
plan_of (Ends after c) = nothing
plan_of (Sends p m) = nothing
plan_of (Gives p m) = nothing
plan_of (Offers p m) = nothing
plan_of (Ticks x) = nothing
plan_of (Returns x l) = nothing
plan_of (Wants e) = nothing
plan_of (MustUnplug p q) = unplug_them p q
plan_of (Settles x) = nothing
plan_of LetsAllGo = nothing

abbrev pub plans : {N L : Type 0} → List (Stage N L) → List Plan
plans gs = map plan_of gs

abbrev pub WillClose : Port → Plan → Type 0
WillClose p (close_it q) = q ≡ p
WillClose p (shut_it q) = q ≡ p
WillClose p (unplug_them q r) = ⊥
WillClose p (tell_it q) = ⊥
WillClose p nothing = ⊥

abbrev pub WillTell : ℕ → Plan → Type 0
WillTell x (close_it q) = ⊥
WillTell x (shut_it q) = ⊥
WillTell x (unplug_them q r) = ⊥
WillTell x (tell_it q) = (q.obj.0 ≡ x) × (q.slot < 2)
WillTell x nothing = ⊥

abbrev pub WillUnplug : Port → Plan → Type 0
WillUnplug p (close_it q) = ⊥
WillUnplug p (shut_it q) = ⊥
WillUnplug p (unplug_them q r) = (q ≡ p) ⊎ (r ≡ p)
WillUnplug p (tell_it q) = ⊥
WillUnplug p nothing = ⊥

abbrev pub AnyPlan : (Plan → Type 0) → List Plan → Type 0
AnyPlan P [] = ⊥
AnyPlan P (v ∷ vs) = P v ⊎ AnyPlan P vs

pub any_first : (P : Plan → Type 0) (vs ws : List Plan) → AnyPlan P vs → AnyPlan P (vs ++ ws)
any_first P [] ws h = absurd h
any_first P (v ∷ vs) ws (inl h) = inl h
any_first P (v ∷ vs) ws (inr h) = inr (any_first P vs ws h)

pub any_later : (P : Plan → Type 0) (vs ws : List Plan) → AnyPlan P ws → AnyPlan P (vs ++ ws)
any_later P [] ws h = h
any_later P (v ∷ vs) ws h = inr (any_later P vs ws h)

pub plans_append : {N L : Type 0} (gs hs : List (Stage N L)) → plans (gs ++ hs) ≡ plans gs ++ plans hs
plans_append [] hs = refl
plans_append (g ∷ gs) hs = ap (λ z. plan_of g ∷ z) (plans_append gs hs)

-- PORTS

port_eq : (a p : Port) → a.obj.0 ≡ p.obj.0 → a.slot ≡ p.slot → a ≡ p
port_eq a p e i = ap (λ (z : ℕ). let q : Port = record { obj = record { 0 = z }; slot = a.slot } in q) e ∙ ap (λ (z : ℕ). let q : Port = record { obj = p.obj; slot = z } in q) i

-- the port p is so, and each other one as it was
pub data IsBut (p : Port) (v : PortState) (f : ℕ → ℕ → PortState) (a : Port) : Type 0 where
  at_it : a ≡ p → port_but p v f a.obj.0 a.slot ≡ v → IsBut p v f a
  elsewhere : port_but p v f a.obj.0 a.slot ≡ f a.obj.0 a.slot → IsBut p v f a

pub is_but : (p : Port) (v : PortState) (f : ℕ → ℕ → PortState) (a : Port) → IsBut p v f a
is_but p v f a = elim (cases_eq a.obj.0 p.obj.0) [
  | inl e ↦ elim (cases_eq a.slot p.slot) [
    | inl i ↦ at_it (port_eq a p e i) (rw (eq-eqb a.obj.0 p.obj.0 e, eq-eqb a.slot p.slot i) refl)
    | inr i ↦ elsewhere (rw (eq-eqb a.obj.0 p.obj.0 e, ne_eqb a.slot p.slot i) refl)
  ]
  | inr n ↦ elsewhere (rw (ne_eqb a.obj.0 p.obj.0 n) refl)
]

pub but_there : (p : Port) (v : PortState) (f : ℕ → ℕ → PortState) → port_but p v f p.obj.0 p.slot ≡ v
but_there p v f = rw (eq-eqb p.obj.0 p.obj.0 refl, eq-eqb p.slot p.slot refl) refl

-- WHAT AN ENTRY ASKS FOR

module _ {N L : Type 0} (known : Nature N L) (Q : Plan → Type 0) (free : Q nothing) where
  pub each_append : (gs hs : List (Stage N L)) → AllByRecursion Q (plans gs) → AllByRecursion Q (plans hs) → AllByRecursion Q (plans (gs ++ hs))
  each_append [] hs a b = b
  each_append (g ∷ gs) hs a b = (a.0, each_append gs hs a.1 b)

  each_returns : (x : ℕ) (ls : List L) → AllByRecursion Q (plans (returns_of {N = N} x ls))
  each_returns x [] = tt
  each_returns x (l ∷ ls) = (free, each_returns x ls)

  each_emit : (x : ℕ) (m : Said) (e : Option (Emit L)) → AllByRecursion Q (plans (emit_of known x m e))
  each_emit x m None = tt
  each_emit x m (Some e) = (free, each_returns x (in_list e.load))

  each_few : (x : ℕ) (m : Said) (f : Few (Emit L)) → AllByRecursion Q (plans (few_of known x m f))
  each_few x m f = each_append (emit_of known x m f.first) (emit_of known x m f.second) (each_emit x m f.first) (each_emit x m f.second)

  each_makes : (x : ℕ) (mk : Option (Make N)) → AllByRecursion Q (plans (makes_of {L = L} x mk))
  each_makes x None = tt
  each_makes x (Some mk) = (free, tt)

  each_closes : (x : ℕ) → ((k : ℕ) → Q (close_it (port_at x k))) → (cs : List (ℕ × Cause)) → AllByRecursion Q (plans (closes_of {N = N} {L = L} x cs))
  each_closes x may [] = tt
  each_closes x may (c ∷ cs) = (may c.0, each_closes x may cs)

  no_closes : (x : ℕ) (cs : List (ℕ × Cause)) → cs ≡ [] → AllByRecursion Q (plans (closes_of {N = N} {L = L} x cs))
  no_closes x [] e = tt
  no_closes x (c ∷ cs) e = absurd (let z = e in cc)

  with_closes : (x : ℕ) (m : Said) (fx : Fx N L) → AllByRecursion Q (plans (closes_of {N = N} {L = L} x fx.closes.items)) → AllByRecursion Q (plans (runs_of known x m true fx))
  with_closes x m fx h =
      each_append (makes_of x fx.makes) (few_of known x m fx.downs ++ (few_of known x m fx.ups ++ closes_of x fx.closes.items)) (each_makes x fx.makes)
      (each_append (few_of known x m fx.downs) (few_of known x m fx.ups ++ closes_of x fx.closes.items) (each_few x m fx.downs)
      (each_append (few_of known x m fx.ups) (closes_of x fx.closes.items) (each_few x m fx.ups) h))

  -- an entry that closes nothing, and any entry
  pub runs_idle : (x : ℕ) (m : Said) (fx : Fx N L) → fx.closes.items ≡ [] → AllByRecursion Q (plans (runs_of known x m true fx))
  runs_idle x m fx e = with_closes x m fx (no_closes x fx.closes.items e)

  pub runs_any : (x : ℕ) (m : Said) (done : Bool) (fx : Fx N L) → ((k : ℕ) → Q (close_it (port_at x k))) → AllByRecursion Q (plans (runs_of known x m done fx))
  runs_any x m true fx may = with_closes x m fx (each_closes x may fx.closes.items)
  runs_any x m false fx may = each_append (returns_of x (lent fx)) _ (each_returns x (lent fx)) (may 0, (may 1, (may 2, (may 3, tt))))

module _ {N L : Type 0} (known : Nature N L) where
  any_append : (P : Plan → Type 0) (gs hs : List (Stage N L)) → AnyPlan P (plans hs) → AnyPlan P (plans (gs ++ hs))
  any_append P [] hs h = h
  any_append P (g ∷ gs) hs h = inr (any_append P gs hs h)

  close_in : (x k : ℕ) (cs : List (ℕ × Cause)) → ClosesSlot k cs → AnyPlan (WillClose (port_at x k)) (plans (closes_of {N = N} {L = L} x cs))
  close_in x k [] h = absurd h
  close_in x k (c ∷ cs) (inl e) = inl (ap (port_at x) e)
  close_in x k (c ∷ cs) (inr h) = inr (close_in x k cs h)

  -- a close that an entry asks for
  pub asked_close : (x k : ℕ) (m : Said) (fx : Fx N L) → ClosesSlot k fx.closes.items → AnyPlan (WillClose (port_at x k)) (plans (runs_of known x m true fx))
  asked_close x k m fx h =
      any_append (WillClose (port_at x k)) (makes_of x fx.makes) (few_of known x m fx.downs ++ (few_of known x m fx.ups ++ closes_of x fx.closes.items))
      (any_append (WillClose (port_at x k)) (few_of known x m fx.downs) (few_of known x m fx.ups ++ closes_of x fx.closes.items)
      (any_append (WillClose (port_at x k)) (few_of known x m fx.ups) (closes_of x fx.closes.items) (close_in x k fx.closes.items h)))

  in_all : (x k : ℕ) → k < 2 → AnyPlan (WillClose (port_at x k)) (plans (all_closes {N = N} {L = L} x no_memory))
  in_all x zero low = inl refl
  in_all x (suc zero) low = inr (inl refl)
  in_all x (suc (suc k)) low = absurd (omega arith)

  -- where memory ran out, all are closed
  pub failed_close : (x k : ℕ) (m : Said) (fx : Fx N L) → k < 2 → AnyPlan (WillClose (port_at x k)) (plans (runs_of known x m false fx))
  failed_close x k m fx low = any_append (WillClose (port_at x k)) (returns_of x (lent fx)) (all_closes x no_memory) (in_all x k low)

pub settles_idle : (by : Way) (x : ℕ) → AllByRecursion (λ v. v ≡ nothing) (plans (settles_by {N = Obj} {L = Load} by x))
settles_idle way.Up x = (refl, tt)
settles_idle way.Down x = (refl, tt)
settles_idle way.Time x = (refl, tt)
settles_idle way.Close x = tt
