-- What is left where nothing more is to be done: all the ports of some joined objects are closed, or none is.
use Rattle.std.proofs.Common.{inl, inr, ◌≡◌, ◌⊎◌, ℕ, ◌<◌, Bool, true, false, List, [], ◌∷◌, refl, sym, ap, ◌∙◌, subst, arith}
use Rattle.nb_ledger.specs.declared.port.Port.{Port}
use Rattle.nb_ledger.specs.declared.port.PortState.{PortState}
use Rattle.nb_ledger.specs.declared.port.PortState.TheVariants as port
use Rattle.nb_ledger.specs.Ledger.{open_count}
use Rattle.nb_graph.specs.Scene.{Scene, state_at}
use Rattle.nb_graph.specs.Whole.{port_at}
use Rattle.nb_frames.specs.Frames.{is_one_of}
use Rattle.nb_closings.specs.Chained.{IsOpenThrough, IsPluggedDown, IsShutThrough}
use Rattle.nb_closings.specs.Passing.{object_has_ended}
use Rattle.nb_closings.proofs.Joining.{IsInner, Joins, first_in, last_after, later_in}
use Rattle.nb_closings.proofs.Keeping.{IsClosedAt, Kept, Traces}
use Rattle.nb_closings.proofs.PlanLemmas.{AnyPlan, Plan, WillClose}
use Rattle.nb_closings.proofs.Beginning.{one_first}

either : (b : Bool) → (b ≡ true) ⊎ (b ≡ false)
either true = inl refl
either false = inr refl

no_plan : (P : Type 0) (R : Plan → Type 0) → P ⊎ AnyPlan R [] → P
no_plan P R (inl h) = h
no_plan P R (inr h) = absurd h

not_both : {P : Type 0} (b : Bool) → b ≡ true → b ≡ false → P
not_both b h k = absurd (let z = sym h ∙ k in cc)

module _ (ids : List ℕ) (Exempt : ℕ → Type 0) (Aim : Port → Type 0) (t : Scene) (tr : Traces) (k : Kept ids Exempt Aim t tr []) where
  -- what is closed has no link to be unplugged
  by_state : (p : Port) (v : PortState) → IsInner ids p → state_at t p ≡ v → open_count v ≡ 0 → state_at t p ≡ port.Closed
  by_state p port.Open i e h = absurd (let z = h in cc)
  by_state p (port.Linked q) i e h = absurd (let z = h in cc)
  by_state p (port.Leaving q) i e h = absurd (k.leaving p q i e)
  by_state p port.Closed i e h = e

  closed_now : (p : Port) → IsInner ids p → IsClosedAt t p → state_at t p ≡ port.Closed
  closed_now p i h = by_state p (state_at t p) i refl h

  inner : (y slot : ℕ) → is_one_of ids y ≡ true → slot < 2 → IsInner ids (port_at y slot)
  inner y slot own low = record { own = own; low = low }

  over_now : (y slot : ℕ) → is_one_of ids y ≡ true → slot < 2 → object_has_ended (tr y) ≡ true → IsClosedAt t (port_at y slot)
  over_now y slot own low h = no_plan (IsClosedAt t (port_at y slot)) (WillClose (port_at y slot)) (k.over (port_at y slot) (inner y slot own low) h)

  both_now : (p q : Port) → Joins ids p q → IsClosedAt t p → IsClosedAt t q
  both_now p q j h = no_plan (IsClosedAt t q) (WillClose q) (k.both p q j h)

  -- these are some of them, from y on
  pub record AreSome (y : ℕ) (ys : List ℕ) : Type 0 where
    pub joins : (p q : Port) → Joins (y ∷ ys) p q → Joins ids p q
    pub owns : (z : ℕ) → is_one_of (y ∷ ys) z ≡ true → is_one_of ids z ≡ true

  next_some : (y z : ℕ) (zs : List ℕ) → AreSome y (z ∷ zs) → AreSome z zs
  next_some y z zs a = record { joins = λ p q j. a.joins p q (inr (inr j)); owns = λ w o. a.owns w (later_in y (z ∷ zs) w o) }

  -- where the upper port of one is closed, all below are
  module _ (exempt : (z : ℕ) → Exempt z → IsClosedAt t (port_at z 1)) where
    lower_closed : (y : ℕ) → is_one_of ids y ≡ true → IsClosedAt t (port_at y 0) → IsClosedAt t (port_at y 1)
    lower_closed y own h = elim (k.told (port_at y 0) (inner y 0 own (omega arith)) h) [
      | inl e ↦ over_now y 1 own (omega arith) e
      | inr w ↦ elim w [ inl z ↦ absurd z | inr x ↦ exempt y x ]
    ]

    pub shut_down : (y : ℕ) (ys : List ℕ) → AreSome y ys → IsClosedAt t (port_at y 0) → IsShutThrough t.port (y ∷ ys)
    shut_down y [] a h =
        let own = a.owns y (first_in y []) in
        (closed_now (port_at y 0) (inner y 0 own (omega arith)) h, closed_now (port_at y 1) (inner y 1 own (omega arith)) (lower_closed y own h), tt)
    shut_down y (z ∷ zs) a h =
        let own = a.owns y (first_in y (z ∷ zs)) in
        let low = lower_closed y own h in
        (closed_now (port_at y 0) (inner y 0 own (omega arith)) h, closed_now (port_at y 1) (inner y 1 own (omega arith)) low, shut_down z zs (next_some y z zs a) (both_now (port_at y 1) (port_at z 0) (a.joins (port_at y 1) (port_at z 0) (inl (refl, refl))) low))

  -- where one hasn't ended, none below has, and all are open
  pub record GoesDown (y : ℕ) (ys : List ℕ) : Type 0 where
    pub plugged : IsPluggedDown t.port y ys
    pub going : (z : ℕ) → is_one_of (y ∷ ys) z ≡ true → object_has_ended (tr z) ≡ false

  module _ (exempt : (z : ℕ) → Exempt z → ⊥) where
    still_open : (y slot : ℕ) → is_one_of ids y ≡ true → slot < 2 → object_has_ended (tr y) ≡ false → IsClosedAt t (port_at y slot) → ⊥
    still_open y slot own low going h = elim (k.told (port_at y slot) (inner y slot own low) h) [ inl e ↦ not_both (object_has_ended (tr y)) e going | inr w ↦ elim w [ inl z ↦ z | inr x ↦ exempt y x ] ]

    pub go_down : (y : ℕ) (ys : List ℕ) → AreSome y ys → ((state_at t (port_at (last_after y ys) 1) ≡ port.Open) ⊎ IsClosedAt t (port_at (last_after y ys) 1)) → object_has_ended (tr y) ≡ false → GoesDown y ys
    go_down y [] a last going =
        let own = a.owns y (first_in y []) in
        record {
          plugged = elim last [ inl e ↦ e | inr h ↦ absurd (still_open y 1 own (omega arith) going h) ];
          going = λ z o. elim (one_first y [] z o) [ inl e ↦ ap (λ w. object_has_ended (tr w)) e ∙ going | inr w ↦ absurd (let v = w in cc) ];
        }
    go_down y (z ∷ zs) a last going =
        let own = a.owns y (first_in y (z ∷ zs)) in
        let own_z = a.owns z (later_in y (z ∷ zs) z (first_in z zs)) in
        let down = a.joins (port_at y 1) (port_at z 0) (inl (refl, refl)) in
        let up = a.joins (port_at z 0) (port_at y 1) (inr (inl (refl, refl))) in
        let is_open : IsClosedAt t (port_at y 1) → ⊥ = still_open y 1 own (omega arith) going in
        let next_open : IsClosedAt t (port_at z 0) → ⊥ = λ h. is_open (both_now (port_at z 0) (port_at y 1) up h) in
        let next_going : object_has_ended (tr z) ≡ false = elim (either (object_has_ended (tr z))) [ inl e ↦ absurd (next_open (over_now z 0 own_z (omega arith) e)) | inr e ↦ e ] in
        let rest = go_down z zs (next_some y z zs a) last next_going in
        record {
          plugged = (
            elim (k.joined (port_at y 1) (port_at z 0) down) [ inl e ↦ e | inr h ↦ absurd (is_open h) ],
            elim (k.joined (port_at z 0) (port_at y 1) up) [ inl e ↦ e | inr h ↦ absurd (next_open h) ],
            rest.plugged,
          );
          going = λ w o. elim (one_first y (z ∷ zs) w o) [ inl e ↦ ap (λ v. object_has_ended (tr v)) e ∙ going | inr i ↦ rest.going w i ];
        }

  pub all_some : (x : ℕ) (xs : List ℕ) → ids ≡ x ∷ xs → AreSome x xs
  all_some x xs e = record { joins = λ p q j. subst (λ (w : List ℕ). Joins w p q) (sym e) j; owns = λ z o. subst (λ (w : List ℕ). is_one_of w z ≡ true) (sym e) o }
