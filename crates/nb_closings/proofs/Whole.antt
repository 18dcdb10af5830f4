-- The objects of a chain end together.
use Rattle.std.proofs.Common.{inl, inr, ◌≡◌, ◌⊎◌, ℕ, ◌<◌, Bool, true, false, List, [], ◌∷◌, ◌++◌, refl, sym, ap, ◌∙◌, subst, arith}
use Rattle.std.proofs.lemmas.List.{append-nil}
use Rattle.nb_terms.specs.declared.cause.Cause.{Cause}
use Rattle.nb_ledger.specs.declared.port.Port.{Port}
use Rattle.nb_ledger.specs.declared.port.PortState.TheVariants as port
use Rattle.nb_ledger.specs.Flat.{Heard}
use Rattle.nb_ledger.specs.Ledger.{open_count, port as port_in, rank}
use Rattle.nb_graph.specs.Deeds.{Closes, Deed, writes, begins, calls, turns, Offers, Stage, Ticks, events_of, trace_after}
use Rattle.nb_graph.specs.Follows.{UsesStack}
use Rattle.nb_graph.specs.Hosts.{Stood}
use Rattle.nb_graph.specs.Lived.{ObjectStands}
use Rattle.nb_graph.specs.Scene.{Scene, scene_of, state_at}
use Rattle.nb_graph.specs.Trace.{NodeEntry}
use Rattle.nb_graph.specs.Went.{all_of, WentOne}
use Rattle.nb_graph.specs.Whole.{IsLinked, Objects, node_at, port_at}
use Rattle.nb_graph.proofs.HostLemmas.{stood}
use Rattle.nb_graph.proofs.Laws.{only_call}
use Rattle.nb_frames.specs.Frames.{is_one_of, IsOwnCall}
use Rattle.nb_frames.specs.Within.{AreStagesWithin}
use Rattle.nb_frames.proofs.AloneLemmas.{frees_other}
use Rattle.nb_frames.proofs.WithinLemmas.{asks_none}
use Rattle.nb_nodes.specs.declared.load.Load.{Load}
use Rattle.nb_nodes.specs.declared.obj.Obj.{Obj}
use Rattle.nb_nodes.specs.Objects.{obj_nature}
use Rattle.nb_nodes.specs.Standing.{ObjStands}
use Rattle.nb_closings.specs.Chained.{AreShutThrough, AreThrough, ChainsAreShut, ChainsEndWhole, ComesOfAll, GoesOnStill, HaveNoOthers, IsArrival, IsOpenThrough, goes_through, have_closing, offers_it, shuts_through, ticks_it}
use Rattle.nb_closings.specs.Passing.{object_has_ended}
use Rattle.nb_closings.proofs.Beginning.{kept_at_first, not_closed}
use Rattle.nb_closings.proofs.Ending.{all_some, go_down, shut_down}
use Rattle.nb_closings.proofs.Joining.{IsInner, first_in, last_after}
use Rattle.nb_closings.proofs.Keeping.{AllFit, IsClosedAt, Kept, Traces}
use Rattle.nb_closings.proofs.Passings.{objects_pass_on}
use Rattle.nb_closings.proofs.PlanLemmas.{AnyPlan, Plan, WillClose, WillTell, close_it, nothing, plans}
use Rattle.nb_closings.proofs.Running.{AllPass, Ran, Ruined, run, trace_is, traces_after}

either : (b : Bool) → (b ≡ true) ⊎ (b ≡ false)
either true = inl refl
either false = inr refl

-- each entry of an object that stands for its trace passes on
all_pass : (x : ℕ) (t : List (NodeEntry Obj Load)) (ds : List (Deed Obj Load)) → Stood ObjStands x t ds → AllPass x t ds
all_pass x t [] h = tt
all_pass x t (writes e ∷ ds) h = all_pass x t ds h
all_pass x t (begins y n ∷ ds) h = all_pass x (trace_after x t (begins y n ∷ [])) ds h.1
all_pass x t (calls y e ∷ ds) h = ((λ i going. let z = h.0 i in objects_pass_on z.1 t e z.3 going), all_pass x (trace_after x t (calls y e ∷ [])) ds h.1)
all_pass x t (turns u ∷ ds) h = all_pass x t ds h

-- other slots have no link, and where all between are closed none has
module _ (ids : List ℕ) (Exempt : ℕ → Type 0) (Aim : Port → Type 0) (t : Scene) (tr : Traces) (k : Kept ids Exempt Aim t tr []) where
  other_slots : HaveNoOthers t.port ids
  other_slots x slot own low = k.loose (port_at x slot) own low

-- A trace for each of them, which it stands for.
abbrev StandFor : Objects Obj → List ℕ → Traces → Type 0
StandFor g ids tr = (x : ℕ) → is_one_of ids x ≡ true → ObjectStands ObjStands g x (tr x)

module _ (g : Objects Obj) (ids : List ℕ) (a : AreThrough g ids) where
  record Chosen (x : ℕ) : Type 0 where
    pub trace : List (NodeEntry Obj Load)
    pub stands : is_one_of ids x ≡ true → ObjectStands ObjStands g x trace
    pub going : is_one_of ids x ≡ true → object_has_ended trace ≡ false

  choose : (x : ℕ) (b : Bool) → is_one_of ids x ≡ b → Chosen x
  choose x true o = let z = a.going x o in record { trace = z.0; stands = λ _. z.1; going = λ _. z.2 }
  choose x false o = record { trace = []; stands = λ i. absurd (let z = sym o ∙ i in cc); going = λ i. refl }

  chosen : Traces
  chosen x = (choose x (is_one_of ids x) refl).trace

  chosen_stands : StandFor g ids chosen
  unfolding chosen
  chosen_stands x o = (choose x (is_one_of ids x) refl).stands o

  chosen_going : (x : ℕ) → is_one_of ids x ≡ true → object_has_ended (chosen x) ≡ false
  unfolding chosen
  chosen_going x o = (choose x (is_one_of ids x) refl).going o

module _ (ids : List ℕ) (Exempt : ℕ → Type 0) (Aim : Port → Type 0) (now : ℕ) (asks : List (Stage Obj Load)) (g h : Objects Obj) (m n : Heard) (k : WentOne ObjStands obj_nature now asks g h m n) (own : IsOwnCall ids asks g h (all_of k.deeds)) where
  -- what happens in such a call, from what is kept
  ran : (tr : Traces) → StandFor g ids tr → Kept ids Exempt Aim (scene_of g.book) tr (plans asks) → Ran ids Exempt Aim (scene_of g.book) (scene_of h.book) tr (all_of k.deeds)
  ran tr stand kept =
      let one = only_call obj_nature (scene_of g.book) (scene_of h.book) (record { now = now; asks = asks }) k.deeds k.each in
      let same : all_of k.deeds ≡ one.0 = ap all_of one.1 ∙ append-nil one.0 in
      let uses : UsesStack obj_nature now (scene_of g.book) asks (all_of k.deeds) (scene_of h.book) = subst (λ (ds : List (Deed Obj Load)). UsesStack obj_nature now (scene_of g.book) asks ds (scene_of h.book)) (sym same) one.2 in
      run ids Exempt Aim now (scene_of g.book) (scene_of h.book) tr asks (all_of k.deeds) own.within own.plain own.links (asks_none (is_one_of ids) (all_of k.deeds) own.makes) (frees_other (is_one_of ids) (all_of k.deeds) own.frees)
      (λ x o. all_pass x (tr x) (all_of k.deeds) (stood obj_nature ObjStands (node_at g) (node_at h) x (tr x) (all_of k.deeds) (λ i e. (stand x o i e).0) k.hosts (k.suits x (tr x) (stand x o)))) uses kept

  stand_after : (tr : Traces) → StandFor g ids tr → StandFor h ids (traces_after tr (all_of k.deeds))
  stand_after tr stand x o = subst (λ (t : List (NodeEntry Obj Load)). ObjectStands ObjStands h x t) (sym (trace_is tr (all_of k.deeds) x)) (k.keeps x (tr x) (stand x o))

-- WHERE A MESSAGE OR A TIME COMES

abbrev NoneExempt : ℕ → Type 0
NoneExempt x = ⊥

abbrev NoAim : Port → Type 0
NoAim p = ⊥

arrival_fits : (ids : List ℕ) (s : Scene) (tr : Traces) (asks : List (Stage Obj Load)) → IsArrival asks → AllFit ids NoneExempt NoAim s tr [] (plans asks)
arrival_fits ids s tr _ (offers_it p m) = (tt, tt)
arrival_fits ids s tr _ (ticks_it x) = (tt, tt)

-- of no object nothing is asked for
none_within : {P : Type 0} (asks : List (Stage Obj Load)) → IsArrival asks → AreStagesWithin (is_one_of []) asks → P
none_within _ (offers_it p m) h = absurd (let z = h.0 in cc)
none_within _ (ticks_it x) h = absurd (let z = h.0 in cc)

module _ (x : ℕ) (xs : List ℕ) (now : ℕ) (asks : List (Stage Obj Load)) (g h : Objects Obj) (m n : Heard) (links : IsLinked (port_in g.book) (rank g.book)) (k : WentOne ObjStands obj_nature now asks g h m n)
    (own : IsOwnCall (x ∷ xs) asks g h (all_of k.deeds)) (arrives : IsArrival asks) (through : AreThrough g (x ∷ xs)) where
  abbrev ids : List ℕ
  ids = x ∷ xs

  abbrev before : Traces
  before = chosen g ids through

  abbrev ended_as : Traces
  ended_as = traces_after before (all_of k.deeds)

  stand : StandFor g ids before
  stand y o = chosen_stands g ids through y o

  went : Ran ids NoneExempt NoAim (scene_of g.book) (scene_of h.book) before (all_of k.deeds)
  went =
      ran ids NoneExempt NoAim now asks g h m n k own before stand
      (kept_at_first x xs NoneExempt NoAim (scene_of g.book) (rank g.book) before (plans asks) through.ports through.loose links own.links (chosen_going g ids through) (arrival_fits ids (scene_of g.book) before asks arrives) (λ p a. absurd a))

  first_own : is_one_of ids x ≡ true
  first_own = first_in x xs

  shut_all : IsClosedAt (scene_of h.book) (port_at x 0) → ComesOfAll ids h (events_of (all_of k.deeds))
  shut_all c = elim (either (have_closing (events_of (all_of k.deeds)))) [
    | inl e ↦ shuts_through e (record { ports = shut_down ids NoneExempt NoAim (scene_of h.book) ended_as went.kept (λ z w. absurd w) x xs (all_some ids NoneExempt NoAim (scene_of h.book) ended_as went.kept x xs refl) c; loose = other_slots ids NoneExempt NoAim (scene_of h.book) ended_as went.kept })
    | inr e ↦ absurd (not_closed (port_in g.book) x xs through.ports (port_at x 0) (record { own = first_own; low = omega arith }) (went.still e (port_at x 0) c))
  ]

  unruined : IsOpenThrough (port_in h.book) ids → ((y : ℕ) → is_one_of ids y ≡ true → object_has_ended (ended_as y) ≡ false) → Ruined ids NoneExempt NoAim (scene_of h.book) ended_as → ⊥
  unruined all_open going (p, i, inl c) = not_closed (port_in h.book) x xs all_open p i c
  unruined all_open going (p, i, inr e) = let z = sym (going p.obj.0 i.own) ∙ e in cc

  go_all : object_has_ended (ended_as x) ≡ false → (state_at (scene_of h.book) (port_at x 0) ≡ port.Open) → ComesOfAll ids h (events_of (all_of k.deeds))
  go_all going top =
      let down = go_down ids NoneExempt NoAim (scene_of h.book) ended_as went.kept (λ z w. w) x xs (all_some ids NoneExempt NoAim (scene_of h.book) ended_as went.kept x xs refl) (went.kept.outer (port_at (last_after x xs) 1) (inr refl)) going in
      let all_open : IsOpenThrough (port_in h.book) ids = (top, down.plugged) in
      elim (either (have_closing (events_of (all_of k.deeds)))) [
        | inl e ↦ absurd (unruined all_open down.going (went.ruins e))
        | inr e ↦ goes_through e (record { ports = all_open; loose = other_slots ids NoneExempt NoAim (scene_of h.book) ended_as went.kept; going = λ y o. (ended_as y, stand_after ids NoneExempt NoAim now asks g h m n k own before stand y o, down.going y o) })
      ]

  comes : ComesOfAll ids h (events_of (all_of k.deeds))
  comes = elim (went.kept.outer (port_at x 0) (inl refl)) [
    | inr c ↦ shut_all c
    | inl top ↦ elim (either (object_has_ended (ended_as x))) [
      | inl e ↦ elim (went.kept.over (port_at x 0) (record { own = first_own; low = omega arith }) e) [ inl c ↦ shut_all c | inr w ↦ absurd w ]
      | inr e ↦ go_all e top
    ]
  ]

pub chains_end_whole : ChainsEndWhole
chains_end_whole [] now asks g h m n links k own arrives through = none_within asks arrives own.within
chains_end_whole (x ∷ xs) now asks g h m n links k own arrives through = comes x xs now asks g h m n links k own arrives through

-- WHERE THE USER CLOSES THEM

abbrev TopExempt : ℕ → ℕ → Type 0
TopExempt x z = z ≡ x

abbrev FirstAim : ℕ → Port → Type 0
FirstAim x p = p ≡ port_at x 0

abbrev BothAim : ℕ → Port → Type 0
BothAim x p = (p ≡ port_at x 0) ⊎ (p ≡ port_at x 1)

later_close : {P : Type 0} (R : Plan → Type 0) (v : Plan) → P ⊎ AnyPlan R [] → P ⊎ AnyPlan R (v ∷ [])
later_close R v (inl h) = inl h
later_close R v (inr h) = absurd h

later_told : {P Q : Type 0} (R : Plan → Type 0) (v : Plan) → P ⊎ (AnyPlan R [] ⊎ Q) → P ⊎ (AnyPlan R (v ∷ []) ⊎ Q)
later_told R v (inl h) = inl h
later_told R v (inr (inl h)) = absurd h
later_told R v (inr (inr h)) = inr (inr h)

-- the second of its ports is to be closed
module _ (x : ℕ) (xs : List ℕ) (s : Scene) (tr : Traces) (k : Kept (x ∷ xs) (TopExempt x) (FirstAim x) s tr []) where
  both_aims : (p : Port) → BothAim x p → IsClosedAt s p ⊎ AnyPlan (WillClose p) (close_it (port_at x 1) ∷ [])
  both_aims p (inl e) = later_close (WillClose p) (close_it (port_at x 1)) (k.aims p e)
  both_aims p (inr e) = inr (inl (sym e))

  with_other : Kept (x ∷ xs) (TopExempt x) (BothAim x) s tr (close_it (port_at x 1) ∷ [])
  with_other = record {
    fits = (inr (refl, omega arith), tt);
    joined = k.joined;
    only = k.only;
    loose = k.loose;
    outer = k.outer;
    leaving = λ p q i l. absurd (k.leaving p q i l);
    both = λ p q j h. later_close (WillClose q) (close_it (port_at x 1)) (k.both p q j h);
    over = λ p i h. later_close (WillClose p) (close_it (port_at x 1)) (k.over p i h);
    told = λ p i h. later_told (WillTell p.obj.0) (close_it (port_at x 1)) (k.told p i h);
    aims = both_aims;
  }

pub chains_are_shut : ChainsAreShut
chains_are_shut x xs now c g mid h m k n links first own_first other own_other through =
    let ids : List ℕ = x ∷ xs in
    let tr : Traces = chosen g ids through in
    let stand : StandFor g ids tr = chosen_stands g ids through in
    let r = ran ids (TopExempt x) (FirstAim x) now (Closes (port_at x 0) c ∷ []) g mid m k first own_first tr stand
    (kept_at_first x xs (TopExempt x) (FirstAim x) (scene_of g.book) (rank g.book) tr (close_it (port_at x 0) ∷ []) through.ports through.loose links own_first.links (chosen_going g ids through) (inr (refl, omega arith), tt) (λ p a. inl (sym a))) in
    let ur : Traces = traces_after tr (all_of first.deeds) in
    let z = ran ids (TopExempt x) (BothAim x) now (Closes (port_at x 1) c ∷ []) mid h k n other own_other ur (stand_after ids (TopExempt x) (FirstAim x) now (Closes (port_at x 0) c ∷ []) g mid m k first own_first tr stand) (with_other x xs (scene_of mid.book) ur r.kept) in
    let vr : Traces = traces_after ur (all_of other.deeds) in
    let shut : (p : Port) → BothAim x p → IsClosedAt (scene_of h.book) p = λ p a. elim (z.kept.aims p a) [ inl w ↦ w | inr w ↦ absurd w ] in
    record {
      ports = shut_down ids (TopExempt x) (BothAim x) (scene_of h.book) vr z.kept (λ y e. subst (λ w. IsClosedAt (scene_of h.book) (port_at w 1)) (sym e) (shut (port_at x 1) (inr refl))) x xs (all_some ids (TopExempt x) (BothAim x) (scene_of h.book) vr z.kept x xs refl) (shut (port_at x 0) (inl refl));
      loose = other_slots ids (TopExempt x) (BothAim x) (scene_of h.book) vr z.kept;
    }
