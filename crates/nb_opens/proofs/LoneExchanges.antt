-- The trace of an object that asks and is answered has one exchange, if the calls in it are answered as promised.
use Rattle.std.proofs.Common.{◌≡◌, ℕ, ◌++◌, ◌&&◌, Bool, true, false, not, List, [], ◌∷◌, Option, Some, refl, ap, sym, ◌∙◌, subst, if◌then◌else◌}
use Rattle.std.proofs.lemmas.Bool.{eq-eqb}
use Rattle.std.specs.Option.{is_some}
use Rattle.nb_terms.specs.declared.acts.Acts.{Acts}
use Rattle.nb_effects.specs.declared.effects.Fx.{Fx}
use Rattle.nb_graph.specs.Trace.{Said, NodeEntry, up, down, closed, time, regain, silence}
use Rattle.nb_nodes.specs.declared.load.Load.{Load}
use Rattle.nb_nodes.specs.declared.obj.Obj.{Obj}
use Rattle.nb_nodes.specs.declared.tag.Tag.TheVariants.{Begin}
use Rattle.nb_nodes.specs.Tags.{tag_number}
use Rattle.nb_nodes.specs.Carried.{downs_of, end_closes}
use Rattle.nb_nodes.specs.Exchanges.{Service, AskerState, not_begun, asking, finished, called_off, at_end, after_calls, begins_service, calls_nothing, ends_exchange, AsksAndGives, AskerTakes, is_begun, takes_message, takes_time, is_ended, stays_idle, AskerLeadsTo}

-- what is promised of each call is known of its exchange's calls
abbrev pub CallsAre : {B C : Type 0} → (B → List C → Type 0) → AskerState B C → Type 0
CallsAre asks not_begun = Unit {0}
CallsAre asks (asking b start calls) = asks b calls
CallsAre asks (finished b start calls) = asks b calls
CallsAre asks called_off = Unit {0}

-- What is promised of calls is promised of those before the last, and leaves one answer to a call with given effects.
pub record IsCertain {S B C : Type 0} (s : Service S B C) (asks : B → List C → Type 0) : Type 0 where
  pub before : (b : B) (calls : List C) (c : C) → asks b (calls ++ c ∷ []) → asks b calls
  pub message : (b : B) (calls : List C) (m : Said) (now : ℕ) (x y : Acts) → asks b (calls ++ s.received m now x ∷ []) → asks b (calls ++ s.received m now y ∷ [])
      → downs_of m.rec x ≡ downs_of m.rec y → end_closes x.over ≡ end_closes y.over → x ≡ y
  pub at_time : (b : B) (calls : List C) (now : ℕ) (x y : Acts) → asks b (calls ++ s.timed now x ∷ []) → asks b (calls ++ s.timed now y ∷ [])
      → downs_of 0 x ≡ downs_of 0 y → end_closes x.over ≡ end_closes y.over → x ≡ y

either_are : {B C : Type 0} (asks : B → List C → Type 0) (o : Bool) (b : B) (start : ℕ) (calls : List C) → CallsAre asks (if o then finished b start calls else asking b start calls) → asks b calls
either_are asks true b start calls h = h
either_are asks false b start calls h = h

ended_are : {B C : Type 0} (asks : B → List C → Type 0) (v : AskerState B C) → CallsAre asks (at_end v) → CallsAre asks v
ended_are asks not_begun h = tt
ended_are asks (asking b start calls) h = h
ended_are asks (finished b start calls) h = h
ended_are asks called_off h = h

-- no entry both ends it and calls nothing
not_both : {S B C : Type 0} (s : Service S B C) (v : AskerState B C) (e : NodeEntry Obj Load) → ends_exchange v e ≡ true → calls_nothing s v e ≡ true → ⊥
not_both s v (up slot m now true fx) f i = let z = f in cc
not_both s v (up slot m now false fx) f i = let z = i in cc
not_both s v (down m now true fx) f i = let z = f in cc
not_both s v (down m now false fx) f i = let z = i in cc
not_both s v (closed slot cause now fx) f i = let z = sym (ap not f) ∙ i in cc
not_both s v (time now true fx) f i = let z = f in cc
not_both s v (time now false fx) f i = let z = i in cc
not_both s v (regain load) f i = let z = f in cc

does_begin : {S B C : Type 0} (s : Service S B C) (b : B) (m : Said) → m.tag ≡ tag_number Begin → s.asked m.bytes ≡ Some b → begins_service s m ≡ true
does_begin {S} {B} s b m tag ask = ap (λ z. z && is_some (s.asked m.bytes)) (eq-eqb m.tag (tag_number Begin) tag) ∙ ap (λ (o : Option B). is_some o) ask

abbrev begun_at : {B C : Type 0} → B → ℕ → AskerState B C
begun_at b now = asking b now []

same_begin : {B C : Type 0} (b c : B) (now : ℕ) (o : Option B) → o ≡ Some b → o ≡ Some c → begun_at {B = B} {C = C} b now ≡ begun_at {B = B} {C = C} c now
same_begin {B} {C} b c now o p q = let z = sym p ∙ q in let same : b ≡ c = cc in ap (λ (a : B). begun_at {B = B} {C = C} a now) same

module _ {S B C : Type 0} (s : Service S B C) (asks : B → List C → Type 0) (law : IsCertain s asks) where
  -- what was asked later was asked before
  are_before : (u v : AskerState B C) (e : NodeEntry Obj Load) → AskerTakes s u e v → CallsAre asks v → CallsAre asks u
  are_before _ _ _ (is_begun b m now fx tag ask effects) h = tt
  are_before _ _ _ (takes_message b start calls slot m now fx acts given is effects takes gives) h =
      law.before b calls (s.received m now acts) (either_are asks (is_some acts.over) b start (calls ++ s.received m now acts ∷ []) h)
  are_before _ _ _ (takes_time b start calls now fx acts given effects gives) h =
      law.before b calls (s.timed now acts) (either_are asks (is_some acts.over) b start (calls ++ s.timed now acts ∷ []) h)
  are_before _ _ _ (is_ended v e fatal passes) h = ended_are asks v h
  are_before _ _ _ (stays_idle v e idle nothing) h = h

  are_back : (t : List (NodeEntry Obj Load)) (u v : AskerState B C) → AskerLeadsTo s u t v → CallsAre asks v → CallsAre asks u
  are_back [] u v run h = subst (λ (z : AskerState B C). CallsAre asks z) (sym run) h
  are_back (e ∷ t) u v (w, goes, run) h = are_before u w e goes (are_back t w v run h)

  same_message : (b : B) (start : ℕ) (calls : List C) (m : Said) (now : ℕ) (fx : Fx Obj Load) (x y : Acts) (g k : List Said) → AsksAndGives m x g fx → AsksAndGives m y k fx
      → CallsAre asks (after_calls b start (calls ++ s.received m now x ∷ []) x) → CallsAre asks (after_calls b start (calls ++ s.received m now y ∷ []) y)
      → after_calls b start (calls ++ s.received m now x ∷ []) x ≡ after_calls b start (calls ++ s.received m now y ∷ []) y
  same_message b start calls m now fx x y g k p q h i =
      ap (λ (a : Acts). after_calls b start (calls ++ s.received m now a ∷ []) a)
      (law.message b calls m now x y (either_are asks (is_some x.over) b start (calls ++ s.received m now x ∷ []) h) (either_are asks (is_some y.over) b start (calls ++ s.received m now y ∷ []) i)
      (sym p.downs ∙ q.downs) (sym p.closes ∙ q.closes))

  same_time : (b : B) (start : ℕ) (calls : List C) (now : ℕ) (fx : Fx Obj Load) (x y : Acts) (g k : List Said) → AsksAndGives silence x g fx → AsksAndGives silence y k fx
      → CallsAre asks (after_calls b start (calls ++ s.timed now x ∷ []) x) → CallsAre asks (after_calls b start (calls ++ s.timed now y ∷ []) y)
      → after_calls b start (calls ++ s.timed now x ∷ []) x ≡ after_calls b start (calls ++ s.timed now y ∷ []) y
  same_time b start calls now fx x y g k p q h i =
      ap (λ (a : Acts). after_calls b start (calls ++ s.timed now a ∷ []) a)
      (law.at_time b calls now x y (either_are asks (is_some x.over) b start (calls ++ s.timed now x ∷ []) h) (either_are asks (is_some y.over) b start (calls ++ s.timed now y ∷ []) i)
      (sym p.downs ∙ q.downs) (sym p.closes ∙ q.closes))

  -- one entry leads to one exchange
  one_next : (u v w : AskerState B C) (e : NodeEntry Obj Load) → AskerTakes s u e v → AskerTakes s u e w → CallsAre asks v → CallsAre asks w → v ≡ w
  one_next _ _ _ _ (is_begun b m now fx tag ask effects) (is_begun c _ _ _ tag2 ask2 effects2) h k = same_begin b c now (s.asked m.bytes) ask ask2
  one_next _ _ _ _ (is_begun b m now fx tag ask effects) (is_ended _ _ fatal passes) h k = absurd (let z = fatal in cc)
  one_next _ _ _ _ (is_begun b m now fx tag ask effects) (stays_idle _ _ idle nothing) h k = absurd (let z = sym (ap not (does_begin s b m tag ask)) ∙ idle in cc)
  one_next _ _ _ _ (takes_message b start calls slot m now fx acts given is effects takes gives) (takes_message _ _ _ _ _ _ _ acts2 given2 is2 effects2 takes2 gives2) h k =
      same_message b start calls m now fx acts acts2 given given2 effects effects2 h k
  one_next _ _ _ _ (takes_message b start calls slot m now fx acts given is effects takes gives) (is_ended _ _ fatal passes) h k = absurd (let z = fatal in cc)
  one_next _ _ _ _ (takes_message b start calls slot m now fx acts given is effects takes gives) (stays_idle _ _ idle nothing) h k = absurd (let z = sym (ap not is) ∙ idle in cc)
  one_next _ _ _ _ (takes_time b start calls now fx acts given effects gives) (takes_time _ _ _ _ _ acts2 given2 effects2 gives2) h k =
      same_time b start calls now fx acts acts2 given given2 effects effects2 h k
  one_next _ _ _ _ (takes_time b start calls now fx acts given effects gives) (is_ended _ _ fatal passes) h k = absurd (let z = fatal in cc)
  one_next _ _ _ _ (takes_time b start calls now fx acts given effects gives) (stays_idle _ _ idle nothing) h k = absurd (let z = idle in cc)
  one_next _ _ _ _ (is_ended _ _ fatal passes) (is_begun b m now fx tag ask effects) h k = absurd (let z = fatal in cc)
  one_next _ _ _ _ (is_ended _ _ fatal passes) (takes_message b start calls slot m now fx acts given is effects takes gives) h k = absurd (let z = fatal in cc)
  one_next _ _ _ _ (is_ended _ _ fatal passes) (takes_time b start calls now fx acts given effects gives) h k = absurd (let z = fatal in cc)
  one_next _ _ _ _ (is_ended v e fatal passes) (is_ended _ _ fatal2 passes2) h k = refl
  one_next _ _ _ _ (is_ended v e fatal passes) (stays_idle _ _ idle nothing) h k = absurd (not_both s v e fatal idle)
  one_next _ _ _ _ (stays_idle _ _ idle nothing) (is_begun b m now fx tag ask effects) h k = absurd (let z = sym (ap not (does_begin s b m tag ask)) ∙ idle in cc)
  one_next _ _ _ _ (stays_idle _ _ idle nothing) (takes_message b start calls slot m now fx acts given is effects takes gives) h k = absurd (let z = sym (ap not is) ∙ idle in cc)
  one_next _ _ _ _ (stays_idle _ _ idle nothing) (takes_time b start calls now fx acts given effects gives) h k = absurd (let z = idle in cc)
  one_next _ _ _ _ (stays_idle v e idle nothing) (is_ended _ _ fatal passes) h k = absurd (not_both s v e fatal idle)
  one_next _ _ _ _ (stays_idle v e idle nothing) (stays_idle _ _ idle2 nothing2) h k = refl

  -- a trace leads to one exchange
  one_exchange : (t : List (NodeEntry Obj Load)) (u v w : AskerState B C) → AskerLeadsTo s u t v → AskerLeadsTo s u t w → CallsAre asks v → CallsAre asks w → v ≡ w
  one_exchange [] u v w p q h k = sym p ∙ q
  one_exchange (e ∷ t) u v w (x, f, p) (y, g, q) h k =
      let same : x ≡ y = one_next u x y e f g (are_back t x v p h) (are_back t y w q k) in
      one_exchange t y v w (subst (λ (z : AskerState B C). AskerLeadsTo s z t v) same p) q h k

  split : (v w : AskerState B C) (r t : List (NodeEntry Obj Load)) → AskerLeadsTo s v (r ++ t) w → (u : AskerState B C) × AskerLeadsTo s v r u × AskerLeadsTo s u t w
  split v w [] t run = (v, refl, run)
  split v w (e ∷ r) t (x, goes, run) = let k = split x w r t run in (k.0, (x, goes, k.1), k.2)

  -- after more entries, the exchange of those before went on
  pub exchange_goes_on : (r t : List (NodeEntry Obj Load)) (v w : AskerState B C) → AskerLeadsTo s not_begun r v → CallsAre asks v → AskerLeadsTo s not_begun (r ++ t) w → CallsAre asks w → AskerLeadsTo s v t w
  exchange_goes_on r t v w p h q k =
      let z = split not_begun w r t q in
      let same : z.0 ≡ v = one_exchange r not_begun z.0 v z.1 p (are_back t z.0 w z.2 k) h in
      subst (λ (y : AskerState B C). AskerLeadsTo s y t w) same z.2
