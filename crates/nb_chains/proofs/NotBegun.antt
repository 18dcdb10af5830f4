-- Where one trace doesn't begin an exchange, no reading of it does: so an object of which nothing was asked isn't one of an open that is under way.
use Rattle.std.proofs.Common.{◌≡◌, ℕ, ◌&&◌, Bool, true, false, not, nat_lt, List, [], ◌∷◌, Some, refl, sym, ap, ◌∙◌, subst, if◌then◌else◌}
use Rattle.std.specs.Option.{is_some}
use Rattle.std.proofs.lemmas.Bool.{eq-eqb, false≢true}
use Rattle.nb_terms.specs.declared.acts.Acts.{Acts}
use Rattle.nb_graph.specs.Trace.{NodeEntry, Said, closed, down, regain, time, up}
use Rattle.nb_nodes.specs.declared.load.Load.{Load}
use Rattle.nb_nodes.specs.declared.obj.Obj.{Obj}
use Rattle.nb_nodes.specs.declared.stage.Stage.{Stage}
use Rattle.nb_nodes.specs.declared.tag.Tag.TheVariants.{Begin}
use Rattle.nb_nodes.specs.Exchanges.{AskerState, AskerTakes, AskerIsAt, AskerLeadsTo, Service, StandsBy, after_calls, after_it, asking, at_end, before_it, begins_service, called_off, calls_nothing, during_it, ends_exchange, exchange_has_ended, finished, is_begun, is_ended, is_not_begun, not_begun, stage_is_waiting, stays_idle, takes_message, takes_time, without_it}
use Rattle.nb_nodes.specs.Tags.{tag_number}

-- a fact and its contrary
both_ways : (b : Bool) → b ≡ true → not b ≡ true → ⊥
both_ways true p q = false≢true q
both_ways false p q = false≢true p

no_and : (b d : Bool) → not b ≡ true → (b && d) ≡ true → ⊥
no_and true d p q = false≢true p
no_and false d p q = false≢true q

-- after a call of its core it has begun
after_begun : {B C : Type 0} (b : B) (start : ℕ) (calls : List C) (acts : Acts) → is_not_begun (after_calls b start calls acts) ≡ false
after_begun {B} {C} b start calls acts = by (is_some acts.over)
  where
    by : (x : Bool) → is_not_begun (if x then finished b start calls else asking b start calls) ≡ false
    by true = refl
    by false = refl

end_begun : {B C : Type 0} (v : AskerState B C) → is_not_begun (at_end v) ≡ false
end_begun not_begun = refl
end_begun (asking b start calls) = refl
end_begun (finished b start calls) = refl
end_begun called_off = refl

-- what hasn't begun is the one
the_one : {B C : Type 0} (v : AskerState B C) → is_not_begun v ≡ true → v ≡ not_begun
the_one not_begun e = refl
the_one (asking b start calls) e = absurd (false≢true e)
the_one (finished b start calls) e = absurd (false≢true e)
the_one called_off e = absurd (false≢true e)

module _ {S B C : Type 0} (s : Service S B C) where
  -- no entry leads back to it
  step_back : (v w : AskerState B C) (e : NodeEntry Obj Load) → AskerTakes s v e w → is_not_begun w ≡ true → is_not_begun v ≡ true
  step_back _ _ _ (is_begun b m now fx tag ask effects) h = refl
  step_back _ _ _ (takes_message b start calls slot m now fx acts given takes effects whole gives) h = absurd (false≢true (sym (after_begun b start _ acts) ∙ h))
  step_back _ _ _ (takes_time b start calls now fx acts given effects gives) h = absurd (false≢true (sym (after_begun b start _ acts) ∙ h))
  step_back _ _ _ (is_ended v e ends passes) h = absurd (false≢true (sym (end_begun v) ∙ h))
  step_back _ _ _ (stays_idle v e idle asks) h = h

  never_back : (t : List (NodeEntry Obj Load)) (u v : AskerState B C) → AskerLeadsTo s u t v → is_not_begun v ≡ true → is_not_begun u ≡ true
  never_back [] u v e h = ap is_not_begun e ∙ h
  never_back (e ∷ t) u v (w, goes, run) h = step_back u w e goes (never_back t w v run h)

  -- an entry by which it isn't begun calls nothing of the core
  calls_none : (v w : AskerState B C) (e : NodeEntry Obj Load) → AskerTakes s v e w → is_not_begun v ≡ true → is_not_begun w ≡ true → calls_nothing s v e ≡ true
  calls_none _ _ _ (is_begun b m now fx tag ask effects) i h = absurd (false≢true h)
  calls_none _ _ _ (takes_message b start calls slot m now fx acts given takes effects whole gives) i h = absurd (false≢true i)
  calls_none _ _ _ (takes_time b start calls now fx acts given effects gives) i h = absurd (false≢true i)
  calls_none _ _ _ (is_ended v e ends passes) i h = absurd (false≢true (sym (end_begun v) ∙ h))
  calls_none _ _ _ (stays_idle v e idle asks) i h = idle

  begins_so : (m : Said) (b : B) → m.tag ≡ tag_number Begin → s.asked m.bytes ≡ Some b → begins_service s m ≡ true
  begins_so m b tag ask = rw (eq-eqb m.tag (tag_number Begin) tag) (ap is_some ask)

  -- none ends it that calls nothing
  ends_none : (v : AskerState B C) (e : NodeEntry Obj Load) → calls_nothing s v e ≡ true → ends_exchange v e ≡ true → ⊥
  ends_none v (up slot m now done fx) c h = no_and done _ h c
  ends_none v (down m now done fx) c h = no_and done _ h c
  ends_none v (closed slot cause now fx) c h = both_ways (not (exchange_has_ended v) && nat_lt slot 2) h c
  ends_none v (time now done fx) c h = no_and done _ h c
  ends_none v (regain load) c h = false≢true h

  -- and such an entry doesn't begin it
  stays_so : (v w : AskerState B C) (e : NodeEntry Obj Load) → AskerTakes s v e w → is_not_begun v ≡ true → calls_nothing s v e ≡ true → is_not_begun w ≡ true
  stays_so _ _ _ (is_begun b m now fx tag ask effects) i h = absurd (both_ways (begins_service s m) (begins_so m b tag ask) h)
  stays_so _ _ _ (takes_message b start calls slot m now fx acts given takes effects whole gives) i h = absurd (false≢true i)
  stays_so _ _ _ (takes_time b start calls now fx acts given effects gives) i h = absurd (false≢true i)
  stays_so _ _ _ (is_ended v e ends passes) i h = absurd (ends_none v e h ends)
  stays_so _ _ _ (stays_idle v e idle asks) i h = i

  both_idle : (t : List (NodeEntry Obj Load)) (u v w : AskerState B C) → is_not_begun u ≡ true → AskerLeadsTo s u t v → is_not_begun v ≡ true → AskerLeadsTo s u t w → is_not_begun w ≡ true
  both_idle [] u v w i p h q = ap is_not_begun (sym q) ∙ i
  both_idle (e ∷ t) u v w i (x, goes, p) h (y, other, q) =
      let x_not : is_not_begun x ≡ true = never_back t x v p h in
      let y_not : is_not_begun y ≡ true = stays_so u y e other i (calls_none u x e goes i x_not) in
      let same : x ≡ y = the_one x x_not ∙ sym (the_one y y_not) in
      both_idle t y v w y_not (subst (λ (z : AskerState B C). AskerLeadsTo s z t v) same p) h q

  waiting_at : (stage : Stage S) (v : AskerState B C) → AskerIsAt s stage v → stage_is_waiting stage ≡ is_not_begun v
  waiting_at _ _ before_it = refl
  waiting_at _ _ (during_it b start calls core stands going) = refl
  waiting_at _ _ (after_it b start calls meets) = refl
  waiting_at _ _ without_it = refl

  -- so no object stands for no entry and is asking
  pub idle_asks_not : (stage : Stage S) (t : List (NodeEntry Obj Load)) (b : B) (start : ℕ) (calls : List C) → StandsBy s stage [] → StandsBy s stage t → AskerLeadsTo s not_begun t (asking b start calls) → ⊥
  idle_asks_not stage t b start calls fresh stood run =
      let waits : stage_is_waiting stage ≡ true = waiting_at stage fresh.exchange fresh.at ∙ ap is_not_begun (sym fresh.run) in
      false≢true (both_idle t not_begun stood.exchange (asking b start calls) refl stood.run (sym (waiting_at stage stood.exchange stood.at) ∙ waits) run)
