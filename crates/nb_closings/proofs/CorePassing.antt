-- A Tftp, and an object that asks and is answered, close both their ports or none.
use Rattle.std.proofs.Common.{inl, inr, ◌≡◌, ◌⊎◌, ℕ, ◌<◌, ◌≤◌, ◌-◌, ◌&&◌, ◌||◌, Bool, true, false, not, List, [], ◌∷◌, ◌++◌, length, nat_lt, Option, Some, None, refl, sym, ap, ◌∙◌, subst, if◌then◌else◌, arith}
use Rattle.std.specs.Option.{is_some}
use Rattle.std.proofs.lemmas.Bool.{lt-ltb, le-ltb}
use Rattle.nb_terms.specs.declared.acts.Acts.{Acts}
use Rattle.nb_terms.specs.declared.cause.Cause.{Cause}
use Rattle.nb_tftp.specs.Asks.{Begun}
use Rattle.nb_tftp.specs.History.{Entry as TftpCall}
use Rattle.nb_effects.specs.declared.effects.Fx.{Fx}
use Rattle.nb_graph.specs.Effects.{ClosesSlot}
use Rattle.nb_graph.specs.Trace.{Said, NodeEntry, up, down, closed, time, regain}
use Rattle.nb_nodes.specs.declared.load.Load.{Load}
use Rattle.nb_nodes.specs.declared.obj.Obj.{Obj}
use Rattle.nb_nodes.specs.declared.tftp.Tftp.{Tftp}
use Rattle.nb_nodes.specs.declared.stage.Stage.{Stage}
use Rattle.nb_nodes.specs.Carried.{end_closes}
use Rattle.nb_nodes.specs.Conversations.{Conversation, unbegun, under_way, over, cancelled, talk_has_ended, talk_went_on, is_under_way, is_unbegun, is_datagram, is_begin, Continues, begins, receives, ticks, ends, rests, RunsTo, TftpStands}
use Rattle.nb_nodes.specs.Exchanges.{Service, AskerState, not_begun, asking, finished, called_off, exchange_has_ended, after_calls, is_asking, is_not_begun, begins_service, AskerTakes, is_begun, takes_message, takes_time, is_ended, stays_idle, AskerLeadsTo, StandsBy}
use Rattle.nb_closings.specs.Passing.{ends_object, object_has_ended, ClosesBothOrNone, PassesEndOn}
use Rattle.nb_closings.proofs.TraceLemmas.{none_ended}

-- the closes at an end, or none
pub at_end : (over : Option Cause) (xs : List (ℕ × Cause)) → xs ≡ end_closes over → ClosesBothOrNone xs
at_end None xs e = inl e
at_end (Some c) xs e = subst ClosesBothOrNone (sym e) (inr (inl refl, inr (inl refl)))

-- where nothing is closed it isn't the end
pub not_over : (over : Option Cause) (xs : List (ℕ × Cause)) → xs ≡ end_closes over → nat_lt 0 (length xs) ≡ false → is_some over ≡ false
not_over None xs e h = refl
not_over (Some c) xs e h = absurd (let z = sym (ap (λ (w : List (ℕ × Cause)). nat_lt 0 (length w)) e) ∙ h in cc)

pub false_not : {P : Type 0} (b : Bool) → not b ≡ true → b ≡ true → P
false_not true h e = absurd (let z = h in cc)
false_not false h e = absurd (let z = e in cc)

pub not_both : {P : Type 0} (b : Bool) → b ≡ true → b ≡ false → P
not_both b h k = absurd (let z = sym h ∙ k in cc)

-- a port that was closed is one of the two, and the other one is closed
pub passes_close : (slot : ℕ) (c : Cause) (xs : List (ℕ × Cause)) → nat_lt slot 2 ≡ true → xs ≡ (1 - slot, c) ∷ [] → (slot < 2 → ClosesSlot (1 - slot) xs) × (2 ≤ slot → xs ≡ [])
passes_close slot c xs low e = ((λ h. subst (ClosesSlot (1 - slot)) (sym e) (inl refl)), (λ high. not_both (nat_lt slot 2) low (le-ltb slot 2 high)))

-- or it is neither, and none is
pub rests_closed : (slot : ℕ) (xs : List (ℕ × Cause)) → nat_lt slot 2 ≡ false → xs ≡ [] → (slot < 2 → ClosesSlot (1 - slot) xs) × (2 ≤ slot → xs ≡ [])
rests_closed slot xs high e = ((λ low. not_both (nat_lt slot 2) (lt-ltb slot 2 low) high), (λ _. e))

pub and_right : (a b : Bool) → (a && b) ≡ true → b ≡ true
and_right true b h = h
and_right false b h = absurd (let z = h in cc)

pub not_and : (a b : Bool) → a ≡ true → not (a && b) ≡ true → b ≡ false
not_and true true h k = absurd (let z = k in cc)
not_and true false h k = refl
not_and false b h k = absurd (let z = h in cc)

pub is_not : (b : Bool) → b ≡ false → not b ≡ true
is_not true h = absurd (let z = h in cc)
is_not false h = refl

-- A step of an object whose exchange hasn't ended: it passes on, and where it doesn't end by it, its exchange hasn't.
pub record Step (e : NodeEntry Obj Load) (ended : Bool) : Type 0 where
  pub passes : PassesEndOn e
  pub goes_on : ends_object e ≡ false → ended ≡ false

-- one that asks for nothing, or runs out of memory
or_right : (a b : Bool) → (a || b) ≡ false → b ≡ false
or_right true b h = absurd (let z = h in cc)
or_right false b h = h

pub not_done : {P : Type 0} (done : Bool) (xs : List (ℕ × Cause)) → not done ≡ true → (not done || nat_lt 0 (length xs)) ≡ false → P
not_done true xs h k = absurd (let z = h in cc)
not_done false xs h k = absurd (let z = k in cc)

-- OF A TRANSFER

went_on : (b : Begun) (start : ℕ) (calls : List TftpCall) (acts : Acts) → is_some acts.over ≡ false → talk_has_ended (talk_went_on b start calls acts) ≡ false
went_on b start calls acts h = ap (λ z. talk_has_ended (if z then over b start calls else under_way b start calls)) h

tftp_step : (v w : Conversation) (e : NodeEntry Obj Load) → Continues v e w → talk_has_ended v ≡ false → Step e (talk_has_ended w)
tftp_step _ _ _ (begins v m now fx tag ask effects) live = record { passes = λ d. inl effects.closes; goes_on = λ _. refl }
tftp_step _ _ _ (receives b start past slot m now fx acts is effects takes) live =
    record { passes = λ d. at_end acts.over fx.closes.items effects.closes; goes_on = λ h. went_on b start _ acts (not_over acts.over fx.closes.items effects.closes h) }
tftp_step _ _ _ (ticks b start past now fx acts effects) live =
    record { passes = λ d. at_end acts.over fx.closes.items effects.closes; goes_on = λ h. went_on b start _ acts (not_over acts.over fx.closes.items effects.closes h) }
tftp_step _ _ _ (ends v (up slot m now done fx) fatal passes) live = record { passes = λ d. false_not done fatal d; goes_on = λ h. not_done done fx.closes.items fatal h }
tftp_step _ _ _ (ends v (down m now done fx) fatal passes) live = record { passes = λ d. false_not done fatal d; goes_on = λ h. not_done done fx.closes.items fatal h }
tftp_step _ _ _ (ends v (closed slot c now fx) fatal passes) live =
    let low = and_right (not (talk_has_ended v)) (nat_lt slot 2) fatal in
    record { passes = passes_close slot c fx.closes.items low passes.1; goes_on = λ h. not_both (nat_lt slot 2) low h }
tftp_step _ _ _ (ends v (time now done fx) fatal passes) live = record { passes = λ d. false_not done fatal d; goes_on = λ h. not_done done fx.closes.items fatal h }
tftp_step _ _ _ (ends v (regain l) fatal passes) live = record { passes = tt; goes_on = λ h. absurd (let z = fatal in cc) }
tftp_step _ _ _ (rests v (up slot m now done fx) idle asks) live = record { passes = λ d. inl asks.0.1; goes_on = λ h. live }
tftp_step _ _ _ (rests v (down m now done fx) idle asks) live = record { passes = λ d. inl asks.1; goes_on = λ h. live }
tftp_step _ _ _ (rests v (closed slot c now fx) idle asks) live =
    record { passes = rests_closed slot fx.closes.items (not_and (not (talk_has_ended v)) (nat_lt slot 2) (is_not (talk_has_ended v) live) idle) asks.1; goes_on = λ h. live }
tftp_step _ _ _ (rests v (time now done fx) idle asks) live = record { passes = λ d. inl asks.1; goes_on = λ h. live }
tftp_step _ _ _ (rests v (regain l) idle asks) live = record { passes = tt; goes_on = λ h. live }

tftp_last : (t : List (NodeEntry Obj Load)) (e : NodeEntry Obj Load) (v w : Conversation) → RunsTo v (t ++ e ∷ []) w → talk_has_ended v ≡ false → object_has_ended t ≡ false → PassesEndOn e
tftp_last [] e v w (u, goes, run) live h = (tftp_step v u e goes live).passes
tftp_last (d ∷ t) e v w (u, goes, run) live h = let z = none_ended d t h in tftp_last t e u w run ((tftp_step v u d goes live).goes_on z.0) z.1

pub tftp_passes : (p : Tftp) (t : List (NodeEntry Obj Load)) (e : NodeEntry Obj Load) → TftpStands p (t ++ e ∷ []) → object_has_ended t ≡ false → PassesEndOn e
tftp_passes p t e s h = tftp_last t e unbegun s.conversation s.run refl h

-- OF ONE THAT ASKS AND IS ANSWERED

module _ {S B C : Type 0} (s : Service S B C) (opens : (b : B) → (s.opening b).over ≡ None) where
  called_on : (b : B) (start : ℕ) (calls : List C) (acts : Acts) → is_some acts.over ≡ false → exchange_has_ended (after_calls b start calls acts) ≡ false
  called_on b start calls acts h = ap (λ z. exchange_has_ended (if z then finished b start calls else asking b start calls)) h

  asker_step : (v w : AskerState B C) (e : NodeEntry Obj Load) → AskerTakes s v e w → exchange_has_ended v ≡ false → Step e (exchange_has_ended w)
  asker_step _ _ _ (is_begun b m now fx tag ask effects) live = record { passes = λ d. inl (effects.closes ∙ ap end_closes (opens b)); goes_on = λ _. refl }
  asker_step _ _ _ (takes_message b start past slot m now fx acts given takes effects whole gives) live =
      record { passes = λ d. at_end acts.over fx.closes.items effects.closes; goes_on = λ h. called_on b start _ acts (not_over acts.over fx.closes.items effects.closes h) }
  asker_step _ _ _ (takes_time b start past now fx acts given effects gives) live =
      record { passes = λ d. at_end acts.over fx.closes.items effects.closes; goes_on = λ h. called_on b start _ acts (not_over acts.over fx.closes.items effects.closes h) }
  asker_step _ _ _ (is_ended v (up slot m now done fx) fatal passes) live = record { passes = λ d. false_not done fatal d; goes_on = λ h. not_done done fx.closes.items fatal h }
  asker_step _ _ _ (is_ended v (down m now done fx) fatal passes) live = record { passes = λ d. false_not done fatal d; goes_on = λ h. not_done done fx.closes.items fatal h }
  asker_step _ _ _ (is_ended v (closed slot c now fx) fatal passes) live =
      let low = and_right (not (exchange_has_ended v)) (nat_lt slot 2) fatal in
      record { passes = passes_close slot c fx.closes.items low passes.1; goes_on = λ h. not_both (nat_lt slot 2) low h }
  asker_step _ _ _ (is_ended v (time now done fx) fatal passes) live = record { passes = λ d. false_not done fatal d; goes_on = λ h. not_done done fx.closes.items fatal h }
  asker_step _ _ _ (is_ended v (regain l) fatal passes) live = record { passes = tt; goes_on = λ h. absurd (let z = fatal in cc) }
  asker_step _ _ _ (stays_idle v (up slot m now done fx) idle asks) live = record { passes = λ d. inl asks.0.1; goes_on = λ h. live }
  asker_step _ _ _ (stays_idle v (down m now done fx) idle asks) live = record { passes = λ d. inl asks.1; goes_on = λ h. live }
  asker_step _ _ _ (stays_idle v (closed slot c now fx) idle asks) live =
      record { passes = rests_closed slot fx.closes.items (not_and (not (exchange_has_ended v)) (nat_lt slot 2) (is_not (exchange_has_ended v) live) idle) asks.1; goes_on = λ h. live }
  asker_step _ _ _ (stays_idle v (time now done fx) idle asks) live = record { passes = λ d. inl asks.1; goes_on = λ h. live }
  asker_step _ _ _ (stays_idle v (regain l) idle asks) live = record { passes = tt; goes_on = λ h. live }

  asker_last : (t : List (NodeEntry Obj Load)) (e : NodeEntry Obj Load) (v w : AskerState B C) → AskerLeadsTo s v (t ++ e ∷ []) w → exchange_has_ended v ≡ false → object_has_ended t ≡ false → PassesEndOn e
  asker_last [] e v w (u, goes, run) live h = (asker_step v u e goes live).passes
  asker_last (d ∷ t) e v w (u, goes, run) live h = let z = none_ended d t h in asker_last t e u w run ((asker_step v u d goes live).goes_on z.0) z.1

  pub asker_passes : (stage : Stage S) (t : List (NodeEntry Obj Load)) (e : NodeEntry Obj Load) → StandsBy s stage (t ++ e ∷ []) → object_has_ended t ≡ false → PassesEndOn e
  asker_passes stage t e k h = asker_last t e not_begun k.exchange k.run refl h
