-- What one entry of an object that asks and is answered makes of its exchange.
use Rattle.std.proofs.Common.{◌≡◌, ℕ, ◌++◌, ◌&&◌, ◌==◌, Bool, true, false, not, List, [], ◌∷◌, Some, None, refl, ap, sym, ◌∙◌, subst, if◌then◌else◌, nat_lt}
use Rattle.std.specs.Option.{is_some}
use Rattle.nb_terms.specs.declared.acts.Acts.{Acts}
use Rattle.nb_terms.specs.declared.cause.Cause.{Cause}
use Rattle.nb_effects.specs.declared.effects.Fx.{Fx}
use Rattle.nb_graph.specs.Trace.{Said, NodeEntry, up, down, closed, time, regain, silence}
use Rattle.nb_nodes.specs.declared.load.Load.{Load}
use Rattle.nb_nodes.specs.declared.obj.Obj.{Obj}
use Rattle.nb_nodes.specs.declared.stage.Stage.{Stage}
use Rattle.nb_nodes.specs.declared.stage.Stage.TheVariants.{Waiting, Running, Over}
use Rattle.nb_nodes.specs.declared.tag.Tag.TheVariants.{Begin}
use Rattle.nb_nodes.specs.Tags.{tag_number}
use Rattle.nb_nodes.specs.Conversations.{TakesWhole, AsksOfIdle, PassesClose}
use Rattle.nb_nodes.specs.Exchanges.{Service, AskerState, not_begun, asking, finished, called_off, exchange_has_ended, at_end, after_calls, begins_service, calls_nothing, ends_exchange, AsksAndGives, AskerTakes, is_begun, takes_message, takes_time, is_ended, stays_idle, AskerLeadsTo, stage_is_waiting, stage_is_over, AskerIsAt, before_it, during_it, after_it, without_it, StandsBy, GoesOnAs, StandsMeets, CallsMore}

and_off : (a : Bool) → (a && false) ≡ false
and_off true = refl
and_off false = refl

not_and : (a b : Bool) → b ≡ false → not (a && b) ≡ true
not_and true b h = ap not h
not_and false b h = refl

-- an entry that calls nothing
pub idles : {S B C : Type 0} (s : Service S B C) (w : Stage S) (e : NodeEntry Obj Load) → ((v : AskerState B C) → AskerIsAt s w v → calls_nothing s v e ≡ true) → AsksOfIdle e → GoesOnAs s w w e
idles s w e idle asks = λ v at. (v, stays_idle v e (idle v at) asks, at)

-- one that ends it
over_at : {S B C : Type 0} (s : Service S B C) (w : Stage S) (v : AskerState B C) → ((b : B) (start : ℕ) (core : S) (calls : List C) → s.stands b start core calls → s.meets b start calls) → AskerIsAt s w v → AskerIsAt s Over (at_end v)
over_at s _ _ meets before_it = without_it
over_at s _ _ meets (during_it b start calls core stands alive) = after_it b start calls (meets b start core calls stands)
over_at s _ _ meets (after_it b start calls met) = after_it b start calls met
over_at s _ _ meets without_it = without_it

pub ends_now : {S B C : Type 0} (s : Service S B C) (w : Stage S) (e : NodeEntry Obj Load) → StandsMeets s → ((v : AskerState B C) → AskerIsAt s w v → ends_exchange v e ≡ true) → PassesClose e → GoesOnAs s w Over e
ends_now s w e meets fatal passes = λ v at. (at_end v, is_ended v e (fatal v at) passes, over_at s w v meets at)

pub fails_now : {S B C : Type 0} (s : Service S B C) (w new : Stage S) (e : NodeEntry Obj Load) → StandsMeets s → new ≡ Over → ((v : AskerState B C) → ends_exchange v e ≡ true) → PassesClose e → GoesOnAs s w new e
fails_now {S} s w new e meets o fatal passes = subst (λ (z : Stage S). GoesOnAs s w z e) (sym o) (ends_now s w e meets (λ v at. fatal v) passes)

-- a message with another tag begins nothing, nor one whose bytes ask for nothing
pub no_begin : {S B C : Type 0} (s : Service S B C) (m : Said) → (m.tag == tag_number Begin) ≡ false → begins_service s m ≡ false
no_begin s m h = ap (λ z. z && is_some (s.asked m.bytes)) h

pub asks_none : {S B C : Type 0} (s : Service S B C) (m : Said) → s.asked m.bytes ≡ None → begins_service s m ≡ false
asks_none s m h = ap (λ z. (m.tag == tag_number Begin) && is_some z) h ∙ and_off (m.tag == tag_number Begin)

-- when nothing is called
pub idle_up : {S B C : Type 0} (s : Service S B C) (slot : ℕ) (m : Said) (now : ℕ) (fx : Fx Obj Load) (v : AskerState B C) → s.takes slot m ≡ false → calls_nothing s v (up slot m now true fx) ≡ true
idle_up s slot m now fx not_begun h = refl
idle_up s slot m now fx (asking b start calls) h = ap not h
idle_up s slot m now fx (finished b start calls) h = refl
idle_up s slot m now fx called_off h = refl

pub idle_up_other : {S B C : Type 0} (s : Service S B C) (w : Stage S) (slot : ℕ) (m : Said) (now : ℕ) (fx : Fx Obj Load) (v : AskerState B C) → ((core : S) → w ≡ Running core → ⊥) → AskerIsAt s w v → calls_nothing s v (up slot m now true fx) ≡ true
idle_up_other s _ slot m now fx _ other before_it = refl
idle_up_other s _ slot m now fx _ other (during_it b start calls core stands alive) = absurd (other core refl)
idle_up_other s _ slot m now fx _ other (after_it b start calls met) = refl
idle_up_other s _ slot m now fx _ other without_it = refl

pub idle_time_other : {S B C : Type 0} (s : Service S B C) (w : Stage S) (now : ℕ) (fx : Fx Obj Load) (v : AskerState B C) → ((core : S) → w ≡ Running core → ⊥) → AskerIsAt s w v → calls_nothing s v (time now true fx) ≡ true
idle_time_other s _ now fx _ other before_it = refl
idle_time_other s _ now fx _ other (during_it b start calls core stands alive) = absurd (other core refl)
idle_time_other s _ now fx _ other (after_it b start calls met) = refl
idle_time_other s _ now fx _ other without_it = refl

pub idle_down : {S B C : Type 0} (s : Service S B C) (m : Said) (now : ℕ) (fx : Fx Obj Load) (v : AskerState B C) → begins_service s m ≡ false → calls_nothing s v (down m now true fx) ≡ true
idle_down s m now fx not_begun h = ap not h
idle_down s m now fx (asking b start calls) h = refl
idle_down s m now fx (finished b start calls) h = refl
idle_down s m now fx called_off h = refl

pub idle_down_begun : {S B C : Type 0} (s : Service S B C) (w : Stage S) (m : Said) (now : ℕ) (fx : Fx Obj Load) (v : AskerState B C) → stage_is_waiting w ≡ false → AskerIsAt s w v → calls_nothing s v (down m now true fx) ≡ true
idle_down_begun s _ m now fx _ h before_it = absurd (let z = h in cc)
idle_down_begun s _ m now fx _ h (during_it b start calls core stands alive) = refl
idle_down_begun s _ m now fx _ h (after_it b start calls met) = refl
idle_down_begun s _ m now fx _ h without_it = refl

pub idle_close_over : {S B C : Type 0} (s : Service S B C) (w : Stage S) (slot : ℕ) (cause : Cause) (now : ℕ) (fx : Fx Obj Load) (v : AskerState B C) → stage_is_over w ≡ true → AskerIsAt s w v → calls_nothing s v (closed slot cause now fx) ≡ true
idle_close_over s _ slot cause now fx _ h before_it = absurd (let z = h in cc)
idle_close_over s _ slot cause now fx _ h (during_it b start calls core stands alive) = absurd (let z = h in cc)
idle_close_over s _ slot cause now fx _ h (after_it b start calls met) = refl
idle_close_over s _ slot cause now fx _ h without_it = refl

pub idle_close : {S B C : Type 0} (s : Service S B C) (slot : ℕ) (cause : Cause) (now : ℕ) (fx : Fx Obj Load) (v : AskerState B C) → nat_lt slot 2 ≡ false → calls_nothing s v (closed slot cause now fx) ≡ true
idle_close s slot cause now fx v h = not_and (not (exchange_has_ended v)) (nat_lt slot 2) h

pub fatal_close : {S B C : Type 0} (s : Service S B C) (w : Stage S) (slot : ℕ) (cause : Cause) (now : ℕ) (fx : Fx Obj Load) (v : AskerState B C) → stage_is_over w ≡ false → nat_lt slot 2 ≡ true → AskerIsAt s w v → ends_exchange v (closed slot cause now fx) ≡ true
fatal_close s _ slot cause now fx _ h l before_it = l
fatal_close s _ slot cause now fx _ h l (during_it b start calls core stands alive) = l
fatal_close s _ slot cause now fx _ h l (after_it b start calls met) = absurd (let z = h in cc)
fatal_close s _ slot cause now fx _ h l without_it = absurd (let z = h in cc)

-- a call of the core, after which it stands for these calls, of which the last asked this
after_call : {S B C : Type 0} (s : Service S B C) (b : B) (start : ℕ) (calls : List C) (core : S) (o : Bool) → StandsMeets s → s.stands b start core calls → s.has_ended calls ≡ o → AskerIsAt s (if o then Over else Running core) (if o then finished b start calls else asking b start calls)
after_call s b start calls core true meets stands e = after_it b start calls (meets b start core calls stands)
after_call s b start calls core false meets stands e = during_it b start calls core stands e

message_at : {S B C : Type 0} (s : Service S B C) (slot : ℕ) (m : Said) (now : ℕ) (fx : Fx Obj Load) (acts : Acts) (given : List Said) (old core : S) (new : Stage S) → StandsMeets s → s.takes slot m ≡ true → AsksAndGives m acts given fx → TakesWhole m fx
    → CallsMore s old core (s.received m now) acts m.rec given → new ≡ (if is_some acts.over then Over else Running core)
    → (v : AskerState B C) → AskerIsAt s (Running old) v → (w : AskerState B C) × AskerTakes s v (up slot m now true fx) w × AskerIsAt s new w
message_at {S} s slot m now fx acts given old core new meets takes asks whole more e _ (during_it b start calls _ stands alive) =
    let c = more b start calls stands alive in (
      after_calls b start (calls ++ s.received m now acts ∷ []) acts,
      takes_message b start calls slot m now fx acts given takes asks whole c.gives,
      subst (λ (z : Stage S). AskerIsAt s z (after_calls b start (calls ++ s.received m now acts ∷ []) acts)) (sym e)
          (after_call s b start (calls ++ s.received m now acts ∷ []) core (is_some acts.over) meets c.stands c.ends),
    )

pub message_on : {S B C : Type 0} (s : Service S B C) (slot : ℕ) (m : Said) (now : ℕ) (fx : Fx Obj Load) (acts : Acts) (given : List Said) (old core : S) (new : Stage S) → StandsMeets s → s.takes slot m ≡ true → AsksAndGives m acts given fx → TakesWhole m fx
    → CallsMore s old core (s.received m now) acts m.rec given → new ≡ (if is_some acts.over then Over else Running core) → GoesOnAs s (Running old) new (up slot m now true fx)
message_on s slot m now fx acts given old core new meets takes asks whole more e = λ v at. message_at s slot m now fx acts given old core new meets takes asks whole more e v at

tick_at : {S B C : Type 0} (s : Service S B C) (now : ℕ) (fx : Fx Obj Load) (acts : Acts) (given : List Said) (old core : S) (new : Stage S) → StandsMeets s → AsksAndGives silence acts given fx
    → CallsMore s old core (s.timed now) acts 0 given → new ≡ (if is_some acts.over then Over else Running core)
    → (v : AskerState B C) → AskerIsAt s (Running old) v → (w : AskerState B C) × AskerTakes s v (time now true fx) w × AskerIsAt s new w
tick_at {S} s now fx acts given old core new meets asks more e _ (during_it b start calls _ stands alive) =
    let c = more b start calls stands alive in (
      after_calls b start (calls ++ s.timed now acts ∷ []) acts,
      takes_time b start calls now fx acts given asks c.gives,
      subst (λ (z : Stage S). AskerIsAt s z (after_calls b start (calls ++ s.timed now acts ∷ []) acts)) (sym e)
          (after_call s b start (calls ++ s.timed now acts ∷ []) core (is_some acts.over) meets c.stands c.ends),
    )

pub tick_on : {S B C : Type 0} (s : Service S B C) (now : ℕ) (fx : Fx Obj Load) (acts : Acts) (given : List Said) (old core : S) (new : Stage S) → StandsMeets s → AsksAndGives silence acts given fx
    → CallsMore s old core (s.timed now) acts 0 given → new ≡ (if is_some acts.over then Over else Running core) → GoesOnAs s (Running old) new (time now true fx)
tick_on s now fx acts given old core new meets asks more e = λ v at. tick_at s now fx acts given old core new meets asks more e v at

begin_at : {S B C : Type 0} (s : Service S B C) (b : B) (m : Said) (now : ℕ) (fx : Fx Obj Load) (core : S) → m.tag ≡ tag_number Begin → s.asked m.bytes ≡ Some b → AsksAndGives m (s.opening b) [] fx → s.stands b now core [] → s.has_ended [] ≡ false
    → (v : AskerState B C) → AskerIsAt s Waiting v → (w : AskerState B C) × AskerTakes s v (down m now true fx) w × AskerIsAt s (Running core) w
begin_at s b m now fx core tag asks effects stands opened _ before_it =
    (asking b now [], is_begun b m now fx tag asks effects, during_it b now [] core stands opened)

pub begin_on : {S B C : Type 0} (s : Service S B C) (b : B) (m : Said) (now : ℕ) (fx : Fx Obj Load) (core : S) → m.tag ≡ tag_number Begin → s.asked m.bytes ≡ Some b → AsksAndGives m (s.opening b) [] fx → s.stands b now core [] → s.has_ended [] ≡ false
    → GoesOnAs s Waiting (Running core) (down m now true fx)
begin_on s b m now fx core tag asks effects stands opened = λ v at. begin_at s b m now fx core tag asks effects stands opened v at

-- the entries of a longer trace
leads_more : {S B C : Type 0} (s : Service S B C) (v w u : AskerState B C) (t : List (NodeEntry Obj Load)) (e : NodeEntry Obj Load) → AskerLeadsTo s v t w → AskerTakes s w e u → AskerLeadsTo s v (t ++ e ∷ []) u
leads_more {S} {B} {C} s v w u [] e run goes = (u, subst (λ (z : AskerState B C). AskerTakes s z e u) (sym run) goes, refl)
leads_more s v w u (x ∷ t) e run goes = (run.0, run.1, leads_more s run.0 w u t e run.2 goes)

pub stands_more : {S B C : Type 0} (s : Service S B C) (old new : Stage S) (t : List (NodeEntry Obj Load)) (e : NodeEntry Obj Load) → GoesOnAs s old new e → StandsBy s old t → StandsBy s new (t ++ e ∷ [])
stands_more s old new t e goes stood =
    let g = goes stood.exchange stood.at in
    record { exchange = g.0; run = leads_more s not_begun stood.exchange g.0 t e stood.run g.1; at = g.2 }

pub stands_anew : {S B C : Type 0} (s : Service S B C) (stage : Stage S) → stage ≡ Waiting → StandsBy s stage []
stands_anew {S} s stage e = record { exchange = not_begun; run = refl; at = subst (λ (z : Stage S). AskerIsAt s z not_begun) (sym e) before_it }

-- what was lent comes back
pub regain_on : {S B C : Type 0} (s : Service S B C) (w new : Stage S) (l : Load) → new ≡ w → GoesOnAs s w new (regain l)
regain_on {S} s w new l e = subst (λ (z : Stage S). GoesOnAs s w z (regain l)) (sym e) (idles s w (regain l) (λ v at. refl) tt)
