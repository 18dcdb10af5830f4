use Rattle.std.proofs.Common.{◌≡◌, ◌++◌, ap, not, sym, ◌∙◌, subst}
use Rattle.std.specs.Option.{option_map}
use Rattle.nb_effects.specs.declared.effects.Fx.{Fx}
use Rattle.nb_iscsipdu.specs.PduTexts.{PduParts, pdu_parts}
use Rattle.nb_login.specs.LoginHistory.{PduCame, pdu_came}
use Rattle.nb_login.specs.LoginStands.{LoginStands}
use Rattle.nb_drivenodes.specs.declared.session_stage.SessionStage.{SessionStage}
use Rattle.nb_drivenodes.specs.declared.session_stage.SessionStage.TheVariants.{LoggingIn}
use Rattle.nb_drivenodes.specs.DriveEffects.{OnlyFirst, pdu_emit}
use Rattle.nb_drivenodes.specs.StreamCuts.{FeedsSo, cuts_one}
use Rattle.nb_drivenodes.specs.SessionTalks.{HasStandingLogin, AnswersLogin}
use Rattle.nb_drivenodes.proofs.DriveEffectLemmas.{pdu-alone}
use Rattle.nb_drivenodes.proofs.SessionLemmas.{session-cuts}
use Rattle.nb_drivenodes.proofs.LoginAnswerLemmas.{answers-on, gives-on, nothing-emitted, some-same}
use Rattle.nb_drivenodes.proofs.iscsi.Iscsi.receive.Goals as goal

pub returns-in-Ok-clause-leads : goal.returns-in-Ok-clause-leads
returns-in-Ok-clause-leads g c = λ m slot now p before takes r whole feeds.
    let same : pdu_parts c.in-Some.pdu ≡ p = some-same (ap (option_map pdu_parts) (sym c.in-Some.is) ∙ c.pdu.ensures ∙ whole) in
    let came : pdu_came c.args.rec (pdu_parts c.in-Some.pdu) ≡ pdu_came m.rec p = ap (λ z. pdu_came z (pdu_parts c.in-Some.pdu)) (sym r) ∙ ap (pdu_came m.rec) same in
    answers-on g.L.CarriesText.texts m slot now c.carry_out.new.fx c.carry_out.new.self.stage (LoggingIn c.answer_to.new.login) before c.carry_out.new.self.pdus p
    (λ i e. LoginStands i c.answer_to.new.login e) c.in-Ok.answer c.args.self.now.stage takes (λ o. absurd (let z = o in let y = c.in-LoggingIn.is in cc))
    (λ i h has on. subst (λ (z : PduCame). AnswersLogin i h z (LoginStands i c.answer_to.new.login) c.in-Ok.answer) came (c.in-Ok.ensures i h (subst (λ (z : SessionStage). HasStandingLogin z i h) c.in-LoggingIn.is has) on))
    (λ i e s. s) c.carry_out.ensures.stage c.carry_out.ensures.effects
    (subst (λ z. FeedsSo before z m.bytes c.carry_out.new.fx.took (cuts_one p)) (sym c.carry_out.ensures.pdus)
    (subst (λ z. FeedsSo before c.args.self.now.pdus m.bytes z (cuts_one p)) (sym c.carry_out.ensures.took) feeds))

pub returns-in-Err-clause-leads : goal.returns-in-Err-clause-leads
returns-in-Err-clause-leads g c = λ m slot now p before takes r whole feeds. session-cuts _ _ _ _ _ _ c.give_up.ensures.ended (λ d at. ap not c.give_up.ensures.err) tt

pub returns-in-Ok-copied-clause-leads : goal.returns-in-Ok-copied-clause-leads
returns-in-Ok-copied-clause-leads g c = λ m slot now p before takes r whole feeds.
    let same : pdu_parts c.in-Some.pdu ≡ p = some-same (ap (option_map pdu_parts) (sym c.in-Some.is) ∙ c.pdu.ensures ∙ whole) in
    let text : c.in-Ok-copied.text ≡ p.head ++ p.seg = c.in-Ok-copied.ensures ∙ ap (λ (q : PduParts). q.head ++ q.seg) same in
    let fx : Fx g.row.N.Denot g.row.L.Denot = record c.args.fx.now { ups = c.hand_up.new.ups } in
    let idle = c.requires in
    gives-on g.L.CarriesText.texts m slot now fx c.args.self.now.stage before c.args.self.now.pdus p c.in-Open.is takes feeds
    (pdu-alone g.L.CarriesText.texts m p fx idle.0.no_make (nothing-emitted c.args.fx.now idle.0).0 (subst (λ z. OnlyFirst (pdu_emit g.L.CarriesText.texts z) c.hand_up.new.ups) text c.hand_up.ensures) idle.1)

pub returns-in-Err-copied-clause-leads : goal.returns-in-Err-copied-clause-leads
returns-in-Err-copied-clause-leads g c = λ m slot now p before takes r whole feeds. session-cuts _ _ _ _ _ _ c.give_up-in-Err-copied.ensures.ended (λ d at. ap not c.give_up-in-Err-copied.ensures.err) tt
