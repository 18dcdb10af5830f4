use Rattle.nb_conns.proofs.DialogueLemmas.{nothing_said}
use Rattle.nb_graph.specs.Trace.{said}
use Rattle.nb_drivenodes.proofs.SessionLemmas.{session-rests, quiet-down-session, session-stands-on}
use Rattle.nb_drivenodes.proofs.iscsi.Iscsi.on_down.Goals as goal

pub returns-in-Unasked-clause-stands : goal.returns-in-Unasked-clause-stands
returns-in-Unasked-clause-stands g c = λ t now s. session-stands-on g.L.CarriesText.texts c.args.self.now c.begin.new.self t _ (c.begin.ensures.leads now) s

pub returns-in-Open-clause-stands : goal.returns-in-Open-clause-stands
returns-in-Open-clause-stands g c = λ t now s. session-stands-on g.L.CarriesText.texts c.args.self.now c.pass.new.self t _ (c.pass.ensures.leads now) s

pub returns-in-LoggingIn-clause-stands : goal.returns-in-LoggingIn-clause-stands
returns-in-LoggingIn-clause-stands g c = λ t now s. session-stands-on g.L.CarriesText.texts c.args.self.now c.args.self.now t _ (session-rests g.L.CarriesText.texts _ _ _ (λ d at. quiet-down-session c.args.self.now.stage c.args.self.now.pdus (said c.args.msg.now) now c.args.fx.now d (λ e. absurd (let z = c.in-LoggingIn.is in cc)) (λ e. absurd (let z = c.in-LoggingIn.is in cc)) at) (nothing_said c.args.fx.now c.requires)) s

pub returns-in-Drained-clause-stands : goal.returns-in-Drained-clause-stands
returns-in-Drained-clause-stands g c = λ t now s. session-stands-on g.L.CarriesText.texts c.args.self.now c.args.self.now t _ (session-rests g.L.CarriesText.texts _ _ _ (λ d at. quiet-down-session c.args.self.now.stage c.args.self.now.pdus (said c.args.msg.now) now c.args.fx.now d (λ e. absurd (let z = c.in-Drained.is in cc)) (λ e. absurd (let z = c.in-Drained.is in cc)) at) (nothing_said c.args.fx.now c.requires)) s

pub returns-in-Ended-clause-stands : goal.returns-in-Ended-clause-stands
returns-in-Ended-clause-stands g c = λ t now s. session-stands-on g.L.CarriesText.texts c.args.self.now c.args.self.now t _ (session-rests g.L.CarriesText.texts _ _ _ (λ d at. quiet-down-session c.args.self.now.stage c.args.self.now.pdus (said c.args.msg.now) now c.args.fx.now d (λ e. absurd (let z = c.in-Ended.is in cc)) (λ e. absurd (let z = c.in-Ended.is in cc)) at) (nothing_said c.args.fx.now c.requires)) s
