use Rattle.nb_conns.proofs.DialogueLemmas.{nothing_said}
use Rattle.nb_graph.specs.Trace.{said}
use Rattle.nb_drivenodes.proofs.UnitLemmas.{unit-rests, quiet-down-unit, unit-stands-on}
use Rattle.nb_drivenodes.proofs.logical_unit.LogicalUnit.on_down.Goals as goal

pub returns-in-Unasked-clause-stands : goal.returns-in-Unasked-clause-stands
returns-in-Unasked-clause-stands g c = λ t now s. unit-stands-on g.L.CarriesText.texts c.args.self.now c.begin.new.self t _ (c.begin.ensures.leads now) s

pub returns-in-Working-clause-within : goal.returns-in-Working-clause-within
returns-in-Working-clause-within g c = c.ask.ensures.within _

pub returns-in-Working-clause-stands : goal.returns-in-Working-clause-stands
returns-in-Working-clause-stands g c = λ t now s. unit-stands-on g.L.CarriesText.texts c.args.self.now c.ask.new.self t _ (c.ask.ensures.leads now) s

pub returns-in-Waiting-clause-stands : goal.returns-in-Waiting-clause-stands
returns-in-Waiting-clause-stands g c = λ t now s. unit-stands-on g.L.CarriesText.texts c.args.self.now c.args.self.now t _ (unit-rests g.L.CarriesText.texts _ _ (λ d at. quiet-down-unit c.args.self.now.stage (said c.args.msg.now) now c.args.fx.now d (λ e. absurd (let z = e in let y = c.in-Waiting.is in cc)) (λ kk x o calls e st on. absurd (let z = e in let y = c.in-Waiting.is in cc)) at) (nothing_said c.args.fx.now c.requires)) s

pub returns-in-Ended-clause-stands : goal.returns-in-Ended-clause-stands
returns-in-Ended-clause-stands g c = λ t now s. unit-stands-on g.L.CarriesText.texts c.args.self.now c.args.self.now t _ (unit-rests g.L.CarriesText.texts _ _ (λ d at. quiet-down-unit c.args.self.now.stage (said c.args.msg.now) now c.args.fx.now d (λ e. absurd (let z = e in let y = c.in-Ended.is in cc)) (λ kk x o calls e st on. absurd (let z = e in let y = c.in-Ended.is in cc)) at) (nothing_said c.args.fx.now c.requires)) s
