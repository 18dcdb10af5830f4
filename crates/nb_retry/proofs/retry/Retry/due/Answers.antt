-- One call more is a call more of the run, and the run follows its plan.
use Rattle.nb_retry.proofs.PlanLemmas.{Stands-append, follows_plan}
use Rattle.nb_retry.proofs.retry.Retry.due.Goals as goal

pub returns-clause-stands : goal.returns-clause-stands
returns-clause-stands c = λ calls stands. Stands-append c.args.self.now c.fire.new.self calls c.args.now c.fire.result c.ranges.now.fits c.fire.ensures.answer c.fire.ensures.after stands

pub returns-clause-plan : goal.returns-clause-plan
returns-clause-plan c = λ calls stands. follows_plan c.fire.new.self _ (Stands-append c.args.self.now c.fire.new.self calls c.args.now c.fire.result c.ranges.now.fits c.fire.ensures.answer c.fire.ensures.after stands)
