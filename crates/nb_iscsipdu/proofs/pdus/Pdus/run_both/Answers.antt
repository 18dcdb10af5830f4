use Rattle.nb_iscsipdu.proofs.StreamLemmas.{gathers-both, least-both}
use Rattle.nb_iscsipdu.proofs.pdus.Pdus.run_both.Goals as goal

pub returns-clause-gathers : goal.returns-clause-gathers
returns-clause-gathers c =
    gathers-both c.args.self.now c.run-took.new.self c.run.new.self c.args.first.now c.args.second.now c.run-took.result c.run.result c.run-took.ensures.within c.if-took-first.false c.run-took.ensures.gathers c.run.ensures.gathers

pub returns-clause-least : goal.returns-clause-least
returns-clause-least c =
    least-both c.args.self.now c.run-took.new.self c.args.first.now c.args.second.now c.run-took.result c.run.result c.run-took.ensures.within c.if-took-first.false c.run-took.ensures.gathers c.run-took.ensures.least c.run.ensures.least
