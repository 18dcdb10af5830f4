use Rattle.nb_lab.specs.Bringing.{brought}
use Rattle.nb_lab.proofs.ServerLemmas.{takes_brought, takes_nothing}
use Rattle.nb_lab.proofs.server.Server.take.Goals as goal

pub returns-in-None-clause-takes : goal.returns-in-None-clause-takes
returns-in-None-clause-takes c =
    takes_nothing c.args.self.now c.args.frame.now (λ b h. c.in-None.ensures.complete b h)

pub returns-in-Some-clause-takes : goal.returns-in-Some-clause-takes
returns-in-Some-clause-takes c =
    takes_brought c.args.self.now c.args.frame.now (brought c.in-Some.received) _ _ c.in-Some.ensures.sound c.in-Some.ensures.complete c.answer.ensures.answers
