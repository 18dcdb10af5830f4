use Rattle.nb_reasm.proofs.FrontLemmas.{parts_are}
use Rattle.nb_reasm.proofs.held.Held.front.Goals as goal

pub returns-clause-parts : goal.returns-clause-parts
returns-clause-parts c = parts_are c.args.self.now c.front.result.0.now c.front.result.1.now c.front.ensures.split c.front.ensures.len c.front.ensures.first c.front.ensures.second
