use Rattle.nb_reasm.proofs.WindowLemmas.{next_is_least}
use Rattle.nb_reasm.proofs.held.Held.next.Goals as goal

pub returns-clause-least : goal.returns-clause-least
returns-clause-least c = next_is_least c.args.self.now.ring c.args.self.now.is_ring
