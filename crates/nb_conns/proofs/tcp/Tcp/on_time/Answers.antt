use Rattle.nb_conns.proofs.DialogueLemmas.{stands_on}
use Rattle.nb_conns.proofs.tcp.Tcp.on_time.Goals as goal

pub returns-clause-within : goal.returns-clause-within
returns-clause-within g c = c.tick.ensures.within 0

pub returns-clause-stands : goal.returns-clause-stands
returns-clause-stands g c = λ t s. stands_on _ c.args.self.now c.tick.new.self t _ c.tick.ensures.leads s
