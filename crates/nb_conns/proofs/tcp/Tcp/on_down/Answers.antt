use Rattle.nb_conns.proofs.DialogueLemmas.{stands_on}
use Rattle.nb_conns.proofs.tcp.Tcp.on_down.Goals as goal

pub returns-clause-within : goal.returns-clause-within
returns-clause-within g c = c.pass_down.ensures.within 0

pub returns-clause-stands : goal.returns-clause-stands
returns-clause-stands g c = λ t s. stands_on _ c.args.self.now c.pass_down.new.self t _ c.pass_down.ensures.leads s
