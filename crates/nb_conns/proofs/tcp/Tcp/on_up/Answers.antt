use Rattle.nb_conns.proofs.DialogueLemmas.{stands_home}
use Rattle.nb_conns.proofs.tcp.Tcp.on_up.Goals as goal

pub returns-clause-within : goal.returns-clause-within
returns-clause-within g c = c.pass_in.ensures.within

pub returns-clause-stands : goal.returns-clause-stands
returns-clause-stands g c = λ t s settled. stands_home _ c.args.self.now c.pass_in.new.self t _ c.pass_in.ensures.leads s settled
