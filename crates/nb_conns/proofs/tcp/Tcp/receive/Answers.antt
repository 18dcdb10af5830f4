use Rattle.nb_conns.proofs.DialogueLemmas.{at_home}
use Rattle.nb_conns.proofs.TalkLemmas.{none_goes}
use Rattle.nb_conns.proofs.tcp.Tcp.receive.Goals as goal

pub returns-in-None-clause-leads : goal.returns-in-None-clause-leads
returns-in-None-clause-leads g c = λ slot m takes r b.
    at_home _ _ _ _ (none_goes _ slot m c.args.now c.args.fx.now c.args.self.now.stage c.in-Running.field-0 c.in-Running.is c.args.bytes.now b c.parse.ensures.complete c.in-None.is c.requires.blank c.requires.took)
