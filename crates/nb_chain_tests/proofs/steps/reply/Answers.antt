use Rattle.nb_chain_tests.proofs.BesideLemmas.{stay_beside, stay_back}
use Rattle.nb_chain_tests.proofs.steps.reply.Goals as goal

pub returns-clause-so : goal.returns-clause-so
returns-clause-so c = stay_beside c.args.graph.now c.message.new.graph c.args.chain c.args.other c.has_nodes.ensures c.requires.beside c.message.ensures.on

pub returns-clause-back : goal.returns-clause-back
returns-clause-back c = stay_back c.args.graph.now c.message.new.graph c.args.chain c.args.other c.has_nodes.ensures c.requires.beside c.message.ensures.on
