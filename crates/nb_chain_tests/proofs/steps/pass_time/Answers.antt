use Rattle.nb_chain_tests.proofs.BesideLemmas.{stay_beside, stay_back}
use Rattle.nb_chain_tests.proofs.steps.pass_time.Goals as goal

pub returns-clause-so : goal.returns-clause-so
returns-clause-so c = stay_beside c.args.graph.now c.time.new.graph c.args.chain c.args.other c.has_nodes.ensures c.requires c.time.ensures.on

pub returns-clause-back : goal.returns-clause-back
returns-clause-back c = stay_back c.args.graph.now c.time.new.graph c.args.chain c.args.other c.has_nodes.ensures c.requires c.time.ensures.on
