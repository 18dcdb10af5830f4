use Rattle.nb_chain_tests.proofs.BesideLemmas.{stays_waiting}
use Rattle.nb_chain_tests.proofs.steps.ask_name.Goals as goal

pub returns : goal.returns
returns c = stays_waiting c.args.kind c.args.waits c.args.chain c.args.graph.now c.begin.new.graph c.requires c.begin.ensures.on
