use Rattle.nb_chain_tests.proofs.BesideLemmas.{made_beside}
use Rattle.nb_chain_tests.proofs.steps.two.Goals as goal

pub returns-clause-beside : goal.returns-clause-beside
returns-clause-beside c =
    made_beside c.args.one c.args.other c.in_ok-first.first c.in_ok-second.second c.in_ok-graph.graph c.make.new.graph c.make-2.new.graph c.has_nodes.ensures
    c.in_ok-first.ensures.grows c.in_ok-second.ensures.grows c.in_ok-second.ensures.ready c.in_ok-second.ensures.top
