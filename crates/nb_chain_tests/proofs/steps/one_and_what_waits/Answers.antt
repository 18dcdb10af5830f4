use Rattle.nb_chain_tests.proofs.BesideLemmas.{made_after}
use Rattle.nb_chain_tests.proofs.steps.one_and_what_waits.Goals as goal

pub returns : goal.returns
returns c =
    made_after c.args.waits c.args.kind c.in_ok-first.first c.in_ok-second.second c.in_ok-graph.graph c.wait.new.graph c.make.new.graph c.has_nodes.ensures
    c.in_ok-first.ensures.waits c.in_ok-first.ensures.grows c.in_ok-second.ensures.grows c.in_ok-second.ensures.ready c.in_ok-second.ensures.top
