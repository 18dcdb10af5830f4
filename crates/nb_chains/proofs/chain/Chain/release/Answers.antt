use Rattle.nb_chains.proofs.LettingGo.{shut_loose}
use Rattle.nb_chains.proofs.chain.Chain.release.Goals as goal

pub returns : goal.returns
returns g c = c.let_all_go.ensures (shut_loose c.args.self c.args.graph.now c.has_nodes.ensures c.requires.chained c.requires.shut)
