use Rattle.nb_graph.proofs.NodeLemmas.{node-dead, node-rank}
use Rattle.nb_graph.proofs.graph.Graph.node.Goals as goal

pub returns-clause-dead : goal.returns-clause-dead
returns-clause-dead g c = rw (← c.self.view_is) (node-dead c.args.id.0 c.node.result c.self.invariant.manned c.node.ensures)

pub returns-clause-rank : goal.returns-clause-rank
returns-clause-rank g c = rw (← c.self.view_is) (node-rank c.args.id.0 c.node.result c.self.invariant.manned c.node.ensures)
