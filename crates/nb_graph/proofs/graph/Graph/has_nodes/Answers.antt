use Rattle.nb_graph.proofs.NodeLemmas.{are-noded}
use Rattle.nb_graph.proofs.graph.Graph.has_nodes.Goals as goal

pub returns : goal.returns
returns g c = rw (← c.self.view_is) (are-noded c.self.invariant.manned)
