use Rattle.nb_graph.proofs.graph.Graph.has_links.Goals as goal

pub returns : goal.returns
returns g c = rw (← c.self.view_is) (c.self.invariant.whole.links)
