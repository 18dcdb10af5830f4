use Rattle.nb_graph.proofs.graph.Graph.harvest.Goals as goal

pub returns-then-is_live-clause-keeps : goal.returns-then-is_live-clause-keeps
returns-then-is_live-clause-keeps g c = rw (← c.self.view_is) c.harvest.ensures.keeps

pub returns-then-is_live-clause-others : goal.returns-then-is_live-clause-others
returns-then-is_live-clause-others g c = rw (← c.self.view_is) c.harvest.ensures.others
