use Rattle.nb_graph.proofs.WentLemmas.{Went-one}
use Rattle.nb_graph.proofs.graph.Graph.make.Goals as goal

pub returns-clause-went : goal.returns-clause-went
returns-clause-went g c = λ now. rw (← c.self.view_is) (Went-one (c.make.ensures.lived now))
