use Rattle.nb_graph.proofs.LivedLemmas.{Lived-calm, closing-empty}
use Rattle.nb_graph.proofs.WentLemmas.{Went-one}
use Rattle.nb_effects.proofs.OrderLemmas.{ClosesOne-shuts}
use Rattle.nb_graph.proofs.graph.Graph.close.Goals as goal

pub returns-clause-went : goal.returns-clause-went
returns-clause-went g c = rw (← c.self.view_is) (Went-one (Lived-calm c.self.invariant.quiet closing-empty c.close_port.ensures.lives))

pub returns-clause-one : goal.returns-clause-one
returns-clause-one g c = λ h. rw (← c.self.view_is) (ClosesOne-shuts c.self.invariant.quiet (c.close_port.ensures.starts (rw (← c.self.view_is) at h)))
