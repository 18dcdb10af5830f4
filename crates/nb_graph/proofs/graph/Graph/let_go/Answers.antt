use Rattle.nb_graph.proofs.LivedLemmas.{Lived-run}
use Rattle.nb_graph.proofs.WentLemmas.{Went-one}
use Rattle.nb_graph.proofs.graph.Graph.let_go.Goals as goal

pub returns-then-holds-gt0-clause-went : goal.returns-then-holds-gt0-clause-went
returns-then-holds-gt0-clause-went g c = λ now. rw (← c.self.view_is) (Went-one (Lived-run c.let_go.ensures.runs c.let_go.ensures.lets.ages))
