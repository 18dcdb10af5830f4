use Rattle.nb_graph.proofs.WentLemmas.{Went-then}
use Rattle.nb_graph.proofs.graph.one_after_another.Goals as goal

pub returns : goal.returns
returns g c = λ cs bs a b d m n o k l. Went-then k l
