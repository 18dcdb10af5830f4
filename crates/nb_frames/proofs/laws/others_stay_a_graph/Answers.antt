use Rattle.nb_frames.proofs.SameGraph.{same_graph}
use Rattle.nb_frames.proofs.laws.others_stay_a_graph.Goals as goal

pub returns : goal.returns
returns g c = λ ids a b noded lives kept. same_graph g.N.Node.rank_of a b noded ids lives kept
