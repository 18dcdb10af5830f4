use Rattle.nb_effects.specs.Trace.{nature}
use Rattle.nb_effects.specs.Went.{all_of}
use Rattle.nb_effects.specs.Whole.{node_at}
use Rattle.nb_effects.proofs.HostLemmas.{stood}
use Rattle.nb_graph.proofs.graph.entries_are_the_nodes_own.Goals as goal

pub returns : goal.returns
returns g c = λ cs a b m n x t fit k. stood (nature g.N.Node.kind_of g.N.Node.mark_of g.N.Load.Parts.first g.N.Load.Parts.second) g.N.Node.stands (node_at a) (node_at b) x t (all_of k.deeds) (λ i h. (fit i h).0) k.hosts (k.suits x t fit)
