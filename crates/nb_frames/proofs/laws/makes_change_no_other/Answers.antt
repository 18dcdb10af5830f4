use Rattle.nb_graph.specs.Trace.{nature}
use Rattle.nb_frames.proofs.MadeLemmas.{made_keeps}
use Rattle.nb_frames.proofs.laws.makes_change_no_other.Goals as goal

pub returns : goal.returns
returns g c = λ now x node a b m n k y low. made_keeps (nature g.N.Node.kind_of g.N.Node.mark_of g.N.Load.Parts.first g.N.Load.Parts.second) g.N.Node.stands now x node a b m n k y low
