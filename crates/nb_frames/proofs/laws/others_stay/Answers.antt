use Rattle.nb_graph.specs.Trace.{nature}
use Rattle.nb_frames.proofs.FrameLemmas.{others_stay}
use Rattle.nb_frames.proofs.laws.others_stay.Goals as goal

pub returns : goal.returns
returns g c = λ own now asks a b m n links within k none.
    others_stay (nature g.N.Node.kind_of g.N.Node.mark_of g.N.Load.Parts.first g.N.Load.Parts.second) g.N.Node.stands now asks a b m n own within links k none
