use Rattle.nb_graph.specs.Trace.{nature}
use Rattle.nb_frames.proofs.OwnCallLemmas.{goes_alone}
use Rattle.nb_frames.proofs.laws.goes_as_alone.Goals as goal

pub returns : goal.returns
returns g c = λ ids now asks a b m n noded hosted k own.
    goes_alone (nature g.N.Node.kind_of g.N.Node.mark_of g.N.Load.Parts.first g.N.Load.Parts.second) g.N.Node.stands g.N.Node.rank_of ids now asks a b m n noded hosted k own
