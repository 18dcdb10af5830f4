use Rattle.nb_effects.specs.Trace.{nature}
use Rattle.nb_effects.specs.Drained.{link_watch_begun}
use Rattle.nb_effects.proofs.DrainedLemmas.{drained-at}
use Rattle.nb_effects.proofs.drained.drained_where_closed.Goals as goal

pub returns : goal.returns
returns g c = λ p q i j ds us vs cause d e n still few. drained-at (nature g.N.Node.kind_of g.N.Node.mark_of g.N.Load.Parts.first g.N.Load.Parts.second) p q i j link_watch_begun ds us vs cause n d e still few
