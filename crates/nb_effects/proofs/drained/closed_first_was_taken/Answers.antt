use Rattle.nb_effects.specs.Trace.{nature}
use Rattle.nb_effects.proofs.DrainedLemmas.{went-drained}
use Rattle.nb_effects.proofs.drained.closed_first_was_taken.Goals as goal

pub returns : goal.returns
returns g c = λ now asks a b m n p q i j out links bal k peer linked. went-drained g.N.Node.stands (nature g.N.Node.kind_of g.N.Node.mark_of g.N.Load.Parts.first g.N.Load.Parts.second) now asks a b m n p q i j out links bal k peer linked
