use Rattle.nb_wire.proofs.ChecksumLaws.{SameSum-refl}
use Rattle.nb_wire.proofs.TurnedLaws.{turned_end}
use Rattle.nb_wire.proofs.sum.total.Goals as goal

pub returns-clause-same : goal.returns-clause-same
returns-clause-same c =
    turned_end _ _ _ _ _ c.folded.ensures.same c.folded.ensures.zero c.folded.ensures.none (SameSum-refl _) c.both_sums-turned.ensures.same
