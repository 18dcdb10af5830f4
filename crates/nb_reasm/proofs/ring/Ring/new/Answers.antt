use Rattle.std.proofs.Common.{arith}
use Rattle.nb_reasm.proofs.SpotLemmas.{held_free}
use Rattle.nb_reasm.proofs.ring.Ring.new.Goals as goal

pub returns-clause-none : goal.returns-clause-none
returns-clause-none c = λ p. held_free _ p (omega arith) (c.in_ok-marks.ensures.none _)
