use Rattle.std.proofs.Common.{refl}
use Rattle.nb_traced.proofs.Worked.{one_has_ended, two_live}
use Rattle.nb_traced.proofs.laws.two_pings_are_traced.Goals as goal

pub returns-clause-both : goal.returns-clause-both
returns-clause-both c = (_, refl, two_live)

pub returns-clause-one : goal.returns-clause-one
returns-clause-one c = λ cause. (_, refl, one_has_ended cause)
