use Rattle.nb_traced.proofs.Following.{lowest_are_own, lowest_are_theirs}
use Rattle.nb_traced.proofs.laws.lowest_are_theirs.Goals as goal

pub returns-clause-theirs : goal.returns-clause-theirs
returns-clause-theirs c = λ outs h came t. lowest_are_theirs outs h came t

pub returns-clause-own : goal.returns-clause-own
returns-clause-own c = λ outs h came t. lowest_are_own outs h came t
