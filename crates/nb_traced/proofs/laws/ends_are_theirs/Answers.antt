use Rattle.nb_traced.proofs.Following.{ends_are_theirs}
use Rattle.nb_traced.proofs.laws.ends_are_theirs.Goals as goal

pub returns : goal.returns
returns c = λ outs h came t. ends_are_theirs outs h came t
