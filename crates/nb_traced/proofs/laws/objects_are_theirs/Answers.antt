use Rattle.nb_traced.proofs.Following.{leaves_theirs}
use Rattle.nb_traced.proofs.laws.objects_are_theirs.Goals as goal

pub returns : goal.returns
returns c = λ outs h came t. leaves_theirs outs h came t
