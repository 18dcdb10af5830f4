use Rattle.nb_traced.proofs.Following.{none_is_left}
use Rattle.nb_traced.proofs.laws.none_is_left.Goals as goal

pub returns : goal.returns
returns c = λ outs h came t living waits x. none_is_left outs h came t living waits x
