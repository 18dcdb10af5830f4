use Rattle.nb_traced.proofs.Following.{numbers_rise}
use Rattle.nb_traced.proofs.laws.numbers_rise.Goals as goal

pub returns : goal.returns
returns c = λ outs h came t. numbers_rise outs h came t
