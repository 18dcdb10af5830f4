use Rattle.nb_traced.proofs.Following.{opens_have_pieces}
use Rattle.nb_traced.proofs.laws.opens_have_pieces.Goals as goal

pub returns : goal.returns
returns c = λ outs h came t. opens_have_pieces outs h came t
