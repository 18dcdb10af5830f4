use Rattle.nb_traced.proofs.Following.{commands_leave_none}
use Rattle.nb_traced.proofs.laws.commands_leave_none.Goals as goal

pub returns : goal.returns
returns c = λ outs h came t. commands_leave_none outs h came t
