use Rattle.nb_traced.proofs.Entering.{entered}
use Rattle.nb_traced.proofs.Following.{rests}
use Rattle.nb_traced.proofs.laws.entries_are_theirs.Goals as goal

pub returns-clause-entered : goal.returns-clause-entered
returns-clause-entered c = λ outs h came t k. entered outs h came t k

pub returns-clause-rests : goal.returns-clause-rests
returns-clause-rests c = λ outs h came t. rests outs h came t
