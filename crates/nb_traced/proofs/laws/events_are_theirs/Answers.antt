use Rattle.nb_traced.proofs.WhoseEvents.{events_are_theirs}
use Rattle.nb_traced.proofs.laws.events_are_theirs.Goals as goal

pub returns : goal.returns
returns c = λ outs h came t. events_are_theirs outs h came t
