use Rattle.nb_traced.proofs.WhoseEvents.{puts_follow}
use Rattle.nb_traced.proofs.laws.records_follow_entries.Goals as goal

pub returns : goal.returns
returns c = λ outs h came t. puts_follow outs h came t
