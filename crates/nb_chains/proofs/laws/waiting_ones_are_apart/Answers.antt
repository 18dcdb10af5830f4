use Rattle.nb_chains.proofs.WaitingApart.{waiting_apart}
use Rattle.nb_chains.proofs.laws.waiting_ones_are_apart.Goals as goal

pub returns : goal.returns
returns c = waiting_apart
