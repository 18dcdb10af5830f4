use Rattle.nb_closings.proofs.Whole.{chains_are_shut}
use Rattle.nb_closings.proofs.laws.chains_are_shut.Goals as goal

pub returns : goal.returns
returns c = chains_are_shut
