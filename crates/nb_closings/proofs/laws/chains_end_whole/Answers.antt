use Rattle.nb_closings.proofs.Whole.{chains_end_whole}
use Rattle.nb_closings.proofs.laws.chains_end_whole.Goals as goal

pub returns : goal.returns
returns c = chains_end_whole
