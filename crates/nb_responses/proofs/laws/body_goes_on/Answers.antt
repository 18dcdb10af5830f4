use Rattle.nb_responses.proofs.StayLaws.{goes_on}
use Rattle.nb_responses.proofs.laws.body_goes_on.Goals as goal

pub returns : goal.returns
returns c = goes_on
