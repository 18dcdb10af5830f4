use Rattle.nb_responses.proofs.StayLaws.{stays}
use Rattle.nb_responses.proofs.laws.decided_stays.Goals as goal

pub returns : goal.returns
returns c = stays
