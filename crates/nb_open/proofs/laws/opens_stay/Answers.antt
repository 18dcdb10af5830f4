use Rattle.nb_open.proofs.Keepings.{open_stays}
use Rattle.nb_open.proofs.laws.opens_stay.Goals as goal

pub returns : goal.returns
returns c = open_stays
