use Rattle.nb_webtalks.proofs.Called.{closes}
use Rattle.nb_webtalks.proofs.laws.closes_come.Goals as goal

pub returns : goal.returns
returns c = closes
