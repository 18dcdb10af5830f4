use Rattle.nb_drivetalks.proofs.Called.{closes}
use Rattle.nb_drivetalks.proofs.laws.closes_come.Goals as goal

pub returns : goal.returns
returns c = closes
