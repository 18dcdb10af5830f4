use Rattle.nb_drivetalks.proofs.Called.{times}
use Rattle.nb_drivetalks.proofs.laws.times_come.Goals as goal

pub returns : goal.returns
returns c = times
