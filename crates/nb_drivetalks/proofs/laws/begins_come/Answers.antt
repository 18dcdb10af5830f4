use Rattle.nb_drivetalks.proofs.Called.{begins}
use Rattle.nb_drivetalks.proofs.laws.begins_come.Goals as goal

pub returns : goal.returns
returns c = begins
