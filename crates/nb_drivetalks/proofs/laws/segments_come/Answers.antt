use Rattle.nb_drivetalks.proofs.Called.{segments}
use Rattle.nb_drivetalks.proofs.laws.segments_come.Goals as goal

pub returns : goal.returns
returns c = segments
