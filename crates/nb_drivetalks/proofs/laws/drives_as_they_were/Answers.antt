use Rattle.nb_drivetalks.proofs.Staying.{same_drive}
use Rattle.nb_drivetalks.proofs.laws.drives_as_they_were.Goals as goal

pub returns : goal.returns
returns c = same_drive
