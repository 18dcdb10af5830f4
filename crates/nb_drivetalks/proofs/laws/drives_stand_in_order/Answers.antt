use Rattle.nb_drivetalks.proofs.Called.{orders}
use Rattle.nb_drivetalks.proofs.laws.drives_stand_in_order.Goals as goal

pub returns : goal.returns
returns c = orders
