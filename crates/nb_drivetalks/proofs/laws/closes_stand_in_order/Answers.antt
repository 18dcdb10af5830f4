use Rattle.nb_drivetalks.proofs.Called.{close_orders}
use Rattle.nb_drivetalks.proofs.laws.closes_stand_in_order.Goals as goal

pub returns : goal.returns
returns c = close_orders
