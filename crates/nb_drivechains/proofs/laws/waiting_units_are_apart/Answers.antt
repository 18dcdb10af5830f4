use Rattle.nb_drivechains.proofs.BesideDrives.{unit_apart}
use Rattle.nb_drivechains.proofs.laws.waiting_units_are_apart.Goals as goal

pub returns : goal.returns
returns c = unit_apart
