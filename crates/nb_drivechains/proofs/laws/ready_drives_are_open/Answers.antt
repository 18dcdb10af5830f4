use Rattle.nb_drivechains.proofs.BesideDrives.{drive_open}
use Rattle.nb_drivechains.proofs.laws.ready_drives_are_open.Goals as goal

pub returns : goal.returns
returns c = drive_open
