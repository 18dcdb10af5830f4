use Rattle.nb_drivecmd.proofs.LongNames.{long_is_no_disk}
use Rattle.nb_drivecmd.proofs.laws.long_uris_name_no_disks.Goals as goal

pub returns : goal.returns
returns c = long_is_no_disk
