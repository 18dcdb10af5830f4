use Rattle.nb_drivelogin.proofs.ShortNames.{name_fits}
use Rattle.nb_drivelogin.proofs.laws.named_disks_are_short.Goals as goal

pub returns : goal.returns
returns c = name_fits c.iscsi_names_are_spelled.ensures
