use Rattle.nb_drivecmd.proofs.Numbering.{command_numbered}
use Rattle.nb_drivecmd.proofs.laws.drives_are_numbered.Goals as goal

pub returns : goal.returns
returns c = command_numbered
