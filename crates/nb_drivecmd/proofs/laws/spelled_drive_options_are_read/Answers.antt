use Rattle.nb_drivecmd.proofs.OptionSpelling.{spelled_read}
use Rattle.nb_drivecmd.proofs.laws.spelled_drive_options_are_read.Goals as goal

pub returns : goal.returns
returns c = spelled_read
