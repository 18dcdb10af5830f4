use Rattle.nb_imagecmd.proofs.ShortLemmas.{command_names_short, file_names_short, script_names_short}
use Rattle.nb_imagecmd.proofs.laws.names_stay_short.Goals as goal

pub returns-clause-commands : goal.returns-clause-commands
returns-clause-commands c = command_names_short

pub returns-clause-files : goal.returns-clause-files
returns-clause-files c = file_names_short

pub returns-clause-scripts : goal.returns-clause-scripts
returns-clause-scripts c = script_names_short
