use Rattle.nb_imagecmd.proofs.HeldLemmas.{command_held, file_held, script_held}
use Rattle.nb_imagecmd.proofs.laws.lists_hold_what_was_fetched.Goals as goal

pub returns-clause-commands : goal.returns-clause-commands
returns-clause-commands c = command_held

pub returns-clause-files : goal.returns-clause-files
returns-clause-files c = file_held

pub returns-clause-scripts : goal.returns-clause-scripts
returns-clause-scripts c = script_held
