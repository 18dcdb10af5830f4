use Rattle.nb_imagecmd.proofs.ArgsLemmas.{command_short}
use Rattle.nb_command.proofs.planning.plan_images.Goals as goal

pub returns-clause-args : goal.returns-clause-args
returns-clause-args c = λ few total. command_short c.args.words.now c.in_ok-read_command.field-0 few total c.in_ok-read_command.ensures
