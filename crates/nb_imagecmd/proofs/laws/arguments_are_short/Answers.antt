use Rattle.nb_imagecmd.proofs.ArgsLemmas.{command_short}
use Rattle.nb_imagecmd.proofs.laws.arguments_are_short.Goals as goal

pub returns : goal.returns
returns c = λ words command few total is. command_short words command few total is
