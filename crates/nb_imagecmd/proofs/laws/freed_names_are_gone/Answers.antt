use Rattle.nb_imagecmd.proofs.GoneLemmas.{freed_are_gone}
use Rattle.nb_imagecmd.proofs.laws.freed_names_are_gone.Goals as goal

pub returns : goal.returns
returns c = freed_are_gone
