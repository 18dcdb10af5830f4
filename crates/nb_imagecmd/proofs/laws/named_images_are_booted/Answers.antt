use Rattle.nb_imagecmd.proofs.BootLemmas.{named_boots}
use Rattle.nb_imagecmd.proofs.laws.named_images_are_booted.Goals as goal

pub returns : goal.returns
returns c = named_boots
