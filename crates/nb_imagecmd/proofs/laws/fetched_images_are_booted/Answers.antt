use Rattle.nb_imagecmd.proofs.BootLemmas.{fetched_boots}
use Rattle.nb_imagecmd.proofs.laws.fetched_images_are_booted.Goals as goal

pub returns : goal.returns
returns c = fetched_boots
