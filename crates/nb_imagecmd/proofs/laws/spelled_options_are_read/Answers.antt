use Rattle.nb_imagecmd.proofs.OptionLemmas.{spelled_options_read}
use Rattle.nb_imagecmd.proofs.laws.spelled_options_are_read.Goals as goal

pub returns : goal.returns
returns c = spelled_options_read
