use Rattle.nb_imagecmd.proofs.ShortLemmas.{stat_lines_short}
use Rattle.nb_imagecmd.proofs.laws.printed_lines_are_short.Goals as goal

pub returns : goal.returns
returns c = stat_lines_short
