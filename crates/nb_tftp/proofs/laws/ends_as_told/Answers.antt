use Rattle.nb_tftp.proofs.EndLaws.{ends_as_told}
use Rattle.nb_tftp.proofs.laws.ends_as_told.Goals as goal

pub returns : goal.returns
returns c = ends_as_told
