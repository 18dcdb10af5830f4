use Rattle.nb_drivelogin.proofs.PrefixLemmas.{prefix_ones, prefix_most}
use Rattle.nb_drivelogin.proofs.laws.prefixes_are_ones.Goals as goal

pub returns-clause-ones : goal.returns-clause-ones
returns-clause-ones c = prefix_ones

pub returns-clause-most : goal.returns-clause-most
returns-clause-most c = prefix_most
