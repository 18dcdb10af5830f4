use Rattle.nb_laws.proofs.DrivesTheirs.{drives_theirs}
use Rattle.nb_laws.proofs.laws.honest_targets_answer_with_their_disks.Goals as goal

pub returns : goal.returns
returns c = drives_theirs
