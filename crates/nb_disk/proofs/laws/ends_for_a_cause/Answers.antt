use Rattle.nb_disk.proofs.EndingLemmas.{ends-caused}
use Rattle.nb_disk.proofs.CauseLemmas.{causes-end}
use Rattle.nb_disk.proofs.laws.ends_for_a_cause.Goals as goal

pub returns-clause-caused : goal.returns-clause-caused
returns-clause-caused c = ends-caused

pub returns-clause-ends : goal.returns-clause-ends
returns-clause-ends c = causes-end
