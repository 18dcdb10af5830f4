use Rattle.nb_sans.proofs.EndGrowth.{ends_stay}
use Rattle.nb_sans.proofs.AnswerGrowth.{readings_stay}
use Rattle.nb_sans.proofs.laws.what_was_decided_stays.Goals as goal

pub returns-clause-ends : goal.returns-clause-ends
returns-clause-ends c = ends_stay

pub returns-clause-readings : goal.returns-clause-readings
returns-clause-readings c = readings_stay
