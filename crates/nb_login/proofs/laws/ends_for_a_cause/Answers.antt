use Rattle.nb_login.proofs.LoginEndingLaws.{cause_stands}
use Rattle.nb_login.proofs.LoginEndedLaws.{cause_ends}
use Rattle.nb_login.proofs.laws.ends_for_a_cause.Goals as goal

pub returns-clause-caused : goal.returns-clause-caused
returns-clause-caused c = cause_stands

pub returns-clause-ends : goal.returns-clause-ends
returns-clause-ends c = cause_ends
