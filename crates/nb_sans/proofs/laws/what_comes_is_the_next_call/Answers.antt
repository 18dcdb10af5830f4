use Rattle.nb_sans.proofs.Parts.{parts_follow}
use Rattle.nb_sans.proofs.LoginSteps.{calls_follow}
use Rattle.nb_sans.proofs.laws.what_comes_is_the_next_call.Goals as goal

pub returns-clause-cut : goal.returns-clause-cut
returns-clause-cut c = parts_follow

pub returns-clause-calls : goal.returns-clause-calls
returns-clause-calls c = calls_follow
