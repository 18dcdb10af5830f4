use Rattle.nb_talks.proofs.TalkPromiseLaws.{one_answer, puts_what_may_be}
use Rattle.nb_talks.proofs.laws.talks_keep_to_what_came.Goals as goal

pub returns-clause-one : goal.returns-clause-one
returns-clause-one c s = one_answer

pub returns-clause-may : goal.returns-clause-may
returns-clause-may c s = puts_what_may_be
