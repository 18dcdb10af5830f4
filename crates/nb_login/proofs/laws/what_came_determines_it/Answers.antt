use Rattle.std.proofs.Common.{ap, List}
use Rattle.nb_login.specs.LoginHistory.{LoginEntry, last_done, end_given}
use Rattle.nb_login.specs.LoginStands.{session_opened}
use Rattle.nb_login.proofs.HistoryLaws.{determined, history_meets, says_more}
use Rattle.nb_login.proofs.laws.what_came_determines_it.Goals as goal

pub returns-clause-meets : goal.returns-clause-meets
returns-clause-meets c = history_meets

pub returns-clause-one : goal.returns-clause-one
returns-clause-one c = determined

pub returns-clause-more : goal.returns-clause-more
returns-clause-more c = says_more

pub returns-clause-ends : goal.returns-clause-ends
returns-clause-ends c = λ i h meets. ap (λ (x : List LoginEntry). end_given (last_done x)) (determined i h meets)

pub returns-clause-session : goal.returns-clause-session
returns-clause-session c = λ i h meets. ap (session_opened i) (determined i h meets)
