use Rattle.nb_sans.proofs.SessionGrowth.{login_first, requests_first}
use Rattle.nb_sans.proofs.laws.only_the_login_speaks_first.Goals as goal

pub returns-clause-login : goal.returns-clause-login
returns-clause-login c = login_first

pub returns-clause-requests : goal.returns-clause-requests
returns-clause-requests c = requests_first
