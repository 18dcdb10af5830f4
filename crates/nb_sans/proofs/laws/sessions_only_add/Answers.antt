use Rattle.nb_sans.proofs.SessionGrowth.{session_adds}
use Rattle.nb_sans.proofs.laws.sessions_only_add.Goals as goal

pub returns : goal.returns
returns c = session_adds
