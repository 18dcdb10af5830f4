use Rattle.nb_sans.proofs.EndCauses.{ending}
use Rattle.nb_sans.proofs.laws.sessions_end_for_a_cause.Goals as goal

pub returns : goal.returns
returns c = ending
