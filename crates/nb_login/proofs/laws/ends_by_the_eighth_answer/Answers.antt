use Rattle.nb_login.proofs.LengthLaws.{is_few}
use Rattle.nb_login.proofs.laws.ends_by_the_eighth_answer.Goals as goal

pub returns : goal.returns
returns c = is_few
