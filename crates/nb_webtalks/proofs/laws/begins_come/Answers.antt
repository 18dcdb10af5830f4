use Rattle.nb_webtalks.proofs.Called.{begins}
use Rattle.nb_webtalks.proofs.laws.begins_come.Goals as goal

pub returns : goal.returns
returns c = begins
