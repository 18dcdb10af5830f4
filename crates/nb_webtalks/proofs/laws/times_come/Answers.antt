use Rattle.nb_webtalks.proofs.Called.{times}
use Rattle.nb_webtalks.proofs.laws.times_come.Goals as goal

pub returns : goal.returns
returns c = times
