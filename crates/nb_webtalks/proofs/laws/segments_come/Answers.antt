use Rattle.nb_webtalks.proofs.Called.{segments}
use Rattle.nb_webtalks.proofs.laws.segments_come.Goals as goal

pub returns : goal.returns
returns c = segments
