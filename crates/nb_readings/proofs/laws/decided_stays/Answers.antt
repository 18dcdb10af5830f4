use Rattle.nb_readings.proofs.ReadingLemmas.{reading_stays}
use Rattle.nb_readings.proofs.laws.decided_stays.Goals as goal

pub returns : goal.returns
returns c = reading_stays
