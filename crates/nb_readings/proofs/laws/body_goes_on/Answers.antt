use Rattle.nb_readings.proofs.ReadingLemmas.{reading_goes_on}
use Rattle.nb_readings.proofs.laws.body_goes_on.Goals as goal

pub returns : goal.returns
returns c = reading_goes_on
