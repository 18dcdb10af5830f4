use Rattle.nb_openlaws.proofs.OpenReasons.{gives_reasons}
use Rattle.nb_openlaws.proofs.laws.records_of_opens_have_reasons.Goals as goal

pub returns : goal.returns
returns c = gives_reasons
