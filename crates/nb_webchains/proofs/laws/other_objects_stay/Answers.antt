use Rattle.nb_webchains.proofs.Opened.{grows_stays, released_stays}
use Rattle.nb_webchains.proofs.laws.other_objects_stay.Goals as goal

pub returns-clause-grows : goal.returns-clause-grows
returns-clause-grows c = grows_stays

pub returns-clause-released : goal.returns-clause-released
returns-clause-released c = released_stays
