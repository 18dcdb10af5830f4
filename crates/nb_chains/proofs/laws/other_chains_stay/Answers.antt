use Rattle.nb_chains.proofs.Staying.{goes_stays, grows_stays, released_stays}
use Rattle.nb_chains.proofs.laws.other_chains_stay.Goals as goal

pub returns-clause-goes : goal.returns-clause-goes
returns-clause-goes c = goes_stays

pub returns-clause-grows : goal.returns-clause-grows
returns-clause-grows c = grows_stays

pub returns-clause-released : goal.returns-clause-released
returns-clause-released c = released_stays
