use Rattle.nb_chains.proofs.Opened.{ready_open, under_way_open}
use Rattle.nb_chains.proofs.laws.chains_are_open.Goals as goal

pub returns-clause-ready : goal.returns-clause-ready
returns-clause-ready c = ready_open

pub returns-clause-under_way : goal.returns-clause-under_way
returns-clause-under_way c = under_way_open
