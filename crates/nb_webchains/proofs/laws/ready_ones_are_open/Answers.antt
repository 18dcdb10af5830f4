use Rattle.nb_webchains.proofs.Opened.{ready_open}
use Rattle.nb_webchains.proofs.laws.ready_ones_are_open.Goals as goal

pub returns : goal.returns
returns c = ready_open
