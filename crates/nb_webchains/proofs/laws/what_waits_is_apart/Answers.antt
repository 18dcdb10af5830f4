use Rattle.nb_webchains.proofs.Opened.{waits_apart}
use Rattle.nb_webchains.proofs.laws.what_waits_is_apart.Goals as goal

pub returns : goal.returns
returns c = waits_apart
