use Rattle.nb_webs.proofs.StackLaws.{promised}
use Rattle.nb_webs.proofs.laws.cores_keep_their_promise.Goals as goal

pub returns : goal.returns
returns c = promised
