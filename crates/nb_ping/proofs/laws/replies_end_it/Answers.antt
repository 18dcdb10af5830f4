use Rattle.nb_ping.proofs.PingLaws.{reply_ended}
use Rattle.nb_ping.proofs.laws.replies_end_it.Goals as goal

pub returns : goal.returns
returns c = reply_ended
