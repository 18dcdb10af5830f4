use Rattle.nb_tcp.proofs.MaySendLaws.{sends_may}
use Rattle.nb_tcp.proofs.laws.sends_what_may_be_sent.Goals as goal

pub returns : goal.returns
returns c = sends_may
