use Rattle.nb_ping.proofs.PingLaws.{sends_alone}
use Rattle.nb_ping.proofs.laws.sends_the_request_alone.Goals as goal

pub returns : goal.returns
returns c = sends_alone
