use Rattle.nb_ping.proofs.PingLaws.{cause_stands}
use Rattle.nb_ping.proofs.laws.ends_for_a_cause.Goals as goal

pub returns : goal.returns
returns c = cause_stands
