use Rattle.nb_dhcp.proofs.LeaseEndingLaws.{cause_stands}
use Rattle.nb_dhcp.proofs.laws.ends_for_a_cause.Goals as goal

pub returns : goal.returns
returns c = cause_stands
