use Rattle.nb_dhcp.proofs.LeaseLaws.{first_lease}
use Rattle.nb_dhcp.proofs.laws.keeps_the_first_offers_lease.Goals as goal

pub returns : goal.returns
returns c = first_lease
