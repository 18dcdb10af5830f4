use Rattle.nb_dhcp.proofs.LeaseEndingLaws.{sends_for, first_stays}
use Rattle.nb_dhcp.proofs.laws.requests_the_first_offer.Goals as goal

pub returns-clause-sends : goal.returns-clause-sends
returns-clause-sends c = sends_for

pub returns-clause-alone : goal.returns-clause-alone
returns-clause-alone c = first_stays
