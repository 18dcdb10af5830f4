use Rattle.nb_dns.proofs.LookupLaws.{sends_alone}
use Rattle.nb_dns.proofs.laws.sends_the_query_alone.Goals as goal

pub returns : goal.returns
returns c = sends_alone
