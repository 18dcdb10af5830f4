use Rattle.nb_dns.proofs.LookupLaws.{cause_stands}
use Rattle.nb_dns.proofs.laws.ends_for_a_cause.Goals as goal

pub returns : goal.returns
returns c = cause_stands
