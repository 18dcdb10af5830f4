use Rattle.nb_dns.proofs.LookupLaws.{reply_ended}
use Rattle.nb_dns.proofs.laws.replies_end_it.Goals as goal

pub returns : goal.returns
returns c = reply_ended
