use Rattle.nb_dns.proofs.ReplyLemmas.{first_one, found_is, none_found}
use Rattle.nb_dns.proofs.laws.one_lookup_answer.Goals as goal

pub returns : goal.returns
returns c = record { one = first_one; found = found_is; none = none_found }
