use Rattle.nb_dns.proofs.LookupLaws.{tried_silent, tried_in_time, no_try_by_datagram}
use Rattle.nb_dns.proofs.laws.tries_in_silence.Goals as goal

pub returns : goal.returns
returns c = record { silent = tried_silent; in_time = tried_in_time; by_time = no_try_by_datagram }
