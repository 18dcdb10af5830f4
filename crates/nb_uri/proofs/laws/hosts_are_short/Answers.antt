use Rattle.nb_uri.proofs.HostLengths.{hosts-short}
use Rattle.nb_uri.proofs.laws.hosts_are_short.Goals as goal

pub returns : goal.returns
returns c = hosts-short
