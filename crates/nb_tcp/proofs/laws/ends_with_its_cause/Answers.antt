use Rattle.nb_tcp.proofs.ConnLaws.{end_is_so}
use Rattle.nb_tcp.proofs.laws.ends_with_its_cause.Goals as goal

pub returns : goal.returns
returns c = end_is_so
