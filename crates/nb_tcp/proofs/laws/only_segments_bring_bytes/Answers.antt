use Rattle.nb_tcp.proofs.ConnLaws.{held_stays}
use Rattle.nb_tcp.proofs.laws.only_segments_bring_bytes.Goals as goal

pub returns : goal.returns
returns c = held_stays
