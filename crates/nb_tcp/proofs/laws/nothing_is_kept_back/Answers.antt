use Rattle.nb_tcp.proofs.ConnLaws.{all_went_up}
use Rattle.nb_tcp.proofs.SegmentStandsLemmas.{nothing_waits}
use Rattle.nb_tcp.proofs.laws.nothing_is_kept_back.Goals as goal

pub returns : goal.returns
returns c = record { all = all_went_up; next = nothing_waits }
