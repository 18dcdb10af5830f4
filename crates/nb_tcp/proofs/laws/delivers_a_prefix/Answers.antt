use Rattle.nb_tcp.proofs.ConnLaws.{up_is_front, up_is_streams, all_at_the_end}
use Rattle.nb_tcp.proofs.laws.delivers_a_prefix.Goals as goal

pub returns : goal.returns
returns c = record { front = up_is_front; stream = up_is_streams; whole = all_at_the_end }
