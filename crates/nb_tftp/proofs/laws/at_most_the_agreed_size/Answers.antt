use Rattle.nb_tftp.proofs.LimitLaws.{size_of_bytes, size_of_calls, most_of_calls}
use Rattle.nb_tftp.proofs.laws.at_most_the_agreed_size.Goals as goal

pub returns : goal.returns
returns c = record { size = size_of_calls; bytes = size_of_bytes; most = most_of_calls }
