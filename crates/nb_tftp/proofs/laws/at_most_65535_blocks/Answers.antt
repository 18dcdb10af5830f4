use Rattle.nb_tftp.proofs.LimitLaws.{few_of_bytes, few_of_calls}
use Rattle.nb_tftp.proofs.laws.at_most_65535_blocks.Goals as goal

pub returns : goal.returns
returns c = record { blocks = few_of_calls; numbers = few_of_bytes }
