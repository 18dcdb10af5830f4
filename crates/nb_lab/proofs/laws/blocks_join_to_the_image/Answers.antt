use Rattle.nb_lab.proofs.BlockLemmas.{blocks_join, last_is_short, ends_in_last}
use Rattle.nb_lab.proofs.laws.blocks_join_to_the_image.Goals as goal

pub returns : goal.returns
returns c = record { joined = blocks_join; short = last_is_short; ends = ends_in_last }
