use Rattle.nb_laws.proofs.FirstBlocks.{hands_their_block}
use Rattle.nb_laws.proofs.laws.honest_targets_first_blocks_are_handed_off.Goals as goal

pub returns : goal.returns
returns c = hands_their_block
