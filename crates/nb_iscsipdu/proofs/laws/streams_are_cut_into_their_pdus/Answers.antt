use Rattle.nb_iscsipdu.proofs.CutLemmas.{cut-spells, spelled-cut}
use Rattle.nb_iscsipdu.proofs.laws.streams_are_cut_into_their_pdus.Goals as goal

pub returns-clause-spelled : goal.returns-clause-spelled
returns-clause-spelled c = cut-spells

pub returns-clause-one : goal.returns-clause-one
returns-clause-one c = spelled-cut
