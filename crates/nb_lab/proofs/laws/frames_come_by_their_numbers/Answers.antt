use Rattle.nb_lab.proofs.TransitLemmas.{come_by_numbers, go_in_order, nothing_has_come}
use Rattle.nb_lab.proofs.laws.frames_come_by_their_numbers.Goals as goal

pub returns : goal.returns
returns c = record { first = nothing_has_come; send = come_by_numbers; take = go_in_order }
