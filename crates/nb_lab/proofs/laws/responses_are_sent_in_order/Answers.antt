use Rattle.nb_lab.proofs.OneResponseLemmas.{sends_in_order}
use Rattle.nb_lab.proofs.laws.responses_are_sent_in_order.Goals as goal

pub returns : goal.returns
returns c = sends_in_order
