use Rattle.nb_dnsmsg.proofs.MessageLaws.{answer_stands}
use Rattle.nb_dnsmsg.proofs.laws.address_stands_in_the_message.Goals as goal

pub returns : goal.returns
returns c = answer_stands
