use Rattle.nb_dnsmsg.proofs.RecordLemmas.{name_one}
use Rattle.nb_dnsmsg.proofs.MessageLemmas.{message_one, answer_one}
use Rattle.nb_dnsmsg.proofs.laws.one_reading.Goals as goal

pub returns : goal.returns
returns c = record { names = name_one; messages = message_one; answers = answer_one }
