use Rattle.nb_dnsmsg.proofs.MessageReadingLemmas.{answer_is, is_answer}
use Rattle.nb_dnsmsg.proofs.laws.answers_are_read_by_the_grammar.Goals as goal

pub returns : goal.returns
returns c = λ bytes id name answer. (answer_is bytes id name answer, is_answer bytes id name answer)
