use Rattle.nb_onecourse.proofs.EachKind.{has_one_answer}
use Rattle.nb_onecourse.proofs.laws.opens_have_one_answer.Goals as goal

pub returns : goal.returns
returns c = has_one_answer
