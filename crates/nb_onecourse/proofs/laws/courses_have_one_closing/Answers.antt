use Rattle.nb_onecourse.proofs.EachClosing.{one_closing}
use Rattle.nb_onecourse.proofs.laws.courses_have_one_closing.Goals as goal

pub returns : goal.returns
returns c = one_closing
