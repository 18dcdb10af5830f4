use Rattle.nb_onecourse.proofs.Unended.{course_unended}
use Rattle.nb_onecourse.proofs.laws.opens_that_live_have_not_ended.Goals as goal

pub returns : goal.returns
returns c = course_unended
