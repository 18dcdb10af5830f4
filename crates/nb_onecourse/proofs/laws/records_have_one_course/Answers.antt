use Rattle.nb_onecourse.proofs.OneCourse.{one_course}
use Rattle.nb_onecourse.proofs.laws.records_have_one_course.Goals as goal

pub returns : goal.returns
returns c = one_course
