use Rattle.nb_onecourse.proofs.Nesting.{course_nested}
use Rattle.nb_onecourse.proofs.laws.scripts_have_their_depths.Goals as goal

pub returns : goal.returns
returns c = course_nested
