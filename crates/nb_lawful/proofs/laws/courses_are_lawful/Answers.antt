use Rattle.nb_lawful.proofs.CourseLaws.{has_one, keeps_laws, stands_so, hands_off}
use Rattle.nb_lawful.proofs.laws.courses_are_lawful.Goals as goal

pub returns-clause-has_one : goal.returns-clause-has_one
returns-clause-has_one c = has_one

pub returns-clause-keeps : goal.returns-clause-keeps
returns-clause-keeps c = keeps_laws

pub returns-clause-agrees : goal.returns-clause-agrees
returns-clause-agrees c = stands_so

pub returns-clause-hands_off : goal.returns-clause-hands_off
returns-clause-hands_off c = hands_off
