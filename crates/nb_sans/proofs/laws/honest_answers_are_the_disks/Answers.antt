use Rattle.nb_sans.proofs.TargetLaws.{answers_theirs, capacities_theirs}
use Rattle.nb_sans.proofs.laws.honest_answers_are_the_disks.Goals as goal

pub returns-clause-answers : goal.returns-clause-answers
returns-clause-answers c = answers_theirs

pub returns-clause-capacity : goal.returns-clause-capacity
returns-clause-capacity c = capacities_theirs
