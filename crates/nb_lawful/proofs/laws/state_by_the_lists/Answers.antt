use Rattle.nb_lawful.proofs.CourseLaws.{waits_so}
use Rattle.nb_lawful.proofs.laws.state_by_the_lists.Goals as goal

pub returns : goal.returns
returns c = waits_so
