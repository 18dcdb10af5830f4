use Rattle.nb_lawful.proofs.CourseLaws.{has_events}
use Rattle.nb_lawful.proofs.laws.courses_have_events.Goals as goal

pub returns : goal.returns
returns c = has_events
