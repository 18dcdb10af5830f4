use Rattle.nb_lawful.proofs.CourseLaws.{keeps_todays}
use Rattle.nb_lawful.proofs.laws.courses_keep_todays_laws.Goals as goal

pub returns : goal.returns
returns c = keeps_todays
