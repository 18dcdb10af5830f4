use Rattle.nb_drivetalks.proofs.Called.{tasks}
use Rattle.nb_drivetalks.proofs.laws.tasks_come.Goals as goal

pub returns : goal.returns
returns c = tasks
