use Rattle.nb_sans.proofs.SessionSteps.{quiet_step, part_step, part_end_step, task_step}
use Rattle.nb_sans.proofs.LoginSteps.{login_step}
use Rattle.nb_sans.proofs.laws.each_is_answered_at_once.Goals as goal

pub returns-clause-bytes : goal.returns-clause-bytes
returns-clause-bytes c = quiet_step

pub returns-clause-login : goal.returns-clause-login
returns-clause-login c = login_step

pub returns-clause-parts : goal.returns-clause-parts
returns-clause-parts c = part_step

pub returns-clause-ends : goal.returns-clause-ends
returns-clause-ends c = part_end_step

pub returns-clause-task : goal.returns-clause-task
returns-clause-task c = task_step
