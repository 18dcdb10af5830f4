use Rattle.nb_closings.proofs.Passings.{objects_pass_on}
use Rattle.nb_closings.proofs.laws.objects_pass_on.Goals as goal

pub returns : goal.returns
returns c = objects_pass_on
