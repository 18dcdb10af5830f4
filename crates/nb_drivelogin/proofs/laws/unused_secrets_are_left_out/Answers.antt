use Rattle.nb_drivelogin.proofs.UnusedSecrets.{same_info}
use Rattle.nb_drivelogin.proofs.laws.unused_secrets_are_left_out.Goals as goal

pub returns : goal.returns
returns c = same_info
