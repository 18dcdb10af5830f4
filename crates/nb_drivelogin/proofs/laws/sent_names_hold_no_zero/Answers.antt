use Rattle.nb_drivelogin.proofs.SentNames.{sent_so}
use Rattle.nb_drivelogin.proofs.laws.sent_names_hold_no_zero.Goals as goal

pub returns : goal.returns
returns c = sent_so
