use Rattle.nb_login.proofs.KeyLaws.{keys-read}
use Rattle.nb_login.proofs.laws.settings_add_no_keys.Goals as goal

pub returns : goal.returns
returns c = keys-read
