use Rattle.nb_tftp.proofs.PlainLaws.{asks_plainly, request_fits}
use Rattle.nb_tftp.proofs.laws.asks_plainly.Goals as goal

pub returns : goal.returns
returns c = record { plain = asks_plainly; request = request_fits }
