use Rattle.nb_tftp.proofs.AskedLaws.{call_asked, no_old_acknowledgement}
use Rattle.nb_tftp.proofs.laws.asks_what_may_be_sent.Goals as goal

pub returns-clause-asked : goal.returns-clause-asked
returns-clause-asked c = call_asked

pub returns-clause-old : goal.returns-clause-old
returns-clause-old c = no_old_acknowledgement
