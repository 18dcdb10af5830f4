use Rattle.nb_login.proofs.LoginRecordLaws.{records_show, opened_ended, given_ended}
use Rattle.nb_login.proofs.laws.records_show_in_ends_alone.Goals as goal

pub returns-clause-alike : goal.returns-clause-alike
returns-clause-alike c = records_show

pub returns-clause-ends : goal.returns-clause-ends
returns-clause-ends c = record { opened = opened_ended; given = given_ended }
