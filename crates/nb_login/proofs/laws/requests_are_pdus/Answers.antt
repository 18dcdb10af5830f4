use Rattle.nb_login.proofs.RequestLaws.{is_request}
use Rattle.nb_login.proofs.CarriedLaws.{all_carried}
use Rattle.nb_login.proofs.LoginTextLaws.{only_requests}
use Rattle.nb_login.proofs.laws.requests_are_pdus.Goals as goal

pub returns-clause-fields : goal.returns-clause-fields
returns-clause-fields c = is_request

pub returns-clause-keys : goal.returns-clause-keys
returns-clause-keys c = all_carried

pub returns-clause-alone : goal.returns-clause-alone
returns-clause-alone c = only_requests
