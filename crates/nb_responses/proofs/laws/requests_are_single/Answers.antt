use Rattle.nb_responses.proofs.RequestLaws.{one_request}
use Rattle.nb_responses.proofs.laws.requests_are_single.Goals as goal

pub returns : goal.returns
returns c = one_request
