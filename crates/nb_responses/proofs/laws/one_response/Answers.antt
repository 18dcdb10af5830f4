use Rattle.nb_responses.proofs.ResponseLaws.{one_response}
use Rattle.nb_responses.proofs.laws.one_response.Goals as goal

pub returns : goal.returns
returns c = one_response
