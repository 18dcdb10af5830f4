use Rattle.nb_http.proofs.RunLaws.{gives_beginning, ends_as_response, goes_on_undecided, finishes_as_response}
use Rattle.nb_http.proofs.laws.streams_are_read_as_responses.Goals as goal

pub returns-clause-beginning : goal.returns-clause-beginning
returns-clause-beginning c = gives_beginning

pub returns-clause-ends : goal.returns-clause-ends
returns-clause-ends c = ends_as_response

pub returns-clause-goes_on : goal.returns-clause-goes_on
returns-clause-goes_on c = goes_on_undecided

pub returns-clause-finishes : goal.returns-clause-finishes
returns-clause-finishes c = finishes_as_response
