use Rattle.nb_http.proofs.RunLaws.{same_bytes, same_end}
use Rattle.nb_http.proofs.laws.cutting_changes_nothing.Goals as goal

pub returns-clause-bytes : goal.returns-clause-bytes
returns-clause-bytes c = same_bytes

pub returns-clause-ends : goal.returns-clause-ends
returns-clause-ends c = same_end
