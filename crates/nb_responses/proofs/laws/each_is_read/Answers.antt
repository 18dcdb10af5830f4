use Rattle.nb_responses.proofs.TotalLaws.{each_is_read}
use Rattle.nb_responses.proofs.laws.each_is_read.Goals as goal

pub returns : goal.returns
returns c = each_is_read
