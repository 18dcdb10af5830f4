use Rattle.nb_webs.proofs.WebLaws.{ok_is_whole, whole_is_ok}
use Rattle.nb_webs.proofs.laws.whole_responses_end_well.Goals as goal

pub returns : goal.returns
returns c = record { only = ok_is_whole; whole = whole_is_ok }
