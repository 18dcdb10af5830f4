use Rattle.nb_webs.proofs.WebLaws.{says_once}
use Rattle.nb_webs.proofs.laws.says_its_request_once.Goals as goal

pub returns : goal.returns
returns c = says_once
