use Rattle.nb_dns.proofs.WrittenLemmas.{name_tested, name_passes}
use Rattle.nb_dns.proofs.laws.names_are_tested.Goals as goal

pub returns : goal.returns
returns c = λ text. (name_tested text, name_passes text)
