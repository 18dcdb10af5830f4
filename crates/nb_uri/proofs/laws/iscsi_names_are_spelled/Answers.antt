use Rattle.nb_uri.proofs.GrammarLemmas.{iscsi-both}
use Rattle.nb_uri.proofs.laws.iscsi_names_are_spelled.Goals as goal

pub returns : goal.returns
returns c = iscsi-both
