use Rattle.nb_nodes.proofs.ExchangeLemmas.{stands_anew}
use Rattle.std.proofs.Common.{refl}
use Rattle.nb_nodes.proofs.asker.Asker.new.Goals as goal

pub returns : goal.returns
returns g c = stands_anew g.C.Core.service _ refl
