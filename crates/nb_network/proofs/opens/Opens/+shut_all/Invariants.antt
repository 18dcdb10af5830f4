use Rattle.std.proofs.Common.{length}
use Rattle.nb_network.proofs.opens.Opens.+shut_all.Given as goal

abbrev pub decreases-shut_all : goal.decreases-shut_all
decreases-shut_all l = length l.self.now.list
