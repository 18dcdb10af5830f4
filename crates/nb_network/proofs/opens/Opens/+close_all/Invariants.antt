use Rattle.std.proofs.Common.{length}
use Rattle.nb_network.proofs.opens.Opens.+close_all.Given as goal

abbrev pub decreases-close_all : goal.decreases-close_all
decreases-close_all l = length l.self.now.list
