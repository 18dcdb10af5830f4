use Rattle.std.proofs.Common.{length, ◌-◌}
use Rattle.nb_network.proofs.opens.Opens.+pass_from.Given as goal

abbrev pub decreases-pass_from : goal.decreases-pass_from
decreases-pass_from l = length l.self.now.list - l.place
