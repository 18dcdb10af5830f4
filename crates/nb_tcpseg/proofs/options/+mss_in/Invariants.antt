use Rattle.std.proofs.Common.{length}
use Rattle.nb_tcpseg.proofs.options.+mss_in.Given as goal

abbrev pub decreases-mss_in : goal.decreases-mss_in
decreases-mss_in l = length l.options.now
