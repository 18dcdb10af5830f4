use Rattle.std.proofs.Common.{◌-◌}
use Rattle.nb_graph.proofs.inner.Inner.+close_above.Given as goal

abbrev pub decreases-close_above : goal.decreases-close_above
decreases-close_above g l = l.self.now.book.made - l.after
