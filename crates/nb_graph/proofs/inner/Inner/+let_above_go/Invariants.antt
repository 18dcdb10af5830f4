use Rattle.std.proofs.Common.{◌-◌}
use Rattle.nb_graph.proofs.inner.Inner.+let_above_go.Given as goal

abbrev pub decreases-let_above_go : goal.decreases-let_above_go
decreases-let_above_go g l = l.self.now.book.made - l.after
