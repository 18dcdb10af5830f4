use Rattle.std.proofs.Common.{arith}
use Rattle.nb_effects.proofs.GraphLemmas.{IsGraph-empty}
use Rattle.nb_graph.proofs.graph.Graph.new.Goals as goal

pub invariant_of-result : goal.invariant_of-result
invariant_of-result g c =
    rw (c.in_ok-book.ensures, c.in_ok-nodes.ensures.items) (IsGraph-empty g.N.Node.rank_of c.args.cap _ c.requires.1 (omega (arith, c.in_ok-nodes.ensures.exact)))
