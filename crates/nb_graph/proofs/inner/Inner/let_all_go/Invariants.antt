use Rattle.nb_effects.specs.Deeds.{LetsAllGo}
use Rattle.std.proofs.Common.{◌∷◌}
use Rattle.std.specs.Vec.{vec_capacity}
use Rattle.nb_ledger.specs.Ledger.{holds}
use Rattle.nb_effects.specs.Whole.{IsGraph}
use Rattle.nb_graph.specs.Lives.{RunFor}
use Rattle.nb_graph.specs.Ending.{OnlyLetsGo}
use Rattle.nb_effects.specs.Trace.{nature}
use Rattle.nb_graph.proofs.inner.Inner.let_all_go.Given as goal

abbrev pub invariant-loop-id : goal.invariant-loop-id
invariant-loop-id g l = record {
  graph : IsGraph g.N.Node.rank_of l.self.book l.self.nodes.items (vec_capacity l.self.nodes);
  runs : RunFor g.N.Node.stands (nature g.N.Node.kind_of g.N.Node.mark_of g.N.Load.Parts.first g.N.Load.Parts.second) l.initial.self.book l.self.book l.initial.self.nodes.items l.self.nodes.items (λ st. LetsAllGo ∷ st) (λ st. LetsAllGo ∷ st) (g.O.Outside.events l.initial.out) (g.O.Outside.events l.out);
  lets : OnlyLetsGo l.initial.self.book l.self.book;
}

abbrev pub decreases-loop-id : goal.decreases-loop-id
decreases-loop-id g l = holds l.self.book l.id.0
