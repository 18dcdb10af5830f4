use Rattle.std.proofs.Common.{sym, ◌∙◌}
use Rattle.nb_graph.proofs.LivedLemmas.{Lived-lively, Lived-dead, keeping-empty}
use Rattle.nb_graph.proofs.WentLemmas.{Went-one}
use Rattle.nb_graph.proofs.graph.Graph.time.Goals as goal

pub returns-then-is_live-clause-went : goal.returns-then-is_live-clause-went
returns-then-is_live-clause-went g c = rw (← c.self.view_is) (Went-one (Lived-lively c.self.invariant.quiet (keeping-empty _) c.enter_time.ensures.lives.0))

pub returns-else-is_live-clause-went : goal.returns-else-is_live-clause-went
returns-else-is_live-clause-went g c = rw (← c.self.view_is) (Went-one (Lived-dead _ _ _ _ _ _ c.args.id.0 (sym c.is_live.ensures ∙ c.if-is_live.false)))
