use Rattle.nb_ledger.proofs.RunLemmas.{told_event}
use Rattle.nb_graph.proofs.LivedLemmas.{Lived-drop, Lived-lively, Lived-offered, rising-empty, under-quiet}
use Rattle.nb_graph.proofs.WentLemmas.{Went-one}
use Rattle.std.proofs.Common.{sym, ◌∙◌}
use Rattle.std.proofs.lemmas.Bool.{false≢true}
use Rattle.nb_effects.specs.Trace.{said}
use Rattle.nb_graph.proofs.graph.Graph.up.Goals as goal

pub enter_up-requires-clause-under : goal.enter_up-requires-clause-under
enter_up-requires-clause-under g c = under-quiet _ _ c.self.invariant.quiet

pub returns-then-is_free_in-clause-went : goal.returns-then-is_free_in-clause-went
returns-then-is_free_in-clause-went g c =
    let open_here = c.is_free_in.ensures.0 c.if-is_free_in.true in
    rw (← c.self.view_is) (Went-one (Lived-offered open_here (Lived-lively c.self.invariant.quiet (rising-empty _ c.args.to _ open_here) c.enter_up.ensures.lives.0)))

pub returns-else-is_free_in-clause-went : goal.returns-else-is_free_in-clause-went
returns-else-is_free_in-clause-went g c =
    rw (← c.self.view_is) (Went-one (Lived-drop _ _ _ _ _ _ _ c.args.to (said c.args.msg.now) (λ e. false≢true (sym c.if-is_free_in.false ∙ c.is_free_in.ensures.1 e)) (rw c.spelled.ensures at (told_event _ _ _ c.event.ensures.given)) (rw c.spelled.ensures at c.event.ensures.given)))
