use Rattle.nb_ledger.proofs.RunLemmas.{told_event}
use Rattle.nb_graph.proofs.LivedLemmas.{Lived-calm, Lived-drop, Lived-offered, giving-empty}
use Rattle.nb_graph.proofs.WentLemmas.{Went-one}
use Rattle.std.proofs.Common.{sym, ◌∙◌}
use Rattle.std.proofs.lemmas.Bool.{false≢true}
use Rattle.nb_effects.specs.Trace.{said}
use Rattle.nb_graph.proofs.graph.Graph.down.Goals as goal

pub returns-then-is_free_in-clause-went : goal.returns-then-is_free_in-clause-went
returns-then-is_free_in-clause-went g c =
    let open_here = c.is_free_in.ensures.0 c.if-is_free_in.true in
    rw (← c.self.view_is) (Went-one (Lived-offered open_here (Lived-calm c.self.invariant.quiet (giving-empty _ c.args.to _ open_here) c.enter_down.ensures.lives.0)))

pub returns-else-is_free_in-clause-went : goal.returns-else-is_free_in-clause-went
returns-else-is_free_in-clause-went g c =
    rw (← c.self.view_is) (Went-one (Lived-drop _ _ _ _ _ _ _ c.args.to (said c.args.msg.now) (λ e. false≢true (sym c.if-is_free_in.false ∙ c.is_free_in.ensures.1 e)) (rw c.spelled.ensures at (told_event _ _ _ c.event.ensures.given)) (rw c.spelled.ensures at c.event.ensures.given)))
