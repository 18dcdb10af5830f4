use Rattle.nb_effects.specs.Deeds.{Settles as Frees, Wants}
use Rattle.nb_effects.specs.Follows.{let_go}
use Rattle.nb_effects.proofs.SceneLemmas.{scene-holds}
use Rattle.std.proofs.Common.{arith, refl, ap, sym, subst, ◌∙◌, [], ◌∷◌, append-nil}
use Rattle.nb_effects.proofs.OrderLemmas.{Runs-frees}
use Rattle.nb_effects.specs.Order.{LetsHoldsGo, frees, none, one}
use Rattle.nb_ledger.specs.declared.event.GraphEvent.TheVariants.{LetGo}
use Rattle.nb_effects.proofs.AccountLemmas.{Calms-plain}
use Rattle.nb_graph.proofs.MildLemmas.{Lives-next, Lives-plain, Mild-holds}
use Rattle.nb_graph.proofs.SeatLemmas.{Loses-same}
use Rattle.nb_effects.proofs.RunsLemmas.{IsRun-let_go}
use Rattle.nb_effects.proofs.GraphLemmas.{but-counted, KeepsRanks-settle, IsGraph-settle}
use Rattle.nb_effects.proofs.WholeLemmas.{IsLinked-holds, IsQuiet-holds, CountedBut-holds}
use Rattle.nb_effects.proofs.MannedLemmas.{IsManned-same}
use Rattle.nb_graph.proofs.EndLemmas.{LetsGo-let_go, falls-let_go}
use Rattle.nb_graph.proofs.inner.Inner.let_go.Goals as goal

pub returns-clause-runs : goal.returns-clause-runs
unfolding IsRun-let_go
returns-clause-runs g c = record {
  added = LetGo c.args.id ∷ c.settle.ensures.settles.settles.added;
  runs = (IsRun-let_go _ _ _ _ _ _ c.args.id (IsQuiet-holds c.let_go.ensures.sets c.requires.graph.quiet) c.let_go.ensures.told c.let_go.ensures.step c.settle.ensures.settles.settles).1;
  lives = λ now.
      Lives-next (Lives-plain g.N.Node.stands now _ _ (λ st. Wants (LetGo c.args.id) ∷ st) (λ st. Frees c.args.id.0 ∷ st) (LetGo c.args.id) (Loses-same c.args.self.now.nodes.items c.let_go.ensures.sets.objects) (scene-holds c.let_go.ensures.sets) c.let_go.ensures.given (λ st ds s k. (_, let_go c.args.id c.requires.lives, k)) (Calms-plain _ _ _ (LetGo c.args.id) (Mild-holds c.let_go.ensures.sets) (λ p a. refl))) (c.settle.ensures.settles.lives now);
  lets = subst LetsHoldsGo (ap (λ l. LetGo c.args.id ∷ l) (append-nil (frees c.settle.ensures.settles.gone) ∙ sym c.settle.ensures.settles.frees)) (one c.args.id c.settle.ensures.settles.gone [] none);
}

pub returns-clause-graph : goal.returns-clause-graph
returns-clause-graph g c =
    let s = c.let_go.ensures.sets in
    let old = c.requires.graph in
    IsGraph-settle c.settle.ensures.settles.settles (IsLinked-holds s old.whole.links) (CountedBut-holds s (but-counted _ c.args.id.0 old.whole.counted)) (IsQuiet-holds s old.quiet) (λ y. rw (s.objects.same_rank y) (old.whole.small y)) c.settle.ensures.manned (omega (arith, s.objects.same_room, old.small))

pub returns-clause-ranks : goal.returns-clause-ranks
returns-clause-ranks g c = KeepsRanks-settle c.let_go.ensures.sets.objects c.settle.ensures.settles.settles

pub settle-requires-clause-manned : goal.settle-requires-clause-manned
settle-requires-clause-manned g c = IsManned-same c.let_go.ensures.sets.objects c.requires.graph.manned

pub returns-clause-lets : goal.returns-clause-lets
returns-clause-lets g c = LetsGo-let_go c.requires.held c.let_go.ensures.sets c.settle.ensures.settles.settles

pub returns-clause-falls : goal.returns-clause-falls
returns-clause-falls g c = falls-let_go c.requires.held c.let_go.ensures.sets c.settle.ensures.settles.settles

pub returns-clause-one : goal.returns-clause-one
unfolding IsRun-let_go
returns-clause-one g c =
    let s = c.settle.ensures.settles in
    (s.gone, Runs-frees s.frees (IsRun-let_go _ _ _ _ _ _ c.args.id (IsQuiet-holds c.let_go.ensures.sets c.requires.graph.quiet) c.let_go.ensures.told c.let_go.ensures.step s.settles).1)
