use Rattle.std.proofs.Common.{refl, None, ◌∷◌}
use Rattle.nb_ledger.specs.declared.event.GraphEvent.TheVariants.{Left}
use Rattle.nb_effects.specs.Deeds.{Holds, Settles as Frees}
use Rattle.nb_graph.proofs.LivesLemmas.{settles-own}
use Rattle.std.proofs.Common.{sym, subst, ◌++◌}
use Rattle.nb_effects.specs.Trace.{nature}
use Rattle.nb_effects.specs.Scene.{scene_of}
use Rattle.nb_effects.specs.Follows.{UsesStack, ends}
use Rattle.nb_effects.proofs.SceneLemmas.{scene-busy}
use Rattle.nb_effects.proofs.AccountLemmas.{Calms-plain}
use Rattle.nb_graph.proofs.MildLemmas.{Lives-next, Lives-plain, Mild-busy}
use Rattle.nb_graph.proofs.SeatLemmas.{Loses-same}
use Rattle.nb_effects.proofs.CalmLemmas.{Ends-leave, IsWhole-leave}
use Rattle.nb_effects.proofs.MannedLemmas.{IsManned-same}
use Rattle.nb_graph.proofs.inner.Inner.leave.Goals as goal

pub returns-clause-ends : goal.returns-clause-ends
unfolding Ends-leave
returns-clause-ends g c = λ by own. record {
  ends = Ends-leave by c.leave-unused.ensures.sets c.leave-unused.ensures.told c.leave-unused.ensures.step c.settle.ensures.settles.settles;
  lives = λ now.
      Lives-next (Lives-plain g.N.Node.stands now _ _ (λ st. Holds c.args.at by None ∷ st) (λ st. Frees c.args.at.obj.0 ∷ st) (Left c.args.at) (Loses-same c.args.self.now.nodes.items c.leave-unused.ensures.sets.objects) (scene-busy c.leave-unused.ensures.sets) c.leave-unused.ensures.given (λ st ds s k. (_, ends c.args.at by, subst (λ z. UsesStack (nature g.N.Node.kind_of g.N.Node.mark_of g.N.Load.Parts.first g.N.Load.Parts.second) now (scene_of c.args.self.now.book) (z ++ st) ds s) (sym (settles-own by c.args.at.obj.0 own)) k)) (Calms-plain _ _ _ (Left c.args.at) (Mild-busy c.leave-unused.ensures.sets) (λ p a. refl))) (c.settle.ensures.settles.lives now);
}

pub returns-clause-steady : goal.returns-clause-steady
returns-clause-steady g c = record {
  whole = IsWhole-leave c.leave-unused.ensures.sets c.settle.ensures.settles.settles c.requires.steady.whole;
  manned = c.settle.ensures.manned;
}

pub settle-requires-clause-manned : goal.settle-requires-clause-manned
settle-requires-clause-manned g c = IsManned-same c.leave-unused.ensures.sets.objects c.requires.steady.manned
