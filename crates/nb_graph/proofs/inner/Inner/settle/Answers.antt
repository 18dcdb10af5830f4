use Rattle.std.proofs.Common.{refl, sym, ◌∙◌, [], ◌∷◌}
use Rattle.nb_ledger.specs.declared.event.GraphEvent.TheVariants.{Freed}
use Rattle.nb_ledger.proofs.SettleLemmas.{Settles-free, Settles-stay}
use Rattle.nb_graph.specs.Lives.{here}
use Rattle.nb_effects.specs.Follows.{frees, keeps}
use Rattle.nb_effects.proofs.SceneLemmas.{scene-removes}
use Rattle.nb_effects.specs.Deeds.{Settles as Frees, stays}
use Rattle.nb_ledger.proofs.RunLemmas.{Given-none}
use Rattle.nb_graph.proofs.SeatLemmas.{Loses-refl}
use Rattle.nb_graph.proofs.LivesLemmas.{Lives-turn}
use Rattle.nb_effects.proofs.AccountLemmas.{Calms-turn, Calms-plain}
use Rattle.nb_graph.proofs.MildLemmas.{Lives-plain, Mild-settle}
use Rattle.nb_graph.proofs.inner.Inner.settle.Goals as goal

pub returns-then-unused-clause-settles : goal.returns-then-unused-clause-settles
unfolding Settles-free
returns-then-unused-clause-settles g c =
    let s = Settles-free _ _ _ _ c.args.id (sym c.requires.unused ∙ c.if-unused.true) c.free.ensures.told c.free.ensures.step c.free.ensures.removes in
    record {
      settles = s;
      gone = c.args.id ∷ [];
      frees = refl;
      loses = c.free.ensures.loses;
      lives = λ now. Lives-plain g.N.Node.stands now _ _ (λ st. Frees c.args.id.0 ∷ st) here (Freed c.args.id) c.free.ensures.loses (scene-removes c.args.id c.free.ensures.removes c.free.ensures.len) c.free.ensures.given (λ st ds s k. ([], frees c.args.id, k)) (Calms-plain _ _ _ (Freed c.args.id) (Mild-settle s) (λ p a. refl));
    }

pub returns-else-unused-clause-settles : goal.returns-else-unused-clause-settles
unfolding Settles-stay
returns-else-unused-clause-settles g c = record {
  settles = Settles-stay _ _ c.args.id (sym c.requires.unused ∙ c.if-unused.false);
  gone = [];
  frees = refl;
  loses = Loses-refl _;
  lives = λ now. Lives-turn g.N.Node.stands now _ _ (λ st. Frees c.args.id.0 ∷ st) here (stays c.args.id.0) (Given-none _) (λ st ds s k. ([], keeps c.args.id.0, k)) (Calms-turn _ _ _);
}
