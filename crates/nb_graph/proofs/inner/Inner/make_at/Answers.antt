use Rattle.nb_ledger.proofs.RunLemmas.{Given-none}
use Rattle.std.proofs.Common.{sym, ◌∙◌, refl, inr}
use Rattle.std.proofs.lemmas.Bool.{false≢true}
use Rattle.nb_ledger.specs.declared.event.GraphEvent.TheVariants.{Dropped}
use Rattle.nb_graph.specs.Lives.{here}
use Rattle.std.proofs.Common.{[]}
use Rattle.nb_effects.specs.Follows.{finds_none, makes_none}
use Rattle.nb_effects.specs.Deeds.{Makes, is_full}
use Rattle.nb_ledger.proofs.RunLemmas.{told_event}
use Rattle.nb_graph.proofs.AliveLemmas.{CalmFor-turned}
use Rattle.std.proofs.Common.{◌∷◌}
use Rattle.nb_graph.proofs.LivelyLemmas.{LivelyIn-dropped}
use Rattle.nb_graph.proofs.LivesLemmas.{Lives-weaken}
use Rattle.nb_effects.proofs.AccountLemmas.{Calms-idle, Calms-plain, Mild-same}
use Rattle.nb_effects.proofs.LivensLemmas.{Livens-calm}
use Rattle.nb_graph.proofs.MildLemmas.{Lives-plain}
use Rattle.nb_effects.proofs.RiseLemmas.{making-full}
use Rattle.nb_graph.proofs.SeatLemmas.{Loses-refl}
use Rattle.nb_graph.proofs.LivelyForLemmas.{LivelyInFor-calm, LivelyInFor-lively, LivelyInFor-weaken}
use Rattle.nb_graph.proofs.inner.Inner.make_at.Goals as goal

pub returns-then-not-is_free-clause-lives : goal.returns-then-not-is_free-clause-lives
unfolding LivelyIn-dropped
returns-then-not-is_free-clause-lives g c = record {
  lively = LivelyIn-dropped _ _ _ c.args.at (λ e. false≢true (sym c.if-not-is_free.true ∙ c.is_free.ensures.1 e)) (rw c.spelled.ensures at (told_event _ _ _ c.event.ensures.given));
  lives = Lives-weaken (λ x w v k. k.1) (λ ds k. Livens-calm (Calms-idle k (λ p q x y w v i j. inr i.0))) (Lives-plain g.N.Node.stands c.args.now _ _ (λ st. Makes c.args.at c.args.node ∷ st) here (Dropped c.args.at) (Loses-refl _) refl (rw c.spelled.ensures at c.event.ensures.given) (λ st ds s k. ([], makes_none c.args.at c.args.node (λ e. false≢true (sym c.if-not-is_free.true ∙ c.is_free.ensures.1 e)), k)) (Calms-plain _ _ _ (Dropped c.args.at) (Mild-same refl (λ x k. refl)) (λ p a. refl)));
}

pub returns-then-is_full-clause-lives : goal.returns-then-is_full-clause-lives
returns-then-is_full-clause-lives g c = LivelyInFor-weaken (λ p q x y w v i j. making-full c.args.self.now.book c.args.at.obj.0 p q y w v i) (LivelyInFor-calm c.args.at.obj.0 (CalmFor-turned (λ st. Makes c.args.at c.args.node ∷ st) (is_full c.args.at) (Given-none _) (λ st ds s k. (_, finds_none c.args.at c.args.node (c.is_free.ensures.0 c.if-not-is_free.false) (c.is_full.ensures.full.0 c.if-is_full.true), k)) c.close_all.ensures.lives))

pub returns-clause-lives : goal.returns-clause-lives
returns-clause-lives g c = LivelyInFor-lively c.args.at.obj.0 (c.make_below.ensures.lives c.args.now)
