use Rattle.std.proofs.Common.{inr, sym, ◌∙◌}
use Rattle.nb_graph.proofs.NodeLemmas.{nothing-there}
use Rattle.nb_graph.proofs.LivelyForLemmas.{LivelyInFor-refl}
use Rattle.nb_graph.proofs.inner.Inner.run_make.Goals as goal

pub returns-then-is_some-clause-lives : goal.returns-then-is_some-clause-lives
returns-then-is_some-clause-lives g c = c.make_asked.ensures.lives

pub returns-else-is_some-clause-lives : goal.returns-else-is_some-clause-lives
returns-else-is_some-clause-lives g c = rw (nothing-there c.args.makes.now (sym c.is_some.ensures ∙ c.if-is_some.false)) (LivelyInFor-refl _ _ _ _ _ _ _ (λ p q x y w v i j. inr i.0))
