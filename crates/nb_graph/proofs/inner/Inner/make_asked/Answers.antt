use Rattle.std.proofs.Common.{inr, sym}
use Rattle.nb_graph.proofs.LivelyForLemmas.{LivelyInFor-refl}
use Rattle.nb_graph.proofs.inner.Inner.make_asked.Goals as goal

pub returns-in-None-clause-lives : goal.returns-in-None-clause-lives
returns-in-None-clause-lives g c = rw (sym c.take.ensures.value) (rw c.in-None.is (LivelyInFor-refl _ _ _ _ _ _ _ (λ p q x y w v i j. inr i.0)))

pub returns-in-Some-clause-lives : goal.returns-in-Some-clause-lives
returns-in-Some-clause-lives g c = rw (sym c.take.ensures.value) (rw c.in-Some.is c.make_at.ensures.lives)
