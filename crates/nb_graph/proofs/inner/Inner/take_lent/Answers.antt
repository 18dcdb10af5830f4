use Rattle.nb_graph.proofs.LivesLemmas.{Lives-none, Lives-weaken}
use Rattle.nb_effects.proofs.AccountLemmas.{Calms-none}
use Rattle.nb_graph.proofs.OwingLemmas.{Back-stays}
use Rattle.nb_graph.proofs.inner.Inner.take_lent.Goals as goal

pub returns-in-None-clause-lives : goal.returns-in-None-clause-lives
returns-in-None-clause-lives g c = λ now u. rw c.in-None.is (Lives-weaken (Back-stays _ _) (λ ds k. k) (Lives-none _ now _ (Calms-none _ _)))

pub returns-in-Some-clause-lives : goal.returns-in-Some-clause-lives
returns-in-Some-clause-lives g c = λ now u. rw c.in-Some.is (c.give_back.ensures.lives now u)
