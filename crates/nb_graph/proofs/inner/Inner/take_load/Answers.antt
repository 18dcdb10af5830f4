use Rattle.std.proofs.Common.{sym, ◌∙◌}
use Rattle.nb_graph.proofs.LivesLemmas.{Lives-none, Lives-weaken}
use Rattle.nb_effects.proofs.AccountLemmas.{Calms-none}
use Rattle.nb_graph.proofs.NodeLemmas.{nothing-there}
use Rattle.nb_graph.proofs.OwingLemmas.{Back-stays}
use Rattle.nb_graph.proofs.inner.Inner.take_load.Goals as goal

pub returns-then-is_some-clause-lives : goal.returns-then-is_some-clause-lives
returns-then-is_some-clause-lives g c = λ now u. rw c.take.ensures.value at c.take_lent.ensures.lives now u

pub returns-else-is_some-clause-lives : goal.returns-else-is_some-clause-lives
returns-else-is_some-clause-lives g c = λ now u. rw (nothing-there c.args.load.now (sym c.is_some.ensures ∙ c.if-is_some.false)) (Lives-weaken (Back-stays _ _) (λ ds k. k) (Lives-none _ now _ (Calms-none _ _)))
