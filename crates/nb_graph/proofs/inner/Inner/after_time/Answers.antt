use Rattle.nb_graph.proofs.LivelyForLemmas.{LivelyInFor-calm, LivelyInFor-weaken}
use Rattle.nb_effects.proofs.RiseLemmas.{time-fail}
use Rattle.nb_graph.proofs.inner.Inner.after_time.Goals as goal

pub returns-then-done-clause-lives : goal.returns-then-done-clause-lives
returns-then-done-clause-lives g c = rw c.if-done.true c.effects.ensures.lives

pub returns-else-done-clause-lives : goal.returns-else-done-clause-lives
returns-else-done-clause-lives g c = rw c.if-done.false (LivelyInFor-weaken (λ p q x y w v i j. time-fail c.args.self.now.book c.args.id.0 p q y w v i) (LivelyInFor-calm c.args.id.0 c.fail.ensures.lives))
