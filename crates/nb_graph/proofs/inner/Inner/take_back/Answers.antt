use Rattle.std.proofs.Common.{ap}
use Rattle.nb_ledger.specs.Ledger.{busy}
use Rattle.nb_graph.proofs.LivesLemmas.{Lives-above, Lives-opened, Lives-then, returns-both}
use Rattle.nb_effects.specs.Deeds.{returns_of}
use Rattle.nb_effects.specs.Trace.{loads}
use Rattle.std.proofs.Common.{◌++◌}
use Rattle.nb_effects.proofs.AccountLemmas.{Calms-at, Still-both}
use Rattle.nb_graph.proofs.OwingLemmas.{Back-then}
use Rattle.nb_graph.proofs.inner.Inner.take_back.Goals as goal

pub returns-clause-lives : goal.returns-clause-lives
returns-clause-lives g c = λ now u. Lives-opened (returns-both c.args.id.0 _ _) (Lives-then (Lives-above (λ st. returns_of c.args.id.0 (loads c.args.fx.now.ups) ++ st) (c.take_few.ensures.lives now u)) (c.take_few-2.ensures.lives now u) (Back-then _ _ _ _ _ (λ x. ap (λ b. busy b x) c.take_few.ensures.book)) (λ ds es x y. Still-both x (Calms-at c.take_few.ensures.book y)))
