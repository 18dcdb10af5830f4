use Rattle.std.proofs.Common.{◌≡◌, ◌∙◌, sym, ap, Some, None}
use Rattle.nb_effects.specs.Asked.{asked}
use Rattle.nb_graph.proofs.LivesLemmas.{Lives-none, Lives-weaken}
use Rattle.nb_effects.proofs.AccountLemmas.{Calms-none}
use Rattle.nb_graph.proofs.OwingLemmas.{Back-stays}
use Rattle.nb_graph.proofs.inner.Inner.take_one.Goals as goal

pub returns-else-emit-clause-lives : goal.returns-else-emit-clause-lives
returns-else-emit-clause-lives g c = λ now u.
    let e : c.args.emit.now ≡ None = sym c.emit.view_is ∙ ap (λ z. asked z c.emit.inside.what) c.if-emit.false in
    rw e (Lives-weaken (Back-stays _ _) (λ ds k. k) (Lives-none _ now _ (Calms-none _ _)))

pub returns-then-emit-clause-lives : goal.returns-then-emit-clause-lives
returns-then-emit-clause-lives g c = λ now u.
    let e : c.args.emit.now ≡ Some c.emit.inside.what = sym c.emit.view_is ∙ ap (λ z. asked z c.emit.inside.what) c.if-emit.true in
    rw e (c.take_load.ensures.lives now u)
