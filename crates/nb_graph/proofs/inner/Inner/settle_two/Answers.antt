use Rattle.nb_effects.specs.Deeds.{Settles as Frees}
use Rattle.nb_graph.proofs.LivesLemmas.{Lives-opened}
use Rattle.std.proofs.Common.{◌≡◌, arith, min, max, ap, ◌∙◌, ◌∷◌}
use Rattle.nb_effects.proofs.ShrinkLemmas.{SettlesTwo-swap}
use Rattle.nb_graph.proofs.inner.Inner.settle_two.Goals as goal

pub settle_pair-requires-else-first-other-clause-counted : goal.settle_pair-requires-else-first-other-clause-counted
settle_pair-requires-else-first-other-clause-counted g c = λ y n o v. c.requires.counted y o n v

pub returns-else-first-other-clause-settles : goal.returns-else-first-other-clause-settles
unfolding SettlesTwo-swap
returns-else-first-other-clause-settles g c =
    let s = c.settle_pair-else-first-other.ensures.settles in record { settles = SettlesTwo-swap s.settles; gone = s.gone; frees = s.frees; lives = λ now. Lives-opened (λ st. let e : min c.args.first.0 c.args.other.0 ≡ min c.args.other.0 c.args.first.0 = omega arith in let f : max c.args.first.0 c.args.other.0 ≡ max c.args.other.0 c.args.first.0 = omega arith in ap (λ z. Frees z ∷ Frees (max c.args.first.0 c.args.other.0) ∷ st) e ∙ ap (λ z. Frees (min c.args.other.0 c.args.first.0) ∷ Frees z ∷ st) f) (s.lives now) }
