use Rattle.nb_effects.specs.Deeds.{Settles as Frees}
use Rattle.nb_graph.proofs.LivesLemmas.{Lives-above, Lives-opened}
use Rattle.std.proofs.Common.{min, max, ap, ◌∷◌}
use Rattle.std.proofs.Common.{◌≡◌, ◌++◌, arith, ◌∙◌}
use Rattle.nb_effects.proofs.OrderLemmas.{frees-append}
use Rattle.nb_effects.proofs.ShrinkLemmas.{SettlesTwo-pair, IsWhole-pair, live-settle}
use Rattle.nb_graph.proofs.MildLemmas.{Lives-next}
use Rattle.nb_graph.proofs.inner.Inner.settle_pair.Goals as goal

pub settle-requires-2-clause-lives : goal.settle-requires-2-clause-lives
settle-requires-2-clause-lives g c =
    let less = c.requires.order in
    live-settle c.args.high.0 (λ (e : c.args.high.0 ≡ c.args.low.0). absurd (omega arith)) c.settle.ensures.settles.settles ∙ c.requires.high

pub returns-clause-settles : goal.returns-clause-settles
unfolding SettlesTwo-pair
returns-clause-settles g c = record {
  settles = SettlesTwo-pair c.requires.order c.settle.ensures.settles.settles c.settle-2.ensures.settles.settles;
  gone = c.settle.ensures.settles.gone ++ c.settle-2.ensures.settles.gone;
  frees = rw (c.settle.ensures.settles.frees, c.settle-2.ensures.settles.frees) (frees-append c.settle.ensures.settles.gone c.settle-2.ensures.settles.gone);
  lives = λ now. Lives-opened (λ st. let less = c.requires.order in let e : min c.args.low.0 c.args.high.0 ≡ c.args.low.0 = omega (arith, less) in let f : max c.args.low.0 c.args.high.0 ≡ c.args.high.0 = omega (arith, less) in ap (λ z. Frees z ∷ Frees (max c.args.low.0 c.args.high.0) ∷ st) e ∙ ap (λ z. Frees c.args.low.0 ∷ Frees z ∷ st) f) (Lives-next (Lives-above (λ st. Frees c.args.high.0 ∷ st) (c.settle.ensures.settles.lives now)) (c.settle-2.ensures.settles.lives now));
}

pub returns-clause-steady : goal.returns-clause-steady
returns-clause-steady g c = record {
  whole = IsWhole-pair c.settle.ensures.settles.settles c.settle-2.ensures.settles.settles c.requires.links c.requires.counted c.requires.small;
  manned = c.settle-2.ensures.manned;
}
