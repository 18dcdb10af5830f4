use Rattle.nb_ledger.proofs.RunLemmas.{Given-none}
use Rattle.std.proofs.Common.{◌≡◌, ℕ, [], inl, inr, refl, sym, ◌∙◌}
use Rattle.nb_ledger.specs.Ledger.{port, open_count}
use Rattle.nb_effects.proofs.ShrinkLemmas.{Shrinks-trans}
use Rattle.nb_effects.specs.Follows.{next, none_left}
use Rattle.nb_graph.proofs.AliveLemmas.{CalmFor-turn, CalmFor-turned, CalmFor-same}
use Rattle.nb_effects.specs.Deeds.{Ends, comes_to, is_reached}
use Rattle.std.proofs.Common.{◌∷◌}
use Rattle.nb_effects.proofs.ShutLemmas.{no-object, shut-still}
use Rattle.nb_graph.proofs.EndLemmas.{IsQuiet-shrinks, all-above}
use Rattle.nb_effects.proofs.OrderLemmas.{order-above, order-none}
use Rattle.nb_graph.proofs.inner.Inner.+close_above.Goals as goal

pub returns-in-Some-clause-lives : goal.returns-in-Some-clause-lives
returns-in-Some-clause-lives g t c = CalmFor-turned (λ st. Ends c.args.after c.args.cause.now ∷ st) (comes_to c.in-Some.id.0) (Given-none _) (λ st ds s k. let n = c.in-Some.ensures.some in (_, next c.args.after c.in-Some.id.0 c.args.cause.now n.0 n.2 n.3, k)) (CalmFor-same c.close_all.ensures.lives c.close_above.ensures.lives (λ ds p q i j w v h t. (w, inr (refl, inr (inr (inl h.0))), λ _. h)))

pub returns-in-Some-clause-shut : goal.returns-in-Some-clause-shut
returns-in-Some-clause-shut g t c = λ x k h.
    let s = c.in-Some.ensures.some in
    let both = Shrinks-trans c.close_all.ensures.lives.calm.shrinks c.close_above.ensures.lives.calm.shrinks in
    all-above (λ y. (j : ℕ) → open_count (port c.close_above.new.self.book y j) ≡ 0) c.args.after c.in-Some.id.0
    (λ y a b j. shut-still y j (no-object _ y j (s.3 y a b)) both)
    (λ j. shut-still c.in-Some.id.0 j (c.close_all.ensures.shut j) c.close_above.ensures.lives.calm.shrinks)
    (λ y a j. c.close_above.ensures.shut y j a) x h k

pub returns-in-Some-clause-order : goal.returns-in-Some-clause-order
returns-in-Some-clause-order g t c = λ q.
    let s = c.in-Some.ensures.some in
    let rest = c.close_above.ensures.order (IsQuiet-shrinks c.close_all.ensures.lives.calm.shrinks q) in
    let all = c.close_all.ensures.order q _ _ rest.0 rest.1 in
    (all.0, order-above c.args.cause.now c.args.after c.in-Some.id.0 _ _ _ _ s.0 s.3 all.0 all.1)

pub returns-in-None-clause-order : goal.returns-in-None-clause-order
returns-in-None-clause-order g t c = λ q. ([], order-none c.args.cause.now c.args.after _ _ c.in-None.ensures.none)

pub returns-in-None-clause-lives : goal.returns-in-None-clause-lives
returns-in-None-clause-lives g t c = CalmFor-turn _ _ _ _ _ _ (λ st. Ends c.args.after c.args.cause.now ∷ st) is_reached (Given-none _) (λ st ds s k. ([], none_left c.args.after c.args.cause.now c.in-None.ensures.none, k)) (λ p q x y w v i j. inr (i.0 ∙ sym i.1))

pub returns-in-None-clause-shut : goal.returns-in-None-clause-shut
returns-in-None-clause-shut g t c = λ x k h. no-object _ x k (c.in-None.ensures.none x h)
