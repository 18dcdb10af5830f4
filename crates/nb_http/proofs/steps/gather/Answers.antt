use Rattle.std.proofs.Common.{◌++◌, ◌∙◌, List, ℕ, ap, arith, take, append_assoc}
use Rattle.nb_httpmsg.proofs.FeedLemmas.{both_taken}
use Rattle.nb_http.proofs.steps.gather.Goals as goal

pub returns-clause-items : goal.returns-clause-items
returns-clause-items c =
    c.fill-more.ensures.items ∙ ap (λ (t : List ℕ). t ++ take c.fill-more.result c.args.second.now) c.fill-taken.ensures.items
    ∙ append_assoc c.args.head.now.items (take c.fill-taken.result c.args.first.now) (take c.fill-more.result c.args.second.now)
    ∙ ap (λ (t : List ℕ). c.args.head.now.items ++ t) (both_taken c.fill-taken.result c.fill-more.result c.args.first.now c.args.second.now (omega (arith, c.if-taken-first.false, c.fill-taken.ensures.count)))
