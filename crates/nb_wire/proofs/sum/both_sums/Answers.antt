use Rattle.std.proofs.Common.{refl}
use Rattle.nb_wire.proofs.TurnedLaws.{turned_step, turned_split, turned_last}
use Rattle.nb_wire.proofs.sum.both_sums.Goals as goal

pub widest-preserved : goal.widest-preserved
widest-preserved c =
    turned_step 256 c.widest.rest.now _ c.in-Some.after.now c.widest.total c.turned_sum-total.result _ refl c.in-Some.ensures.cases.0 c.in-Some.ensures.cases.1 c.in-Some.ensures.cases.2 c.turned_sum-total.ensures c.widest.invariant

pub wide-preserved : goal.wide-preserved
wide-preserved c =
    let cut = c.in-Some-split_first_chunk in
    turned_step 64 c.wide.rest.now _ cut.after.now c.wide.total c.turned_sum-total-in-Some-split_first_chunk.result _ refl cut.ensures.cases.0 cut.ensures.cases.1 cut.ensures.cases.2 c.turned_sum-total-in-Some-split_first_chunk.ensures c.wide.invariant

pub returns-clause-same : goal.returns-clause-same
returns-clause-same c =
    turned_last _ _ _ _ c.rest_words.ensures.same
    (turned_split _ c.wide.rest.now _ _ c.wide.total _ _ refl c.split_at.ensures.front c.split_at.ensures.back c.turned_sum.ensures c.wide.invariant)
