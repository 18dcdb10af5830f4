use Rattle.std.proofs.Common.{◌++◌, ap, sym, ◌∙◌}
use Rattle.std.specs.Option.{option_map}
use Rattle.nb_expand.specs.Pairs.{pairs_behind}
use Rattle.nb_expand.proofs.PairLemmas.{pairs-first, pairs-next, byte_more}
use Rattle.nb_expand.proofs.pairs.parse_pairs.Goals as goal

pub loop-rest-init : goal.loop-rest-init
loop-rest-init c =
    let first = pairs-first c.args.separator c.args.text.now c.in-Some.first c.in-Some.rest.now (sym c.in-Some.ensures.value) in
    rw (c.in_ok-push.ensures.items, c.new-bytes.ensures.items) (sym first)

pub loop-rest-preserved : goal.loop-rest-preserved
loop-rest-preserved c =
    let next = pairs-next c.args.separator c.loop-rest.rest.now c.in-Some-pair_behind.byte c.in-Some-pair_behind.behind.now (sym c.in-Some-pair_behind.ensures.value) in
    rw c.in_ok-push-2.ensures.items
    (byte_more c.loop-rest.bytes.items c.in-Some-pair_behind.byte (pairs_behind c.args.separator c.in-Some-pair_behind.behind.now)
    ∙ ap (option_map (λ more. c.loop-rest.bytes.items ++ more)) (sym next) ∙ c.loop-rest.invariant)
