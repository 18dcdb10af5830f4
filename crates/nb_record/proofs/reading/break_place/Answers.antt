use Rattle.std.proofs.Common.{ap, ◌∙◌, arith, not}
use Rattle.nb_record.proofs.BeginLemmas.{nothing_begins}
use Rattle.nb_record.proofs.BreakLemmas.{breaks, none-is}
use Rattle.nb_record.proofs.reading.break_place.Goals as goal

pub loop-place-init : goal.loop-place-init
loop-place-init c = nothing_begins

pub returns-then-is_none : goal.returns-then-is_none
returns-then-is_none c =
    breaks c.args.bytes.now c.loop-place.place (λ i. omega (arith, c.type_inv.bytes i)) c.loop-place-test.true c.loop-place.invariant
    (c.kind_of.ensures.none (none-is c.kind_of.result (c.is_none.ensures ∙ ap not c.if-is_none.true)))
