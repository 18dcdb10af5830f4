use Rattle.std.proofs.Common.{◌≡◌, ◌<◌, suc, length, ◌++◌, ap, ◌∙◌, sym, lit<, arith}
use Rattle.nb_tftpmsg.proofs.DecimalLemmas.{room_for_digit, digits-more, decimal_text-last}
use Rattle.nb_tftpmsg.proofs.decimal.decimal_text.Goals as goal

pub insert-requires : goal.insert-requires
insert-requires c = (lit< tt, (omega arith, room_for_digit c.args.number c.loop-rest.rest c.loop-rest.digits.items c.ranges.number.fits c.loop-rest.invariant))

pub loop-rest-preserved : goal.loop-rest-preserved
loop-rest-preserved c = digits-more c.args.number c.loop-rest.rest c.loop-rest.digits.items c.insert.new.self.items c.loop-rest-test.true c.insert.ensures.items c.loop-rest.invariant

pub insert-requires-2 : goal.insert-requires-2
insert-requires-2 c = (lit< tt, (omega arith, room_for_digit c.args.number c.loop-rest.rest c.loop-rest.digits.items c.ranges.number.fits c.loop-rest.invariant))

pub returns-clause-items : goal.returns-clause-items
returns-clause-items c = c.insert-2.ensures.items ∙ sym (c.loop-rest.invariant ∙ ap (λ front. front ++ c.loop-rest.digits.items) (decimal_text-last c.loop-rest.rest c.loop-rest-test.false))

pub returns-clause-fits : goal.returns-clause-fits
returns-clause-fits c =
    let before : length c.loop-rest.digits.items < 10 = room_for_digit c.args.number c.loop-rest.rest c.loop-rest.digits.items c.ranges.number.fits c.loop-rest.invariant in
    let after : length c.insert-2.new.self.items ≡ suc (length c.loop-rest.digits.items) = ap length c.insert-2.ensures.items in
    omega arith
