use Rattle.std.proofs.Common.{arith}
use Rattle.std.proofs.lemmas.Int.Digits.{digits_value_more}
use Rattle.nb_httpmsg.proofs.NumberLemmas.{digit_here}
use Rattle.nb_httpmsg.proofs.number.saturated.Goals as goal

pub loop-b-preserved : goal.loop-b-preserved
loop-b-preserved c = omega (arith, digits_value_more 10 c.args.digits.now c.loop-b.b-index c.loop-b-test.true, digit_here c.args.digits.now c.loop-b.b-index c.requires c.loop-b-test.true, c.loop-b.invariant, c.saturating_mul.ensures, c.from.ensures, c.saturating_add-number.ensures)
