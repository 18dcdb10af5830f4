use Rattle.std.proofs.Common.{sym, ◌∙◌}
use Rattle.nb_httpmsg.proofs.NumberLemmas.{same_number}
use Rattle.nb_httpmsg.proofs.number.is_same_number.Goals as goal

pub returns : goal.returns
returns c = same_number c.args.text.now c.args.number.now c.significant.result.now c.significant-2.result.now c.eq.result (sym c.is_decimal.ensures ∙ c.if-not-is_decimal.false) c.significant.ensures.digits c.significant-2.ensures.digits c.significant.ensures.first c.significant-2.ensures.first c.significant.ensures.value c.significant-2.ensures.value c.eq.ensures
