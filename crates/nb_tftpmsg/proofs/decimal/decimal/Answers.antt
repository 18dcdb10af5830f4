use Rattle.std.proofs.Common.{◌+◌, ◌*◌, ◌-◌, refl, ap, ◌∙◌, sym, arith, get_or, drop}
use Rattle.nb_tftpmsg.proofs.DecimalLemmas.{decimal_after, decimal-front, decimal_after-other, decimal_after-digit, decimal_after-large, decimal_after-end}
use Rattle.nb_tftpmsg.proofs.decimal.decimal.Goals as goal

pub loop-byte-init : goal.loop-byte-init
loop-byte-init c = record { small = omega arith; same = refl }

pub returns-then-not-is_ascii_digit : goal.returns-then-not-is_ascii_digit
returns-then-not-is_ascii_digit c =
    sym (decimal-front (c.args.most + 1) c.args.text.now (sym c.is_empty.ensures ∙ c.if-is_empty.false)
    ∙ sym c.loop-byte.invariant.same
    ∙ decimal_after-other (c.args.most + 1) c.loop-byte.value c.args.text.now c.loop-byte.byte-index c.loop-byte-test.true (sym c.is_ascii_digit.ensures.value ∙ c.if-not-is_ascii_digit.true))

pub returns-then-value-from : goal.returns-then-value-from
returns-then-value-from c =
    sym (decimal-front (c.args.most + 1) c.args.text.now (sym c.is_empty.ensures ∙ c.if-is_empty.false)
    ∙ sym c.loop-byte.invariant.same
    ∙ decimal_after-digit (c.args.most + 1) c.loop-byte.value c.args.text.now c.loop-byte.byte-index c.loop-byte-test.true (sym c.is_ascii_digit.ensures.value ∙ c.if-not-is_ascii_digit.false) c.if-not-is_ascii_digit.ensures.cases
    ∙ decimal_after-large (c.args.most + 1) (c.loop-byte.value * 10 + (get_or c.args.text.now c.loop-byte.byte-index 0 - 48)) (drop (c.loop-byte.byte-index + 1) c.args.text.now) (omega (arith, c.from.ensures)))

pub loop-byte-preserved : goal.loop-byte-preserved
loop-byte-preserved c = record {
  small = omega arith;
  same =
      ap (λ r. decimal_after (c.args.most + 1) (c.loop-byte.value * 10 + r) (drop (c.loop-byte.byte-index + 1) c.args.text.now)) c.from.ensures
      ∙ sym (decimal_after-digit (c.args.most + 1) c.loop-byte.value c.args.text.now c.loop-byte.byte-index c.loop-byte-test.true (sym c.is_ascii_digit.ensures.value ∙ c.if-not-is_ascii_digit.false) c.if-not-is_ascii_digit.ensures.cases)
      ∙ c.loop-byte.invariant.same;
}

pub overflow_cast-result : goal.overflow_cast-result
overflow_cast-result c = omega (arith, c.loop-byte.invariant.small)

pub returns : goal.returns
returns c =
    sym (decimal-front (c.args.most + 1) c.args.text.now (sym c.is_empty.ensures ∙ c.if-is_empty.false)
    ∙ sym c.loop-byte.invariant.same
    ∙ decimal_after-end (c.args.most + 1) c.loop-byte.value c.args.text.now c.loop-byte.byte-index (omega arith) (omega (arith, c.loop-byte.invariant.small)))
