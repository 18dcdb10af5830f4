use Rattle.std.proofs.Common.{◌≡◌, ◌∙◌, arith}
use Rattle.nb_dhcpmsg.proofs.OptionLemmas.{same_then, pad_gone}
use Rattle.nb_dhcpmsg.proofs.CollectedLemmas.{padding_within}
use Rattle.nb_dhcpmsg.proofs.option.after_padding.Goals as goal

pub padding-preserved : goal.padding-preserved
padding-preserved c =
    let e = c.in-Some.ensures.cases.0 in
    let size = c.in-Some.ensures.cases.1 in
    let zero_is : c.in-Some.first.now ≡ 0 = omega (arith, c.if-first-ne-PAD.false) in
    record {
      same = same_then c.args.field.now c.padding.rest.now c.in-Some.after.now c.padding.invariant.same (pad_gone c.padding.rest.now c.in-Some.first.now c.in-Some.after.now e zero_is);
      within = c.padding.invariant.within ∙ padding_within c.padding.rest.now c.in-Some.after.now c.in-Some.first.now e zero_is;
      less = omega (arith, size, c.padding.invariant.less);
    }
