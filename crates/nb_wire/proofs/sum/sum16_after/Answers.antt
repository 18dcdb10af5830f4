use Rattle.std.proofs.Common.{◌+◌, ◌-◌, ◌∙◌, sym, ap, arith}
use Rattle.nb_wire.specs.Checksum.{sum_word}
use Rattle.nb_wire.proofs.BytesLaws.{IsBytes}
use Rattle.nb_wire.proofs.ChecksumLaws.{checksum-parts, SameSum-parts, IsBytes-append}
use Rattle.nb_wire.proofs.sum.sum16_after.Goals as goal

pub returns : goal.returns
returns c =
    let first : IsBytes c.args.first.now = λ i. omega (arith, c.total.ensures.bytes i) in
    let second : IsBytes c.args.second.now = λ i. omega (arith, c.total-2.ensures.bytes i) in
    let same = SameSum-parts _ _ c.total.result c.total-2.result c.requires.even c.total.ensures.same c.total-2.ensures.same in
    λ front has.
    c.complement.ensures
    ∙ ap (λ n. 65535 - sum_word (n + (c.total.result + c.total-2.result))) c.from.ensures
    ∙ sym (checksum-parts front _ c.args.before (c.total.result + c.total-2.result) has.fits (IsBytes-append _ _ first second) has.even has.same same)
