use Rattle.std.proofs.Common.{◌∙◌, sym, arith}
use Rattle.nb_wire.proofs.BytesLaws.{IsBytes}
use Rattle.nb_wire.proofs.ChecksumLaws.{checksum-sum}
use Rattle.nb_wire.proofs.sum.sum16_of_20.Goals as goal

pub returns : goal.returns
returns c =
    let fits : IsBytes c.args.bytes.now = λ i. omega (arith, c.total.ensures.bytes i) in
    c.complement.ensures ∙ sym (checksum-sum _ c.total.result fits c.total.ensures.same)
