use Rattle.std.proofs.Common.{◌∙◌, sym, arith}
use Rattle.nb_wire.proofs.BytesLaws.{IsBytes}
use Rattle.nb_wire.proofs.ChecksumLaws.{checksum-parts}
use Rattle.nb_wire.proofs.sum.sum16.Goals as goal

pub returns : goal.returns
returns c =
    let first : IsBytes c.args.first.now = λ i. omega (arith, c.type_inv.first i) in
    let second : IsBytes c.args.second.now = λ i. omega (arith, c.type_inv.second i) in
    c.complement.ensures
    ∙ sym (checksum-parts _ _ c.total.result c.total-2.result first second c.requires.even c.total.ensures.same c.total-2.ensures.same)
