use Rattle.std.proofs.Common.{◌<◌, ◌^◌, arith, rules}
use Rattle.nb_ipv4.specs.PacketText.{sent_parts}
use Rattle.nb_ipv4.proofs.SentLaws.{header_has_sum}
use Rattle.nb_ipv4.proofs.packet.header_sum.Goals as goal

pub returns : goal.returns
returns c = λ body is.
    let src : c.args.src.0 < 2 ^ 32 = search rules in
    let dst : c.args.dst.0 < 2 ^ 32 = search rules in
    let proto : c.args.proto < 256 = search rules in
    header_has_sum (sent_parts c.args.src c.args.dst c.args.proto body) _ (omega (arith, is, c.requires)) (src, dst, proto) (omega arith)
