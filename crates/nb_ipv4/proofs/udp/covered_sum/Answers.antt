use Rattle.std.proofs.Common.{ℕ, ◌<◌, ◌+◌, ◌^◌, List, ◌++◌, subst, sym, arith, rules}
use Rattle.nb_wire.specs.Checksum.{HasSum}
use Rattle.nb_ipv4.specs.UdpText.{udp_header, pseudo_header}
use Rattle.nb_ipv4.proofs.SentUdpLaws.{covered_has_sum}
use Rattle.nb_ipv4.proofs.udp.covered_sum.Goals as goal

pub returns : goal.returns
returns c = λ d src dst is.
    let src_port : c.args.src_port < 2 ^ 16 = search rules in
    let dst_port : c.args.dst_port < 2 ^ 16 = search rules in
    let len : c.args.len < 2 ^ 16 = search rules in
    let front : ℕ → List ℕ = λ k. pseudo_header c.args.src c.args.dst k in
    let P : ℕ → Type 0 = λ k. HasSum (front k) c.pseudo_sum.result in
    let Q : ℕ → Type 0 = λ k. HasSum (front k ++ udp_header d 0) (c.pseudo_sum.result + (c.from.result + c.from-2.result) + c.from-3.result) in
    subst Q is
    (covered_has_sum c.args.src c.args.dst d c.pseudo_sum.result _ (subst P (sym is) c.pseudo_sum.ensures.sum) (omega (arith, src, src_port)) (omega (arith, dst, dst_port)) (omega (arith, is, len)) (omega (arith, src, dst, is)))
