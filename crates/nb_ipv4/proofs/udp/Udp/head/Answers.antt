use Rattle.std.proofs.Common.{◌≡◌, ℕ, ◌+◌, List, ◌++◌, length, ◌∙◌, sym, ap, refl, arith, append_assoc}
use Rattle.std.proofs.lemmas.List.{length-append}
use Rattle.nb_wire.specs.Checksum.{checksum}
use Rattle.nb_wire.proofs.BytesLaws.{IsBytes}
use Rattle.nb_wire.proofs.ChecksumLaws.{IsBytes-append}
use Rattle.nb_ipv4.specs.UdpText.{sent_udp, udp_header, udp_sum, pseudo_header}
use Rattle.nb_ipv4.proofs.SentUdpLaws.{sent_readable, sent_whole}
use Rattle.nb_ipv4.proofs.udp.Udp.head.Goals as goal

pub returns-clause-value : goal.returns-clause-value
returns-clause-value c =
    let src = c.args.src in
    let dst = c.args.dst in
    let body : List ℕ = c.args.first.now ++ c.args.second.now in
    let d = sent_udp c.args.src_port c.args.dst_port c.args.first.now c.args.second.now in
    let len = 8 + (length c.args.first.now + length c.args.second.now) in
    let len_is : 8 + length body ≡ len = omega (arith, length-append c.args.first.now c.args.second.now) in
    let sum_is : c.sum16_after.result ≡ udp_sum src dst d 0 =
    c.sum16_after.ensures (pseudo_header src dst len ++ udp_header d 0) (c.covered_sum-before.ensures d refl refl len_is)
    ∙ ap checksum (append_assoc (pseudo_header src dst len) (udp_header d 0) body)
    ∙ ap (λ (n : ℕ). checksum (pseudo_header src dst n ++ (udp_header d 0 ++ body))) (sym len_is) in
    sent_whole src dst d _ c.sum16_after.result c.field_of-field.result sum_is c.field_of-field.ensures (c.header_bytes.ensures.value d refl refl len_is)

pub returns-clause-readable : goal.returns-clause-readable
returns-clause-readable c =
    let first : IsBytes c.args.first.now = λ i. omega (arith, c.type_inv.first i) in
    let second : IsBytes c.args.second.now = λ i. omega (arith, c.type_inv.second i) in
    let body = IsBytes-append _ _ first second in
    sent_readable c.args.src c.args.dst (sent_udp c.args.src_port c.args.dst_port c.args.first.now c.args.second.now) body (omega (arith, c.requires.room, length-append c.args.first.now c.args.second.now)) c.header_bytes.ensures.fits
