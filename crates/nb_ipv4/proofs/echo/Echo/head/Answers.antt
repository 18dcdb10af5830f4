use Rattle.std.proofs.Common.{◌≡◌, refl, arith}
use Rattle.std.proofs.lemmas.List.{length-append}
use Rattle.nb_wire.specs.Checksum.{checksum}
use Rattle.nb_wire.proofs.BytesLaws.{IsBytes}
use Rattle.nb_wire.proofs.ChecksumLaws.{IsBytes-append}
use Rattle.nb_ipv4.specs.EchoText.{echo_of, echo_header, echo_text}
use Rattle.nb_ipv4.proofs.SentEchoLaws.{sent_readable, sent_whole}
use Rattle.nb_ipv4.proofs.echo.Echo.head.Goals as goal

pub returns-clause-value : goal.returns-clause-value
returns-clause-value c =
    let e = echo_of c.args.kind c.args.ident c.args.seq c.args.first.now c.args.second.now in
    let sum_is : c.sum16_after-sum.result ≡ checksum (echo_text e 0) =
    c.sum16_after-sum.ensures (echo_header e 0) (c.header_sum.ensures e refl refl refl) in
    sent_whole e _ c.sum16_after-sum.result sum_is (c.header_bytes.ensures.value e refl refl refl)

pub returns-clause-readable : goal.returns-clause-readable
returns-clause-readable c =
    let first : IsBytes c.args.first.now = λ i. omega (arith, c.type_inv.first i) in
    let second : IsBytes c.args.second.now = λ i. omega (arith, c.type_inv.second i) in
    sent_readable (echo_of c.args.kind c.args.ident c.args.seq c.args.first.now c.args.second.now) c.requires.kind (IsBytes-append _ _ first second) (omega (arith, c.requires.short, length-append c.args.first.now c.args.second.now)) c.header_bytes.ensures.fits
