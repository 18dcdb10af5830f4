use Rattle.std.proofs.Common.{arith}
use Rattle.nb_ipv4.specs.PacketText.{sent_parts, header_text, sent_header}
use Rattle.nb_ipv4.proofs.SentLaws.{sent_readable, sent_whole}
use Rattle.nb_ipv4.proofs.packet.Packet.head.Goals as goal

pub returns-clause-value : goal.returns-clause-value
returns-clause-value c = λ body is.
    let p = sent_parts c.args.src c.args.dst c.args.proto body in
    sent_whole p _ c.sum16_of-sum.result (c.sum16_of-sum.ensures (header_text (sent_header 0) p) (c.header_sum.ensures body is)) (c.header_bytes.ensures.value body is)

pub returns-clause-readable : goal.returns-clause-readable
returns-clause-readable c = λ body is.
    sent_readable (sent_parts c.args.src c.args.dst c.args.proto body) (omega (arith, is, c.requires)) c.header_bytes.ensures.fits
