use Rattle.std.proofs.Common.{◌≡◌, IsSomeAnd, arith}
use Rattle.nb_ether.specs.Frame.{frame_of}
use Rattle.nb_ipv4.specs.PacketText.{packet_parts}
use Rattle.nb_lab.specs.Bringing.{brought}
use Rattle.nb_lab.proofs.ReceivedLemmas.{is_other, no_packet, other_target, other_proto, by_datagram, by_segment}
use Rattle.nb_lab.proofs.received.message_in.Goals as goal

pub returns-in_err-packet-clause-complete : goal.returns-in_err-packet-clause-complete
returns-in_err-packet-clause-complete c = λ b h.
    absurd (no_packet (frame_of c.args.frame) c.requires b (λ p is. c.in_err-packet.ensures.complete p is) h)

pub returns-then-ne-clause-complete : goal.returns-then-ne-clause-complete
returns-then-ne-clause-complete c = λ b h.
    absurd (other_target (frame_of c.args.frame) c.requires (packet_parts c.in_ok-packet.packet) (λ p is. c.in_ok-packet.ensures.complete p is) b (is_other c.in_ok-packet.packet.dst c.ne.result c.if-ne.true c.ne.ensures) h)

pub returns-in-17-clause-complete : goal.returns-in-17-clause-complete
returns-in-17-clause-complete c =
    by_datagram (frame_of c.args.frame) c.requires (packet_parts c.in_ok-packet.packet) (λ p is. c.in_ok-packet.ensures.complete p is)
    (λ b. IsSomeAnd c.datagram_in.result (λ r. brought r ≡ b)) c.in-17.is c.datagram_in.ensures.complete

pub returns-in-6-clause-complete : goal.returns-in-6-clause-complete
returns-in-6-clause-complete c =
    by_segment (frame_of c.args.frame) c.requires (packet_parts c.in_ok-packet.packet) (λ p is. c.in_ok-packet.ensures.complete p is)
    (λ b. IsSomeAnd c.segment_in.result (λ r. brought r ≡ b)) c.in-6.is c.segment_in.ensures.complete

pub returns-in_default-clause-complete : goal.returns-in_default-clause-complete
returns-in_default-clause-complete c = λ b h.
    absurd (other_proto (frame_of c.args.frame) c.requires (packet_parts c.in_ok-packet.packet) (λ p is. c.in_ok-packet.ensures.complete p is) b (λ e. omega (arith, e)) (λ e. omega (arith, e)) h)
