use Rattle.std.proofs.Common.{ap}
use Rattle.nb_ether.specs.Frame.{frame_of}
use Rattle.nb_ipv4.specs.PacketText.{packet_parts}
use Rattle.nb_tcpseg.specs.SegmentText.{SegmentParts}
use Rattle.nb_lab.specs.Bringing.{segment, peer_of}
use Rattle.nb_lab.proofs.received.segment_in.Goals as goal

pub returns-in_err-segment-clause-complete : goal.returns-in_err-segment-clause-complete
returns-in_err-segment-clause-complete c = λ parts is. absurd (c.in_err-segment.ensures.complete parts is)

pub returns-clause-complete : goal.returns-clause-complete
returns-clause-complete c = λ parts is.
    ap (λ (s : SegmentParts). segment (peer_of (frame_of c.args.frame) (packet_parts c.args.packet) s.src_port) s)
    (c.in_ok-segment.ensures.complete parts is)
