use Rattle.std.proofs.Common.{arith}
use Rattle.nb_ether.specs.Frame.{frame_of}
use Rattle.nb_ipv4.specs.PacketText.{packet_parts}
use Rattle.nb_stack.proofs.ReadingLaws.{only_packet}
use Rattle.nb_stack.proofs.reading.segment_in.Goals as goal

pub returns-in-None : goal.returns-in-None
returns-in-None c =
    only_packet _ (frame_of c.args.frame) (packet_parts c.args.packet) c.requires.kind c.requires.packet
    (λ proto _ _ _. absurd (omega (arith, proto, c.requires.proto)))
    (λ proto _ _ _. absurd (omega (arith, proto, c.requires.proto)))
    (λ _ x is addressed. c.in-None.ensures.complete x is addressed)
