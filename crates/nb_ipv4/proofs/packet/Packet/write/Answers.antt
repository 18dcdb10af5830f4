use Rattle.std.proofs.Common.{◌≡◌, ◌++◌, refl}
use Rattle.nb_ipv4.specs.PacketText.{packet_parts, sent_packet}
use Rattle.nb_ipv4.proofs.packet.Packet.write.Goals as goal

pub returns-clause-appended : goal.returns-clause-appended
returns-clause-appended c =
    let whole : c.head-head.result ++ c.args.self.now.body.now ≡ sent_packet (packet_parts c.args.self.now) = c.head-head.ensures.value c.args.self.now.body.now refl in
    rw (← whole) c.put_both.ensures.appended

pub returns-clause-readable : goal.returns-clause-readable
returns-clause-readable c = c.head-head.ensures.readable c.args.self.now.body.now refl
