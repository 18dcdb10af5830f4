use Rattle.std.proofs.Common.{◌≡◌, ℕ, sym, ap, subst, ◌∙◌}
use Rattle.nb_ether.specs.Frame.{frame_of}
use Rattle.nb_ipv4.specs.PacketText.{packet_parts}
use Rattle.nb_ipv4.specs.UdpText.{UdpParts}
use Rattle.nb_tftpmsg.specs.Packets.{IsTftpPacket}
use Rattle.nb_tftpmsg.specs.Views.{message}
use Rattle.nb_lab.specs.declared.hosts.Peer.{Peer}
use Rattle.nb_lab.specs.Bringing.{packet, peer_of}
use Rattle.nb_lab.proofs.received.datagram_in.Goals as goal

pub returns-in_err-udp-clause-complete : goal.returns-in_err-udp-clause-complete
returns-in_err-udp-clause-complete c = λ d text is spelled. absurd (c.in_err-udp.ensures.complete d is)

pub returns-in_err-read-clause-complete : goal.returns-in_err-read-clause-complete
returns-in_err-read-clause-complete c = λ d text is spelled.
    let same = c.in_ok-udp.ensures.complete d is in
    let Spells : UdpParts → Type 0 = λ x. IsTftpPacket x.body text in
    let read = c.in_err-read.ensures.complete text (subst Spells (sym same) spelled) in
    let none : ⊥ = cc in
    absurd none

pub returns-clause-complete : goal.returns-clause-complete
returns-clause-complete c = λ d text is spelled.
    let same = c.in_ok-udp.ensures.complete d is in
    let Spells : UdpParts → Type 0 = λ x. IsTftpPacket x.body text in
    let read = c.in_ok-read.ensures.complete text (subst Spells (sym same) spelled) in
    let text_is : message c.in_ok-read.field-0 ≡ text = cc in
    let peer : ℕ → Peer = peer_of (frame_of c.args.frame) (packet_parts c.args.packet) in
    ap (λ (u : UdpParts). packet (peer u.src_port) u.dst_port (message c.in_ok-read.field-0)) same
    ∙ ap (packet (peer d.src_port) d.dst_port) text_is
