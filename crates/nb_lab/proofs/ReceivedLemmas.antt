-- What a frame with a packet brings the servers.
use Rattle.std.proofs.Common.{◌≡◌, ℕ, Bool, true, false, not, eqb, refl, subst, sym, ap, ◌∙◌, arith}
use Rattle.std.proofs.lemmas.Bool.{eqb-false}
use Rattle.nb_wire.specs.declared.address.Ip4.{Ip4}
use Rattle.nb_ether.specs.Frame.{Frame}
use Rattle.nb_ipv4.specs.PacketText.{PacketParts, IsPacket}
use Rattle.nb_ipv4.specs.UdpText.{UdpParts, IsUdp}
use Rattle.nb_tcpseg.specs.SegmentText.{SegmentParts, IsSegment}
use Rattle.nb_tftpmsg.specs.Packets.{Message, IsTftpPacket}
use Rattle.nb_lab.specs.declared.hosts.Peer.{Peer}
use Rattle.nb_lab.specs.Hosts.{server}
use Rattle.nb_lab.specs.Bringing.{FrameBrought, question, packet, segment, FrameBringsIn, peer_of}

flipped : (x : Bool) → true ≡ not x → x ≡ false
flipped true h = h
flipped false h = refl

-- an address that isn't the servers'
pub is_other : (dst : Ip4) (r : Bool) → r ≡ true → r ≡ not (eqb dst.0 0x0a000001) → dst ≡ server → ⊥
is_other dst r taken test is =
    let number : Ip4 → ℕ = λ ip. ip.0 in
    eqb-false dst.0 0x0a000001 (flipped (eqb dst.0 0x0a000001) (sym taken ∙ test)) (ap number is)

module _ (f : Frame) (kind : f.kind ≡ 2048) where
  -- no packet, or one for another host or of another protocol, brings nothing
  pub no_packet : (b : FrameBrought) → ((p : PacketParts) → IsPacket f.body p → ⊥) → FrameBringsIn f b → ⊥
  no_packet (question mac ip) none h = omega (arith, kind, h.1.kind)
  no_packet (packet from port text) none h = none h.0 h.2.packet.packet
  no_packet (segment from parts) none h = none h.0 h.1.packet.packet

  module _ (q : PacketParts) (only : (p : PacketParts) → IsPacket f.body p → q ≡ p) where
    pub other_target : (b : FrameBrought) → (q.dst ≡ server → ⊥) → FrameBringsIn f b → ⊥
    other_target (question mac ip) other h = omega (arith, kind, h.1.kind)
    other_target (packet from port text) other h =
        let to : PacketParts → Ip4 = λ p. p.dst in
        other (ap to (only h.0 h.2.packet.packet) ∙ h.2.packet.target)
    other_target (segment from parts) other h =
        let to : PacketParts → Ip4 = λ p. p.dst in
        other (ap to (only h.0 h.1.packet.packet) ∙ h.1.packet.target)

    pub other_proto : (b : FrameBrought) → (q.proto ≡ 17 → ⊥) → (q.proto ≡ 6 → ⊥) → FrameBringsIn f b → ⊥
    other_proto (question mac ip) no17 no6 h = omega (arith, kind, h.1.kind)
    other_proto (packet from port text) no17 no6 h =
        let number : PacketParts → ℕ = λ p. p.proto in
        no17 (ap number (only h.0 h.2.packet.packet) ∙ h.2.packet.proto)
    other_proto (segment from parts) no17 no6 h =
        let number : PacketParts → ℕ = λ p. p.proto in
        no6 (ap number (only h.0 h.1.packet.packet) ∙ h.1.packet.proto)

    -- a datagram's packet brings a packet of TFTP at most, and a segment's a segment
    pub by_datagram : (P : FrameBrought → Type 0) → q.proto ≡ 17
        → ((d : UdpParts) (text : Message) → IsUdp q.src q.dst q.body d → IsTftpPacket d.body text → P (packet (peer_of f q d.src_port) d.dst_port text))
        → (b : FrameBrought) → FrameBringsIn f b → P b
    by_datagram P proto each (question mac ip) h = absurd (omega (arith, kind, h.1.kind))
    by_datagram P proto each (packet from port text) h =
        let same = only h.0 h.2.packet.packet in
        let Udp : PacketParts → Type 0 = λ p. IsUdp p.src p.dst p.body h.1 in
        let whole = each h.1 text (subst Udp (sym same) h.2.udp) h.2.spelled in
        let peer : peer_of f q h.1.src_port ≡ from = ap (λ (p : PacketParts). peer_of f p h.1.src_port) same ∙ sym h.3 in
        let At : Peer → Type 0 = λ x. P (packet x h.1.dst_port text) in
        let To : ℕ → Type 0 = λ n. P (packet from n text) in
        subst To (sym h.4) (subst At peer whole)
    by_datagram P proto each (segment from parts) h =
        let number : PacketParts → ℕ = λ p. p.proto in
        absurd (omega (arith, proto, ap number (only h.0 h.1.packet.packet), h.1.packet.proto))

    pub by_segment : (P : FrameBrought → Type 0) → q.proto ≡ 6
        → ((parts : SegmentParts) → IsSegment q.src q.dst q.body parts → P (segment (peer_of f q parts.src_port) parts))
        → (b : FrameBrought) → FrameBringsIn f b → P b
    by_segment P proto each (question mac ip) h = absurd (omega (arith, kind, h.1.kind))
    by_segment P proto each (packet from port text) h =
        let number : PacketParts → ℕ = λ p. p.proto in
        absurd (omega (arith, proto, ap number (only h.0 h.2.packet.packet), h.2.packet.proto))
    by_segment P proto each (segment from parts) h =
        let same = only h.0 h.1.packet.packet in
        let Is : PacketParts → Type 0 = λ p. IsSegment p.src p.dst p.body parts in
        let whole = each parts (subst Is (sym same) h.1.segment) in
        let peer : peer_of f q parts.src_port ≡ from = ap (λ (p : PacketParts). peer_of f p parts.src_port) same ∙ sym h.2 in
        let At : Peer → Type 0 = λ x. P (segment x parts) in
        subst At peer whole
