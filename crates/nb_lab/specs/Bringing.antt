-- what a frame brings the servers
use Rattle.std.specs.Prelude.{◌≡◌, ◌⊎◌, ℕ, List}
use Rattle.nb_wire.specs.declared.address.Ip4.{Ip4}
use Rattle.nb_wire.specs.declared.address.Mac.{Mac}
use Rattle.nb_ether.specs.declared.arp.Arp.{Arp}
use Rattle.nb_ether.specs.Frame.{Frame, IsFrame}
use Rattle.nb_ether.specs.ArpText.{IsArp}
use Rattle.nb_ipv4.specs.PacketText.{PacketParts, IsPacket}
use Rattle.nb_ipv4.specs.UdpText.{UdpParts, IsUdp}
use Rattle.nb_tcpseg.specs.SegmentText.{SegmentParts, IsSegment, segment_parts}
use Rattle.nb_tftpmsg.specs.Packets.{Message, IsTftpPacket}
use Rattle.nb_tftpmsg.specs.Views.{message}
use Rattle.nb_lab.specs.declared.hosts.Peer.{Peer}
use Rattle.nb_lab.specs.declared.received.Received.{Received}
use Rattle.nb_lab.specs.declared.received.Received.TheVariants.{Question, Packet, Segment}
use Rattle.nb_lab.specs.Hosts.{server, server_mac, broadcast_mac}

-- a host asks for the servers' interface; a packet of TFTP comes to a port; a segment comes
pub data FrameBrought : Type 0 where
  question : (mac : Mac) (ip : Ip4) → FrameBrought
  packet : (from : Peer) (port : ℕ) (text : Message) → FrameBrought
  segment : (from : Peer) (parts : SegmentParts) → FrameBrought

-- the frame is for the servers' interface or for all
pub record IsForServers (bytes : List ℕ) (f : Frame) : Type 0 where
  pub frame : IsFrame bytes f
  pub addressed : (f.dst ≡ server_mac) ⊎ (f.dst ≡ broadcast_mac)

-- the frame has a request for the servers' interface (RFC 826)
pub record IsQuestionIn (f : Frame) (arp : Arp) : Type 0 where
  pub kind : f.kind ≡ 2054
  pub is_arp : IsArp f.body arp
  pub request : arp.op ≡ 1
  pub target : arp.tpa ≡ server

-- the frame has a packet of this protocol for the servers' address
pub record IsPacketIn (f : Frame) (number : ℕ) (p : PacketParts) : Type 0 where
  pub kind : f.kind ≡ 2048
  pub packet : IsPacket f.body p
  pub target : p.dst ≡ server
  pub proto : p.proto ≡ number

abbrev pub peer_of : Frame → PacketParts → ℕ → Peer
peer_of f p port = record { mac = f.src; ip = p.src; port = port }

-- the frame has a packet of TFTP in this datagram
pub record IsTftpIn (f : Frame) (p : PacketParts) (d : UdpParts) (text : Message) : Type 0 where
  pub packet : IsPacketIn f 17 p
  pub udp : IsUdp p.src p.dst p.body d
  pub spelled : IsTftpPacket d.body text

-- the frame has this segment
pub record IsFrameSegment (f : Frame) (p : PacketParts) (parts : SegmentParts) : Type 0 where
  pub packet : IsPacketIn f 6 p
  pub segment : IsSegment p.src p.dst p.body parts

-- the frame brings this
abbrev pub FrameBringsIn : Frame → FrameBrought → Type 0
FrameBringsIn f (question mac ip) = (arp : Arp) × IsQuestionIn f arp × (mac ≡ arp.sha) × (ip ≡ arp.spa)
FrameBringsIn f (packet from port text) =
    (p : PacketParts) × (d : UdpParts) × IsTftpIn f p d text × (from ≡ peer_of f p d.src_port) × (port ≡ d.dst_port)
FrameBringsIn f (segment from parts) =
    (p : PacketParts) × IsFrameSegment f p parts × (from ≡ peer_of f p parts.src_port)

-- these bytes are a frame that brings the servers this
abbrev pub FrameBrings : List ℕ → FrameBrought → Type 0
FrameBrings bytes b = (f : Frame) × IsForServers bytes f × FrameBringsIn f b

-- what was read, without where it lies in memory
abbrev pub brought : Received → FrameBrought
brought (Question mac ip) = question mac ip
brought (Packet from port text) = packet from port (message text)
brought (Segment from parts) = segment from (segment_parts parts)
