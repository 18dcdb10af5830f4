-- the at most one message that a frame brings a client
use Rattle.std.specs.Prelude.{◌≡◌, ◌⊎◌, ℕ, Bool, true, List, Option}
use Rattle.nb_wire.specs.declared.address.Ip4.{Ip4}
use Rattle.nb_wire.specs.declared.address.Mac.{Mac}
use Rattle.nb_ether.specs.declared.arp.Arp.{Arp}
use Rattle.nb_ether.specs.Frame.{Frame, IsFrame}
use Rattle.nb_ether.specs.ArpText.{IsArp}
use Rattle.nb_ipv4.specs.PacketText.{PacketParts, IsPacket, packet_parts}
use Rattle.nb_ipv4.specs.UdpText.{UdpParts, IsUdp, udp_parts}
use Rattle.nb_ipv4.specs.EchoText.{EchoParts, IsEcho, echo_parts}
use Rattle.nb_tcpseg.specs.SegmentText.{SegmentParts, IsSegment, segment_parts}
use Rattle.nb_stack.specs.declared.address.Addr.{Addr}
use Rattle.nb_stack.specs.declared.message.Message.{Message}
use Rattle.nb_stack.specs.declared.message.Message.TheVariants.{Nothing, HasArp, HasDatagram, HasRequest, HasReply, HasSegment}
use Rattle.nb_stack.specs.Owns.{owns, everyone}

-- what a frame brings, without where it lies in memory; what may be answered goes with the interface that its frame came from
pub data Brought : Type 0 where
  nothing : Brought
  arp_message : (from : Mac) (arp : Arp) → Brought
  datagram : (packet : PacketParts) (udp : UdpParts) → Brought
  echo_request : (from : Mac) (packet : PacketParts) (echo : EchoParts) → Brought
  echo_reply : (packet : PacketParts) (echo : EchoParts) → Brought
  segment : (from : Mac) (packet : PacketParts) (parts : SegmentParts) → Brought

-- these bytes are a frame for the client's interface or for all, and the device is up
pub record IsFrameFor (up : Bool) (mac : Mac) (bytes : List ℕ) (f : Frame) : Type 0 where
  pub is_up : up ≡ true
  pub frame : IsFrame bytes f
  pub addressed : (f.dst ≡ mac) ⊎ (f.dst ≡ everyone)

-- the frame has this ARP message
pub record IsArpIn (f : Frame) (arp : Arp) : Type 0 where
  pub kind : f.kind ≡ 2054
  pub is_arp : IsArp f.body arp

-- a datagram for this port is for the client: to its own address, to all hosts, or for a DHCP client
abbrev pub IsAddressed : Option Addr → Ip4 → ℕ → Type 0
IsAddressed address dst port = (owns address dst ≡ true) ⊎ (dst.0 ≡ 4294967295) ⊎ (port ≡ 68)

-- the frame has this UDP datagram in this packet, and it is for the client
pub record IsDatagramIn (address : Option Addr) (f : Frame) (p : PacketParts) (d : UdpParts) : Type 0 where
  pub kind : f.kind ≡ 2048
  pub packet : IsPacket f.body p
  pub proto : p.proto ≡ 17
  pub udp : IsUdp p.src p.dst p.body d
  pub addressed : IsAddressed address p.dst d.dst_port

-- the frame has this echo, a request or a reply, in this packet, and it is for the client's own address
pub record IsEchoIn (address : Option Addr) (f : Frame) (p : PacketParts) (e : EchoParts) : Type 0 where
  pub kind : f.kind ≡ 2048
  pub packet : IsPacket f.body p
  pub proto : p.proto ≡ 1
  pub echo : IsEcho p.body e
  pub addressed : owns address p.dst ≡ true

-- the frame has this TCP segment in this packet, and it is for the client's own address
pub record IsSegmentIn (address : Option Addr) (f : Frame) (p : PacketParts) (s : SegmentParts) : Type 0 where
  pub kind : f.kind ≡ 2048
  pub packet : IsPacket f.body p
  pub proto : p.proto ≡ 6
  pub segment : IsSegment p.src p.dst p.body s
  pub addressed : owns address p.dst ≡ true

-- the frame has no message for the client
pub record BringsNone (address : Option Addr) (f : Frame) : Type 0 where
  pub arp : (arp : Arp) → IsArpIn f arp → ⊥
  pub datagram : (p : PacketParts) (d : UdpParts) → IsDatagramIn address f p d → ⊥
  pub echo : (p : PacketParts) (e : EchoParts) → IsEchoIn address f p e → ⊥
  pub segment : (p : PacketParts) (s : SegmentParts) → IsSegmentIn address f p s → ⊥

-- this echo, in a packet from this interface, is this message
abbrev pub IsEchoOf : Mac → PacketParts → EchoParts → Brought → Type 0
IsEchoOf from p e message =
    ((message ≡ echo_request from p e) × (e.kind ≡ 8)) ⊎ ((message ≡ echo_reply p e) × (e.kind ≡ 0))

-- the frame brings a client with this address just this
abbrev pub BringsIn : Option Addr → Frame → Brought → Type 0
BringsIn address f nothing = BringsNone address f
BringsIn address f (arp_message from arp) = IsArpIn f arp × (f.src ≡ from)
BringsIn address f (datagram p d) = IsDatagramIn address f p d
BringsIn address f (echo_request from p e) = IsEchoIn address f p e × (f.src ≡ from) × (e.kind ≡ 8)
BringsIn address f (echo_reply p e) = IsEchoIn address f p e × (e.kind ≡ 0)
BringsIn address f (segment from p s) = IsSegmentIn address f p s × (f.src ≡ from)

-- these bytes bring a client just this: no frame for it brings anything, or one brings this
abbrev pub Brings : Bool → Mac → Option Addr → List ℕ → Brought → Type 0
Brings up mac address bytes nothing = (f : Frame) → IsFrameFor up mac bytes f → BringsIn address f nothing
Brings up mac address bytes message = (f : Frame) × IsFrameFor up mac bytes f × BringsIn address f message

-- a message without where its bytes lie in memory
abbrev pub message_brought : Message → Brought
message_brought Nothing = nothing
message_brought (HasArp from arp) = arp_message from arp
message_brought (HasDatagram p d) = datagram (packet_parts p) (udp_parts d)
message_brought (HasRequest from p e) = echo_request from (packet_parts p) (echo_parts e)
message_brought (HasReply p e) = echo_reply (packet_parts p) (echo_parts e)
message_brought (HasSegment from p s) = segment from (packet_parts p) (segment_parts s)
