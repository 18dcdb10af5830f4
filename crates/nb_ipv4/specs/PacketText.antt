-- RFC 791, section 3.1: an IPv4 packet that is no fragment
use Rattle.std.specs.Prelude.{◌≡◌, ℕ, ◌+◌, ◌*◌, ◌/◌, ◌<◌, ◌≤◌, ◌^◌, List, [], ◌∷◌, ◌++◌, length}
use Rattle.std.specs.Int.{w16, w32, to_be_bytes}
use Rattle.nb_wire.specs.Checksum.{checksum}
use Rattle.nb_wire.specs.declared.address.Ip4.{Ip4}
use Rattle.nb_ipv4.specs.declared.packet.Packet.{Packet}

-- a packet without where its body lies in memory
pub record PacketParts : Type 0 where
  pub src : Ip4
  pub dst : Ip4
  pub proto : ℕ
  pub body : List ℕ

abbrev pub packet_parts : Packet → PacketParts
packet_parts p = record { src = p.src; dst = p.dst; proto = p.proto; body = p.body.now }

-- a packet of these fields and this body
abbrev pub sent_parts : Ip4 → Ip4 → ℕ → List ℕ → PacketParts
sent_parts src dst proto body = record { src = src; dst = dst; proto = proto; body = body }

-- what a header says besides; the flags are the reserved bit and don't-fragment, two bits above fourteen zeros
pub record Header : Type 0 where
  pub service : ℕ
  pub identification : ℕ
  pub flags : ℕ
  pub time_to_live : ℕ
  pub checksum : ℕ
  pub options : List ℕ

-- a header's spelling: version 4, and its length in words of four bytes
unfoldable pub header_text : Header → PacketParts → List ℕ
header_text h p =
    (64 + (20 + length h.options) / 4) ∷ h.service ∷ to_be_bytes w16 (20 + length h.options + length p.body)
    ++ to_be_bytes w16 h.identification ++ to_be_bytes w16 (16384 * h.flags)
    ++ h.time_to_live ∷ p.proto ∷ to_be_bytes w16 h.checksum
    ++ to_be_bytes w32 p.src.0 ++ to_be_bytes w32 p.dst.0 ++ h.options

-- these bytes are the packet, with some header and maybe padding after it
pub record IsPacket (bytes : List ℕ) (p : PacketParts) : Type 0 where
  pub header : Header
  pub padding : List ℕ
  pub option_words : ℕ
  pub options : (length header.options ≡ 4 * option_words) × (option_words ≤ 10)
  pub flags : header.flags < 4
  pub total : 20 + length header.options + length p.body < 2 ^ 16
  pub src : p.src.0 < 2 ^ 32
  pub dst : p.dst.0 < 2 ^ 32
  pub spelled : bytes ≡ header_text header p ++ p.body ++ padding
  pub checked : checksum (header_text header p) ≡ 0

-- the header that is sent, with this checksum: don't-fragment, time to live 64, no options
abbrev pub sent_header : ℕ → Header
sent_header checksum = record { service = 0; identification = 0; flags = 1; time_to_live = 64; checksum = checksum; options = [] }

-- a packet as it is sent: the checksum is that of the header with 0 in its place
unfoldable pub sent_packet : PacketParts → List ℕ
sent_packet p = header_text (sent_header (checksum (header_text (sent_header 0) p))) p ++ p.body
