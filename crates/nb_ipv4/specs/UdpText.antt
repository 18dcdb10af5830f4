-- RFC 768: a UDP datagram between two IPv4 addresses
use Rattle.std.specs.Prelude.{◌≡◌, ℕ, zero, suc, ◌+◌, ◌<◌, ◌^◌, ◌⊎◌, List, ◌∷◌, ◌++◌, length}
use Rattle.std.specs.Int.{w16, w32, to_be_bytes}
use Rattle.nb_wire.specs.Checksum.{checksum}
use Rattle.nb_wire.specs.declared.address.Ip4.{Ip4}
use Rattle.nb_ipv4.specs.declared.udp.Udp.{Udp}

-- a datagram without where its body lies in memory
pub record UdpParts : Type 0 where
  pub src_port : ℕ
  pub dst_port : ℕ
  pub body : List ℕ

abbrev pub udp_parts : Udp → UdpParts
udp_parts d = record { src_port = d.src_port; dst_port = d.dst_port; body = d.body.now }

-- a datagram between these ports, whose body is two parts
abbrev pub sent_udp : ℕ → ℕ → List ℕ → List ℕ → UdpParts
sent_udp src_port dst_port first second = record { src_port = src_port; dst_port = dst_port; body = first ++ second }

-- a datagram's header with this checksum
unfoldable pub udp_header : UdpParts → ℕ → List ℕ
udp_header d checksum =
    to_be_bytes w16 d.src_port ++ to_be_bytes w16 d.dst_port ++ to_be_bytes w16 (8 + length d.body)
    ++ to_be_bytes w16 checksum

-- a datagram's spelling with this checksum
abbrev pub udp_text : UdpParts → ℕ → List ℕ
udp_text d checksum = udp_header d checksum ++ d.body

-- what the checksum covers before the datagram: both addresses, the protocol and the length
unfoldable pub pseudo_header : Ip4 → Ip4 → ℕ → List ℕ
pseudo_header src dst total = to_be_bytes w32 src.0 ++ to_be_bytes w32 dst.0 ++ 0 ∷ 17 ∷ to_be_bytes w16 total

-- the checksum of a datagram between these addresses, with this number in the checksum's place
abbrev pub udp_sum : Ip4 → Ip4 → UdpParts → ℕ → ℕ
udp_sum src dst d field = checksum (pseudo_header src dst (8 + length d.body) ++ udp_text d field)

-- these bytes are the datagram, maybe with others after it; a checksum field of 0 says that there is none
pub record IsUdp (src dst : Ip4) (bytes : List ℕ) (d : UdpParts) : Type 0 where
  pub field : ℕ
  pub padding : List ℕ
  pub src_port : d.src_port < 2 ^ 16
  pub dst_port : d.dst_port < 2 ^ 16
  pub total : 8 + length d.body < 2 ^ 16
  pub field_fits : field < 2 ^ 16
  pub spelled : bytes ≡ udp_text d field ++ padding
  pub checked : (field ≡ 0) ⊎ (udp_sum src dst d field ≡ 0)

-- the checksum field that is sent: all ones stand for a computed 0
abbrev pub sent_field : ℕ → ℕ
sent_field zero = 65535
sent_field (suc sum) = suc sum

-- a datagram as it is sent
unfoldable pub sent_datagram : Ip4 → Ip4 → UdpParts → List ℕ
sent_datagram src dst d = udp_text d (sent_field (udp_sum src dst d 0))
