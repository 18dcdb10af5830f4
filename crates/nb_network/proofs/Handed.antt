-- What a frame's message has that is handed on.
use Rattle.std.proofs.Common.{◌≡◌, ℕ, Bool, true, false, cond, List, Option, Some, None, refl, arith}
use Rattle.nb_ipv4.specs.PacketText.{PacketParts}
use Rattle.nb_ipv4.specs.UdpText.{UdpParts}
use Rattle.nb_ipv4.specs.EchoText.{EchoParts}
use Rattle.nb_tcpseg.specs.SegmentText.{SegmentParts}
use Rattle.nb_stack.specs.Resets.{has_flag}
use Rattle.nb_stack.specs.Takes.{Outcome, dropped, replied, handed, echo_to, handed_to, segment_to}
use Rattle.nb_wire.specs.declared.address.Ip4.{Ip4}
use Rattle.nb_teller.specs.Speakers.{carrier_number}
use Rattle.nb_teller.specs.declared.speaker.Carrier.{Carrier}
use Rattle.nb_teller.specs.declared.speaker.Carrier.TheVariants.{Udp, Icmp, Tcp}
use Rattle.nb_network.specs.Receiving.{port_by_carrier}

pub record IsHanded (owner : Option ℕ) (to : ℕ) (src src' : Ip4) (port port' : ℕ) (body body' : List ℕ) : Type 0 where
  pub owned : owner ≡ Some to
  pub source : src ≡ src'
  pub port_is : port ≡ port'
  pub body_is : body ≡ body'

pub not_handed : (b : Bool) (x y : Outcome) (to : ℕ) (src dst : Ip4) (proto port : ℕ) (body : List ℕ) → (x ≡ handed to src dst proto port body → ⊥) → (y ≡ handed to src dst proto port body → ⊥) → cond b x y ≡ handed to src dst proto port body → ⊥
not_handed true x y to src dst proto port body f g e = f e
not_handed false x y to src dst proto port body f g e = g e

pub drops_none : (to : ℕ) (src dst : Ip4) (proto port : ℕ) (body : List ℕ) → dropped ≡ handed to src dst proto port body → ⊥
drops_none to src dst proto port body e = cc

pub replies_none : (to : ℕ) (src dst : Ip4) (proto port : ℕ) (body : List ℕ) → replied ≡ handed to src dst proto port body → ⊥
replies_none to src dst proto port body e = cc

pub handed_datagram : (p : PacketParts) (d : UdpParts) (o : Option ℕ) (to : ℕ) (src dst : Ip4) (proto port : ℕ) (body : List ℕ) → handed_to p d o ≡ handed to src dst proto port body → IsHanded o to p.src src d.src_port port d.body body
handed_datagram p d None to src dst proto port body e = absurd (drops_none to src dst proto port body e)
handed_datagram p d (Some k) to src dst proto port body e = record { owned = cc; source = cc; port_is = cc; body_is = cc }

pub handed_reply : (p : PacketParts) (x : EchoParts) (o : Option ℕ) (to : ℕ) (src dst : Ip4) (proto port : ℕ) (body : List ℕ) → echo_to p x o ≡ handed to src dst proto port body → IsHanded o to p.src src 0 port x.body body
handed_reply p x None to src dst proto port body e = absurd (drops_none to src dst proto port body e)
handed_reply p x (Some k) to src dst proto port body e = record { owned = cc; source = cc; port_is = cc; body_is = cc }

pub handed_segment : (p : PacketParts) (x : SegmentParts) (o : Option ℕ) (to : ℕ) (src dst : Ip4) (proto port : ℕ) (body : List ℕ) → segment_to p x o ≡ handed to src dst proto port body → IsHanded o to p.src src x.src_port port p.body body
handed_segment p x None to src dst proto port body e = absurd (not_handed (has_flag 4 x) dropped replied to src dst proto port body (drops_none to src dst proto port body) (replies_none to src dst proto port body) e)
handed_segment p x (Some k) to src dst proto port body e = record { owned = cc; source = cc; port_is = cc; body_is = cc }

-- from which port it comes
pub port_of_echo : (c : Carrier) (own port : ℕ) → carrier_number c ≡ 1 → port_by_carrier c own port ≡ own
port_of_echo Udp own port e = absurd (omega (arith, e))
port_of_echo Icmp own port e = refl
port_of_echo Tcp own port e = absurd (omega (arith, e))

pub port_of_other : (c : Carrier) (own port : ℕ) → (carrier_number c ≡ 1 → ⊥) → port_by_carrier c own port ≡ port
port_of_other Udp own port n = refl
port_of_other Icmp own port n = absurd (n refl)
port_of_other Tcp own port n = refl
