-- RFC 768, RFC 792: whose messages leave, and what carries them.
use Rattle.std.specs.Prelude.{ℕ, ◌≤◌, List, length}
use Rattle.nb_terms.specs.declared.acts.SendTo.{SendTo}
use Rattle.nb_wire.specs.declared.address.Ip4.{Ip4}
use Rattle.nb_teller.specs.declared.speaker.Carrier.{Carrier}
use Rattle.nb_teller.specs.declared.speaker.Carrier.TheVariants.{Udp, Icmp, Tcp}
use Rattle.nb_teller.specs.declared.speaker.Speaker.{Speaker}

-- the protocol's number
abbrev pub carrier_number : Carrier → ℕ
carrier_number Udp = 17
carrier_number Icmp = 1
carrier_number Tcp = 6

-- the fewest bytes of a message's body: a segment's header without options
abbrev pub least_body : Carrier → ℕ
least_body Udp = 0
least_body Icmp = 0
least_body Tcp = 20

-- a message of this speaker may have this body
abbrev pub CanCarry : Speaker → List ℕ → Type 0
CanCarry who body = (least_body who.carrier ≤ length body) × (length body ≤ 1480)

-- who speaks for an open of this number that sends by UDP, to this server from this port
abbrev pub speaker_by : ℕ → Ip4 → ℕ → Speaker
speaker_by number server own_port = record { number = number; carrier = Udp; server = server; own_port = own_port }

-- a datagram of these bytes to this port of the server
abbrev pub datagram_of : Speaker → ℕ → List ℕ → SendTo
datagram_of who port bytes = record { proto = carrier_number who.carrier; to = who.server; to_port = port; own_port = who.own_port; body = record { items = bytes } }
