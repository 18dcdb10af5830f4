-- RFC 826, RFC 894: the frames that a client puts
use Rattle.std.specs.Prelude.{◌≡◌, ◌==◌, ◌⊎◌, ◌≤◌, ℕ, Option, Some, None, List, [], ◌∷◌, ◌++◌, length, take, drop, if◌then◌else◌}
use Rattle.std.specs.Int.{w16, to_be_bytes}
use Rattle.nb_wire.specs.Checksum.{checksum}
use Rattle.nb_wire.specs.declared.address.Ip4.{Ip4}
use Rattle.nb_wire.specs.declared.address.Mac.{Mac}
use Rattle.nb_terms.specs.declared.acts.SendTo.{SendTo}
use Rattle.nb_ether.specs.declared.arp.Arp.{Arp}
use Rattle.nb_ether.specs.ArpText.{arp_text}
use Rattle.nb_ether.specs.Frame.{frame_text}
use Rattle.nb_ipv4.specs.PacketText.{PacketParts, sent_parts, sent_packet}
use Rattle.nb_ipv4.specs.UdpText.{UdpParts, sent_datagram}
use Rattle.nb_ipv4.specs.EchoText.{EchoParts, sent_echo}
use Rattle.nb_tcpseg.specs.SegmentText.{tcp_pseudo_header}
use Rattle.nb_stack.specs.declared.taken.Fate.{Fate}
use Rattle.nb_stack.specs.declared.taken.Fate.TheVariants.{Sent, Asked, NoRoute}
use Rattle.nb_stack.specs.declared.put.Endpoints.{Endpoints}
use Rattle.nb_stack.specs.declared.route.Way.{Way}
use Rattle.nb_stack.specs.declared.route.Way.TheVariants.{Nowhere, Everyone, Hop}
use Rattle.nb_stack.specs.Client.{Client}
use Rattle.nb_stack.specs.Near.{mac_of}
use Rattle.nb_stack.specs.Owns.{everyone}
use Rattle.nb_stack.specs.Route.{route_of, packet_route}

-- an ARP message in a frame to an interface, from its sender's
unfoldable pub arp_frame : Mac → Arp → List ℕ
arp_frame dst arp = frame_text (record { dst = dst; src = arp.sha; kind = 2054; body = arp_text arp })

-- a packet in a frame between two interfaces
unfoldable pub packet_frame : Mac → Mac → PacketParts → List ℕ
packet_frame dst src packet = frame_text (record { dst = dst; src = src; kind = 2048; body = sent_packet packet })

-- a packet of this protocol and body between these endpoints, in its frame
abbrev pub packet_between : Endpoints → ℕ → List ℕ → List ℕ
packet_between e proto body = packet_frame e.dst e.src (sent_parts e.from e.to proto body)

-- a message of protocol 17 is a UDP datagram
abbrev pub udp_of : SendTo → UdpParts
udp_of message = record { src_port = message.own_port; dst_port = message.to_port; body = message.body.items }

-- a message of protocol 1 is an echo request: its own port is the identifier, the other port the sequence number
abbrev pub request_echo : SendTo → EchoParts
request_echo message = record { kind = 8; ident = message.own_port; seq = message.to_port; body = message.body.items }

-- a segment's bytes with 0 in place of the checksum
abbrev pub without_checksum : List ℕ → List ℕ
without_checksum bytes = take 16 bytes ++ 0 ∷ 0 ∷ drop 18 bytes

-- the checksum of a segment between these addresses
abbrev pub checksum_of : Ip4 → Ip4 → List ℕ → ℕ
checksum_of src dst bytes = checksum (tcp_pseudo_header src dst (length bytes) ++ without_checksum bytes)

-- a segment's bytes with its checksum in its place
unfoldable pub with_checksum : Ip4 → Ip4 → List ℕ → List ℕ
with_checksum src dst bytes = take 16 bytes ++ to_be_bytes w16 (checksum_of src dst bytes) ++ drop 18 bytes

-- the protocols that are carried, and how much of a TCP segment a message has at least: the header
abbrev pub IsCarried : ℕ → List ℕ → Type 0
IsCarried proto body = (proto ≡ 17) ⊎ (proto ≡ 1) ⊎ ((proto ≡ 6) × (20 ≤ length body))

-- what the packet of a message from this address carries
abbrev pub payload_of : Ip4 → SendTo → List ℕ
payload_of from message =
    if message.proto == 17
    then sent_datagram from message.to (udp_of message)
    else (if message.proto == 1 then sent_echo (request_echo message) else with_checksum from message.to message.body.items)

-- a message from this address, in a packet, in a frame between two interfaces
unfoldable pub message_frame : Mac → Mac → Ip4 → SendTo → List ℕ
message_frame dst src from message = packet_frame dst src (sent_parts from message.to message.proto (payload_of from message))

-- the ARP request for a host's hardware address
abbrev pub request_for : Mac → Ip4 → Ip4 → Arp
request_for mac from hop =
    record { op = 1; sha = mac; spa = from; tha = record { 0 = 0 ∷ 0 ∷ 0 ∷ 0 ∷ 0 ∷ 0 ∷ [] }; tpa = hop }

-- the fate by what is known of the next hop
abbrev pub fate_by : Option Mac → Fate
fate_by None = Asked
fate_by (Some mac) = Sent

-- the fate of what goes this way
abbrev pub fate_of : Client → Way → Fate
fate_of client Nowhere = NoRoute
fate_of client Everyone = Sent
fate_of client (Hop from hop) = fate_by (mac_of hop client.near)

-- the frame to a next hop, or the request for it where its hardware address isn't known
abbrev pub put_by : Client → Ip4 → Ip4 → SendTo → Option Mac → List ℕ
put_by client from hop message None = arp_frame everyone (request_for client.mac from hop)
put_by client from hop message (Some mac) = message_frame mac client.mac from message

-- the bytes that are put where a message goes this way; all hosts are reached from 0.0.0.0
abbrev pub put_on : Client → SendTo → Way → List ℕ
put_on client message Nowhere = []
put_on client message Everyone = message_frame everyone client.mac (record { 0 = 0 }) message
put_on client message (Hop from hop) = put_by client from hop message (mac_of hop client.near)

-- the way of a message: that of a datagram, or of another packet
abbrev pub way_of : Client → SendTo → Way
way_of client message =
    if message.proto == 17
    then route_of client.up client.address message.to message.own_port
    else packet_route client.up client.address message.to
