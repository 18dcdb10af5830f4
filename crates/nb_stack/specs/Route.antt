-- RFC 1122, section 3.3.1: the next hop of what is sent
use Rattle.std.specs.Prelude.{ℕ, ◌==◌, ◌&&◌, Bool, Option, Some, None, bit_and, if◌then◌else◌}
use Rattle.nb_wire.specs.declared.address.Ip4.{Ip4}
use Rattle.nb_stack.specs.declared.address.Addr.{Addr}
use Rattle.nb_stack.specs.declared.route.Way.{Way}
use Rattle.nb_stack.specs.declared.route.Way.TheVariants.{Nowhere, Everyone, Hop}

-- the address and the client's own agree in the bits that name the net
abbrev pub is_in_net : Addr → Ip4 → Bool
is_in_net address to = bit_and to.0 address.mask.0 == bit_and address.ip.0 address.mask.0

-- by a gateway, if there is one
abbrev pub hop_by : Option Ip4 → Ip4 → Way
hop_by None from = Nowhere
hop_by (Some gateway) from = Hop from gateway

-- in the net a host is its own next hop; for others it is the gateway
abbrev pub hop_from : Addr → Ip4 → Way
hop_from address to = if is_in_net address to then Hop address.ip to else hop_by address.gateway address.ip

-- without an address there is no way
abbrev pub route_with : Option Addr → Ip4 → Way
route_with None to = Nowhere
route_with (Some address) to = hop_from address to

-- a device that is down has no way
abbrev pub packet_route : Bool → Option Addr → Ip4 → Way
packet_route up address to = if up then route_with address to else Nowhere

-- the way of a datagram: what a DHCP client sends to all hosts needs no address
abbrev pub route_of : Bool → Option Addr → Ip4 → ℕ → Way
route_of up address to own_port =
    if up
    then (if (own_port == 68) && (to.0 == 4294967295) then Everyone else route_with address to)
    else Nowhere
