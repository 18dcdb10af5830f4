-- RFC 826: the neighbours' table, at most 16 pairs of addresses in the order of being put in
use Rattle.std.specs.Prelude.{ℕ, ◌==◌, Bool, true, false, Option, Some, None, List, [], ◌∷◌, ◌++◌, length, drop, find, position, option_map, slice_set, if◌then◌else◌}
use Rattle.nb_wire.specs.declared.address.Ip4.{Ip4}
use Rattle.nb_wire.specs.declared.address.Mac.{Mac}
use Rattle.nb_ether.specs.declared.arp.Arp.{Arp}
use Rattle.nb_stack.specs.declared.address.Addr.{Addr}
use Rattle.nb_stack.specs.declared.neighbours.Neighbour.{Neighbour}
use Rattle.nb_stack.specs.Owns.{owns}

-- the place of an address in the table
abbrev pub neighbour_place : Ip4 → List Neighbour → Option ℕ
neighbour_place ip near = position (λ n. n.ip.0 == ip.0) near

-- the hardware address that the table has for an address
abbrev pub mac_of : Ip4 → List Neighbour → Option Mac
mac_of ip near = option_map (λ n. n.mac) (find (λ n. n.ip.0 == ip.0) near)

-- the table with a new pair, for which a full one gives up the pair that was put in first
abbrev pub put_neighbour : Neighbour → List Neighbour → List Neighbour
put_neighbour pair near = (if length near == 16 then drop 1 near else near) ++ pair ∷ []

-- a pair that has a place is renewed there; another is put in where it is welcome
abbrev pub learned : Option ℕ → Bool → Neighbour → List Neighbour → List Neighbour
learned (Some place) welcome pair near = slice_set near place pair
learned None true pair near = put_neighbour pair near
learned None false pair near = near

-- the sender of a message
abbrev pub sender : Arp → Neighbour
sender message = record { ip = message.spa; mac = message.sha }

-- the table after a message: its sender is renewed where it is there, and put in where the message is for us
abbrev pub after_arp : Option Addr → Arp → List Neighbour → List Neighbour
after_arp address message near = learned (neighbour_place message.spa near) (owns address message.tpa) (sender message) near
