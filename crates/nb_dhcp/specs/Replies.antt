-- RFC 2131, sections 3.1 and 4.4.1: the messages that answer a client
use Rattle.std.specs.Prelude.{ℕ, ◌==◌, ◌&&◌, not, Bool, false, List, Option, None, Some, if◌then◌else◌}
use Rattle.std.specs.Option.{option_map, option_map_or, option_and_then}
use Rattle.std.specs.Str.{bytes_eq}
use Rattle.nb_wire.specs.declared.address.Ip4.{Ip4}
use Rattle.nb_dhcpmsg.specs.Options.{joined}
use Rattle.nb_dhcpmsg.specs.Messages.{MessageParts}
use Rattle.nb_dhcpmsg.specs.Fields.{message_in, message_options, address_in}
use Rattle.nb_dhcp.specs.declared.asker.Asker.{Asker}
use Rattle.nb_dhcp.specs.declared.offer.Offer.{Offer}

-- a message is a server's, with the number and the hardware address of this client
abbrev pub is_reply_to : Asker → MessageParts → Bool
is_reply_to a m = (m.op == 2) && (m.xid == a.xid) && bytes_eq m.chaddr a.mac.0

-- the server of a message: the first four bytes of option 54
abbrev pub server_in : List ℕ → Option ℕ
server_in bytes = option_and_then (λ os. address_in (joined 54 os)) (message_options bytes)

abbrev pub offer_of : ℕ → Option ℕ → Option Offer
offer_of address server = option_map (λ s. record { server = record { 0 = s }; address = record { 0 = address } }) server

-- it offers this client an address other than 0
abbrev pub is_offer_to : Asker → MessageParts → Bool
is_offer_to a m = is_reply_to a m && (m.kind == 2) && not (m.yiaddr == 0)

-- such an offer is valid where it names a server
abbrev pub offer_by : Asker → Option ℕ → MessageParts → Option Offer
offer_by a server m = if is_offer_to a m then offer_of m.yiaddr server else None

-- the valid offer that the bytes are, if they are one
unfoldable pub offer_in : Asker → List ℕ → Option Offer
offer_in a bytes = option_and_then (offer_by a (server_in bytes)) (message_in bytes)

abbrev pub is_its : Ip4 → Option ℕ → Bool
is_its server named = option_map_or (λ s. s == server.0) named false

abbrev pub reply_kind_by : Asker → Ip4 → Option ℕ → MessageParts → Option ℕ
reply_kind_by a server named m = if is_reply_to a m && is_its server named then Some m.kind else None

-- the kind of the message that the bytes are, where it is for this client and from this server
unfoldable pub kind_from : Asker → Ip4 → List ℕ → Option ℕ
kind_from a server bytes = option_and_then (reply_kind_by a server (server_in bytes)) (message_in bytes)

-- it acknowledges what was requested (5), or refuses it (6)
abbrev pub acknowledges_for : Asker → Ip4 → List ℕ → Bool
acknowledges_for a server bytes = option_map_or (λ kind. kind == 5) (kind_from a server bytes) false

abbrev pub refuses_for : Asker → Ip4 → List ℕ → Bool
refuses_for a server bytes = option_map_or (λ kind. kind == 6) (kind_from a server bytes) false
