-- RFC 2131, sections 3.1 and 4.4.1: what a lease is, by the messages' own grammar and their order
use Rattle.std.specs.Prelude.{◌≡◌, ◌≤◌, ℕ, List, ◌∷◌, ◌++◌, length, take}
use Rattle.std.specs.Int.{from_be_bytes, w32}
use Rattle.std.specs.List.{AllByRecursion}
use Rattle.nb_wire.specs.declared.address.Ip4.{Ip4}
use Rattle.nb_dhcpmsg.specs.Options.{TagValue, joined}
use Rattle.nb_dhcpmsg.specs.Messages.{MessageParts, IsMessage, HasOptions}
use Rattle.nb_dhcp.specs.declared.asker.Asker.{Asker}
use Rattle.nb_dhcp.specs.declared.offer.Offer.{Offer}
use Rattle.nb_dhcp.specs.History.{Handed}

-- a server's message with the client's number and hardware address
pub record AnswersAsker (a : Asker) (m : MessageParts) : Type 0 where
  pub op : m.op ≡ 2
  pub xid : m.xid ≡ a.xid
  pub chaddr : m.chaddr ≡ a.mac.0

-- the message names this server, by the first four bytes of option 54
pub record NamesServer (bytes : List ℕ) (server : Ip4) : Type 0 where
  pub options : List TagValue
  pub has_options : HasOptions bytes options
  pub long : 4 ≤ length (joined 54 options)
  pub first : from_be_bytes w32 (take 4 (joined 54 options)) ≡ server.0

-- the bytes are an offer (kind 2) to the client, of this server and address
pub record IsOfferTo (a : Asker) (offer : Offer) (bytes : List ℕ) : Type 0 where
  pub message : MessageParts
  pub is_message : IsMessage bytes message
  pub reply : AnswersAsker a message
  pub kind : message.kind ≡ 2
  pub address : message.yiaddr ≡ offer.address.0
  pub some_address : message.yiaddr ≡ 0 → ⊥
  pub server : NamesServer bytes offer.server

-- the bytes are an acknowledgement (kind 5) to the client, of the server of an offer
pub record IsAckOf (a : Asker) (offer : Offer) (bytes : List ℕ) : Type 0 where
  pub message : MessageParts
  pub is_message : IsMessage bytes message
  pub reply : AnswersAsker a message
  pub kind : message.kind ≡ 5
  pub server : NamesServer bytes offer.server

-- the bytes refuse (kind 6) what the client requested, and are of the server of an offer
pub record IsNakOf (a : Asker) (offer : Offer) (bytes : List ℕ) : Type 0 where
  pub message : MessageParts
  pub is_message : IsMessage bytes message
  pub reply : AnswersAsker a message
  pub kind : message.kind ≡ 6
  pub server : NamesServer bytes offer.server

-- no datagram is a valid offer
abbrev pub IsWithoutOffer : Asker → List Handed → Type 0
IsWithoutOffer a ms = AllByRecursion (λ m. (other : Offer) → IsOfferTo a other m.body → ⊥) ms

-- the offer is the first valid one of these datagrams
pub record IsFirstOffer (a : Asker) (ms : List Handed) (offer : Offer) : Type 0 where
  pub before : List Handed
  pub first : Handed
  pub after : List Handed
  pub in_order : ms ≡ before ++ first ∷ after
  pub none_before : IsWithoutOffer a before
  pub is_offer : IsOfferTo a offer first.body

-- The bytes are the lease among these datagrams: first an offer, before which no offer came, and later the
-- acknowledgement of its server.
pub record IsLeaseOf (a : Asker) (ms : List Handed) (bytes : List ℕ) : Type 0 where
  pub before : List Handed
  pub first : Handed
  pub between : List Handed
  pub last : Handed
  pub after : List Handed
  pub in_order : ms ≡ before ++ first ∷ (between ++ last ∷ after)
  pub none_before : AllByRecursion (λ m. (other : Offer) → IsOfferTo a other m.body → ⊥) before
  pub offer : Offer
  pub is_offer : IsOfferTo a offer first.body
  pub is_ack : IsAckOf a offer last.body
  pub its : last.body ≡ bytes
