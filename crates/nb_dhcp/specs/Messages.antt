-- RFC 2131, sections 2 and 4.4.1, RFC 2132, and RFC 4578 with our own choices: the messages of a client
use Rattle.std.specs.Prelude.{ℕ, ◌+◌, ◌/◌, ◌%◌, List, [], ◌∷◌, ◌++◌, replicate, codes, Option, None, Some}
use Rattle.std.specs.Int.{to_be_bytes, w16, w32}
use Rattle.nb_dhcp.specs.declared.asker.Asker.{Asker}
use Rattle.nb_dhcp.specs.declared.offer.Offer.{Offer}

-- a request by Ethernet without relays, its number, no seconds, a broadcast answer, no addresses, the client's
-- hardware address, no names, and the cookie
abbrev pub start_text : Asker → List ℕ
start_text a =
    1 ∷ 1 ∷ 6 ∷ 0 ∷ (to_be_bytes w32 a.xid ++ (0 ∷ 0 ∷ 128 ∷ 0 ∷ (replicate 16 0 ++ (a.mac.0 ++ (replicate 202 0 ++ 99 ∷ 130 ∷ 83 ∷ 99 ∷ [])))))

-- a DISCOVER; or a REQUEST, with the server and the address that it offered
abbrev pub message_kind_text : Option Offer → List ℕ
message_kind_text None = 53 ∷ 1 ∷ 1 ∷ []
message_kind_text (Some offer) = 53 ∷ 1 ∷ 3 ∷ 54 ∷ 4 ∷ (to_be_bytes w32 offer.server.0 ++ 50 ∷ 4 ∷ to_be_bytes w32 offer.address.0)

-- a number as five decimals, with zeros before it
abbrev pub five_decimals : ℕ → List ℕ
five_decimals n =
    (48 + (n / 10000) % 10) ∷ (48 + (n / 1000) % 10) ∷ (48 + (n / 100) % 10) ∷ (48 + (n / 10) % 10) ∷ (48 + n % 10) ∷ []

-- the most bytes of a message (57), the architecture (93), the interface (94), and the class of a client that
-- boots by network (60)
abbrev pub class_text : ℕ → List ℕ
class_text arch =
    57 ∷ 2 ∷ 5 ∷ 220 ∷ 93 ∷ 2 ∷ (to_be_bytes w16 arch ++ (94 ∷ 3 ∷ 1 ∷ 2 ∷ 1 ∷ 60 ∷ 32 ∷ (codes "PXEClient:Arch:" ++ (five_decimals arch ++ codes ":UNDI:002001"))))

-- the user class (77), the options asked for (55), who asks, by hardware address (61) and by machine (97), and the end
abbrev pub identity_text : Asker → List ℕ
identity_text a =
    77 ∷ 4 ∷ 105 ∷ 80 ∷ 88 ∷ 69 ∷ 55 ∷ 10 ∷ 1 ∷ 3 ∷ 6 ∷ 12 ∷ 15 ∷ 17 ∷ 66 ∷ 67 ∷ 175 ∷ 203 ∷ 61 ∷ 7 ∷ 1
    ∷ (a.mac.0 ++ (97 ∷ 17 ∷ 0 ∷ (a.uuid ++ 255 ∷ [])))

-- the message that asks for an offer, or requests one
abbrev pub message_text : Asker → Option Offer → List ℕ
message_text a offer = start_text a ++ (message_kind_text offer ++ (class_text a.arch ++ identity_text a))
