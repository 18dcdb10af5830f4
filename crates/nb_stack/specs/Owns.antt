-- the addresses that a frame or a packet for the client may have
use Rattle.std.specs.Prelude.{◌==◌, Bool, false, [], ◌∷◌, Option, Some, None}
use Rattle.nb_wire.specs.declared.address.Ip4.{Ip4}
use Rattle.nb_wire.specs.declared.address.Mac.{Mac}
use Rattle.nb_stack.specs.declared.address.Addr.{Addr}

-- it is the client's own address; a client without one has none
abbrev pub owns : Option Addr → Ip4 → Bool
owns None ip = false
owns (Some address) ip = address.ip.0 == ip.0

-- the hardware address of all: ff:ff:ff:ff:ff:ff
abbrev pub everyone : Mac
everyone = record { 0 = 255 ∷ 255 ∷ 255 ∷ 255 ∷ 255 ∷ 255 ∷ [] }
