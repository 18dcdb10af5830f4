-- own: the two hosts of a lab, in one net
use Rattle.std.specs.Prelude.{[], ◌∷◌}
use Rattle.nb_wire.specs.declared.address.Ip4.{Ip4}
use Rattle.nb_wire.specs.declared.address.Mac.{Mac}

-- 52:54:00:00:00:02 and 10.0.0.1
abbrev pub server_mac : Mac
server_mac = record { 0 = 82 ∷ 84 ∷ 0 ∷ 0 ∷ 0 ∷ 2 ∷ [] }

abbrev pub server : Ip4
server = record { 0 = 0x0a000001 }

abbrev pub broadcast_mac : Mac
broadcast_mac = record { 0 = 255 ∷ 255 ∷ 255 ∷ 255 ∷ 255 ∷ 255 ∷ [] }
