-- own, after ipxe.org's settings: the address that a setting has is its value's first four bytes
use Rattle.std.specs.Prelude.{ℕ, ◌==◌, List, [], ◌∷◌, Option, Some, None, if◌then◌else◌}
use Rattle.std.specs.Int.{w32, from_be_bytes}
use Rattle.nb_wire.specs.declared.address.Ip4.{Ip4}
use Rattle.nb_settings.specs.Tables.{SettingValue}

-- an address as a number
abbrev pub host : ℕ → Ip4
host address = record { 0 = address }

-- the first four bytes of a setting; fewer are no address
abbrev pub address_bytes : List ℕ → Option Ip4
address_bytes (a ∷ b ∷ c ∷ d ∷ rest) = Some (host (from_be_bytes w32 (a ∷ b ∷ c ∷ d ∷ [])))
address_bytes (a ∷ b ∷ c ∷ []) = None
address_bytes (a ∷ b ∷ []) = None
address_bytes (a ∷ []) = None
address_bytes [] = None

abbrev pub value_address : Option SettingValue → Option Ip4
value_address None = None
value_address (Some value) = address_bytes value.bytes

-- an address of 0 is none
abbrev pub nonzero : Option Ip4 → Option Ip4
nonzero None = None
nonzero (Some address) = if address.0 == 0 then None else Some address
