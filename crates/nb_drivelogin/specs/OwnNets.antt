-- own, after ipxe.org's settings: the client's net. Its address, mask and gateway are those of net0; the name servers and
-- the DHCP server are those of whichever block has them.
use Rattle.std.specs.Prelude.{ℕ, ◌-◌, ◌^◌, ◌≤◌, List, drop, Option, Some, None, unwrap_or, codes}
use Rattle.std.specs.Int.{w32, leading_ones}
use Rattle.nb_wire.specs.declared.address.Ip4.{Ip4}
use Rattle.nb_command.specs.SettingAddresses.{host, address_bytes, value_address}
use Rattle.nb_settings.specs.declared.setting.OwnedKey.{OwnedKey}
use Rattle.nb_settings.specs.declared.setting.OwnedKey.TheVariants.{Tag, Free}
use Rattle.nb_settings.specs.Tables.{TableLists, SettingValue, look}

-- an address as a number, 0 where there is none
abbrev pub address_number : Option Ip4 → ℕ
address_number address = (unwrap_or address (host 0)).0

-- the address that a setting's value begins with; 0 where it has fewer than four bytes, or isn't set
abbrev pub setting_host : Option SettingValue → ℕ
setting_host value = address_number (value_address value)

-- a setting of net0
abbrev pub own_setting : OwnedKey → TableLists → Option SettingValue
own_setting key table = look (Some (codes "net0")) key table

abbrev pub own_ip : TableLists → ℕ
own_ip table = setting_host (own_setting (Free (codes "ip")) table)

-- `gateway` is option 3 of RFC 2132
abbrev pub own_gateway : TableLists → ℕ
own_gateway table = setting_host (own_setting (Tag 3) table)

-- how many bits of a mask are ones from the highest on: those before the first that isn't
abbrev pub prefix_of : Ip4 → ℕ
prefix_of mask = leading_ones w32 mask.0

-- the highest n bits of a mask are ones: it isn't below the mask of these bits alone
abbrev pub HasOnes : Ip4 → ℕ → Type 0
HasOnes mask n = 2 ^ 32 - 2 ^ (32 - n) ≤ mask.0

-- `netmask` is option 1; where it isn't set the mask is 255.255.255.0
abbrev pub own_prefix : TableLists → ℕ
own_prefix table = prefix_of (unwrap_or (value_address (own_setting (Tag 1) table)) (host 0xffffff00))

-- `dns` is option 6, with one address after another
abbrev pub name_servers : TableLists → Option SettingValue
name_servers table = look None (Tag 6) table

abbrev pub first_name_server : TableLists → ℕ
first_name_server table = setting_host (name_servers table)

abbrev pub second_address : List ℕ → ℕ
second_address bytes = address_number (address_bytes (drop 4 bytes))

abbrev pub second_in : Option SettingValue → ℕ
second_in None = 0
second_in (Some value) = second_address value.bytes

abbrev pub second_name_server : TableLists → ℕ
second_name_server table = second_in (name_servers table)

-- `dhcp-server` is option 54
abbrev pub dhcp_server_of : TableLists → ℕ
dhcp_server_of table = setting_host (look None (Tag 54) table)
