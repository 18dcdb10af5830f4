-- own: the client's address, mask and gateway are settings of net0, and its device is up or down as the state says
use Rattle.std.specs.Prelude.{Bool, Option, Some, None, unwrap_or, codes}
use Rattle.nb_wire.specs.declared.address.Ip4.{Ip4}
use Rattle.nb_stack.specs.declared.address.Addr.{Addr}
use Rattle.nb_stack.specs.Client.{Client}
use Rattle.nb_settings.specs.declared.setting.OwnedKey.{OwnedKey}
use Rattle.nb_settings.specs.declared.setting.OwnedKey.TheVariants.{Tag, Free}
use Rattle.nb_settings.specs.Tables.{TableLists, look}
use Rattle.nb_command.specs.SettingAddresses.{host, value_address, nonzero}

-- the address that a setting of net0 has, if it has one
unfoldable pub net0_address : OwnedKey → TableLists → Option Ip4
net0_address key table = value_address (look (Some (codes "net0")) key table)

-- `netmask` has tag 1 and `gateway` tag 3 (RFC 2132); an unset mask is 255.255.255.0
abbrev pub address_with : TableLists → Option Ip4 → Option Addr
address_with table None = None
address_with table (Some ip) = Some (record {
  ip = ip;
  mask = unwrap_or (net0_address (Tag 1) table) (host 0xffffff00);
  gateway = nonzero (net0_address (Tag 3) table);
})

-- the client's address and its net, as `net0/ip`, `net0/netmask` and `net0/gateway` give them; without an address there is neither
unfoldable pub address_in_table : TableLists → Option Addr
address_in_table table = address_with table (nonzero (net0_address (Free (codes "ip")) table))

-- the link as the settings and the device's state say
abbrev pub link_by : TableLists → Bool → Client → Client
link_by table up net = record net { address = address_in_table table; up = up }
