-- RFC 3986, section 5.1.4: the base of a URI is the program's. Own: it is the URI that the script was fetched from; of
-- the first script, the root of the TFTP server `next-server`.
use Rattle.std.specs.Prelude.{ℕ, List, ◌++◌, Option, Some, None, codes}
use Rattle.std.specs.Int.{to_be_bytes, w32}
use Rattle.std.specs.Option.{option_map}
use Rattle.nb_wire.specs.declared.address.Ip4.{Ip4}
use Rattle.nb_settings.specs.declared.setting.OwnedKey.TheVariants.{Free}
use Rattle.nb_settings.specs.Tables.{TableLists, look}
use Rattle.nb_expand.specs.Addresses.{printed_address}
use Rattle.nb_command.specs.SettingAddresses.{value_address, nonzero}

-- the server of the setting `next-server`, if it has one
abbrev pub next_server : TableLists → Option Ip4
next_server table = nonzero (value_address (look None (Free (codes "next-server")) table))

-- the URI of a TFTP server's root
abbrev pub root_uri : Ip4 → List ℕ
root_uri server = codes "tftp://" ++ (printed_address (to_be_bytes w32 server.0) ++ codes "/")

-- the root of that server
abbrev pub base_in : TableLists → Option (List ℕ)
base_in table = option_map root_uri (next_server table)

-- what the URIs of a script's commands are joined to, by the URI that it was fetched from, if it was
abbrev pub base_by : Option (List ℕ) → TableLists → Option (List ℕ)
base_by None table = base_in table
base_by (Some uri) table = Some uri
