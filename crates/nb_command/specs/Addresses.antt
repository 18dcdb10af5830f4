-- own, after ipxe.org's `nslookup setting name`: the address that is found becomes a setting's value
use Rattle.std.specs.Prelude.{ℕ, List, Some}
use Rattle.std.specs.Int.{to_be_bytes, w32}
use Rattle.nb_settings.specs.declared.kind.Kind.TheVariants.{Ipv4}
use Rattle.nb_settings.specs.Names.{SettingName, name_read}
use Rattle.nb_settings.specs.Tables.{TableLists}
use Rattle.nb_command.specs.Settings.{Change, named_block, change_named, put_value}

-- the table with an address as the value of that name, as ipv4 whatever its kind is
abbrev pub address_put : ℕ → TableLists → SettingName → Change
address_put address table name =
    put_value (named_block name) name.key Ipv4 (Some (to_be_bytes w32 address)) table

-- the table with an address in the setting that a word names, or why that is refused
abbrev pub address_table : List ℕ → ℕ → TableLists → Change
address_table word address table = change_named (address_put address table) table (name_read word)
