-- own, after ipxe.org's settings for iSCSI: what a login is begun with. A setting is its value's bytes, whichever block has it.
use Rattle.std.specs.Prelude.{ℕ, List, [], ◌∷◌, ◌++◌, Option, Some, None, codes}
use Rattle.nb_login.specs.declared.info.LoginInfo.{LoginInfo}
use Rattle.nb_dhcpmsg.specs.Fields.{up_to_zero}
use Rattle.nb_drivecmd.specs.declared.disk_names.NamedDisk.{NamedDisk}
use Rattle.nb_settings.specs.declared.kind.Kind.TheVariants.{Uuid}
use Rattle.nb_settings.specs.declared.setting.OwnedKey.{OwnedKey}
use Rattle.nb_settings.specs.declared.setting.OwnedKey.TheVariants.{Tag, Sub, Free}
use Rattle.nb_settings.specs.Tables.{TableLists, SettingValue, look}
use Rattle.nb_expand.specs.Values.{value_text}
use Rattle.nb_ibft.specs.Infos.{AreShortTexts}

-- the bytes of a setting, or these where it isn't set; a value without bytes is set
abbrev pub bytes_or : List ℕ → Option SettingValue → List ℕ
bytes_or other None = other
bytes_or other (Some value) = value.bytes

abbrev pub setting_text : OwnedKey → TableLists → List ℕ
setting_text key table = bytes_or [] (look None key table)

-- the machine's UUID in its hyphenated form, whatever kind it was set by; nothing where it isn't one of sixteen bytes
abbrev pub uuid_text : TableLists → List ℕ
uuid_text table = value_text (Some Uuid) (look None (Free (codes "uuid")) table)

-- `hostname`, or else the machine's UUID
abbrev pub host_part : TableLists → List ℕ
host_part table = bytes_or (uuid_text table) (look None (Tag 12) table)

abbrev pub name_by_host : TableLists → List ℕ
name_by_host table = codes "iqn.2010-04.org.ipxe:" ++ host_part table

-- `initiator-iqn`, or else a name by the host
abbrev pub initiator_name : TableLists → List ℕ
initiator_name table = bytes_or (name_by_host table) (look None (Tag 203) table)

-- What a login at a disk is begun with. Of the names that it sends only what stands before their first zero byte counts, which would
-- end a key's text (RFC 7143, section 6.1); `username`, `password`, `reverse-username` and `reverse-password` are inner options of 175
unfoldable pub login_by : NamedDisk → List ℕ → TableLists → LoginInfo
login_by disk words table = record {
  initiator = up_to_zero (initiator_name table);
  target = disk.name;
  lun = disk.lun;
  user = up_to_zero (setting_text (Sub 175 190) table);
  secret = setting_text (Sub 175 191) table;
  reverse_user = setting_text (Sub 175 192) table;
  reverse_secret = setting_text (Sub 175 193) table;
  words = words;
}

-- the texts of a login, in the order of its fields
abbrev pub login_texts : LoginInfo → List (List ℕ)
login_texts login =
    login.initiator ∷ login.target ∷ login.user ∷ login.secret ∷ login.reverse_user ∷ login.reverse_secret ∷ []

-- a boot table may have each of them
abbrev pub FitsTable : LoginInfo → Type 0
FitsTable login = AreShortTexts (login_texts login)
