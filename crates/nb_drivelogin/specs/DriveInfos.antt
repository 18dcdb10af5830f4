-- iBFT 1.03, as our table has it: what it says of the client and of its described drives, by the settings and by the logins
-- with which they were hooked
use Rattle.std.specs.Prelude.{ℕ, ◌==◌, Bool, not, List, [], ◌∷◌, map, Option, Some, None, if◌then◌else◌}
use Rattle.std.specs.List.{All}
use Rattle.nb_wire.specs.declared.address.Mac.{Mac}
use Rattle.nb_ibft.specs.Infos.{Info, Target}
use Rattle.nb_login.specs.declared.info.LoginInfo.{LoginInfo}
use Rattle.nb_settings.specs.declared.setting.OwnedKey.TheVariants.{Tag}
use Rattle.nb_settings.specs.Tables.{TableLists}
use Rattle.nb_drivelogin.specs.DriveLogins.{FitsTable, setting_text}
use Rattle.nb_drivelogin.specs.DriveOpens.{DriveOpen}
use Rattle.nb_drivelogin.specs.OwnNets.{own_ip, own_prefix, own_gateway, first_name_server, second_name_server, dhcp_server_of}

-- a name or a secret, where the login used it
abbrev pub used : Bool → List ℕ → List ℕ
used is_used text = if is_used then text else []

-- our name and secret stand where CHAP was used at all, the target's where it was used both ways
abbrev pub drive_target : DriveOpen → Target
drive_target hooked = record {
  address = hooked.server.0;
  port = hooked.port;
  lun = hooked.login.lun;
  chap = hooked.chap;
  name = hooked.login.target;
  user = used (not (hooked.chap == 0)) hooked.login.user;
  secret = used (not (hooked.chap == 0)) hooked.login.secret;
  reverse_user = used (hooked.chap == 2) hooked.login.reverse_user;
  reverse_secret = used (hooked.chap == 2) hooked.login.reverse_secret;
}

-- the initiator's name is that of the first drive's login; `hostname` is option 12 of RFC 2132
abbrev pub info_with : Mac → TableLists → DriveOpen → List DriveOpen → Info
info_with mac table lowest opens = record {
  initiator = lowest.login.initiator;
  host = setting_text (Tag 12) table;
  mac = mac.0;
  address = own_ip table;
  prefix = own_prefix table;
  gateway = own_gateway table;
  first_dns = first_name_server table;
  second_dns = second_name_server table;
  dhcp_server = dhcp_server_of table;
  targets = map drive_target opens;
}

-- what the boot table says where these are the opens of the described drives; without one there is no table
unfoldable pub drive_info : Mac → TableLists → List DriveOpen → Option Info
drive_info mac table [] = None
drive_info mac table (lowest ∷ others) = Some (info_with mac table lowest (lowest ∷ others))

-- a login without names and secrets
abbrev pub without_secrets : LoginInfo → LoginInfo
without_secrets login = record login { user = []; secret = []; reverse_user = []; reverse_secret = [] }

-- a login without those of the target
abbrev pub without_reverse : LoginInfo → LoginInfo
without_reverse login = record login { reverse_user = []; reverse_secret = [] }

abbrev pub used_login : ℕ → LoginInfo → LoginInfo
used_login chap login =
    if chap == 0 then without_secrets login else if chap == 2 then login else without_reverse login

-- the same open, without the names and secrets that its login didn't use
abbrev pub without_unused : DriveOpen → DriveOpen
without_unused hooked = record hooked { login = used_login hooked.chap hooked.login }

-- a boot table may have the texts of each login
abbrev pub LoginsFit : List DriveOpen → Type 0
LoginsFit opens = All (λ hooked. FitsTable hooked.login) opens
