-- What a hand-off tells the system of the drives that are hooked: the boot table (iBFT 1.03) of those that are described, as the state says.
use Rattle.std.specs.Prelude.{ℕ, List, Option, Some, None, filter_map, option_map}
use Rattle.std.specs.Option.{option_map_or}
use Rattle.nb_command.specs.SettingAddresses.{host}
use Rattle.nb_ibft.specs.Infos.{Info}
use Rattle.nb_ibft.specs.Tables.{ibft}
use Rattle.nb_login.specs.declared.info.LoginInfo.{LoginInfo}
use Rattle.nb_drivelogin.specs.DriveInfos.{drive_info}
use Rattle.nb_drivelogin.specs.DriveOpens.{DriveOpen, described_opens}
use Rattle.nb_machine.specs.Drives.{DriveAnswer}
use Rattle.nb_machine.specs.Kinds.{answered}
use Rattle.nb_machine.specs.Lives.{OpenKind, tftp, http, iscsi, dns, dhcp, ping, Live}
use Rattle.nb_machine.specs.Scripts.{net0_mac}
use Rattle.nb_machine.specs.States.{State}

-- what a drive's login was begun with
abbrev pub login_of_kind : OpenKind → Option LoginInfo
login_of_kind tftp = None
login_of_kind (http isn) = None
login_of_kind (iscsi isn login) = Some login
login_of_kind (dns id) = None
login_of_kind (dhcp a) = None
login_of_kind ping = None

-- which kind of CHAP it used, once its drive has answered
abbrev pub chap_used : Live → ℕ
chap_used l = option_map_or (λ (a : DriveAnswer). a.chap) (answered l) 0

abbrev pub drive_open_by : Live → LoginInfo → DriveOpen
drive_open_by l login = record { number = l.number; server = host l.server; port = l.port; chap = chap_used l; login = login }

-- the open of a drive
abbrev pub drive_open_of : Live → Option DriveOpen
drive_open_of l = option_map (drive_open_by l) (login_of_kind l.kind)

-- what the boot table says; without a described drive there is none
abbrev pub boot_table_info : State → Option Info
boot_table_info s = drive_info (net0_mac s.devices) s.table (described_opens s.drives (filter_map drive_open_of s.live))

unfoldable pub boot_table : State → Option (List ℕ)
boot_table s = option_map ibft (boot_table_info s)
