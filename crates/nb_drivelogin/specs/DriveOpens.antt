-- own: the opens by which drives are hooked
use Rattle.std.specs.Prelude.{ℕ, ◌==◌, Bool, List, Option, find, filter_map}
use Rattle.nb_wire.specs.declared.address.Ip4.{Ip4}
use Rattle.nb_login.specs.declared.info.LoginInfo.{LoginInfo}
use Rattle.nb_drivecmd.specs.declared.drive.Drive.{Drive}
use Rattle.nb_drivecmd.specs.HookedDrives.{described_drives}
use Rattle.nb_drivelogin.specs.declared.hooked.HookedOpen.{HookedOpen}

-- an open by which a drive is hooked: the target's address and port, how the login went (0 without CHAP, 1 one way, 2 both
-- ways), and what it was begun with
pub record DriveOpen : Type 0 where
  pub number : ℕ
  pub server : Ip4
  pub port : ℕ
  pub chap : ℕ
  pub login : LoginInfo

-- the same, without where the login's texts lie in memory
abbrev pub drive_open : HookedOpen → DriveOpen
drive_open hooked =
    record { number = hooked.number; server = hooked.server; port = hooked.port; chap = hooked.chap; login = hooked.login.now }

abbrev pub is_drive_open : ℕ → DriveOpen → Bool
is_drive_open number hooked = hooked.number == number

-- the open of a number
abbrev pub open_numbered : ℕ → List DriveOpen → Option DriveOpen
open_numbered number opens = find (is_drive_open number) opens

-- the opens of the drives that the boot table has, in the order of the drives; one whose open isn't there isn't hooked
unfoldable pub described_opens : List Drive → List DriveOpen → List DriveOpen
described_opens drives opens = filter_map (λ drive. open_numbered drive.open_number opens) (described_drives drives)
