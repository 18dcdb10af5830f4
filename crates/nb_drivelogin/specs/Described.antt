-- own: the opens of described drives, as they are found
use Rattle.std.specs.Prelude.{List, [], ◌∷◌, Option, None, if◌then◌else◌}
use Rattle.std.specs.List.{cons_option}
use Rattle.nb_drivecmd.specs.declared.drive.Drive.{Drive}
use Rattle.nb_drivelogin.specs.declared.described.Described.{Described}
use Rattle.nb_drivelogin.specs.declared.described.Described.TheVariants.{Neither, One, Two}
use Rattle.nb_drivelogin.specs.DriveOpens.{DriveOpen, drive_open, open_numbered}

abbrev pub described_list : Described → List DriveOpen
described_list Neither = []
described_list (One hooked) = drive_open hooked ∷ []
described_list (Two hooked other) = drive_open hooked ∷ drive_open other ∷ []

-- the open of a drive that the boot table has
abbrev pub described_open : List DriveOpen → Drive → Option DriveOpen
described_open opens drive = if drive.described then open_numbered drive.open_number opens else None

-- that of the first drive, if it has one, and that of the second
abbrev pub described_by : Option DriveOpen → Option DriveOpen → List DriveOpen
described_by first second = cons_option first (cons_option second [])
