-- own, after ipxe.org's commands: the names by which a script calls the drive commands
use Rattle.std.specs.Prelude.{ℕ, List, [], ◌∷◌, Option, codes, find}
use Rattle.std.specs.Str.{bytes_eq}
use Rattle.nb_drivecmd.specs.declared.command_names.DriveCommandName.{DriveCommandName}
use Rattle.nb_drivecmd.specs.declared.command_names.DriveCommandName.TheVariants.{Sanhook, Sanboot, Sanunhook}

abbrev pub drive_command_text : DriveCommandName → List ℕ
drive_command_text Sanhook = codes "sanhook"
drive_command_text Sanboot = codes "sanboot"
drive_command_text Sanunhook = codes "sanunhook"

abbrev pub all_drive_commands : List DriveCommandName
all_drive_commands = Sanhook ∷ Sanboot ∷ Sanunhook ∷ []

-- the drive command of a name
unfoldable pub drive_command_named : List ℕ → Option DriveCommandName
drive_command_named name = find (λ command. bytes_eq name (drive_command_text command)) all_drive_commands
