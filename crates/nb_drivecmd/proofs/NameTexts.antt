-- The names of the drive commands.
use Rattle.std.proofs.Common.{◌≡◌, Some, refl}
use Rattle.nb_drivecmd.specs.declared.command_names.DriveCommandName.{DriveCommandName}
use Rattle.nb_drivecmd.specs.declared.command_names.DriveCommandName.TheVariants.{Sanhook, Sanboot, Sanunhook}
use Rattle.nb_drivecmd.specs.DriveCommandNames.{drive_command_text, drive_command_named}

-- a command's name names it
pub named_text : (command : DriveCommandName) → drive_command_named (drive_command_text command) ≡ Some command
unfolding drive_command_named
named_text Sanhook = refl
named_text Sanboot = refl
named_text Sanunhook = refl
