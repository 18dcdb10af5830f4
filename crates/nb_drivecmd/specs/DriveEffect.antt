-- own, after ipxe.org's sanhook, sanboot and sanunhook: what a drive command comes to, by its words, the settings and
-- the drives that are hooked. It changes nothing by itself.
use Rattle.std.specs.Prelude.{ℕ, Bool, List, Option, Some, None, Result, Ok, Err, if◌then◌else◌}
use Rattle.nb_settings.specs.Tables.{TableLists}
use Rattle.nb_drivecmd.specs.declared.commands.DriveCommand.{DriveCommand}
use Rattle.nb_drivecmd.specs.declared.commands.DriveCommand.TheVariants as command
use Rattle.nb_drivecmd.specs.declared.disk_names.NamedDisk.{NamedDisk}
use Rattle.nb_drivecmd.specs.declared.drive.Drive.{Drive}
use Rattle.nb_drivecmd.specs.declared.error.DriveFailure.{DriveFailure}
use Rattle.nb_drivecmd.specs.declared.error.DriveFailure.TheVariants.{NoDrive}
use Rattle.nb_drivecmd.specs.declared.error.DriveRefusal.{DriveRefusal}
use Rattle.nb_drivecmd.specs.declared.outcome.AfterHook.{AfterHook}
use Rattle.nb_drivecmd.specs.declared.outcome.AfterHook.TheVariants as after_hook
use Rattle.nb_drivecmd.specs.declared.outcome.DriveOutcome.{DriveOutcome}
use Rattle.nb_drivecmd.specs.declared.outcome.DriveOutcome.TheVariants as outcome
use Rattle.nb_drivecmd.specs.DiskNames.{named_disk}
use Rattle.nb_drivecmd.specs.DriveNumbers.{chosen_drive}
use Rattle.nb_drivecmd.specs.HookedDrives.{is_hooked}

-- the drive that a command names
abbrev pub given_drive : DriveCommand → Option ℕ
given_drive (command.Hook drive describe uri) = drive
given_drive (command.Boot drive describe keep uri) = drive
given_drive (command.Unhook drive) = drive

-- the drive that is let go where the command fails: that of a `sanboot` without `--keep`
abbrev pub unhooked_by : DriveCommand → ℕ → Option ℕ
unhooked_by (command.Boot drive describe keep uri) number = if keep then None else Some number
unhooked_by (command.Hook drive describe uri) number = None
unhooked_by (command.Unhook drive) number = None

-- a disk is to be hooked, where one is named
abbrev pub hooks : ℕ → Bool → AfterHook → Result NamedDisk DriveFailure → Result DriveOutcome DriveFailure
hooks number described after (Ok disk) =
    Ok (outcome.Hook (record { number = number; described = described; disk = disk; after = after }))
hooks number described after (Err why) = Err why

abbrev pub if_hooked : ℕ → DriveOutcome → List Drive → Result DriveOutcome DriveFailure
if_hooked number comes drives = if is_hooked number drives then Ok comes else Err NoDrive

-- what a command comes to on the drive of this number
abbrev pub outcome_for : ℕ → DriveCommand → Option (List ℕ) → List Drive → Result DriveOutcome DriveFailure
outcome_for number (command.Hook drive describe uri) base drives = hooks number describe after_hook.Keep (named_disk base uri)
outcome_for number (command.Boot drive describe keep (Some uri)) base drives = hooks number describe (after_hook.Boot keep) (named_disk base uri)
outcome_for number (command.Boot drive describe keep None) base drives = if_hooked number (outcome.Boot number keep) drives
outcome_for number (command.Unhook drive) base drives = if_hooked number (outcome.Unhook number) drives

-- with the drive that a refused command lets go
abbrev pub letting_go : Option ℕ → Result DriveOutcome DriveFailure → Result DriveOutcome DriveRefusal
letting_go unhooks (Ok comes) = Ok comes
letting_go unhooks (Err why) = Err (record { why = why; unhooks = unhooks })

abbrev pub effect_on : ℕ → DriveCommand → Option (List ℕ) → List Drive → Result DriveOutcome DriveRefusal
effect_on number c base drives = letting_go (unhooked_by c number) (outcome_for number c base drives)

-- the outcome, or why the command is refused and which drive it lets go then
unfoldable pub drive_effect : DriveCommand → Option (List ℕ) → TableLists → List Drive → Result DriveOutcome DriveRefusal
drive_effect c base table drives = effect_on (chosen_drive (given_drive c) table) c base drives
