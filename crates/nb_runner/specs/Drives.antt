-- What a drive command comes to, as the code has it.
use Rattle.std.specs.Prelude.{◌≡◌, ◌<◌, ℕ, List, length, Some}
use Rattle.nb_drivecmd.specs.declared.drive.Drive.{Drive}
use Rattle.nb_drivecmd.specs.declared.outcome.DriveOutcome.{DriveOutcome}
use Rattle.nb_drivecmd.specs.declared.outcome.DriveOutcome.TheVariants as outcome
use Rattle.nb_drivecmd.specs.HookedDrives.{drive_numbered}
use Rattle.nb_runner.specs.CommandWords.{IsHookedWell}
use Rattle.nb_runner.specs.Intents.{IsAskable}
use Rattle.nb_runner.specs.declared.intent.Intent.{Intent}
use Rattle.nb_runner.specs.declared.intent.Intent.TheVariants as intent
use Rattle.nb_runner.specs.declared.following.Following.{Following}
use Rattle.nb_runner.specs.declared.following.Following.TheVariants as following

-- a URI names the disk that is to be hooked
abbrev pub FitsDriveOutcome : DriveOutcome → Type 0
FitsDriveOutcome (outcome.Hook hooking) = IsHookedWell hooking
FitsDriveOutcome (outcome.Boot number keep) = Unit {0}
FitsDriveOutcome (outcome.Unhook number) = Unit {0}

-- where something is asked next, a drive more may be hooked
abbrev pub LeavesRoom : Following → List Drive → Type 0
LeavesRoom (following.Over cause) drives = Unit {0}
LeavesRoom (following.Next next) drives = length drives < 2

-- the drive that is booted at once is hooked
abbrev pub IsOfHooked : DriveOutcome → List Drive → Type 0
IsOfHooked (outcome.Hook hooking) drives = Unit {0}
IsOfHooked (outcome.Boot number keep) drives = (d : Drive) × (drive_numbered number drives ≡ Some d)
IsOfHooked (outcome.Unhook number) drives = Unit {0}

-- what a command may intend that may boot a drive: one that is hooked
abbrev pub MayIntend : ℕ → List Drive → Intent → Type 0
MayIntend opens drives (intent.Over cause) = IsAskable opens (intent.Over cause)
MayIntend opens drives (intent.Asks query) = IsAskable opens (intent.Asks query)
MayIntend opens drives (intent.Fetches wanted) = IsAskable opens (intent.Fetches wanted)
MayIntend opens drives (intent.Hooks hooking) = IsAskable opens (intent.Hooks hooking)
MayIntend opens drives (intent.LetsGo number cause) = IsAskable opens (intent.LetsGo number cause)
MayIntend opens drives (intent.Boots number) = (d : Drive) × (drive_numbered number drives ≡ Some d)
