-- own, after ipxe.org's commands: the drive command that words say, its name first
--   sanhook    [--drive N] [--no-describe] uri
--   sanboot    [--drive N] [--no-describe] [--keep] [uri]
--   sanunhook  [--drive N]
use Rattle.std.specs.Prelude.{◌≡◌, ◌⊎◌, ℕ, Bool, not, ◌||◌, List, [], ◌∷◌, Option, Some, None, Result, Ok, Err, MatchResult, if◌then◌else◌}
use Rattle.nb_imagecmd.specs.declared.error.PlanError.{PlanError}
use Rattle.nb_imagecmd.specs.declared.error.PlanError.TheVariants.{Unknown, Usage, NoMemory}
use Rattle.nb_drivecmd.specs.declared.command_names.DriveCommandName.{DriveCommandName}
use Rattle.nb_drivecmd.specs.declared.command_names.DriveCommandName.TheVariants.{Sanhook, Sanboot, Sanunhook}
use Rattle.nb_drivecmd.specs.declared.commands.DriveCommand.{DriveCommand}
use Rattle.nb_drivecmd.specs.declared.commands.DriveCommand.TheVariants as command
use Rattle.nb_drivecmd.specs.DriveCommandNames.{drive_command_named}
use Rattle.nb_drivecmd.specs.DriveOptions.{DriveOptionsRead, drive_options_read}

-- one word after the options, the URI
abbrev pub hook_after : Option ℕ → Bool → List (List ℕ) → Result DriveCommand PlanError
hook_after drive describe [] = Err Usage
hook_after drive describe (uri ∷ []) = Ok (command.Hook drive describe uri)
hook_after drive describe (uri ∷ second ∷ others) = Err Usage

abbrev pub hook_with : DriveOptionsRead → Result DriveCommand PlanError
hook_with o = if o.keep then Err Usage else hook_after o.drive (not o.no_describe) o.rest

abbrev pub hook_of : Option DriveOptionsRead → Result DriveCommand PlanError
hook_of None = Err Usage
hook_of (Some o) = hook_with o

abbrev pub hook_read : List (List ℕ) → Result DriveCommand PlanError
hook_read words = hook_of (drive_options_read words)

-- at most one
abbrev pub boot_after : Option ℕ → Bool → Bool → List (List ℕ) → Result DriveCommand PlanError
boot_after drive describe keep [] = Ok (command.Boot drive describe keep None)
boot_after drive describe keep (uri ∷ []) = Ok (command.Boot drive describe keep (Some uri))
boot_after drive describe keep (uri ∷ second ∷ others) = Err Usage

abbrev pub boot_with : DriveOptionsRead → Result DriveCommand PlanError
boot_with o = boot_after o.drive (not o.no_describe) o.keep o.rest

abbrev pub boot_of : Option DriveOptionsRead → Result DriveCommand PlanError
boot_of None = Err Usage
boot_of (Some o) = boot_with o

abbrev pub boot_read : List (List ℕ) → Result DriveCommand PlanError
boot_read words = boot_of (drive_options_read words)

-- none
abbrev pub unhook_after : Option ℕ → List (List ℕ) → Result DriveCommand PlanError
unhook_after drive [] = Ok (command.Unhook drive)
unhook_after drive (word ∷ others) = Err Usage

abbrev pub unhook_with : DriveOptionsRead → Result DriveCommand PlanError
unhook_with o = if o.keep || o.no_describe then Err Usage else unhook_after o.drive o.rest

abbrev pub unhook_of : Option DriveOptionsRead → Result DriveCommand PlanError
unhook_of None = Err Usage
unhook_of (Some o) = unhook_with o

abbrev pub unhook_read : List (List ℕ) → Result DriveCommand PlanError
unhook_read words = unhook_of (drive_options_read words)

-- the command of a name with the words after it
abbrev pub drive_named_read : DriveCommandName → List (List ℕ) → Result DriveCommand PlanError
drive_named_read Sanhook words = hook_read words
drive_named_read Sanboot words = boot_read words
drive_named_read Sanunhook words = unhook_read words

abbrev pub drive_read_where : Option DriveCommandName → List (List ℕ) → Result DriveCommand PlanError
drive_read_where None words = Err Unknown
drive_read_where (Some name) words = drive_named_read name words

-- the command, or why the words are none
unfoldable pub drive_command : List (List ℕ) → Result DriveCommand PlanError
drive_command [] = Err Unknown
drive_command (name ∷ words) = drive_read_where (drive_command_named name) words

-- the answer is the one expected, unless memory ran out
abbrev pub ReadsDriveAs : Result DriveCommand PlanError → Result DriveCommand PlanError → Type 0
ReadsDriveAs result expected =
    MatchResult result (λ command. expected ≡ Ok command) (λ why. (why ≡ NoMemory) ⊎ (expected ≡ Err why))
