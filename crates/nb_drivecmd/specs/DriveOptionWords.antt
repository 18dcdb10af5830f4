-- own, after ipxe.org's commands: how options of drive commands are spelled, and what they say together
use Rattle.std.specs.Prelude.{◌≡◌, ℕ, false, List, [], ◌∷◌, ◌++◌, Option, Some, codes, ⊤}
use Rattle.std.specs.Option.{option_and_then}
use Rattle.nb_defs.specs.Commands.{is_option}
use Rattle.nb_drivecmd.specs.DriveNumbers.{drive_in}
use Rattle.nb_drivecmd.specs.DriveOptions.{DriveOptionsRead, no_drive_options, with_drive_in, with_no_describe, with_keep}

-- an option as it is given; the number stands as it is written
pub data GivenDriveOption : Type 0 where
  drive : (number : List ℕ) → GivenDriveOption
  no_describe : GivenDriveOption
  keep : GivenDriveOption

abbrev pub drive_option_words : GivenDriveOption → List (List ℕ)
drive_option_words (drive number) = codes "--drive" ∷ number ∷ []
drive_option_words no_describe = codes "--no-describe" ∷ []
drive_option_words keep = codes "--keep" ∷ []

-- these options, and then other words
abbrev pub drive_options_spelled : List GivenDriveOption → List (List ℕ) → List (List ℕ)
drive_options_spelled [] rest = rest
drive_options_spelled (option ∷ options) rest = drive_option_words option ++ drive_options_spelled options rest

abbrev pub with_drive_option : GivenDriveOption → Option DriveOptionsRead → Option DriveOptionsRead
with_drive_option (drive number) o = with_drive_in (drive_in number) o
with_drive_option no_describe o = option_and_then with_no_describe o
with_drive_option keep o = option_and_then with_keep o

-- what they say, if none is given twice and each number is one
abbrev pub drive_options_meant : List GivenDriveOption → List (List ℕ) → Option DriveOptionsRead
drive_options_meant [] rest = Some (no_drive_options rest)
drive_options_meant (option ∷ options) rest = with_drive_option option (drive_options_meant options rest)

-- the first of these words, if there is one, is no option
abbrev pub BeginsNoOption : List (List ℕ) → Type 0
BeginsNoOption [] = ⊤
BeginsNoOption (word ∷ words) = is_option word ≡ false
