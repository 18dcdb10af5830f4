-- own, after ipxe.org's commands: the options of drive commands. They stand before the other words and begin with
-- `--`; each is given at most once, in any order.
use Rattle.std.specs.Prelude.{ℕ, Bool, true, false, List, [], ◌∷◌, Option, Some, None, codes, is_some, if◌then◌else◌}
use Rattle.std.specs.Option.{option_and_then}
use Rattle.std.specs.Str.{bytes_eq}
use Rattle.nb_defs.specs.Commands.{is_option}
use Rattle.nb_drivecmd.specs.declared.options.DriveOptions.{DriveOptions}
use Rattle.nb_drivecmd.specs.DriveNumbers.{drive_in}

-- the options with which words begin, and the words after them
pub record DriveOptionsRead : Type 0 where
  pub drive : Option ℕ
  pub no_describe : Bool
  pub keep : Bool
  pub rest : List (List ℕ)

abbrev pub shown_drive_options : DriveOptions → DriveOptionsRead
shown_drive_options o =
    record { drive = o.drive; no_describe = o.no_describe; keep = o.keep; rest = o.rest.now }

abbrev pub no_drive_options : List (List ℕ) → DriveOptionsRead
no_drive_options rest = record { drive = None; no_describe = false; keep = false; rest = rest }

-- with an option more before these, if it isn't among them
abbrev pub with_drive_number : ℕ → DriveOptionsRead → Option DriveOptionsRead
with_drive_number number o = if is_some o.drive then None else Some (record o { drive = Some number })

abbrev pub with_no_describe : DriveOptionsRead → Option DriveOptionsRead
with_no_describe o = if o.no_describe then None else Some (record o { no_describe = true })

abbrev pub with_keep : DriveOptionsRead → Option DriveOptionsRead
with_keep o = if o.keep then None else Some (record o { keep = true })

-- with `--drive` and the word after it
abbrev pub with_drive_in : Option ℕ → Option DriveOptionsRead → Option DriveOptionsRead
with_drive_in None options = None
with_drive_in (Some number) options = option_and_then (with_drive_number number) options

unfoldable mutual
  -- the options with which words begin; none where one is unknown, is given again, or lacks its number
  pub drive_options_read : List (List ℕ) → Option DriveOptionsRead
  drive_options_read [] = Some (no_drive_options [])
  drive_options_read (word ∷ words) =
      if bytes_eq word (codes "--drive") then numbered_options words
      else if bytes_eq word (codes "--no-describe") then option_and_then with_no_describe (drive_options_read words)
      else if bytes_eq word (codes "--keep") then option_and_then with_keep (drive_options_read words)
      else if is_option word then None
      else Some (no_drive_options (word ∷ words))

  -- the same after `--drive`, whose number is the next word
  pub numbered_options : List (List ℕ) → Option DriveOptionsRead
  numbered_options [] = None
  numbered_options (number ∷ words) = with_drive_in (drive_in number) (drive_options_read words)
