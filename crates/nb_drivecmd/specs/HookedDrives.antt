-- own, after ipxe.org's drives: those that are hooked, by rising number
use Rattle.std.specs.Prelude.{ℕ, ◌<◌, ◌==◌, nat_lt, Bool, not, List, ◌∷◌, ◌++◌, Option, filter, find, is_some}
use Rattle.std.specs.List.{AllPairs}
use Rattle.nb_drivecmd.specs.declared.drive.Drive.{Drive}

abbrev pub is_drive : ℕ → Drive → Bool
is_drive number drive = drive.number == number

-- the drive of a number, if one is hooked
abbrev pub drive_numbered : ℕ → List Drive → Option Drive
drive_numbered number drives = find (is_drive number) drives

abbrev pub is_hooked : ℕ → List Drive → Bool
is_hooked number drives = is_some (drive_numbered number drives)

-- with this one more, among the others by rising number; it takes the place of the one of its number
abbrev pub with_hooked : Drive → List Drive → List Drive
with_hooked drive drives =
    filter (λ other. nat_lt other.number drive.number) drives
    ++ drive ∷ filter (λ other. nat_lt drive.number other.number) drives

-- without the one of a number, and without the one of an open
abbrev pub without_drive : ℕ → List Drive → List Drive
without_drive number drives = filter (λ drive. not (is_drive number drive)) drives

abbrev pub without_open : ℕ → List Drive → List Drive
without_open ended drives = filter (λ drive. not (drive.open_number == ended)) drives

-- those that the boot table has
abbrev pub described_drives : List Drive → List Drive
described_drives drives = filter (λ drive. drive.described) drives

-- each has a higher number than those before it
abbrev pub AreRisingDrives : List Drive → Type 0
AreRisingDrives drives = AllPairs (λ one other. one.number < other.number) drives
