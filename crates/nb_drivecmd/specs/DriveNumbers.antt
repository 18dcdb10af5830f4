-- own, after ipxe.org's `--drive` and its setting `san-drive`: the numbers of drives, from 128 to 255
use Rattle.std.specs.Prelude.{ℕ, ◌≤◌, ◌<◌, ◌&&◌, nat_le, List, Option, Some, None, unwrap_or, if◌then◌else◌}
use Rattle.nb_defs.specs.Commands.{number_of}
use Rattle.nb_settings.specs.Names.{SettingName, key_alone}
use Rattle.nb_settings.specs.declared.setting.OwnedKey.TheVariants.{Sub}
use Rattle.nb_settings.specs.Tables.{TableLists}
use Rattle.nb_expand.specs.Values.{text_of_name}

abbrev pub IsDriveNumber : ℕ → Type 0
IsDriveNumber n = (128 ≤ n) × (n < 256)

abbrev pub as_drive : Option ℕ → Option ℕ
as_drive None = None
as_drive (Some n) = if nat_le 128 n && nat_le n 255 then Some n else None

-- the number of a drive that a text writes, decimal or hexadecimal
abbrev pub drive_in : List ℕ → Option ℕ
drive_in text = as_drive (number_of text)

-- the setting `san-drive`, whichever block has it
abbrev pub san_drive : SettingName
san_drive = key_alone (Sub 175 189)

-- the drive that a command means: the one that it gives, or else that of the setting as it is printed, or else 128
abbrev pub chosen_drive : Option ℕ → TableLists → ℕ
chosen_drive (Some number) table = number
chosen_drive None table = unwrap_or (drive_in (text_of_name table san_drive)) 128
