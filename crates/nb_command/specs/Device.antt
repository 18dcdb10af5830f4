-- own: the one device, net0, and whether it is up
use Rattle.std.specs.Prelude.{ℕ, Bool, true, List, Option, Some, None, Result, Ok, Err, codes, if◌then◌else◌}
use Rattle.std.specs.Str.{bytes_eq}
use Rattle.nb_command.specs.declared.error.ApplyError.{ApplyError}
use Rattle.nb_command.specs.declared.error.ApplyError.TheVariants.{BadName}

-- a word names the one device, or there is none
abbrev pub is_net0 : Option (List ℕ) → Bool
is_net0 None = true
is_net0 (Some word) = bytes_eq word (codes "net0")

-- whether the device is up after a command that sets it so; any other name is BadName
abbrev pub device_change : Option (List ℕ) → Bool → Result Bool ApplyError
device_change device is_up = if is_net0 device then Ok is_up else Err BadName
