-- What a boot table may say of an open that lives, as it is kept.
use Rattle.std.specs.Prelude.{ℕ, Option, None, option_map, unwrap_or}
use Rattle.nb_drivelogin.specs.DriveOpens.{DriveOpen}
use Rattle.nb_open.specs.declared.objects.OpenObjects.{OpenObjects}
use Rattle.nb_open.specs.declared.objects.OpenObjects.TheVariants as objects
use Rattle.nb_teller.specs.declared.speaker.Speaker.{Speaker}
use Rattle.nb_network.specs.declared.living.KeptDrive.{KeptDrive}
use Rattle.nb_network.specs.declared.living.Living.{Living}

-- of a drive at this port of its target
abbrev pub hooked_with : Speaker → ℕ → KeptDrive → DriveOpen
hooked_with who port d = record { number = who.number; server = who.server; port = port; chap = unwrap_or d.chap 0; login = d.login }

-- of an open with these objects: none but a drive's is hooked
abbrev pub hooked_as : OpenObjects → Speaker → Option KeptDrive → Option DriveOpen
hooked_as (objects.Chain kind chain) who drive = None
hooked_as (objects.Web port own chain) who drive = None
hooked_as (objects.Drive port own chain) who drive = option_map (hooked_with who port) drive

-- so of an open
abbrev pub hooked_by : Living → Option DriveOpen
hooked_by o = hooked_as o.objects o.speaker o.drive
