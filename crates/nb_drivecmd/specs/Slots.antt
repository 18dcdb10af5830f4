-- The hooked drives, as they are kept.
use Rattle.std.specs.Prelude.{◌<◌, List, [], ◌∷◌}
use Rattle.nb_drivecmd.specs.declared.drive.Drive.{Drive}
use Rattle.nb_drivecmd.specs.declared.drives.Slots.{Slots}
use Rattle.nb_drivecmd.specs.declared.drives.Slots.TheVariants.{Neither, One, Two}

abbrev pub slot_drives : Slots → List Drive
slot_drives Neither = []
slot_drives (One drive) = drive ∷ []
slot_drives (Two one other) = one ∷ other ∷ []

abbrev pub slots_rise : Slots → Type 0
slots_rise Neither = Unit {0}
slots_rise (One drive) = Unit {0}
slots_rise (Two one other) = one.number < other.number
