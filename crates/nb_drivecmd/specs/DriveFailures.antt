-- The causes with which drive commands fail.
use Rattle.nb_terms.specs.declared.cause.Cause.{Cause}
use Rattle.nb_terms.specs.declared.reason.Fullness.TheVariants as fullness
use Rattle.nb_terms.specs.declared.reason.Plain.TheVariants as plain
use Rattle.nb_terms.specs.declared.reason.Reason.TheVariants as reason
use Rattle.nb_terms.specs.Reasons.{as_cause}
use Rattle.nb_drivecmd.specs.declared.error.DriveFailure.{DriveFailure}
use Rattle.nb_drivecmd.specs.declared.error.DriveFailure.TheVariants.{NoDrive, BadUri, NoScheme, ManyDrives, NoMemory}

abbrev pub drive_cause : DriveFailure → Cause
drive_cause NoDrive = as_cause (reason.Plain plain.NoDrive)
drive_cause BadUri = as_cause (reason.Plain plain.BadUri)
drive_cause NoScheme = as_cause (reason.Plain plain.NoScheme)
drive_cause ManyDrives = as_cause (reason.Full fullness.Drives)
drive_cause NoMemory = as_cause (reason.Plain plain.NoMemory)
