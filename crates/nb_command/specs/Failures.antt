-- The causes with which commands fail, and what refusals of the table and of values mean for a command.
use Rattle.nb_terms.specs.declared.cause.Cause.{Cause}
use Rattle.nb_terms.specs.declared.reason.Long.TheVariants as long
use Rattle.nb_terms.specs.declared.reason.Many.TheVariants as many
use Rattle.nb_terms.specs.declared.reason.Plain.TheVariants as plain
use Rattle.nb_terms.specs.declared.reason.Reason.TheVariants as reason
use Rattle.nb_terms.specs.Reasons.{as_cause}
use Rattle.nb_settings.specs.declared.error.SetError.{SetError}
use Rattle.nb_settings.specs.declared.error.SetError.TheVariants as set_error
use Rattle.nb_expand.specs.declared.error.ParseError.{ParseError}
use Rattle.nb_expand.specs.declared.error.ParseError.TheVariants as parse_error
use Rattle.nb_drivecmd.specs.declared.error.DriveFailure.{DriveFailure}
use Rattle.nb_drivecmd.specs.declared.error.DriveFailure.TheVariants as drive_failures
use Rattle.nb_drivecmd.specs.DriveFailures.{drive_cause}
use Rattle.nb_imagecmd.specs.declared.error.ImageFailure.{ImageFailure}
use Rattle.nb_imagecmd.specs.declared.error.ImageFailure.TheVariants as failure
use Rattle.nb_imagecmd.specs.Failures.{image_cause}
use Rattle.nb_command.specs.declared.error.ApplyError.{ApplyError}
use Rattle.nb_command.specs.declared.error.ApplyError.TheVariants.{BadName, BadValue, False}
use Rattle.nb_command.specs.declared.error.ApplyError.TheVariants.{LongValue, ManySettings}
use Rattle.nb_command.specs.declared.error.ApplyError.TheVariants.{Images, Drives, NoMemory}

abbrev pub apply_cause : ApplyError → Cause
apply_cause BadName = as_cause (reason.Plain plain.BadName)
apply_cause BadValue = as_cause (reason.Plain plain.BadValue)
apply_cause False = as_cause (reason.Plain plain.False)
apply_cause LongValue = as_cause (reason.TooLong long.Value)
apply_cause ManySettings = as_cause (reason.TooMany many.Settings)
apply_cause (Images why) = image_cause why
apply_cause (Drives why) = drive_cause why
apply_cause NoMemory = as_cause (reason.Plain plain.NoMemory)

abbrev pub set_failure : SetError → ApplyError
set_failure set_error.BadName = BadName
set_failure set_error.TooMany = ManySettings
set_failure set_error.TooLong = LongValue
set_failure set_error.NoMemory = NoMemory

abbrev pub parse_failure : ParseError → ApplyError
parse_failure parse_error.BadValue = BadValue
parse_failure parse_error.NoMemory = NoMemory

-- out of memory is one failure
abbrev pub image_failure : ImageFailure → ApplyError
image_failure failure.NoImage = Images failure.NoImage
image_failure failure.BadUri = Images failure.BadUri
image_failure failure.NoScheme = Images failure.NoScheme
image_failure failure.LongPath = Images failure.LongPath
image_failure failure.ManyImages = Images failure.ManyImages
image_failure failure.LargeImages = Images failure.LargeImages
image_failure failure.NotBootable = Images failure.NotBootable
image_failure failure.ManyScripts = Images failure.ManyScripts
image_failure failure.ManyMoves = Images failure.ManyMoves
image_failure failure.NoMemory = NoMemory

abbrev pub drive_failure : DriveFailure → ApplyError
drive_failure drive_failures.NoDrive = Drives drive_failures.NoDrive
drive_failure drive_failures.BadUri = Drives drive_failures.BadUri
drive_failure drive_failures.NoScheme = Drives drive_failures.NoScheme
drive_failure drive_failures.ManyDrives = Drives drive_failures.ManyDrives
drive_failure drive_failures.NoMemory = NoMemory
