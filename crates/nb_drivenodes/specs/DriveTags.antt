-- What a message of a drive's objects is, by its tag: our own.
use Rattle.std.specs.Prelude.{ℕ}
use Rattle.nb_drivenodes.specs.declared.drive_tag.DriveTag.{DriveTag}
use Rattle.nb_drivenodes.specs.declared.drive_tag.DriveTag.TheVariants.{Opened, Pdu, Read, Answered}

abbrev pub drive_tag_number : DriveTag → ℕ
drive_tag_number Opened = 11
drive_tag_number Pdu = 12
drive_tag_number Read = 13
drive_tag_number Answered = 14
