-- RFC 4173, section 5, and RFC 7143, section 6.1: the disk that a URI names. Own: a URI is judged first, then its scheme, and then how long it
-- is; so a URI that is too long is one of another scheme here, since no word is as long as that.
use Rattle.std.specs.Prelude.{ℕ, List, Option, Result, Ok, Err, if◌then◌else◌}
use Rattle.nb_uri.specs.declared.target.UriTarget.{UriTarget}
use Rattle.nb_uri.specs.declared.target.UriTarget.TheVariants.{Tftp, Http, Iscsi}
use Rattle.nb_uri.specs.declared.target.UriError.{UriError}
use Rattle.nb_uri.specs.declared.target.UriError.TheVariants as uri_error
use Rattle.nb_uri.specs.Resolutions.{has_zero, resolution}
use Rattle.nb_drivecmd.specs.declared.disk_names.NamedDisk.{NamedDisk}
use Rattle.nb_drivecmd.specs.declared.error.DriveFailure.{DriveFailure}
use Rattle.nb_drivecmd.specs.declared.error.DriveFailure.TheVariants.{BadUri, NoScheme, NoMemory}

-- disks are hooked, files aren't; a target whose name holds a zero byte can't be asked for, since that byte ends a key's text
abbrev pub disk_in : UriTarget → Result NamedDisk DriveFailure
disk_in (Iscsi host port lun name whole) =
    if has_zero name then Err BadUri else Ok (record { host = host; port = port; lun = lun; name = name })
disk_in (Tftp host port path whole) = Err NoScheme
disk_in (Http host port path whole) = Err NoScheme

-- why a URI that names nothing names no disk
abbrev pub no_disk : UriError → DriveFailure
no_disk uri_error.BadUri = BadUri
no_disk uri_error.NoScheme = NoScheme
no_disk uri_error.TooLong = NoScheme
no_disk uri_error.NoMemory = NoMemory

abbrev pub disk_by : Result UriTarget UriError → Result NamedDisk DriveFailure
disk_by (Ok target) = disk_in target
disk_by (Err why) = Err (no_disk why)

-- the disk that a word names which is joined to a base, or why it names none
abbrev pub named_disk : Option (List ℕ) → List ℕ → Result NamedDisk DriveFailure
named_disk base uri = disk_by (resolution base uri)
