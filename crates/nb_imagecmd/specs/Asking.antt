-- RFC 3986, section 5: a URI is joined to a base. Own: which URIs are fetched, how their images are named, and
-- how many bytes a path and a name may have.
use Rattle.std.specs.Prelude.{◌≡◌, ◌≤◌, ℕ, Bool, true, false, not, ◌||◌, nat_lt, List, length, Option, Some, None, Result, Ok, Err, if◌then◌else◌}
use Rattle.std.specs.List.{join_with_byte}
use Rattle.nb_uri.specs.declared.target.UriTarget.{UriTarget}
use Rattle.nb_uri.specs.declared.target.UriTarget.TheVariants.{Tftp, Http, Iscsi}
use Rattle.nb_uri.specs.declared.target.UriError.{UriError}
use Rattle.nb_uri.specs.ImageNames.{image_name}
use Rattle.nb_uri.specs.Resolutions.{resolution, HasCleanPath, MayBeAsked, NamesItself}
use Rattle.nb_imagecmd.specs.declared.asking.After.{After}
use Rattle.nb_imagecmd.specs.declared.asking.Asking.{Asking}
use Rattle.nb_imagecmd.specs.declared.error.ImageFailure.{ImageFailure}
use Rattle.nb_imagecmd.specs.declared.error.ImageFailure.TheVariants.{NoScheme, LongPath}
use Rattle.nb_imagecmd.specs.Failures.{unresolved}

-- the server of a target, its address or its name; the port that it is asked at; what it is asked for, by TFTP a path and by HTTP the whole
-- URI; and the URI without its fragment
abbrev pub target_host : UriTarget → List ℕ
target_host (Tftp host port path whole) = host
target_host (Http host port path whole) = host
target_host (Iscsi host port lun name whole) = host

abbrev pub target_port : UriTarget → ℕ
target_port (Tftp host port path whole) = port
target_port (Http host port path whole) = port
target_port (Iscsi host port lun name whole) = port

abbrev pub target_text : UriTarget → List ℕ
target_text (Tftp host port path whole) = path
target_text (Http host port path whole) = whole
target_text (Iscsi host port lun name whole) = name

abbrev pub target_uri : UriTarget → List ℕ
target_uri (Tftp host port path whole) = whole
target_uri (Http host port path whole) = whole
target_uri (Iscsi host port lun name whole) = whole

-- files are fetched, disks are not
abbrev pub is_file : UriTarget → Bool
is_file (Tftp host port path whole) = true
is_file (Http host port path whole) = true
is_file (Iscsi host port lun name whole) = false

-- the path of a TFTP server's file has more than 1,024 bytes
abbrev pub has_long_path : UriTarget → Bool
has_long_path (Tftp host port path whole) = nat_lt 1024 (length path)
has_long_path (Http host port path whole) = false
has_long_path (Iscsi host port lun name whole) = false

-- the name that a URI gives its image
abbrev pub target_name : UriTarget → List ℕ
target_name (Tftp host port path whole) = image_name whole host
target_name (Http host port path whole) = image_name whole host
target_name (Iscsi host port lun name whole) = image_name whole host

-- the name of a file's image: the one given goes before
abbrev pub asked_name : Option (List ℕ) → UriTarget → List ℕ
asked_name None target = target_name target
asked_name (Some name) target = name

abbrev pub asking_of : UriTarget → List ℕ → List (List ℕ) → After → Asking
asking_of target name args after =
    record { target = target; name = name; args = join_with_byte 32 args; after = after; moves = 0 }

-- a disk is refused before what is too long
abbrev pub asked_target : UriTarget → Option (List ℕ) → List (List ℕ) → After → Result Asking ImageFailure
asked_target target name args after =
    if not (is_file target) then Err NoScheme
    else if has_long_path target || nat_lt 255 (length (asked_name name target)) then Err LongPath
    else Ok (asking_of target (asked_name name target) args after)

abbrev pub asked_resolved : Result UriTarget UriError → Option (List ℕ) → List (List ℕ) → After → Result Asking ImageFailure
asked_resolved (Ok target) name args after = asked_target target name args after
asked_resolved (Err why) name args after = Err (unresolved why)

-- what a command asks for whose URI is joined to this base, or why it asks for nothing
abbrev pub asked_file : Option (List ℕ) → Option (List ℕ) → List ℕ → List (List ℕ) → After → Result Asking ImageFailure
asked_file base name uri args after = asked_resolved (resolution base uri) name args after

-- a server may be asked for it, and the image may have its name
pub record MayBeFetched (asking : Asking) : Type 0 where
  pub file : is_file asking.target ≡ true
  pub clean : HasCleanPath asking.target
  pub sendable : MayBeAsked asking.target
  pub itself : NamesItself asking.target
  pub path : has_long_path asking.target ≡ false
  pub named : length asking.name ≤ 255
