-- own, after ipxe.org's commands: what comes of a command whose file has come. Where it fails, the list is as it
-- was.
use Rattle.std.specs.Prelude.{ℕ, Bool, List, length, Option, Some, None, unwrap_or, Result, Ok, Err, if◌then◌else◌}
use Rattle.nb_image.specs.declared.error.ImageError.{ImageError}
use Rattle.nb_image.specs.declared.image.Image.{Image}
use Rattle.nb_image.specs.declared.kind.ImageKind.{ImageKind}
use Rattle.nb_image.specs.declared.kind.ImageKind.TheVariants.{Script, BzImage, Elf, Efi, Other}
use Rattle.nb_image.specs.Images.{ImageList, image_of, image_place, with_image, without_image, refusal}
use Rattle.nb_image.specs.Kinds.{kind_of}
use Rattle.nb_imagecmd.specs.declared.arriving.Arrival.{Arrival}
use Rattle.nb_imagecmd.specs.declared.arriving.Arrival.TheVariants as arrival
use Rattle.nb_imagecmd.specs.declared.asking.After.{After}
use Rattle.nb_imagecmd.specs.declared.asking.After.TheVariants as after
use Rattle.nb_imagecmd.specs.declared.asking.Asking.{Asking}
use Rattle.nb_imagecmd.specs.declared.error.ImageFailure.{ImageFailure}
use Rattle.nb_imagecmd.specs.declared.error.ImageFailure.TheVariants.{NotBootable, ManyScripts}
use Rattle.nb_imagecmd.specs.Executing.{selected_at, is_too_deep, script_of}
use Rattle.nb_imagecmd.specs.Failures.{unlisted}

-- the image of a file that came
abbrev pub arrived_image : Asking → List ℕ → List ℕ → Image
arrived_image asking body uri = image_of asking.name body asking.args uri

-- where an image stands once it is in the list
abbrev pub listed_place : Image → ImageList → ℕ
listed_place image list = unwrap_or (image_place image.name list.images) (length list.images)

-- it is in the list, in place of the one of its name, and the selection stays at its place
abbrev pub listed_with : Image → ImageList → ImageList
listed_with image list = record { images = with_image image list.images; selected = list.selected }

-- and it is selected
abbrev pub selected_listed : Image → ImageList → ImageList
selected_listed image list = selected_at (listed_place image list) (listed_with image list)

-- a script was in the list and has left it: the one of its name is gone too, and none is selected
abbrev pub script_gone : Image → ImageList → ImageList
script_gone image list = without_image (listed_place image list) (selected_listed image list)

-- what comes of a file and the list after it, or why the command fails
abbrev pub ArrivalAnswer : Type 0
ArrivalAnswer = Result (Arrival × ImageList) ImageFailure

abbrev pub script_runs : Image → Bool → ℕ → ImageList → ArrivalAnswer
script_runs image replace depth list =
    if is_too_deep replace depth then Err ManyScripts
    else Ok (arrival.Run (script_of image) replace, script_gone image list)

-- what an image is executed as, by its kind
abbrev pub runs_kind : ImageKind → Image → Bool → ℕ → ImageList → ArrivalAnswer
runs_kind Script image replace depth list = script_runs image replace depth list
runs_kind BzImage image replace depth list = Ok (arrival.Boot, selected_listed image list)
runs_kind Elf image replace depth list = Ok (arrival.Boot, selected_listed image list)
runs_kind Efi image replace depth list = Ok (arrival.Boot, selected_listed image list)
runs_kind Other image replace depth list = Err NotBootable

abbrev pub arrives_as : After → Image → ℕ → ImageList → ArrivalAnswer
arrives_as after.Keep image depth list = Ok (arrival.Kept, listed_with image list)
arrives_as after.Select image depth list = Ok (arrival.Kept, selected_listed image list)
arrives_as (after.Run replace) image depth list = runs_kind (kind_of image.body) image replace depth list

-- the list's own refusals go before those of what is executed
abbrev pub taken_unless : Option ImageError → After → Image → ℕ → ImageList → ArrivalAnswer
taken_unless (Some why) after image depth list = Err (unlisted why)
taken_unless None after image depth list = arrives_as after image depth list

-- what the file comes to where so many scripts are within one another, and the list after it
unfoldable pub arrived : Asking → List ℕ → List ℕ → ℕ → ImageList → ArrivalAnswer
arrived asking body uri depth list =
    taken_unless (refusal (arrived_image asking body uri) list.images) asking.after (arrived_image asking body uri)
    depth list
