-- own, after ipxe.org's `imgselect` and `imgexec`: what is selected, and what is executed. A script that is to
-- run leaves the list.
use Rattle.std.specs.Prelude.{ℕ, Bool, not, ◌&&◌, nat_lt, List, slice_get, Option, Some, None, Result, Ok, Err, if◌then◌else◌}
use Rattle.std.specs.List.{join_with_byte}
use Rattle.nb_image.specs.declared.image.Image.{Image}
use Rattle.nb_image.specs.declared.kind.ImageKind.{ImageKind}
use Rattle.nb_image.specs.declared.kind.ImageKind.TheVariants.{Script, BzImage, Elf, Efi, Other}
use Rattle.nb_image.specs.Images.{ImageList, with_args_at, without_image}
use Rattle.nb_image.specs.Kinds.{kind_of}
use Rattle.nb_imagecmd.specs.declared.error.ImageFailure.{ImageFailure}
use Rattle.nb_imagecmd.specs.declared.error.ImageFailure.TheVariants.{NoImage, NotBootable, ManyScripts}
use Rattle.nb_imagecmd.specs.declared.outcome.ImageOutcome.{ImageOutcome}
use Rattle.nb_imagecmd.specs.declared.outcome.ImageOutcome.TheVariants.{Run, Boot}
use Rattle.nb_imagecmd.specs.declared.outcome.ScriptImage.{ScriptImage}

-- what a command comes to and the list that it leaves, or why it fails
abbrev pub ImageAnswer : Type 0
ImageAnswer = Result (ImageOutcome × ImageList) ImageFailure

abbrev pub selected_at : ℕ → ImageList → ImageList
selected_at i list = record { images = list.images; selected = Some i }

-- the image at a place is selected, and has these words as its arguments
abbrev pub selected_with : ℕ → List (List ℕ) → ImageList → ImageList
selected_with i args list =
    record { images = with_args_at i (join_with_byte 32 args) list.images; selected = Some i }

-- a script is to run and changes nothing yet, a kernel or a program boots from this list, nothing else is
-- executed
abbrev pub executed_kind : ImageKind → ℕ → Bool → ImageList → ImageList → ImageAnswer
executed_kind Script i replace list booting = Ok (Run i replace, list)
executed_kind BzImage i replace list booting = Ok (Boot, booting)
executed_kind Elf i replace list booting = Ok (Boot, booting)
executed_kind Efi i replace list booting = Ok (Boot, booting)
executed_kind Other i replace list booting = Err NotBootable

abbrev pub executed_image : Option Image → ℕ → Bool → ImageList → ImageList → ImageAnswer
executed_image None i replace list booting = Err NoImage
executed_image (Some image) i replace list booting = executed_kind (kind_of image.body) i replace list booting

-- what the image at a place comes to, executed with these arguments
abbrev pub executed : ℕ → List (List ℕ) → Bool → ImageList → ImageAnswer
executed i args replace list =
    executed_image (slice_get list.images i) i replace list (selected_with i args list)

-- what the selected image comes to, executed with the arguments that it has
abbrev pub executed_selected : Option ℕ → Bool → ImageList → ImageAnswer
executed_selected None replace list = Err NoImage
executed_selected (Some i) replace list = executed_image (slice_get list.images i) i replace list list

-- eight scripts are within one another, and this one takes no one's place
abbrev pub is_too_deep : Bool → ℕ → Bool
is_too_deep replace depth = not replace && not (nat_lt depth 8)

abbrev pub script_of : Image → ScriptImage
script_of image = record { text = image.body; uri = image.uri }

abbrev pub script_taken_from : Option Image → ℕ → ImageList → Result (ScriptImage × ImageList) ImageFailure
script_taken_from None i list = Err NoImage
script_taken_from (Some image) i list = Ok (script_of image, without_image i (selected_at i list))

-- the script at a place, and the list without it, in which none is selected
unfoldable pub script_taken : ℕ → Bool → ℕ → ImageList → Result (ScriptImage × ImageList) ImageFailure
script_taken i replace depth list =
    if is_too_deep replace depth then Err ManyScripts else script_taken_from (slice_get list.images i) i list
