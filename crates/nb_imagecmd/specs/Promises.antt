-- Own: what holds of all image commands, in words of the list alone.
use Rattle.std.specs.Prelude.{◌≡◌, ◌<◌, ◌≤◌, ℕ, List, [], length, All, Some, slice_get, IfSome}
use Rattle.std.specs.List.{join_with_byte}
use Rattle.nb_image.specs.declared.image.Image.{Image}
use Rattle.nb_image.specs.Images.{ImageList, selected_image}
use Rattle.nb_imagecmd.specs.declared.commands.ImageCommand.{ImageCommand}
use Rattle.nb_imagecmd.specs.declared.commands.ImageCommand.TheVariants as command

-- a name that a record takes
abbrev pub IsShortName : Image → Type 0
IsShortName image = length image.name ≤ 255

abbrev pub HasShortNames : ImageList → Type 0
HasShortNames list = All IsShortName list.images

-- a line that a record takes
abbrev pub IsShortLine : List ℕ → Type 0
IsShortLine line = length line ≤ 285

-- the arguments that a command gives an image
abbrev pub args_of : ImageCommand → List (List ℕ)
args_of (command.Fetch name uri args) = args
args_of (command.Select name uri args) = args
args_of (command.Exec name autofree replace uri args) = args
args_of (command.Imgargs name args) = args
args_of (command.Imgfree names) = []
args_of command.Imgstat = []

-- and how many bytes they have, joined
abbrev pub args_len : ImageCommand → ℕ
args_len c = length (join_with_byte 32 (args_of c))

-- an image of this name is selected, with these arguments
pub record Boots (name args : List ℕ) (list : ImageList) : Type 0 where
  pub image : Image
  pub selected : selected_image list ≡ Some image
  pub named : image.name ≡ name
  pub with_args : image.args ≡ args

-- it has the name, the body and the URI of one of these images
pub record IsFileAmong (images : List Image) (image : Image) : Type 0 where
  pub place : ℕ
  pub other : Image
  pub at : slice_get images place ≡ Some other
  pub name : image.name ≡ other.name
  pub body : image.body ≡ other.body
  pub uri : image.uri ≡ other.uri

-- where an image is selected, it is one of the list
abbrev pub IsSelectedWithin : ImageList → Type 0
IsSelectedWithin list = IfSome list.selected (λ i. i < length list.images)

-- each image of the list is one of these, but for its arguments, and the selected one is among them
pub record HoldsFilesOf (images : List Image) (list : ImageList) : Type 0 where
  pub files : All (IsFileAmong images) list.images
  pub within : IsSelectedWithin list
