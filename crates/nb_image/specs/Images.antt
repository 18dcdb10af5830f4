-- The list of images with its selection, and what the calls do to it, as functions of the list.
use Rattle.std.specs.Prelude.{ℕ, ◌-◌, Bool, ◌==◌, nat_lt, List, [], ◌∷◌, ◌++◌, length, Option, Some, None, position, slice_set, slice_get, sum_by, map, IfSome, ◌<◌, ◌≤◌, slice_index, zero, suc, if◌then◌else◌}
use Rattle.std.specs.List.{remove}
use Rattle.std.specs.Option.{option_and_then}
use Rattle.std.specs.Str.{bytes_eq}
use Rattle.nb_image.specs.declared.error.ImageError.{ImageError}
use Rattle.nb_image.specs.declared.error.ImageError.TheVariants.{TooMany, TooLarge}
use Rattle.nb_image.specs.declared.image.Image.{Image}

-- the images in order, and the place of the selected one
pub record ImageList : Type 0 where
  pub images : List Image
  pub selected : Option ℕ

abbrev pub image_of : List ℕ → List ℕ → List ℕ → List ℕ → Image
image_of name body args uri = record { name = name; body = body; args = args; uri = uri }

abbrev pub has_name : List ℕ → Image → Bool
has_name name image = bytes_eq image.name name

-- where the first image of a name stands
abbrev pub image_place : List ℕ → List Image → Option ℕ
image_place name images = position (has_name name) images

abbrev pub body_len : Image → ℕ
body_len image = length image.body

-- how many bytes all bodies have together
abbrev pub total_len : List Image → ℕ
total_len images = sum_by body_len images

-- how many bytes the body has that stands at a place, if there is one
abbrev pub len_at : Option ℕ → List Image → ℕ
len_at None images = 0
len_at (Some i) images = slice_index (map body_len images) i

-- the images with one put at a place, or after all where there is no place
abbrev pub put_image : Option ℕ → Image → List Image → List Image
put_image None image images = images ++ image ∷ []
put_image (Some i) image images = slice_set images i image

-- the images with one more: it takes the place of the image of its name, or stands after all
abbrev pub with_image : Image → List Image → List Image
with_image image images = put_image (image_place image.name images) image images

-- whether there would be a 33rd image
abbrev pub is_too_many : Image → List Image → Bool
is_too_many image images = nat_lt 32 (length (with_image image images))

-- whether all bodies together would pass 536,870,912 bytes
abbrev pub is_too_large : Image → List Image → Bool
is_too_large image images = nat_lt 536870912 (total_len (with_image image images))

-- why an image isn't taken, if it isn't
abbrev pub refusal : Image → List Image → Option ImageError
refusal image images = if is_too_many image images then Some TooMany else if is_too_large image images then Some TooLarge else None

-- the image at a place, with other arguments
abbrev pub with_args_at : ℕ → List ℕ → List Image → List Image
with_args_at i args [] = []
with_args_at zero args (image ∷ images) = image_of image.name image.body args image.uri ∷ images
with_args_at (suc i) args (image ∷ images) = image ∷ with_args_at i args images

-- at most 32 images, with at most 536,870,912 bytes together, and the selected one is among them
pub record IsList (list : ImageList) : Type 0 where
  pub few : length list.images ≤ 32
  pub small : total_len list.images ≤ 536870912
  pub within : IfSome list.selected (λ i. i < length list.images)

-- where the selected image stands once the image at a place is gone: none is selected if it was that one
abbrev pub selection_without : ℕ → Option ℕ → Option ℕ
selection_without i None = None
selection_without i (Some place) = if place == i then None else Some (if nat_lt i place then place - 1 else place)

-- the list without the image at a place
abbrev pub without_image : ℕ → ImageList → ImageList
without_image i list = record { images = remove list.images i; selected = selection_without i list.selected }

-- the selected image
abbrev pub selected_image : ImageList → Option Image
selected_image list = option_and_then (slice_get list.images) list.selected
