-- own, after ipxe.org's `imgfree`: the images of these names leave the list, or all where there are none
use Rattle.std.specs.Prelude.{ℕ, Bool, ◌||◌, not, nat_eq, zero, suc, List, [], ◌∷◌, length, filter, Option, Some, None, is_some, if◌then◌else◌}
use Rattle.std.specs.List.{list_all, list_any}
use Rattle.std.specs.Option.{option_and_then, option_map}
use Rattle.std.specs.Str.{bytes_eq}
use Rattle.nb_image.specs.declared.image.Image.{Image}
use Rattle.nb_image.specs.Images.{ImageList, image_place}

abbrev pub is_listed : List Image → List ℕ → Bool
is_listed images name = is_some (image_place name images)

-- each name is that of an image
abbrev pub are_all_listed : List (List ℕ) → List Image → Bool
are_all_listed names images = list_all (is_listed images) names

-- the name is one of these
abbrev pub is_among : List (List ℕ) → List ℕ → Bool
is_among names name = list_any (λ other. bytes_eq other name) names

-- an image of this name is freed
abbrev pub is_freed : List (List ℕ) → List ℕ → Bool
is_freed names name = nat_eq (length names) 0 || is_among names name

abbrev pub is_kept : List (List ℕ) → Image → Bool
is_kept names image = not (is_freed names image.name)

-- where the image at a place stands among those that pass, if it does; past the end nothing fails
abbrev pub place_among : (Image → Bool) → List Image → ℕ → Option ℕ
place_among passes [] place = Some place
place_among passes (image ∷ images) zero = if passes image then Some 0 else None
place_among passes (image ∷ images) (suc place) =
    if passes image then option_map (λ n. suc n) (place_among passes images place)
    else place_among passes images place

-- the images that aren't freed, in their order; the selection stays with its image
abbrev pub kept_list : List (List ℕ) → ImageList → ImageList
kept_list names list = record {
  images = filter (is_kept names) list.images;
  selected = option_and_then (place_among (is_kept names) list.images) list.selected;
}
