-- What the calls do to the list of images.
use Rattle.std.proofs.Common.{◌≡◌, ℕ, zero, suc, ◌+◌, ◌<◌, ◌≤◌, List, [], ◌∷◌, length, get_or, Option, Some, None, refl, sym, ◌∙◌, ap, subst, arith}
use Rattle.std.proofs.Math.ListN.{set}
use Rattle.std.specs.Option.{ForSome}
use Rattle.std.proofs.lemmas.List.Sums.{sum_by-set, sum_by-append, sum_by_more_le}
use Rattle.std.proofs.lemmas.List.{get_or-map}
use Rattle.std.proofs.lemmas.List.Quantifiers.{position-Some}
use Rattle.nb_image.specs.declared.image.Image.{Image}
use Rattle.nb_image.specs.Images.{image_of, has_name, image_place, body_len, total_len, len_at, put_image, with_image, with_args_at}

-- a place that was found is one of the list
pub place_within : (name : List ℕ) (images : List Image) (i : ℕ) (image : Image) → image_place name images ≡ Some i → i < length images
place_within name images i image h = (position-Some (has_name name) images i image h).0

-- a new image's bytes come, and those of the one in whose place it stands go
pub total_put : (place : Option ℕ) (image : Image) (images : List Image) → ForSome place (λ i. i < length images) → total_len (put_image place image images) + len_at place images ≡ total_len images + body_len image
total_put None image images h = omega (arith, sum_by-append body_len images (image ∷ []))
total_put (Some i) image images h =
    omega (arith, sum_by-set body_len images i image image (h i refl), get_or-map body_len images i image 0 (h i refl))

-- what goes was there
pub len_at_le : (place : Option ℕ) (image : Image) (images : List Image) → ForSome place (λ i. i < length images) → len_at place images ≤ total_len images
len_at_le None image images h = omega arith
len_at_le (Some i) image images h =
    omega (arith, sum_by_more_le body_len images i image (h i refl), get_or-map body_len images i image 0 (h i refl))

-- the same of the place of an image's name
pub found_within : (place : Option ℕ) (image : Image) (images : List Image) → place ≡ image_place image.name images → ForSome place (λ i. i < length images)
found_within place image images e = λ i is. place_within image.name images i image (sym e ∙ is)

pub total_with : (place : Option ℕ) (image : Image) (images : List Image) → place ≡ image_place image.name images → total_len (with_image image images) + len_at place images ≡ total_len images + body_len image
total_with place image images e =
    subst (λ (p : Option ℕ). total_len (put_image p image images) + len_at place images ≡ total_len images + body_len image) e
    (total_put place image images (found_within place image images e))

pub found_le : (place : Option ℕ) (image : Image) (images : List Image) → place ≡ image_place image.name images → len_at place images ≤ total_len images
found_le place image images e = len_at_le place image images (found_within place image images e)

-- the field of the image at a place is written, and no other
pub args_set : (images : List Image) (i : ℕ) (image : Image) (args : List ℕ) → i < length images → image ≡ get_or images i image → set images i (image_of image.name image.body args image.uri) ≡ with_args_at i args images
args_set [] i image args h e = absurd (omega arith)
args_set (x ∷ xs) zero image args h e = ap (λ (y : Image). image_of y.name y.body args y.uri ∷ xs) e
args_set (x ∷ xs) (suc i) image args h e = ap (λ (ys : List Image). x ∷ ys) (args_set xs i image args (omega arith) e)
