-- A list that takes an image is a list yet.
use Rattle.std.proofs.Common.{◌≡◌, ℕ, ◌+◌, ◌<◌, ◌≤◌, Bool, true, false, cond, List, [], ◌∷◌, ◌++◌, length, Option, Some, None, Result, Ok, Err, refl, sym, subst, arith, length-append}
use Rattle.std.specs.Prelude.{OnOk, OnErr, IfSome, nat_lt}
use Rattle.std.proofs.Math.ListN.{length-set}
use Rattle.std.proofs.lemmas.Bool.{ltb-false}
use Rattle.std.proofs.lemmas.Option.{none-some}
use Rattle.nb_image.specs.declared.image.Image.{Image}
use Rattle.nb_image.specs.declared.error.ImageError.{ImageError}
use Rattle.nb_image.specs.Images.{IsList, image_place, put_image, with_image, is_too_many, is_too_large, refusal}

no_cause : (many large : Bool) (e f : ImageError) → cond many (Some e) (cond large (Some f) None) ≡ None → (many ≡ false) × (large ≡ false)
no_cause true large e f h = absurd (none-some e (sym h))
no_cause false true e f h = absurd (none-some f (sym h))
no_cause false false e f h = (refl, refl)

length_put : (place : Option ℕ) (image : Image) (images : List Image) → length images ≤ length (put_image place image images)
length_put None image images = omega (arith, length-append images (image ∷ []))
length_put (Some i) image images = omega (arith, length-set images i image)

still_within : (selected : Option ℕ) (n m : ℕ) → n ≤ m → IfSome selected (λ i. i < n) → IfSome selected (λ i. i < m)
still_within None n m h w = w
still_within (Some i) n m h w = omega arith

pub added_list : (image : Image) (images : List Image) (selected : Option ℕ) → refusal image images ≡ None → IsList (record { images = images; selected = selected }) → IsList (record { images = with_image image images; selected = selected })
added_list image images selected taken list =
    let parts = no_cause (is_too_many image images) (is_too_large image images) _ _ taken in
    record {
      few = ltb-false 32 _ parts.0;
      small = ltb-false 536870912 _ parts.1;
      within = still_within selected _ _ (length_put (image_place image.name images) image images) list.within;
    }

-- what holds of both lists holds of the one that an answer leaves
pub either_list : {E : Type 0} (P : List Image → Type 0) (r : Result ℕ E) (new put old : List Image) → OnOk r (new ≡ put) → OnErr r (new ≡ old) → P put → P old → P new
either_list P (Ok i) new put old a b p o = subst P (sym a) p
either_list P (Err e) new put old a b p o = subst P (sym b) o
