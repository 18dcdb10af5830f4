-- Images that were freed are no more in the list.
use Rattle.std.proofs.Common.{◌≡◌, ℕ, Bool, true, false, not, ◌||◌, cond, List, [], ◌∷◌, Result, Ok, Err, refl, ap, sym, ◌∙◌}
use Rattle.std.specs.Prelude.{filter, length, nat_eq}
use Rattle.std.specs.List.{list_any}
use Rattle.std.proofs.lemmas.Slice.Eq.{bytes_eq-Decides}
use Rattle.nb_image.specs.declared.image.Image.{Image}
use Rattle.nb_image.specs.Images.{ImageList, has_name}
use Rattle.nb_imagecmd.specs.CarryingOut.{images_freed}
use Rattle.nb_imagecmd.specs.Freeing.{is_among, is_freed, is_kept, kept_list, are_all_listed}
use Rattle.nb_imagecmd.specs.declared.error.ImageFailure.{ImageFailure}
use Rattle.nb_imagecmd.specs.declared.outcome.ImageOutcome.{ImageOutcome}
use Rattle.nb_imagecmd.specs.declared.outcome.ImageOutcome.TheVariants.{Done}
use Rattle.nb_imagecmd.specs.declared.error.ImageFailure.TheVariants.{NoImage}
use Rattle.nb_imagecmd.proofs.OptionLemmas.{true-false, by_test}

or_true : (a : Bool) → (a || true) ≡ true
or_true true = refl
or_true false = refl

named_is_freed : (names : List (List ℕ)) (name : List ℕ) → is_among names name ≡ true → is_freed names name ≡ true
named_is_freed names name h = ap (λ (b : Bool). nat_eq (length names) 0 || b) h ∙ or_true (nat_eq (length names) 0)

-- an image that is kept has another name
other_name : (names : List (List ℕ)) (name : List ℕ) (image : Image) → is_among names name ≡ true → is_kept names image ≡ true → has_name name image ≡ false
other_name names name image h kept =
    by_test (has_name name image) (λ same.
    let e : image.name ≡ name = (bytes_eq-Decides image.name name).0 same in
    let gone : is_kept names image ≡ false = ap (λ (n : List ℕ). not (is_freed names n)) e ∙ ap not (named_is_freed names name h) in
    true-false (sym kept ∙ gone))

not_first : (names : List (List ℕ)) (name : List ℕ) (image : Image) (images : List Image) (b : Bool) → is_kept names image ≡ b → is_among names name ≡ true → list_any (has_name name) images ≡ false → list_any (has_name name) (cond b (image ∷ images) images) ≡ false
not_first names name image images false e h none = none
not_first names name image images true e h none = rw (other_name names name image h e, none) refl

none_named : (names : List (List ℕ)) (name : List ℕ) (images : List Image) → is_among names name ≡ true → list_any (has_name name) (filter (is_kept names) images) ≡ false
none_named names name [] h = refl
none_named names name (image ∷ images) h = not_first names name image (filter (is_kept names) images) (is_kept names image) refl h (none_named names name images h)

same_pair : (x y : ImageOutcome × ImageList) → ◌≡◌ {A = Result (ImageOutcome × ImageList) ImageFailure} (Ok x) (Ok y) → x ≡ y
same_pair x y is = cc

second : (b : Bool) (kept left : ImageList) (outcome : ImageOutcome) → ◌≡◌ {A = Result (ImageOutcome × ImageList) ImageFailure} (cond b (Ok (Done, kept)) (Err NoImage)) (Ok (outcome, left)) → left ≡ kept
second true kept left outcome is = ap (λ (x : ImageOutcome × ImageList). x.1) (sym (same_pair (Done, kept) (outcome, left) is))
second false kept left outcome is = absurd cc

pub freed_are_gone : (names : List (List ℕ)) (name : List ℕ) (list left : ImageList) (outcome : ImageOutcome) → is_among names name ≡ true → images_freed names list ≡ Ok (outcome, left) → list_any (has_name name) left.images ≡ false
freed_are_gone names name list left outcome h is =
    let e : left ≡ kept_list names list = second (are_all_listed names list.images) (kept_list names list) left outcome is in
    ap (λ (l : ImageList). list_any (has_name name) l.images) e ∙ none_named names name list.images h
