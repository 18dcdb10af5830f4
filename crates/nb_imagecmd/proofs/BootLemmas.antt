-- Which image is booted.
use Rattle.std.proofs.Common.{◌≡◌, ℕ, zero, suc, ◌<◌, Bool, true, false, cond, List, [], ◌∷◌, ◌++◌, length, get_or, Option, Some, None, Result, Ok, Err, refl, ap, sym, ◌∙◌, subst, arith}
use Rattle.std.specs.Prelude.{slice_get, slice_set, unwrap_or}
use Rattle.std.specs.List.{join_with_byte}
use Rattle.std.proofs.lemmas.List.Quantifiers.{position-Some}
use Rattle.std.proofs.lemmas.Option.{none-some, same_Some, get_or_from_slice_get}
use Rattle.std.proofs.lemmas.Slice.Eq.{bytes_eq-Decides}
use Rattle.nb_image.specs.declared.error.ImageError.{ImageError}
use Rattle.nb_image.specs.declared.image.Image.{Image}
use Rattle.nb_image.specs.declared.kind.ImageKind.{ImageKind}
use Rattle.nb_image.specs.declared.kind.ImageKind.TheVariants.{Script, BzImage, Elf, Efi, Other}
use Rattle.nb_image.specs.Images.{ImageList, image_of, has_name, image_place, put_image, with_args_at, refusal, selected_image}
use Rattle.nb_image.specs.Kinds.{kind_of}
use Rattle.nb_imagecmd.specs.declared.arriving.Arrival.{Arrival}
use Rattle.nb_imagecmd.specs.declared.arriving.Arrival.TheVariants as arrival
use Rattle.nb_imagecmd.specs.declared.asking.After.{After}
use Rattle.nb_imagecmd.specs.declared.asking.After.TheVariants as after
use Rattle.nb_imagecmd.specs.declared.asking.Asking.{Asking}
use Rattle.nb_imagecmd.specs.declared.commands.ImageCommand.TheVariants as command
use Rattle.nb_imagecmd.specs.declared.error.ImageFailure.{ImageFailure}
use Rattle.nb_imagecmd.specs.declared.outcome.ImageOutcome.{ImageOutcome}
use Rattle.nb_imagecmd.specs.declared.outcome.ImageOutcome.TheVariants as outcome
use Rattle.nb_imagecmd.specs.declared.outcome.ScriptImage.{ScriptImage}
use Rattle.nb_imagecmd.specs.Arriving.{arrived_image, listed_with, selected_listed, runs_kind, arrives_as, taken_unless, arrived}
use Rattle.nb_imagecmd.specs.Asking.{asked_file}
use Rattle.nb_imagecmd.specs.CarryingOut.{asking_answer, execute_at, image_effect}
use Rattle.nb_imagecmd.specs.Executing.{selected_with, executed_kind, executed_image, is_too_deep}
use Rattle.nb_imagecmd.specs.Promises.{Boots}

-- ANSWERS

same_answer : (x y : ImageOutcome × ImageList) → ◌≡◌ {A = Result (ImageOutcome × ImageList) ImageFailure} (Ok x) (Ok y) → x ≡ y
same_answer x y is = cc

no_answer : (why : ImageFailure) (x : ImageOutcome × ImageList) → ◌≡◌ {A = Result (ImageOutcome × ImageList) ImageFailure} (Err why) (Ok x) → ⊥
no_answer why x is = cc

same_arrival : (x y : Arrival × ImageList) → ◌≡◌ {A = Result (Arrival × ImageList) ImageFailure} (Ok x) (Ok y) → x ≡ y
same_arrival x y is = cc

no_arrival : (why : ImageFailure) (x : Arrival × ImageList) → ◌≡◌ {A = Result (Arrival × ImageList) ImageFailure} (Err why) (Ok x) → ⊥
no_arrival why x is = cc

ask_is_no_boot : (asking : Asking) → outcome.Ask asking ≡ outcome.Boot → ⊥
ask_is_no_boot asking is = cc

run_is_no_boot : (i : ℕ) (replace : Bool) → outcome.Run i replace ≡ outcome.Boot → ⊥
run_is_no_boot i replace is = cc

kept_is_no_boot : arrival.Kept ≡ arrival.Boot → ⊥
kept_is_no_boot is = cc

script_is_no_boot : (script : ScriptImage) (replace : Bool) → arrival.Run script replace ≡ arrival.Boot → ⊥
script_is_no_boot script replace is = cc

-- FOUND IN THE LIST

args_at : (images : List Image) (i : ℕ) (args : List ℕ) (image : Image) → slice_get images i ≡ Some image → slice_get (with_args_at i args images) i ≡ Some (image_of image.name image.body args image.uri)
args_at [] i args image at = absurd (none-some image at)
args_at (x ∷ xs) zero args image at = ap (λ (y : Image). Some (image_of y.name y.body args y.uri)) (same_Some x image at)
args_at (x ∷ xs) (suc i) args image at = args_at xs i args image at

-- the image at the place of a name has it
name_at : (name : List ℕ) (images : List Image) (i : ℕ) (image : Image) → image_place name images ≡ Some i → slice_get images i ≡ Some image → image.name ≡ name
name_at name images i image found at =
    let test : has_name name (get_or images i image) ≡ true = (position-Some (has_name name) images i image found).1 in
    (bytes_eq-Decides image.name name).0 (subst (λ (x : Image). has_name name x ≡ true) (get_or_from_slice_get images i image image at) test)

boots_with : (kind : ImageKind) (i : ℕ) (replace : Bool) (list booting left : ImageList) → executed_kind kind i replace list booting ≡ Ok (outcome.Boot, left) → left ≡ booting
boots_with Script i replace list booting left is = absurd (run_is_no_boot i replace (ap (λ (x : ImageOutcome × ImageList). x.0) (same_answer (outcome.Run i replace, list) (outcome.Boot, left) is)))
boots_with BzImage i replace list booting left is = sym (ap (λ (x : ImageOutcome × ImageList). x.1) (same_answer (outcome.Boot, booting) (outcome.Boot, left) is))
boots_with Elf i replace list booting left is = sym (ap (λ (x : ImageOutcome × ImageList). x.1) (same_answer (outcome.Boot, booting) (outcome.Boot, left) is))
boots_with Efi i replace list booting left is = sym (ap (λ (x : ImageOutcome × ImageList). x.1) (same_answer (outcome.Boot, booting) (outcome.Boot, left) is))
boots_with Other i replace list booting left is = absurd (no_answer _ (outcome.Boot, left) is)

boots_image : (o : Option Image) (i : ℕ) (replace : Bool) (name : List ℕ) (args : List (List ℕ)) (list left : ImageList) → image_place name list.images ≡ Some i → slice_get list.images i ≡ o → executed_image o i replace list (selected_with i args list) ≡ Ok (outcome.Boot, left) → Boots name (join_with_byte 32 args) left
boots_image None i replace name args list left found at is = absurd (no_answer _ (outcome.Boot, left) is)
boots_image (Some image) i replace name args list left found at is =
    let e : left ≡ selected_with i args list = boots_with (kind_of image.body) i replace list (selected_with i args list) left is in
    subst (λ (l : ImageList). Boots name (join_with_byte 32 args) l) (sym e) (record {
      image = image_of image.name image.body (join_with_byte 32 args) image.uri;
      selected = args_at list.images i (join_with_byte 32 args) image at;
      named = name_at name list.images i image found at;
      with_args = refl;
    })

asks_no_boot : (answer : Result Asking ImageFailure) (list left : ImageList) → asking_answer answer list ≡ Ok (outcome.Boot, left) → ⊥
asks_no_boot (Ok asking) list left is = ask_is_no_boot asking (ap (λ (x : ImageOutcome × ImageList). x.0) (same_answer (outcome.Ask asking, list) (outcome.Boot, left) is))
asks_no_boot (Err why) list left is = no_answer why (outcome.Boot, left) is

boots_found : (o : Option ℕ) (uri : List ℕ) (args : List (List ℕ)) (replace : Bool) (asking : Result Asking ImageFailure) (list left : ImageList) → image_place uri list.images ≡ o → execute_at o args replace asking list ≡ Ok (outcome.Boot, left) → Boots uri (join_with_byte 32 args) left
boots_found (Some i) uri args replace asking list left found is = boots_image (slice_get list.images i) i replace uri args list left found refl is
boots_found None uri args replace asking list left found is = absurd (asks_no_boot asking list left is)

-- the image of the name is booted, with the arguments of the command
pub named_boots : (base name : Option (List ℕ)) (autofree replace : Bool) (uri : List ℕ) (args : List (List ℕ)) (list left : ImageList) → image_effect (command.Exec name autofree replace (Some uri) args) base list ≡ Ok (outcome.Boot, left) → Boots uri (join_with_byte 32 args) left
unfolding image_effect
named_boots base name autofree replace uri args list left is = boots_found (image_place uri list.images) uri args replace (asked_file base name uri args (after.Run replace)) list left refl is

-- FETCHED

push_at : (images : List Image) (image : Image) → slice_get (images ++ image ∷ []) (length images) ≡ Some image
push_at [] image = refl
push_at (x ∷ xs) image = push_at xs image

set_at : (images : List Image) (i : ℕ) (image : Image) → i < length images → slice_get (slice_set images i image) i ≡ Some image
set_at [] i image w = absurd (omega arith)
set_at (x ∷ xs) zero image w = refl
set_at (x ∷ xs) (suc i) image w = set_at xs i image (omega arith)

put_at : (o : Option ℕ) (image : Image) (images : List Image) → image_place image.name images ≡ o → slice_get (put_image o image images) (unwrap_or o (length images)) ≡ Some image
put_at None image images found = push_at images image
put_at (Some i) image images found = set_at images i image ((position-Some (has_name image.name) images i image found).0)

selected_put : (image : Image) (list : ImageList) → selected_image (selected_listed image list) ≡ Some image
selected_put image list = put_at (image_place image.name list.images) image list.images refl

script_boots : (too_deep : Bool) (script : ScriptImage) (replace : Bool) (list left : ImageList) (why : ImageFailure) → ◌≡◌ {A = Result (Arrival × ImageList) ImageFailure} (cond too_deep (Err why) (Ok (arrival.Run script replace, list))) (Ok (arrival.Boot, left)) → ⊥
script_boots true script replace list left why is = no_arrival why (arrival.Boot, left) is
script_boots false script replace list left why is = script_is_no_boot script replace (ap (λ (x : Arrival × ImageList). x.0) (same_arrival (arrival.Run script replace, list) (arrival.Boot, left) is))

kind_boots : (kind : ImageKind) (image : Image) (replace : Bool) (depth : ℕ) (list left : ImageList) → runs_kind kind image replace depth list ≡ Ok (arrival.Boot, left) → left ≡ selected_listed image list
kind_boots Script image replace depth list left is = absurd (script_boots (is_too_deep replace depth) _ replace _ left _ is)
kind_boots BzImage image replace depth list left is = sym (ap (λ (x : Arrival × ImageList). x.1) (same_arrival (arrival.Boot, selected_listed image list) (arrival.Boot, left) is))
kind_boots Elf image replace depth list left is = sym (ap (λ (x : Arrival × ImageList). x.1) (same_arrival (arrival.Boot, selected_listed image list) (arrival.Boot, left) is))
kind_boots Efi image replace depth list left is = sym (ap (λ (x : Arrival × ImageList). x.1) (same_arrival (arrival.Boot, selected_listed image list) (arrival.Boot, left) is))
kind_boots Other image replace depth list left is = absurd (no_arrival _ (arrival.Boot, left) is)

after_boots : (a : After) (image : Image) (depth : ℕ) (list left : ImageList) → arrives_as a image depth list ≡ Ok (arrival.Boot, left) → left ≡ selected_listed image list
after_boots after.Keep image depth list left is = absurd (kept_is_no_boot (ap (λ (x : Arrival × ImageList). x.0) (same_arrival (arrival.Kept, listed_with image list) (arrival.Boot, left) is)))
after_boots after.Select image depth list left is = absurd (kept_is_no_boot (ap (λ (x : Arrival × ImageList). x.0) (same_arrival (arrival.Kept, selected_listed image list) (arrival.Boot, left) is)))
after_boots (after.Run replace) image depth list left is = kind_boots (kind_of image.body) image replace depth list left is

unless_boots : (why : Option ImageError) (a : After) (image : Image) (depth : ℕ) (list left : ImageList) → taken_unless why a image depth list ≡ Ok (arrival.Boot, left) → left ≡ selected_listed image list
unless_boots (Some why) a image depth list left is = absurd (no_arrival _ (arrival.Boot, left) is)
unless_boots None a image depth list left is = after_boots a image depth list left is

-- the image of the file that came is booted
pub fetched_boots : (asking : Asking) (body uri : List ℕ) (depth : ℕ) (list left : ImageList) → arrived asking body uri depth list ≡ Ok (arrival.Boot, left) → selected_image left ≡ Some (arrived_image asking body uri)
unfolding arrived
fetched_boots asking body uri depth list left is =
    let image = arrived_image asking body uri in
    let e : left ≡ selected_listed image list = unless_boots (refusal image list.images) asking.after image depth list left is in
    ap selected_image e ∙ selected_put image list
