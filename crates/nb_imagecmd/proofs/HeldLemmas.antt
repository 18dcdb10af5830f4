-- The list holds only files that came, and the selected image is one of it.
use Rattle.std.proofs.Common.{◌≡◌, ℕ, zero, suc, ◌<◌, ◌==◌, Bool, true, false, cond, List, [], ◌∷◌, ◌++◌, length, take, drop, Option, Some, None, Result, Ok, Err, All, refl, ap, sym, subst, arith}
use Rattle.std.specs.Prelude.{slice_get, slice_set, unwrap_or, filter, IfOk, IfSome}
use Rattle.std.specs.List.{remove, join_with_byte}
use Rattle.std.specs.Option.{option_and_then, option_map}
use Rattle.std.proofs.lemmas.Bool.Decides.{nat_tests}
use Rattle.std.proofs.lemmas.List.Elements.{All-nil, All-cons, All-head, All-tail, All-push, All-set, All-append, All-take, All-drop, All-filter}
use Rattle.std.proofs.lemmas.List.Quantifiers.{position-Some}
use Rattle.std.proofs.lemmas.Option.{none-some}
use Rattle.nb_image.specs.declared.error.ImageError.{ImageError}
use Rattle.nb_image.specs.declared.image.Image.{Image}
use Rattle.nb_image.specs.declared.kind.ImageKind.{ImageKind}
use Rattle.nb_image.specs.declared.kind.ImageKind.TheVariants.{Script, BzImage, Elf, Efi, Other}
use Rattle.nb_image.specs.Images.{ImageList, image_of, has_name, image_place, put_image, with_args_at, selection_without, without_image, refusal}
use Rattle.nb_image.specs.Kinds.{kind_of}
use Rattle.nb_imagecmd.specs.declared.arriving.Arrival.{Arrival}
use Rattle.nb_imagecmd.specs.declared.asking.After.{After}
use Rattle.nb_imagecmd.specs.declared.asking.After.TheVariants as after
use Rattle.nb_imagecmd.specs.declared.asking.Asking.{Asking}
use Rattle.nb_imagecmd.specs.declared.commands.ImageCommand.{ImageCommand}
use Rattle.nb_imagecmd.specs.declared.commands.ImageCommand.TheVariants as command
use Rattle.nb_imagecmd.specs.declared.error.ImageFailure.{ImageFailure}
use Rattle.nb_imagecmd.specs.declared.outcome.ImageOutcome.{ImageOutcome}
use Rattle.nb_imagecmd.specs.declared.outcome.ScriptImage.{ScriptImage}
use Rattle.nb_imagecmd.specs.Arriving.{arrived_image, listed_place, listed_with, selected_listed, script_gone, runs_kind, arrives_as, taken_unless, arrived}
use Rattle.nb_imagecmd.specs.Asking.{asked_file}
use Rattle.nb_imagecmd.specs.CarryingOut.{asking_answer, select_at, execute_at, set_args_at, image_effect}
use Rattle.nb_imagecmd.specs.Executing.{selected_at, selected_with, executed_kind, executed_image, executed_selected, is_too_deep, script_taken_from, script_taken}
use Rattle.nb_imagecmd.specs.Freeing.{is_kept, are_all_listed, place_among, kept_list}
use Rattle.nb_imagecmd.specs.Promises.{IsFileAmong, IsSelectedWithin, HoldsFilesOf}

-- IMAGES

-- with other arguments it is the same file
with_args : (images : List Image) (image : Image) (args : List ℕ) → IsFileAmong images image → IsFileAmong images (image_of image.name image.body args image.uri)
with_args images image args h = record { place = h.place; other = h.other; at = h.at; name = h.name; body = h.body; uri = h.uri }

-- with one more before them they are the same files
one_more : (first : Image) (images : List Image) (image : Image) → IsFileAmong images image → IsFileAmong (first ∷ images) image
one_more first images image h = record { place = suc h.place; other = h.other; at = h.at; name = h.name; body = h.body; uri = h.uri }

is_first : (first : Image) (images : List Image) → IsFileAmong (first ∷ images) first
is_first first images = record { place = 0; other = first; at = refl; name = refl; body = refl; uri = refl }

all_more : (first : Image) (images xs : List Image) → All (IsFileAmong images) xs → All (IsFileAmong (first ∷ images)) xs
all_more first images [] h = All-nil (IsFileAmong (first ∷ images))
all_more first images (x ∷ xs) h =
    All-cons (IsFileAmong (first ∷ images)) x xs (one_more first images x (All-head (IsFileAmong images) x xs h)) (all_more first images xs (All-tail (IsFileAmong images) x xs h))

are_themselves : (images : List Image) → All (IsFileAmong images) images
are_themselves [] = All-nil (IsFileAmong [])
are_themselves (x ∷ xs) = All-cons (IsFileAmong (x ∷ xs)) x xs (is_first x xs) (all_more x xs xs (are_themselves xs))

args_held : (images xs : List Image) (i : ℕ) (args : List ℕ) → All (IsFileAmong images) xs → All (IsFileAmong images) (with_args_at i args xs)
args_held images [] i args h = h
args_held images (x ∷ xs) zero args h = All-cons (IsFileAmong images) _ xs (with_args images x args (All-head (IsFileAmong images) x xs h)) (All-tail (IsFileAmong images) x xs h)
args_held images (x ∷ xs) (suc i) args h = All-cons (IsFileAmong images) x _ (All-head (IsFileAmong images) x xs h) (args_held images xs i args (All-tail (IsFileAmong images) x xs h))

put_held : (images : List Image) (o : Option ℕ) (image : Image) (xs : List Image) → IsFileAmong images image → All (IsFileAmong images) xs → All (IsFileAmong images) (put_image o image xs)
put_held images None image xs one h = All-push (IsFileAmong images) xs image h one
put_held images (Some i) image xs one h = All-set (IsFileAmong images) xs i image one h

removed_held : (images xs : List Image) (i : ℕ) → All (IsFileAmong images) xs → All (IsFileAmong images) (remove xs i)
removed_held images xs i h = All-append (IsFileAmong images) (take i xs) (drop (suc i) xs) (All-take (IsFileAmong images) i xs h) (All-drop (IsFileAmong images) (suc i) xs h)

-- PLACES

args_length : (xs : List Image) (i : ℕ) (args : List ℕ) → length (with_args_at i args xs) ≡ length xs
args_length [] i args = refl
args_length (x ∷ xs) zero args = refl
args_length (x ∷ xs) (suc i) args = ap suc (args_length xs i args)

push_length : (xs : List Image) (image : Image) → length (xs ++ image ∷ []) ≡ suc (length xs)
push_length [] image = refl
push_length (x ∷ xs) image = ap suc (push_length xs image)

set_length : (xs : List Image) (i : ℕ) (image : Image) → length (slice_set xs i image) ≡ length xs
set_length [] i image = refl
set_length (x ∷ xs) zero image = refl
set_length (x ∷ xs) (suc i) image = ap suc (set_length xs i image)

still_within : (selected : Option ℕ) (n m : ℕ) → n ≡ m → IfSome selected (λ i. i < n) → IfSome selected (λ i. i < m)
still_within selected n m e h = subst (λ (k : ℕ). IfSome selected (λ i. i < k)) e h

more_within : (selected : Option ℕ) (n : ℕ) → IfSome selected (λ i. i < n) → IfSome selected (λ i. i < suc n)
more_within None n h = h
more_within (Some i) n h = omega arith

-- the place of a name is within the list
name_within : (name : List ℕ) (x : Image) (xs : List Image) (i : ℕ) → image_place name (x ∷ xs) ≡ Some i → i < length (x ∷ xs)
name_within name x xs i found = (position-Some (has_name name) (x ∷ xs) i x found).0

place_within : (name : List ℕ) (xs : List Image) (i : ℕ) → image_place name xs ≡ Some i → i < length xs
place_within name [] i found = absurd (none-some i found)
place_within name (x ∷ xs) i found = name_within name x xs i found

put_within : (selected o : Option ℕ) (image : Image) (xs : List Image) → IfSome selected (λ i. i < length xs) → IfSome selected (λ i. i < length (put_image o image xs))
put_within selected None image xs h = still_within selected _ _ (sym (push_length xs image)) (more_within selected (length xs) h)
put_within selected (Some i) image xs h = still_within selected _ _ (sym (set_length xs i image)) h

-- the image that came stands within the list that has it
listed_within : (name : List ℕ) (o : Option ℕ) (image : Image) (xs : List Image) → image_place name xs ≡ o → unwrap_or o (length xs) < length (put_image o image xs)
listed_within name None image xs found = let e = push_length xs image in omega (arith, e)
listed_within name (Some i) image xs found =
    let w : i < length xs = place_within name xs i found in
    let e = set_length xs i image in
    omega (arith, w, e)

slice_within : (xs : List Image) (i : ℕ) (image : Image) → slice_get xs i ≡ Some image → i < length xs
slice_within [] i image at = absurd (none-some image at)
slice_within (x ∷ xs) zero image at = omega arith
slice_within (x ∷ xs) (suc i) image at = let k : i < length xs = slice_within xs i image at in omega (arith, k)

mapped_within : (o : Option ℕ) (n : ℕ) → IfSome o (λ i. i < n) → IfSome (option_map (λ (k : ℕ). suc k) o) (λ i. i < suc n)
mapped_within None n h = tt
mapped_within (Some i) n h = omega arith

first_among : (b : Bool) (x : Image) (xs : List Image) → IfSome (cond b (Some 0) None) (λ i. i < length (cond b (x ∷ xs) xs))
first_among true x xs = omega arith
first_among false x xs = tt

later_among : (b : Bool) (o : Option ℕ) (x : Image) (xs : List Image) → IfSome o (λ i. i < length xs) → IfSome (cond b (option_map (λ (k : ℕ). suc k) o) o) (λ i. i < length (cond b (x ∷ xs) xs))
later_among true o x xs h = mapped_within o (length xs) h
later_among false o x xs h = h

among_within : (passes : Image → Bool) (xs : List Image) (s : ℕ) → s < length xs → IfSome (place_among passes xs s) (λ i. i < length (filter passes xs))
among_within passes [] s w = absurd (omega arith)
among_within passes (x ∷ xs) zero w = first_among (passes x) x (filter passes xs)
among_within passes (x ∷ xs) (suc s) w = later_among (passes x) (place_among passes xs s) x (filter passes xs) (among_within passes xs s (omega arith))

kept_within : (passes : Image → Bool) (xs : List Image) (selected : Option ℕ) → IfSome selected (λ i. i < length xs) → IfSome (option_and_then (place_among passes xs) selected) (λ i. i < length (filter passes xs))
kept_within passes xs None h = tt
kept_within passes xs (Some s) h = among_within passes xs s h

-- once the image at the selected place is gone, none is selected
none_within : (i n : ℕ) → IfSome (selection_without i (Some i)) (λ k. k < n)
none_within i n = let same : (i == i) ≡ true = grind (arith, nat_tests) in rw same tt

-- LISTS

same_list : (list : ImageList) → IsSelectedWithin list → HoldsFilesOf list.images list
same_list list w = record { files = are_themselves list.images; within = w }

args_list : (i : ℕ) (args : List ℕ) (selected : Option ℕ) (xs : List Image) → IfSome selected (λ k. k < length xs) → HoldsFilesOf xs (record { images = with_args_at i args xs; selected = selected })
args_list i args selected xs w = record {
  files = args_held xs xs i args (are_themselves xs);
  within = still_within selected _ _ (sym (args_length xs i args)) w;
}

kept_held : (names : List (List ℕ)) (list : ImageList) → IsSelectedWithin list → HoldsFilesOf list.images (kept_list names list)
kept_held names list w = record {
  files = All-filter (is_kept names) (IsFileAmong list.images) list.images (are_themselves list.images);
  within = kept_within (is_kept names) list.images list.selected w;
}

listed_held : (image : Image) (list : ImageList) → IsSelectedWithin list → HoldsFilesOf (image ∷ list.images) (listed_with image list)
listed_held image list w = record {
  files = put_held (image ∷ list.images) (image_place image.name list.images) image list.images (is_first image list.images) (all_more image list.images list.images (are_themselves list.images));
  within = put_within list.selected (image_place image.name list.images) image list.images w;
}

chosen_held : (image : Image) (list : ImageList) → IsSelectedWithin list → HoldsFilesOf (image ∷ list.images) (selected_listed image list)
chosen_held image list w = record {
  files = (listed_held image list w).files;
  within = listed_within image.name (image_place image.name list.images) image list.images refl;
}

gone_held : (image : Image) (list : ImageList) → IsSelectedWithin list → HoldsFilesOf (image ∷ list.images) (script_gone image list)
gone_held image list w = record {
  files = removed_held (image ∷ list.images) _ (listed_place image list) (listed_held image list w).files;
  within = none_within (listed_place image list) (length (script_gone image list).images);
}

taken_held : (i : ℕ) (list : ImageList) → HoldsFilesOf list.images (without_image i (selected_at i list))
taken_held i list = record {
  files = removed_held list.images list.images i (are_themselves list.images);
  within = none_within i (length (without_image i (selected_at i list)).images);
}

-- COMMANDS

-- the list that an answer leaves
Leaves : {A : Type 0} → List Image → Result (A × ImageList) ImageFailure → Type 0
Leaves {A} images answer = IfOk answer (λ (x : A × ImageList). HoldsFilesOf images x.1)

left_held : {A : Type 0} (images : List Image) (answer : Result (A × ImageList) ImageFailure) (first : A) (left : ImageList) → Leaves images answer → answer ≡ Ok (first, left) → HoldsFilesOf images left
unfolding Leaves
left_held {A} images answer first left h is = subst (λ (r : Result (A × ImageList) ImageFailure). IfOk r (λ (x : A × ImageList). HoldsFilesOf images x.1)) is h

asks_held : (answer : Result Asking ImageFailure) (list : ImageList) → IsSelectedWithin list → Leaves list.images (asking_answer answer list)
unfolding Leaves
asks_held (Ok asking) list w = same_list list w
asks_held (Err why) list w = tt

kind_held : (kind : ImageKind) (i : ℕ) (replace : Bool) (list booting : ImageList) → HoldsFilesOf list.images list → HoldsFilesOf list.images booting → Leaves list.images (executed_kind kind i replace list booting)
unfolding Leaves
kind_held Script i replace list booting h k = h
kind_held BzImage i replace list booting h k = k
kind_held Elf i replace list booting h k = k
kind_held Efi i replace list booting h k = k
kind_held Other i replace list booting h k = tt

image_held : (o : Option Image) (i : ℕ) (replace : Bool) (list booting : ImageList) → HoldsFilesOf list.images list → HoldsFilesOf list.images booting → Leaves list.images (executed_image o i replace list booting)
unfolding Leaves
image_held None i replace list booting h k = tt
image_held (Some image) i replace list booting h k = kind_held (kind_of image.body) i replace list booting h k

selected_held : (o : Option ℕ) (replace : Bool) (list : ImageList) → IsSelectedWithin list → Leaves list.images (executed_selected o replace list)
unfolding Leaves
selected_held None replace list w = tt
selected_held (Some i) replace list w = image_held (slice_get list.images i) i replace list list (same_list list w) (same_list list w)

select_held : (o : Option ℕ) (name : List ℕ) (args : List (List ℕ)) (asking : Result Asking ImageFailure) (list : ImageList) → IsSelectedWithin list → image_place name list.images ≡ o → Leaves list.images (select_at o args asking list)
unfolding Leaves
select_held (Some i) name args asking list w found = args_list i (join_with_byte 32 args) (Some i) list.images (place_within name list.images i found)
select_held None name args asking list w found = asks_held asking list w

execute_held : (o : Option ℕ) (name : List ℕ) (args : List (List ℕ)) (replace : Bool) (asking : Result Asking ImageFailure) (list : ImageList) → IsSelectedWithin list → image_place name list.images ≡ o → Leaves list.images (execute_at o args replace asking list)
unfolding Leaves
execute_held (Some i) name args replace asking list w found =
    image_held (slice_get list.images i) i replace list (selected_with i args list) (same_list list w) (args_list i (join_with_byte 32 args) (Some i) list.images (place_within name list.images i found))
execute_held None name args replace asking list w found = asks_held asking list w

set_held : (o : Option ℕ) (args : List ℕ) (list : ImageList) → IsSelectedWithin list → Leaves list.images (set_args_at o args list)
unfolding Leaves
set_held None args list w = tt
set_held (Some i) args list w = args_list i args list.selected list.images w

either_held : {A : Type 0} (images : List Image) (b : Bool) (one other : Result (A × ImageList) ImageFailure) → Leaves images one → Leaves images other → Leaves images (cond b one other)
either_held images true one other h k = h
either_held images false one other h k = k

effect_held : (c : ImageCommand) (base : Option (List ℕ)) (list : ImageList) → IsSelectedWithin list → Leaves list.images (image_effect c base list)
unfolding Leaves image_effect
effect_held (command.Fetch name uri args) base list w = asks_held (asked_file base name uri args after.Keep) list w
effect_held (command.Select name uri args) base list w = select_held (image_place uri list.images) uri args (asked_file base name uri args after.Select) list w refl
effect_held (command.Exec name autofree replace None args) base list w = selected_held list.selected replace list w
effect_held (command.Exec name autofree replace (Some uri) args) base list w = execute_held (image_place uri list.images) uri args replace (asked_file base name uri args (after.Run replace)) list w refl
effect_held (command.Imgargs name args) base list w = set_held (image_place name list.images) (join_with_byte 32 args) list w
effect_held (command.Imgfree names) base list w = either_held list.images (are_all_listed names list.images) _ _ (kept_held names list w) tt
effect_held command.Imgstat base list w = same_list list w

pub command_held : (c : ImageCommand) (base : Option (List ℕ)) (list left : ImageList) (outcome : ImageOutcome) → IsSelectedWithin list → image_effect c base list ≡ Ok (outcome, left) → HoldsFilesOf list.images left
command_held c base list left outcome w is = left_held list.images (image_effect c base list) outcome left (effect_held c base list w) is

-- FILES

runs_held : (kind : ImageKind) (image : Image) (replace : Bool) (depth : ℕ) (list : ImageList) → IsSelectedWithin list → Leaves (image ∷ list.images) (runs_kind kind image replace depth list)
unfolding Leaves
runs_held Script image replace depth list w = either_held (image ∷ list.images) (is_too_deep replace depth) _ _ tt (gone_held image list w)
runs_held BzImage image replace depth list w = chosen_held image list w
runs_held Elf image replace depth list w = chosen_held image list w
runs_held Efi image replace depth list w = chosen_held image list w
runs_held Other image replace depth list w = tt

taken_as_held : (a : After) (image : Image) (depth : ℕ) (list : ImageList) → IsSelectedWithin list → Leaves (image ∷ list.images) (arrives_as a image depth list)
unfolding Leaves
taken_as_held after.Keep image depth list w = listed_held image list w
taken_as_held after.Select image depth list w = chosen_held image list w
taken_as_held (after.Run replace) image depth list w = runs_held (kind_of image.body) image replace depth list w

unless_held : (why : Option ImageError) (a : After) (image : Image) (depth : ℕ) (list : ImageList) → IsSelectedWithin list → Leaves (image ∷ list.images) (taken_unless why a image depth list)
unfolding Leaves
unless_held (Some why) a image depth list w = tt
unless_held None a image depth list w = taken_as_held a image depth list w

pub file_held : (asking : Asking) (body uri : List ℕ) (depth : ℕ) (list left : ImageList) (arrival : Arrival) → IsSelectedWithin list → arrived asking body uri depth list ≡ Ok (arrival, left) → HoldsFilesOf (arrived_image asking body uri ∷ list.images) left
unfolding arrived
file_held asking body uri depth list left arrival w is =
    let image = arrived_image asking body uri in
    left_held (image ∷ list.images) (arrived asking body uri depth list) arrival left (unless_held (refusal image list.images) asking.after image depth list w) is

from_held : (o : Option Image) (i : ℕ) (list : ImageList) → Leaves list.images (script_taken_from o i list)
unfolding Leaves
from_held None i list = tt
from_held (Some image) i list = taken_held i list

pub script_held : (i : ℕ) (replace : Bool) (depth : ℕ) (list left : ImageList) (script : ScriptImage) → script_taken i replace depth list ≡ Ok (script, left) → HoldsFilesOf list.images left
unfolding script_taken Leaves
script_held i replace depth list left script is =
    left_held list.images (script_taken i replace depth list) script left (either_held list.images (is_too_deep replace depth) _ _ tt (from_held (slice_get list.images i) i list)) is
