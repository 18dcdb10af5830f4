-- Names and lines are as long as records take.
use Rattle.std.proofs.Common.{◌≡◌, ℕ, zero, suc, ◌+◌, ◌≤◌, Bool, true, false, cond, List, [], ◌∷◌, ◌++◌, length, take, drop, codes, decimal, Option, Some, None, Result, Ok, Err, All, subst, arith, length-append}
use Rattle.std.specs.Prelude.{slice_get, IfOk, map}
use Rattle.std.specs.List.{enumerate_from, remove, join_with_byte}
use Rattle.std.proofs.lemmas.Fmt.{length-decimal-le}
use Rattle.std.proofs.lemmas.List.Elements.{All-nil, All-cons, All-head, All-tail, All-push, All-set, All-append, All-take, All-drop, All-filter}
use Rattle.std.proofs.lemmas.List.Sums.{sum_by-cons}
use Rattle.nb_image.specs.declared.error.ImageError.{ImageError}
use Rattle.nb_image.specs.declared.image.Image.{Image}
use Rattle.nb_image.specs.declared.kind.ImageKind.{ImageKind}
use Rattle.nb_image.specs.declared.kind.ImageKind.TheVariants.{Script, BzImage, Elf, Efi, Other}
use Rattle.nb_image.specs.Images.{ImageList, image_place, put_image, with_args_at, body_len, total_len, refusal}
use Rattle.nb_image.specs.Kinds.{kind_of}
use Rattle.nb_imagecmd.specs.declared.arriving.Arrival.{Arrival}
use Rattle.nb_imagecmd.specs.declared.asking.After.{After}
use Rattle.nb_imagecmd.specs.declared.asking.After.TheVariants as after
use Rattle.nb_imagecmd.specs.declared.asking.Asking.{Asking}
use Rattle.nb_imagecmd.specs.declared.commands.ImageCommand.{ImageCommand}
use Rattle.nb_imagecmd.specs.declared.commands.ImageCommand.TheVariants as command
use Rattle.nb_imagecmd.specs.declared.error.ImageFailure.{ImageFailure}
use Rattle.nb_imagecmd.specs.declared.outcome.ImageOutcome.{ImageOutcome}
use Rattle.nb_imagecmd.specs.declared.outcome.ScriptImage.{ScriptImage}
use Rattle.nb_imagecmd.specs.Arriving.{arrived_image, listed_place, selected_listed, runs_kind, arrives_as, taken_unless, arrived}
use Rattle.nb_imagecmd.specs.Asking.{asked_file}
use Rattle.nb_imagecmd.specs.CarryingOut.{asking_answer, select_at, execute_at, set_args_at, image_effect}
use Rattle.nb_imagecmd.specs.Executing.{selected_with, executed_kind, executed_image, executed_selected, is_too_deep, script_taken_from, script_taken}
use Rattle.nb_imagecmd.specs.Freeing.{is_kept, are_all_listed}
use Rattle.nb_imagecmd.specs.Promises.{IsShortName, HasShortNames, IsShortLine}
use Rattle.nb_imagecmd.specs.Stat.{is_at, selected_mark, line_text, stat_line, stat_lines}

-- LISTS

args_short : (images : List Image) (i : ℕ) (args : List ℕ) → All IsShortName images → All IsShortName (with_args_at i args images)
args_short [] i args h = h
args_short (x ∷ xs) zero args h = All-cons IsShortName _ xs (All-head IsShortName x xs h) (All-tail IsShortName x xs h)
args_short (x ∷ xs) (suc i) args h = All-cons IsShortName x _ (All-head IsShortName x xs h) (args_short xs i args (All-tail IsShortName x xs h))

put_short : (o : Option ℕ) (image : Image) (images : List Image) → IsShortName image → All IsShortName images → All IsShortName (put_image o image images)
put_short None image images short h = All-push IsShortName images image h short
put_short (Some i) image images short h = All-set IsShortName images i image short h

removed_short : (images : List Image) (i : ℕ) → All IsShortName images → All IsShortName (remove images i)
removed_short images i h = All-append IsShortName (take i images) (drop (suc i) images) (All-take IsShortName i images h) (All-drop IsShortName (suc i) images h)

-- COMMANDS

-- the list that an answer leaves
Leaves : {A : Type 0} → Result (A × ImageList) ImageFailure → Type 0
Leaves {A} answer = IfOk answer (λ (x : A × ImageList). HasShortNames x.1)

left_short : {A : Type 0} (answer : Result (A × ImageList) ImageFailure) (first : A) (left : ImageList) → Leaves answer → answer ≡ Ok (first, left) → HasShortNames left
unfolding Leaves
left_short {A} answer first left h is = subst (λ (r : Result (A × ImageList) ImageFailure). IfOk r (λ (x : A × ImageList). HasShortNames x.1)) is h

asks_short : (answer : Result Asking ImageFailure) (list : ImageList) → HasShortNames list → Leaves (asking_answer answer list)
unfolding Leaves
asks_short (Ok asking) list h = h
asks_short (Err why) list h = tt

kind_short : (kind : ImageKind) (i : ℕ) (replace : Bool) (list booting : ImageList) → HasShortNames list → HasShortNames booting → Leaves (executed_kind kind i replace list booting)
unfolding Leaves
kind_short Script i replace list booting h k = h
kind_short BzImage i replace list booting h k = k
kind_short Elf i replace list booting h k = k
kind_short Efi i replace list booting h k = k
kind_short Other i replace list booting h k = tt

image_short : (o : Option Image) (i : ℕ) (replace : Bool) (list booting : ImageList) → HasShortNames list → HasShortNames booting → Leaves (executed_image o i replace list booting)
unfolding Leaves
image_short None i replace list booting h k = tt
image_short (Some image) i replace list booting h k = kind_short (kind_of image.body) i replace list booting h k

selected_short : (o : Option ℕ) (replace : Bool) (list : ImageList) → HasShortNames list → Leaves (executed_selected o replace list)
unfolding Leaves
selected_short None replace list h = tt
selected_short (Some i) replace list h = image_short (slice_get list.images i) i replace list list h h

select_short : (o : Option ℕ) (args : List (List ℕ)) (asking : Result Asking ImageFailure) (list : ImageList) → HasShortNames list → Leaves (select_at o args asking list)
unfolding Leaves
select_short (Some i) args asking list h = args_short list.images i (join_with_byte 32 args) h
select_short None args asking list h = asks_short asking list h

execute_short : (o : Option ℕ) (args : List (List ℕ)) (replace : Bool) (asking : Result Asking ImageFailure) (list : ImageList) → HasShortNames list → Leaves (execute_at o args replace asking list)
unfolding Leaves
execute_short (Some i) args replace asking list h = image_short (slice_get list.images i) i replace list (selected_with i args list) h (args_short list.images i (join_with_byte 32 args) h)
execute_short None args replace asking list h = asks_short asking list h

set_short : (o : Option ℕ) (args : List ℕ) (list : ImageList) → HasShortNames list → Leaves (set_args_at o args list)
unfolding Leaves
set_short None args list h = tt
set_short (Some i) args list h = args_short list.images i args h

either_short : {A : Type 0} (b : Bool) (one other : Result (A × ImageList) ImageFailure) → Leaves one → Leaves other → Leaves (cond b one other)
either_short true one other h k = h
either_short false one other h k = k

effect_short : (c : ImageCommand) (base : Option (List ℕ)) (list : ImageList) → HasShortNames list → Leaves (image_effect c base list)
unfolding Leaves image_effect
effect_short (command.Fetch name uri args) base list h = asks_short (asked_file base name uri args after.Keep) list h
effect_short (command.Select name uri args) base list h = select_short (image_place uri list.images) args (asked_file base name uri args after.Select) list h
effect_short (command.Exec name autofree replace None args) base list h = selected_short list.selected replace list h
effect_short (command.Exec name autofree replace (Some uri) args) base list h = execute_short (image_place uri list.images) args replace (asked_file base name uri args (after.Run replace)) list h
effect_short (command.Imgargs name args) base list h = set_short (image_place name list.images) (join_with_byte 32 args) list h
effect_short (command.Imgfree names) base list h = either_short (are_all_listed names list.images) _ _ (All-filter (is_kept names) IsShortName list.images h) tt
effect_short command.Imgstat base list h = h

pub command_names_short : (c : ImageCommand) (base : Option (List ℕ)) (list left : ImageList) (outcome : ImageOutcome) → HasShortNames list → image_effect c base list ≡ Ok (outcome, left) → HasShortNames left
command_names_short c base list left outcome h is = left_short (image_effect c base list) outcome left (effect_short c base list h) is

-- FILES

in_short : (image : Image) (list : ImageList) → IsShortName image → HasShortNames list → HasShortNames (selected_listed image list)
in_short image list short h = put_short (image_place image.name list.images) image list.images short h

runs_short : (kind : ImageKind) (image : Image) (replace : Bool) (depth : ℕ) (list : ImageList) → IsShortName image → HasShortNames list → Leaves (runs_kind kind image replace depth list)
unfolding Leaves
runs_short Script image replace depth list short h = either_short (is_too_deep replace depth) _ _ tt (removed_short _ (listed_place image list) (in_short image list short h))
runs_short BzImage image replace depth list short h = in_short image list short h
runs_short Elf image replace depth list short h = in_short image list short h
runs_short Efi image replace depth list short h = in_short image list short h
runs_short Other image replace depth list short h = tt

taken_short : (a : After) (image : Image) (depth : ℕ) (list : ImageList) → IsShortName image → HasShortNames list → Leaves (arrives_as a image depth list)
unfolding Leaves
taken_short after.Keep image depth list short h = in_short image list short h
taken_short after.Select image depth list short h = in_short image list short h
taken_short (after.Run replace) image depth list short h = runs_short (kind_of image.body) image replace depth list short h

unless_short : (why : Option ImageError) (a : After) (image : Image) (depth : ℕ) (list : ImageList) → IsShortName image → HasShortNames list → Leaves (taken_unless why a image depth list)
unfolding Leaves
unless_short (Some why) a image depth list short h = tt
unless_short None a image depth list short h = taken_short a image depth list short h

pub file_names_short : (asking : Asking) (body uri : List ℕ) (depth : ℕ) (list left : ImageList) (arrival : Arrival) → length asking.name ≤ 255 → HasShortNames list → arrived asking body uri depth list ≡ Ok (arrival, left) → HasShortNames left
unfolding arrived
file_names_short asking body uri depth list left arrival short h is =
    let image = arrived_image asking body uri in
    left_short (arrived asking body uri depth list) arrival left (unless_short (refusal image list.images) asking.after image depth list short h) is

from_short : (o : Option Image) (i : ℕ) (list : ImageList) → HasShortNames list → Leaves (script_taken_from o i list)
unfolding Leaves
from_short None i list h = tt
from_short (Some image) i list h = removed_short list.images i h

pub script_names_short : (i : ℕ) (replace : Bool) (depth : ℕ) (list left : ImageList) (script : ScriptImage) → HasShortNames list → script_taken i replace depth list ≡ Ok (script, left) → HasShortNames left
unfolding script_taken Leaves
script_names_short i replace depth list left script h is =
    left_short (script_taken i replace depth list) script left (either_short (is_too_deep replace depth) _ _ tt (from_short (slice_get list.images i) i list h)) is

-- LINES

mark_short : (b : Bool) → length (selected_mark b) ≤ 11
mark_short true = omega arith
mark_short false = omega arith

pub line_short : (name : List ℕ) (size : ℕ) (b : Bool) → length name ≤ 255 → size ≤ 536870912 → IsShortLine (line_text name size b)
line_short name size b named few =
    let digits : length (decimal size) ≤ 9 = length-decimal-le 9 size (omega arith) (omega arith) (omega arith) in
    let end = selected_mark b ++ codes "\n" in
    let bytes = codes " bytes" ++ end in
    let sized = decimal size ++ bytes in
    let behind = codes " : " ++ sized in
    omega (arith, named, digits, mark_short b, length-append name behind, length-append (codes " : ") sized, length-append (decimal size) bytes, length-append (codes " bytes") end, length-append (selected_mark b) (codes "\n"))

lines_short : (selected : Option ℕ) (n : ℕ) (images : List Image) → total_len images ≤ 536870912 → All IsShortName images → All IsShortLine (map (stat_line selected) (enumerate_from n images))
lines_short selected n [] few h = All-nil IsShortLine
lines_short selected n (x ∷ xs) few h =
    let sum = sum_by-cons body_len x xs in
    let rest : total_len xs ≤ 536870912 = omega (arith, sum) in
    let one : length x.body ≤ 536870912 = omega (arith, sum) in
    All-cons IsShortLine (stat_line selected (n, x)) (map (stat_line selected) (enumerate_from (n + 1) xs)) (line_short x.name (length x.body) (is_at selected n) (All-head IsShortName x xs h) one) (lines_short selected (n + 1) xs rest (All-tail IsShortName x xs h))

pub stat_lines_short : (list : ImageList) → total_len list.images ≤ 536870912 → HasShortNames list → All IsShortLine (stat_lines list)
stat_lines_short list few h = lines_short list.selected 0 list.images few h
