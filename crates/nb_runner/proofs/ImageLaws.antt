-- What a command on images leaves: short texts, and what it waits for or runs.
use Rattle.std.proofs.Common.{◌≡◌, ℕ, zero, suc, ◌+◌, ◌<◌, ◌≤◌, Bool, true, false, cond, not, ◌||◌, List, [], ◌∷◌, length, map, All, Option, Some, None, Result, Ok, Err, refl, sym, subst, arith}
use Rattle.std.specs.Prelude.{slice_get, IfOk, nat_lt}
use Rattle.std.specs.List.{enumerate_from, filter, join_with_byte}
use Rattle.std.proofs.lemmas.Bool.{ltb-true, ltb-false}
use Rattle.std.proofs.lemmas.List.Elements.{All-nil, All-cons, All-head, All-tail}
use Rattle.std.proofs.lemmas.Option.{slice_get_within}
use Rattle.nb_image.specs.declared.image.Image.{Image}
use Rattle.nb_image.specs.declared.kind.ImageKind.{ImageKind}
use Rattle.nb_image.specs.declared.kind.ImageKind.TheVariants.{Script, BzImage, Elf, Efi, Other}
use Rattle.nb_image.specs.Images.{ImageList, image_place, with_args_at}
use Rattle.nb_image.specs.Kinds.{kind_of}
use Rattle.nb_imagecmd.specs.declared.asking.After.{After}
use Rattle.nb_imagecmd.specs.declared.asking.After.TheVariants as after
use Rattle.nb_imagecmd.specs.declared.asking.Asking.{Asking}
use Rattle.nb_imagecmd.specs.declared.commands.ImageCommand.{ImageCommand}
use Rattle.nb_imagecmd.specs.declared.commands.ImageCommand.TheVariants as command
use Rattle.nb_imagecmd.specs.declared.error.ImageFailure.{ImageFailure}
use Rattle.nb_imagecmd.specs.declared.error.ImageFailure.TheVariants.{ManyScripts}
use Rattle.nb_imagecmd.specs.declared.outcome.ImageOutcome.{ImageOutcome}
use Rattle.nb_imagecmd.specs.declared.outcome.ImageOutcome.TheVariants as outcome
use Rattle.nb_imagecmd.specs.declared.outcome.ScriptImage.{ScriptImage}
use Rattle.nb_imagecmd.specs.Asking.{MayBeFetched, asked_resolved, asked_file, asked_name, asking_of, has_long_path, is_file}
use Rattle.nb_imagecmd.specs.CarryingOut.{IfAsks, asking_answer, select_at, execute_at, set_args_at, image_effect}
use Rattle.nb_imagecmd.specs.Executing.{ImageAnswer, selected_with, executed_kind, executed_image, executed_selected, is_too_deep, script_taken_from, script_taken}
use Rattle.nb_imagecmd.specs.Freeing.{is_kept, are_all_listed}
use Rattle.nb_imagecmd.specs.Promises.{IsShortName, IsShortLine}
use Rattle.nb_imagecmd.specs.Stat.{is_at, stat_line, stat_lines}
use Rattle.nb_imagecmd.proofs.ShortLemmas.{command_names_short, line_short}
use Rattle.nb_uri.specs.declared.target.UriTarget.{UriTarget}
use Rattle.nb_uri.specs.declared.target.UriTarget.TheVariants.{Tftp, Http, Iscsi}
use Rattle.nb_uri.specs.declared.target.UriError.{UriError}
use Rattle.nb_uri.specs.Resolutions.{resolution}
use Rattle.nb_runner.specs.Handings.{IsShortImage, AreShortImages}
use Rattle.nb_runner.specs.ImageDeeds.{FitsOutcome, HasShortArgs, IsUnmoved, MayFollow}
use Rattle.nb_runner.proofs.HandingLemmas.{all_remove}

-- LISTS

args_short : (images : List Image) (i : ℕ) (args : List ℕ) → length args ≤ 4160 → AreShortImages images → AreShortImages (with_args_at i args images)
args_short [] zero args few h = tt
args_short [] (suc i) args few h = tt
args_short (x ∷ xs) zero args few h = (record { name = h.0.name; body = h.0.body; args = omega (arith, few) }, h.1)
args_short (x ∷ xs) (suc i) args few h = (h.0, args_short xs i args few h.1)

filter_short : (test : Image → Bool) (images : List Image) → AreShortImages images → AreShortImages (filter test images)
filter_short test [] h = tt
filter_short test (x ∷ xs) h = by (test x) (filter_short test xs h.1)
  where
    by : (b : Bool) → AreShortImages (filter test xs) → AreShortImages (cond b (x ∷ filter test xs) (filter test xs))
    by true rest = (h.0, rest)
    by false rest = rest

-- WHAT AN OUTCOME LEAVES

-- an outcome that waits or runs a script leaves the list; one that boots leaves an image selected; and all texts stay short
abbrev pub LeavesWell : ImageList → ImageOutcome → ImageList → Type 0
LeavesWell before outcome.Done left = AreShortImages left.images
LeavesWell before (outcome.Print lines) left = (left ≡ before) × (lines ≡ stat_lines before)
LeavesWell before (outcome.Ask asking) left = (left ≡ before) × (length asking.args ≤ 4160)
LeavesWell before (outcome.Run i replace) left = (left ≡ before) × (i < length left.images)
LeavesWell before outcome.Boot left = AreShortImages left.images × (i : ℕ) × (left.selected ≡ Some i)

abbrev AnswersWell : ImageList → ImageAnswer → Type 0
AnswersWell before answer = IfOk answer (λ x. LeavesWell before x.0 x.1)

-- a file that is asked for has the command's arguments
abbrev HasArgs : Result Asking ImageFailure → Type 0
HasArgs answer = IfOk answer (λ (asking : Asking). length asking.args ≤ 4160)

asked_args : (base name : Option (List ℕ)) (uri : List ℕ) (args : List (List ℕ)) (a : After) → length (join_with_byte 32 args) ≤ 4160 → HasArgs (asked_file base name uri args a)
asked_args base name uri args a few = by (resolution base uri)
  where
    unless : (no long : Bool) (target : UriTarget) (why other : ImageFailure) → HasArgs (cond no (Err why) (cond long (Err other) (Ok (asking_of target (asked_name name target) args a))))
    unless true long target why other = tt
    unless false true target why other = tt
    unless false false target why other = few

    by : (r : Result UriTarget UriError) → HasArgs (asked_resolved r name args a)
    by (Ok target) = unless (not (is_file target)) (has_long_path target || nat_lt 255 (length (asked_name name target))) target _ _
    by (Err why) = tt

asks_well : (answer : Result Asking ImageFailure) (list : ImageList) → HasArgs answer → AnswersWell list (asking_answer answer list)
asks_well (Ok asking) list h = (refl, h)
asks_well (Err why) list h = tt

kind_well : (kind : ImageKind) (i : ℕ) (replace : Bool) (list booting : ImageList) → i < length list.images → AreShortImages booting.images → booting.selected ≡ Some i → AnswersWell list (executed_kind kind i replace list booting)
kind_well Script i replace list booting within short selected = (refl, within)
kind_well BzImage i replace list booting within short selected = (short, i, selected)
kind_well Elf i replace list booting within short selected = (short, i, selected)
kind_well Efi i replace list booting within short selected = (short, i, selected)
kind_well Other i replace list booting within short selected = tt

image_well : (o : Option Image) (i : ℕ) (replace : Bool) (list booting : ImageList) → slice_get list.images i ≡ o → AreShortImages booting.images → booting.selected ≡ Some i → AnswersWell list (executed_image o i replace list booting)
image_well None i replace list booting at short selected = tt
image_well (Some image) i replace list booting at short selected = kind_well (kind_of image.body) i replace list booting (slice_get_within list.images i image at) short selected

selected_well : (o : Option ℕ) (replace : Bool) (list : ImageList) → list.selected ≡ o → AreShortImages list.images → AnswersWell list (executed_selected o replace list)
selected_well None replace list is short = tt
selected_well (Some i) replace list is short = image_well (slice_get list.images i) i replace list list refl short is

select_well : (o : Option ℕ) (args : List (List ℕ)) (asking : Result Asking ImageFailure) (list : ImageList) → length (join_with_byte 32 args) ≤ 4160 → HasArgs asking → AreShortImages list.images → AnswersWell list (select_at o args asking list)
select_well (Some i) args asking list few h short = args_short list.images i (join_with_byte 32 args) few short
select_well None args asking list few h short = asks_well asking list h

execute_well : (o : Option ℕ) (args : List (List ℕ)) (replace : Bool) (asking : Result Asking ImageFailure) (list : ImageList) → length (join_with_byte 32 args) ≤ 4160 → HasArgs asking → AreShortImages list.images → AnswersWell list (execute_at o args replace asking list)
execute_well (Some i) args replace asking list few h short =
    image_well (slice_get list.images i) i replace list (selected_with i args list) refl (args_short list.images i (join_with_byte 32 args) few short) refl
execute_well None args replace asking list few h short = asks_well asking list h

set_well : (o : Option ℕ) (args : List ℕ) (list : ImageList) → length args ≤ 4160 → AreShortImages list.images → AnswersWell list (set_args_at o args list)
set_well None args list few short = tt
set_well (Some i) args list few short = args_short list.images i args few short

either_well : (list : ImageList) (b : Bool) (one other : ImageAnswer) → AnswersWell list one → AnswersWell list other → AnswersWell list (cond b one other)
either_well list true one other h k = h
either_well list false one other h k = k

effect_well : (c : ImageCommand) (base : Option (List ℕ)) (list : ImageList) → HasShortArgs c → AreShortImages list.images → AnswersWell list (image_effect c base list)
unfolding image_effect
effect_well (command.Fetch name uri args) base list few short = asks_well (asked_file base name uri args after.Keep) list (asked_args base name uri args after.Keep few)
effect_well (command.Select name uri args) base list few short =
    select_well (image_place uri list.images) args (asked_file base name uri args after.Select) list few (asked_args base name uri args after.Select few) short
effect_well (command.Exec name autofree replace None args) base list few short = selected_well list.selected replace list refl short
effect_well (command.Exec name autofree replace (Some uri) args) base list few short =
    execute_well (image_place uri list.images) args replace (asked_file base name uri args (after.Run replace)) list few (asked_args base name uri args (after.Run replace) few) short
effect_well (command.Imgargs name args) base list few short = set_well (image_place name list.images) (join_with_byte 32 args) list few short
effect_well (command.Imgfree names) base list few short = either_well list (are_all_listed names list.images) _ _ (filter_short (is_kept names) list.images short) tt
effect_well command.Imgstat base list few short = (refl, refl)

-- what a command on images leaves
pub leaves_well : (c : ImageCommand) (base : Option (List ℕ)) (list left : ImageList) (o : ImageOutcome) → HasShortArgs c → AreShortImages list.images → image_effect c base list ≡ Ok (o, left) → LeavesWell list o left
leaves_well c base list left o few short is = subst (λ (r : ImageAnswer). AnswersWell list r) is (effect_well c base list few short)

-- LINES

stat_short : (selected : Option ℕ) (n : ℕ) (images : List Image) → AreShortImages images → All IsShortName images → All IsShortLine (map (stat_line selected) (enumerate_from n images))
stat_short selected n [] short h = All-nil IsShortLine
stat_short selected n (x ∷ xs) short h =
    All-cons IsShortLine (stat_line selected (n, x)) (map (stat_line selected) (enumerate_from (n + 1) xs)) (line_short x.name (length x.body) (is_at selected n) (All-head IsShortName x xs h) (omega (arith, short.0.body)))
    (stat_short selected (n + 1) xs short.1 (All-tail IsShortName x xs h))

-- WHAT FOLLOWS OF AN OUTCOME

-- it fits the list, where what it asks for may be fetched
pub fits_well : (before left : ImageList) (o : ImageOutcome) → MayFollow before → IfAsks o MayBeFetched → LeavesWell before o left → FitsOutcome o left
fits_well before left outcome.Done may asks h = tt
fits_well before left (outcome.Print lines) may asks h = subst (λ (ls : List (List ℕ)). All IsShortLine ls) (sym h.1) (stat_short before.selected 0 before.images may.short may.named)
fits_well before left (outcome.Ask asking) may asks h = record { fetched = asks; args = h.1 }
fits_well before left (outcome.Run i replace) may asks h = h.1
fits_well before left outcome.Boot may asks h = (h.1, h.2)

short_well : (before left : ImageList) (o : ImageOutcome) → AreShortImages before.images → LeavesWell before o left → AreShortImages left.images
short_well before left outcome.Done short h = h
short_well before left (outcome.Print lines) short h = subst (λ (l : ImageList). AreShortImages l.images) (sym h.0) short
short_well before left (outcome.Ask asking) short h = subst (λ (l : ImageList). AreShortImages l.images) (sym h.0) short
short_well before left (outcome.Run i replace) short h = subst (λ (l : ImageList). AreShortImages l.images) (sym h.0) short
short_well before left outcome.Boot short h = h.0

-- all texts stay short
pub follows_well : (c : ImageCommand) (base : Option (List ℕ)) (before left : ImageList) (o : ImageOutcome) → HasShortArgs c → MayFollow before → image_effect c base before ≡ Ok (o, left) → MayFollow left
follows_well c base before left o few may is = record {
  named = command_names_short c base before left o may.named is;
  short = short_well before left o may.short (leaves_well c base before left o few may.short is);
}

pub unmoved_well : (before left : ImageList) (o : ImageOutcome) → LeavesWell before o left → IsUnmoved o before left
unmoved_well before left outcome.Done h = tt
unmoved_well before left (outcome.Print lines) h = tt
unmoved_well before left (outcome.Ask asking) h = h.0
unmoved_well before left (outcome.Run i replace) h = h.0
unmoved_well before left outcome.Boot h = tt

-- A SCRIPT THAT LEAVES

-- within so many a script runs that takes no one's place
pub deep_enough : (replace : Bool) (depth : ℕ) → is_too_deep replace depth ≡ false → replace ≡ false → depth < 8
deep_enough true depth e f = absurd (cc)
deep_enough false depth e f = ltb-true depth 8 (not_not (nat_lt depth 8) e)
  where
    not_not : (b : Bool) → not b ≡ false → b ≡ true
    not_not true e = refl
    not_not false e = absurd (cc)

pub record TakesWell (replace : Bool) (depth : ℕ) (left : ImageList) : Type 0 where
  pub shallow : replace ≡ false → depth < 8
  pub short : AreShortImages left.images

abbrev TakenWell : Bool → ℕ → Result (ScriptImage × ImageList) ImageFailure → Type 0
TakenWell replace depth answer = IfOk answer (λ (x : ScriptImage × ImageList). TakesWell replace depth x.1)

script_well : (i : ℕ) (replace : Bool) (depth : ℕ) (list : ImageList) → AreShortImages list.images → TakenWell replace depth (script_taken i replace depth list)
unfolding script_taken
script_well i replace depth list short = by (is_too_deep replace depth) refl
  where
    from : is_too_deep replace depth ≡ false → (o : Option Image) → TakenWell replace depth (script_taken_from o i list)
    from e None = tt
    from e (Some image) = record { shallow = deep_enough replace depth e; short = all_remove IsShortImage list.images i short }

    by : (b : Bool) → is_too_deep replace depth ≡ b → TakenWell replace depth (cond b (Err ManyScripts) (script_taken_from (slice_get list.images i) i list))
    by true e = tt
    by false e = from e (slice_get list.images i)

pub takes_well : (i : ℕ) (replace : Bool) (depth : ℕ) (list left : ImageList) (script : ScriptImage) → AreShortImages list.images → script_taken i replace depth list ≡ Ok (script, left) → TakesWell replace depth left
takes_well i replace depth list left script short is = subst (λ (r : Result (ScriptImage × ImageList) ImageFailure). TakenWell replace depth r) is (script_well i replace depth list short)
