-- What a command on images comes to, fits where it stands: the image that is booted is the selected one, and a script runs within
-- fewer than eight.
use Rattle.std.proofs.Common.{◌≡◌, ℕ, ◌<◌, not, Bool, true, false, cond, length, List, Option, Some, None, Result, Ok, Err, refl, sym, ◌∙◌, ap, subst}
use Rattle.std.specs.Prelude.{nat_lt, slice_get, unwrap_or, IfOk}
use Rattle.std.specs.List.{join_with_byte}
use Rattle.std.proofs.lemmas.Bool.{ltb-true}
use Rattle.nb_terms.specs.declared.cause.Cause.{Cause}
use Rattle.nb_command.specs.Bases.{base_by}
use Rattle.nb_defs.specs.Causes.{is_ok_cause}
use Rattle.nb_image.specs.declared.error.ImageError.{ImageError}
use Rattle.nb_image.specs.declared.image.Image.{Image}
use Rattle.nb_image.specs.declared.kind.ImageKind.{ImageKind}
use Rattle.nb_image.specs.declared.kind.ImageKind.TheVariants.{Script, BzImage, Elf, Efi, Other}
use Rattle.nb_image.specs.Images.{ImageList, image_place, without_image, refusal}
use Rattle.nb_image.specs.Kinds.{kind_of}
use Rattle.nb_imagecmd.specs.declared.arriving.Arrival.TheVariants as arrival
use Rattle.nb_imagecmd.specs.declared.asking.After.{After}
use Rattle.nb_imagecmd.specs.declared.asking.After.TheVariants as after
use Rattle.nb_imagecmd.specs.declared.asking.Asking.{Asking}
use Rattle.nb_imagecmd.specs.declared.commands.ImageCommand.{ImageCommand}
use Rattle.nb_imagecmd.specs.declared.commands.ImageCommand.TheVariants as command
use Rattle.nb_imagecmd.specs.declared.error.ImageFailure.{ImageFailure}
use Rattle.nb_imagecmd.specs.declared.error.ImageFailure.TheVariants.{ManyScripts}
use Rattle.nb_imagecmd.specs.declared.outcome.ImageOutcome.{ImageOutcome}
use Rattle.nb_imagecmd.specs.declared.outcome.ImageOutcome.TheVariants.{Done, Print, Ask, Run, Boot}
use Rattle.nb_imagecmd.specs.declared.outcome.ScriptImage.{ScriptImage}
use Rattle.nb_imagecmd.specs.Arriving.{arrived_image, selected_listed, script_gone, listed_place, runs_kind, arrives_as, taken_unless, arrived}
use Rattle.nb_imagecmd.specs.Asking.{asked_file, target_uri}
use Rattle.nb_imagecmd.specs.CarryingOut.{asking_answer, select_at, execute_at, set_args_at, images_freed, image_effect}
use Rattle.nb_imagecmd.specs.Executing.{ImageAnswer, selected_at, selected_with, executed_kind, executed_image, executed_selected, is_too_deep, script_of, script_taken_from, script_taken}
use Rattle.nb_imagecmd.specs.Freeing.{are_all_listed}
use Rattle.nb_machine.specs.Conclusions.{Conclusion, keeps, tells, fails, boots, runs_script, boots_selected, file_conclusion, conclusion}
use Rattle.nb_machine.specs.Effects.{Effect, says, asks, goes, sleeps, shuts_device, inquires, on_images, on_drives, hooks_disk, unhooks_drive, boots_drive, concludes_at_once, ShownWords, Surroundings, taken_effect, image_outcome_effect, image_answer_effect, images_effect, drives_effect}
use Rattle.nb_machine.proofs.Eithers.{asked_case, drives_either}
use Rattle.nb_laws.specs.CommandsSoFar.{CommandsSoFar, surroundings_in, comes_by}
use Rattle.nb_laws.proofs.Settling.{IsPlain, WordsAre, images_words, other_words, words_are, images_come, plain_comes, drives_words, drives_come}
use Rattle.nb_drivecmd.specs.declared.commands.DriveCommand.{DriveCommand}

abbrev pub Fits : ℕ → Conclusion → Type 0
Fits depth (keeps list) = Unit {0}
Fits depth (tells list lines) = Unit {0}
Fits depth (fails cause) = Unit {0}
Fits depth (boots list kernel) = list.selected ≡ Some kernel
Fits depth (runs_script list image true) = Unit {0}
Fits depth (runs_script list image false) = depth < 8

boots_fit : (depth : ℕ) (list : ImageList) (place : ℕ) → list.selected ≡ Some place → Fits depth (boots_selected list)
boots_fit depth list place is = is ∙ ap (λ x. Some x) (sym (ap (λ x. unwrap_or x 0) is))

shallow : (depth : ℕ) (b : Bool) → nat_lt depth 8 ≡ b → not b ≡ false → depth < 8
shallow depth true is e = ltb-true depth 8 is
shallow depth false is e = absurd (let impossible : true ≡ false = e in cc)

script_fits : (depth : ℕ) (replace : Bool) (list : ImageList) (image : ScriptImage) → is_too_deep replace depth ≡ false → Fits depth (runs_script list image replace)
script_fits depth true list image e = tt
script_fits depth false list image e = shallow depth (nat_lt depth 8) refl e

-- A FILE THAT HAS COME

runs_fit : (kind : ImageKind) (image : Image) (replace : Bool) (depth : ℕ) (list : ImageList) → Fits depth (file_conclusion (runs_kind kind image replace depth list))
runs_fit Script image replace depth list = by (is_too_deep replace depth) refl
  where
    by : (b : Bool) → is_too_deep replace depth ≡ b → Fits depth (file_conclusion (cond b (Err ManyScripts) (Ok (arrival.Run (script_of image) replace, script_gone image list))))
    by true e = tt
    by false e = script_fits depth replace (script_gone image list) (script_of image) e
runs_fit BzImage image replace depth list = boots_fit depth (selected_listed image list) (listed_place image list) refl
runs_fit Elf image replace depth list = boots_fit depth (selected_listed image list) (listed_place image list) refl
runs_fit Efi image replace depth list = boots_fit depth (selected_listed image list) (listed_place image list) refl
runs_fit Other image replace depth list = tt

arrives_fit : (a : After) (image : Image) (depth : ℕ) (list : ImageList) → Fits depth (file_conclusion (arrives_as a image depth list))
arrives_fit after.Keep image depth list = tt
arrives_fit after.Select image depth list = tt
arrives_fit (after.Run replace) image depth list = runs_fit (kind_of image.body) image replace depth list

unless_fit : (why : Option ImageError) (a : After) (image : Image) (depth : ℕ) (list : ImageList) → Fits depth (file_conclusion (taken_unless why a image depth list))
unless_fit (Some why) a image depth list = tt
unless_fit None a image depth list = arrives_fit a image depth list

arrived_fits : (asking : Asking) (body uri : List ℕ) (depth : ℕ) (list : ImageList) → Fits depth (file_conclusion (arrived asking body uri depth list))
unfolding arrived
arrived_fits asking body uri depth list = unless_fit (refusal (arrived_image asking body uri) list.images) asking.after (arrived_image asking body uri) depth list

pub conclusion_fits : (cause : Cause) (asking : Asking) (body : List ℕ) (depth : ℕ) (list : ImageList) → Fits depth (conclusion cause asking body depth list)
conclusion_fits cause asking body depth list = by (is_ok_cause cause)
  where
    by : (b : Bool) → Fits depth (cond b (file_conclusion (arrived asking body (target_uri asking.target) depth list)) (fails cause))
    by true = arrived_fits asking body (target_uri asking.target) depth list
    by false = tt

-- A COMMAND'S WORDS

-- what boots has an image selected
abbrev SelectsSo : ImageOutcome → ImageList → Type 0
SelectsSo Boot list = (place : ℕ) × (list.selected ≡ Some place)
SelectsSo Done list = Unit {0}
SelectsSo (Print lines) list = Unit {0}
SelectsSo (Ask asking) list = Unit {0}
SelectsSo (Run image replace) list = Unit {0}

Selects : ImageAnswer → Type 0
Selects answer = IfOk answer (λ (x : ImageOutcome × ImageList). SelectsSo x.0 x.1)

asks_select : (answer : Result Asking ImageFailure) (list : ImageList) → Selects (asking_answer answer list)
unfolding Selects
asks_select (Ok asking) list = tt
asks_select (Err why) list = tt

kind_selects : (kind : ImageKind) (i : ℕ) (replace : Bool) (list booting : ImageList) → (place : ℕ) → booting.selected ≡ Some place → Selects (executed_kind kind i replace list booting)
unfolding Selects
kind_selects Script i replace list booting place is = tt
kind_selects BzImage i replace list booting place is = (place, is)
kind_selects Elf i replace list booting place is = (place, is)
kind_selects Efi i replace list booting place is = (place, is)
kind_selects Other i replace list booting place is = tt

image_selects : (o : Option Image) (i : ℕ) (replace : Bool) (list booting : ImageList) → (place : ℕ) → booting.selected ≡ Some place → Selects (executed_image o i replace list booting)
unfolding Selects
image_selects None i replace list booting place is = tt
image_selects (Some image) i replace list booting place is = kind_selects (kind_of image.body) i replace list booting place is

selected_selects : (o : Option ℕ) (replace : Bool) (list : ImageList) → list.selected ≡ o → Selects (executed_selected o replace list)
unfolding Selects
selected_selects None replace list is = tt
selected_selects (Some i) replace list is = image_selects (slice_get list.images i) i replace list list i is

select_selects : (o : Option ℕ) (args : List (List ℕ)) (asking : Result Asking ImageFailure) (list : ImageList) → Selects (select_at o args asking list)
unfolding Selects
select_selects (Some i) args asking list = tt
select_selects None args asking list = asks_select asking list

execute_selects : (o : Option ℕ) (args : List (List ℕ)) (replace : Bool) (asking : Result Asking ImageFailure) (list : ImageList) → Selects (execute_at o args replace asking list)
execute_selects (Some i) args replace asking list = image_selects (slice_get list.images i) i replace list (selected_with i args list) i refl
execute_selects None args replace asking list = asks_select asking list

set_selects : (o : Option ℕ) (args : List ℕ) (list : ImageList) → Selects (set_args_at o args list)
unfolding Selects
set_selects None args list = tt
set_selects (Some i) args list = tt

free_selects : (b : Bool) (names : List (List ℕ)) (list : ImageList) → are_all_listed names list.images ≡ b → Selects (images_freed names list)
unfolding Selects
free_selects true names list is = rw is tt
free_selects false names list is = rw is tt

effect_selects : (c : ImageCommand) (base : Option (List ℕ)) (list : ImageList) → Selects (image_effect c base list)
unfolding Selects image_effect
effect_selects (command.Fetch name uri args) base list = asks_select (asked_file base name uri args after.Keep) list
effect_selects (command.Select name uri args) base list = select_selects (image_place uri list.images) args (asked_file base name uri args after.Select) list
effect_selects (command.Exec name autofree replace None args) base list = selected_selects list.selected replace list refl
effect_selects (command.Exec name autofree replace (Some uri) args) base list = execute_selects (image_place uri list.images) args replace (asked_file base name uri args (after.Run replace)) list
effect_selects (command.Imgargs name args) base list = set_selects (image_place name list.images) (join_with_byte 32 args) list
effect_selects (command.Imgfree names) base list = free_selects (are_all_listed names list.images) names list refl
effect_selects command.Imgstat base list = tt

abbrev FitsEffect : ℕ → Effect → Type 0
FitsEffect depth (concludes_at_once c) = Fits depth c
FitsEffect depth (says o) = Unit {0}
FitsEffect depth (asks wanted) = Unit {0}
FitsEffect depth (goes name) = Unit {0}
FitsEffect depth (sleeps seconds) = Unit {0}
FitsEffect depth shuts_device = Unit {0}
FitsEffect depth (inquires q) = Unit {0}
FitsEffect depth (on_images c) = Unit {0}
FitsEffect depth (on_drives c) = Unit {0}
FitsEffect depth (hooks_disk hooking) = Unit {0}
FitsEffect depth (unhooks_drive number cause) = Unit {0}
FitsEffect depth (boots_drive number) = Unit {0}

taken_fits : (depth : ℕ) (i : ℕ) (replace : Bool) (list : ImageList) → FitsEffect depth (taken_effect replace (script_taken i replace depth list))
unfolding script_taken
taken_fits depth i replace list = by (is_too_deep replace depth) refl (slice_get list.images i)
  where
    by : (b : Bool) → is_too_deep replace depth ≡ b → (o : Option Image) → FitsEffect depth (taken_effect replace (cond b (Err ManyScripts) (script_taken_from o i list)))
    by true e o = tt
    by false e None = tt
    by false e (Some image) = script_fits depth replace (without_image i (selected_at i list)) (script_of image) e

images_fit : (x : Surroundings) (c : ImageCommand) → FitsEffect x.depth (images_effect x c)
unfolding Selects
images_fit x c = by (image_effect c (base_by x.base x.table) x.images) (effect_selects c (base_by x.base x.table) x.images)
  where
    by_outcome : (o : ImageOutcome) (list : ImageList) → SelectsSo o list → FitsEffect x.depth (image_outcome_effect x o list)
    by_outcome Done list s = tt
    by_outcome (Print lines) list s = tt
    by_outcome (Ask asking) list s = asked_case (FitsEffect x.depth) (λ o. tt) asking.target x asking (λ server. tt) (λ name by. tt)
    by_outcome (Run image replace) list s = taken_fits x.depth image replace list
    by_outcome Boot list s = boots_fit x.depth list s.0 s.1

    by : (r : ImageAnswer) → Selects r → FitsEffect x.depth (image_answer_effect x r)
    by (Ok answer) s = by_outcome answer.0 answer.1 s
    by (Err why) s = tt

-- a drive command concludes nothing
drives_conclude : (x : Surroundings) (d : DriveCommand) (c : Conclusion) → drives_effect x d ≡ concludes_at_once c → ⊥
drives_conclude x d c = drives_either (λ e. e ≡ concludes_at_once c → ⊥) (λ o is. absurd (cc)) (λ hooking is. absurd (cc)) (λ number cause is. absurd (cc)) (λ number is. absurd (cc)) x d

-- what a command comes to at once
pub comes_fit : (k : ℕ) (m : CommandsSoFar) (shown : ShownWords) (c : Conclusion) → comes_by k m shown ≡ concludes_at_once c → Fits (length m.scripts) c
comes_fit k m shown c e = by (words_are m.table shown.expanded shown.words)
  where
    by : WordsAre m.table shown.expanded shown.words → Fits (length m.scripts) c
    by (images_words x at same stays) = subst (FitsEffect (length m.scripts)) (sym (images_come k m shown x (at k)) ∙ e) (images_fit (surroundings_in k m) x)
    by (drives_words x at same stays) = absurd (drives_conclude (surroundings_in k m) x c (sym (drives_come k m shown x (at k)) ∙ e))
    by (other_words plain) = absurd (subst IsPlain (sym (plain_comes k m shown (plain k)) ∙ e) (plain k))
