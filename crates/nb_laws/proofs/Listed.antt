-- The images that a command leaves: each has the name, the bytes and the URI of one before, or is the one that has come.
use Rattle.std.proofs.Common.{◌≡◌, ℕ, zero, suc, Bool, List, [], ◌∷◌, Some, Result, Ok, Err, All, refl, sym, ◌∙◌, subst, ap}
use Rattle.std.specs.Prelude.{slice_get}
use Rattle.std.specs.List.{AllByRecursion}
use Rattle.std.proofs.lemmas.List.Elements.{All-head, All-tail}
use Rattle.std.proofs.lemmas.Option.{none-some, same_Some}
use Rattle.nb_command.specs.Bases.{base_by}
use Rattle.nb_defs.specs.Causes.{ok}
use Rattle.nb_image.specs.declared.image.Image.{Image}
use Rattle.nb_image.specs.Images.{ImageList}
use Rattle.nb_imagecmd.specs.declared.arriving.Arrival.TheVariants as arrival
use Rattle.nb_imagecmd.specs.declared.asking.Asking.{Asking}
use Rattle.nb_imagecmd.specs.declared.commands.ImageCommand.{ImageCommand}
use Rattle.nb_imagecmd.specs.declared.error.ImageFailure.{ImageFailure}
use Rattle.nb_imagecmd.specs.declared.outcome.ImageOutcome.{ImageOutcome}
use Rattle.nb_imagecmd.specs.declared.outcome.ImageOutcome.TheVariants.{Done, Print, Ask, Run, Boot}
use Rattle.nb_imagecmd.specs.declared.outcome.ScriptImage.{ScriptImage}
use Rattle.nb_imagecmd.specs.Arriving.{ArrivalAnswer, arrived_image, arrived}
use Rattle.nb_imagecmd.specs.Asking.{target_uri}
use Rattle.nb_imagecmd.specs.CarryingOut.{image_effect}
use Rattle.nb_imagecmd.specs.Executing.{ImageAnswer, script_taken}
use Rattle.nb_imagecmd.specs.Promises.{IsFileAmong, IsSelectedWithin, HoldsFilesOf}
use Rattle.nb_imagecmd.proofs.HeldLemmas.{command_held, file_held, script_held}
use Rattle.nb_machine.specs.Conclusions.{file_conclusion, conclusion}
use Rattle.nb_machine.specs.Effects.{Effect, Surroundings, taken_effect, image_outcome_effect, image_answer_effect, images_effect, ShownWords, drives_effect}
use Rattle.nb_machine.proofs.Eithers.{drives_either}
use Rattle.nb_laws.specs.CommandsSoFar.{CommandsSoFar, shown_effect, surroundings_in, comes_by, concluded_in, list_after, images_after}
use Rattle.nb_laws.proofs.Settling.{plain_concludes, asked_concludes, WordsAre, images_words, other_words, words_are, images_come, plain_comes, drives_words, drives_come}
use Rattle.nb_drivecmd.specs.declared.commands.DriveCommand.{DriveCommand}

-- what is so of an image is so of one that has other arguments
abbrev pub IsSteady : (Image → Type 0) → Type 0
IsSteady P = (image other : Image) → image.name ≡ other.name → image.body ≡ other.body → image.uri ≡ other.uri → P other → P image

-- it is so of all images of a list, and the selected one is among them
pub record AreAll (P : Image → Type 0) (list : ImageList) : Type 0 where
  pub images : AllByRecursion P list.images
  pub within : IsSelectedWithin list

at_place : (P : Image → Type 0) (images : List Image) (place : ℕ) (image : Image) → AllByRecursion P images → slice_get images place ≡ Some image → P image
at_place P [] place image h is = absurd (none-some image is)
at_place P (x ∷ xs) zero image h is = subst P (same_Some x image is) h.0
at_place P (x ∷ xs) (suc place) image h is = at_place P xs place image h.1 is

one_among : (P : Image → Type 0) → IsSteady P → (images : List Image) (image : Image) → AllByRecursion P images → IsFileAmong images image → P image
one_among P steady images image h a = steady image a.other a.name a.body a.uri (at_place P images a.place a.other h a.at)

all_among : (P : Image → Type 0) → IsSteady P → (images xs : List Image) → AllByRecursion P images → All (IsFileAmong images) xs → AllByRecursion P xs
all_among P steady images [] h a = tt
all_among P steady images (x ∷ xs) h a = (one_among P steady images x h (All-head (IsFileAmong images) x xs a), all_among P steady images xs h (All-tail (IsFileAmong images) x xs a))

held : (P : Image → Type 0) → IsSteady P → (images : List Image) (list : ImageList) → AllByRecursion P images → HoldsFilesOf images list → AreAll P list
held P steady images list h k = record { images = all_among P steady images list.images h k.files; within = k.within }

-- of a file that has come
pub arrived_concludes : (P : Image → Type 0) → IsSteady P → (asking : Asking) (body : List ℕ) (depth : ℕ) (list : ImageList) → P (arrived_image asking body (target_uri asking.target)) → AreAll P list → AreAll P (list_after (conclusion ok asking body depth list) list)
arrived_concludes P steady asking body depth list q h = by (arrived asking body (target_uri asking.target) depth list) refl
  where
    left : {a : _} (after : ImageList) → arrived asking body (target_uri asking.target) depth list ≡ Ok (a, after) → AreAll P after
    left {a} after is =
        let uri = target_uri asking.target in
        held P steady (arrived_image asking body uri ∷ list.images) after (q, h.images) (file_held asking body uri depth list after a h.within is)

    by : (r : ArrivalAnswer) → arrived asking body (target_uri asking.target) depth list ≡ r → AreAll P (list_after (file_conclusion r) list)
    by (Ok (arrival.Kept, after)) is = left after is
    by (Ok (arrival.Run script replace, after)) is = left after is
    by (Ok (arrival.Boot, after)) is = left after is
    by (Err why) is = h

-- of a command on images
images_conclude : (P : Image → Type 0) → IsSteady P → (x : Surroundings) (c : ImageCommand) → AreAll P x.images → AreAll P (images_after (concluded_in (images_effect x c)) x.images)
images_conclude P steady x c h = by (image_effect c (base_by x.base x.table) x.images) refl
  where
    Q : Effect → Type 0
    Q e = AreAll P (images_after (concluded_in e) x.images)

    by_taken : (i : ℕ) (replace : Bool) (list : ImageList) (r : Result (ScriptImage × ImageList) ImageFailure) → script_taken i replace x.depth list ≡ r → AreAll P list → Q (taken_effect replace r)
    by_taken i replace list (Ok (script, after)) is k = held P steady list.images after k.images (script_held i replace x.depth list after script is)
    by_taken i replace list (Err why) is k = h

    by_outcome : (o : ImageOutcome) (list : ImageList) → AreAll P list → Q (image_outcome_effect x o list)
    by_outcome Done list k = k
    by_outcome (Print lines) list k = k
    by_outcome (Ask asking) list k = subst (λ z. AreAll P (images_after z x.images)) (sym (asked_concludes asking.target x asking)) h
    by_outcome (Run image replace) list k = by_taken image replace list (script_taken image replace x.depth list) refl k
    by_outcome Boot list k = k

    by : (r : ImageAnswer) → image_effect c (base_by x.base x.table) x.images ≡ r → Q (image_answer_effect x r)
    by (Ok (o, list)) is = by_outcome o list (held P steady x.images.images list h.images (command_held c (base_by x.base x.table) x.images list o h.within is))
    by (Err why) is = h

-- a drive command leaves the images
drives_conclude : (P : Image → Type 0) (k : ℕ) (m : CommandsSoFar) (c : DriveCommand) → AreAll P m.images → AreAll P (images_after (concluded_in (drives_effect (surroundings_in k m) c)) m.images)
drives_conclude P k m c h = drives_either (λ e. AreAll P (images_after (concluded_in e) m.images)) (λ o. h) (λ hooking. h) (λ number cause. h) (λ number. h) (surroundings_in k m) c

-- and of a command's words
pub comes_concludes : (P : Image → Type 0) → IsSteady P → (k : ℕ) (m : CommandsSoFar) (shown : ShownWords) → AreAll P m.images → AreAll P (images_after (concluded_in (comes_by k m shown)) m.images)
comes_concludes P steady k m shown h = by (words_are m.table shown.expanded shown.words)
  where
    by : WordsAre m.table shown.expanded shown.words → AreAll P (images_after (concluded_in (comes_by k m shown)) m.images)
    by (images_words c at keeps stays) = subst (λ e. AreAll P (images_after (concluded_in e) m.images)) (sym (images_come k m shown c (at k))) (images_conclude P steady (surroundings_in k m) c h)
    by (drives_words c at keeps stays) = subst (λ e. AreAll P (images_after (concluded_in e) m.images)) (sym (drives_come k m shown c (at k))) (drives_conclude P k m c h)
    by (other_words plain) = subst (λ z. AreAll P (images_after z m.images)) (sym (ap concluded_in (plain_comes k m shown (plain k)) ∙ plain_concludes (shown_effect k m.table shown) (plain k))) h
