-- own, after ipxe.org's image commands: what a command comes to on a list of images, and the list that it leaves.
-- What it names is looked for in the list before a file is asked for; a file that is asked for changes nothing
-- yet.
use Rattle.std.specs.Prelude.{ℕ, Bool, List, Option, Some, None, Result, Ok, Err, ⊤, if◌then◌else◌}
use Rattle.std.specs.List.{join_with_byte}
use Rattle.std.specs.Result.{result_map_both}
use Rattle.nb_image.specs.Images.{ImageList, image_place, with_args_at}
use Rattle.nb_imagecmd.specs.declared.asking.After.TheVariants as after
use Rattle.nb_imagecmd.specs.declared.asking.Asking.{Asking}
use Rattle.nb_imagecmd.specs.declared.commands.ImageCommand.{ImageCommand}
use Rattle.nb_imagecmd.specs.declared.commands.ImageCommand.TheVariants.{Fetch, Select, Exec}
use Rattle.nb_imagecmd.specs.declared.commands.ImageCommand.TheVariants.{Imgargs, Imgfree, Imgstat}
use Rattle.nb_imagecmd.specs.declared.error.ImageFailure.{ImageFailure}
use Rattle.nb_imagecmd.specs.declared.error.ImageFailure.TheVariants.{NoImage}
use Rattle.nb_imagecmd.specs.declared.outcome.ImageOutcome.{ImageOutcome}
use Rattle.nb_imagecmd.specs.declared.outcome.ImageOutcome.TheVariants.{Done, Print, Ask, Run, Boot}
use Rattle.nb_imagecmd.specs.Asking.{asked_file}
use Rattle.nb_imagecmd.specs.Executing.{ImageAnswer, selected_with, executed, executed_selected}
use Rattle.nb_imagecmd.specs.Freeing.{are_all_listed, kept_list}
use Rattle.nb_imagecmd.specs.Stat.{stat_lines}

-- it waits for what it asks for
abbrev pub waits_for_asked : Result Asking ImageFailure → Result ImageOutcome ImageFailure
waits_for_asked answer = result_map_both (λ asking. Ask asking) (λ why. why) answer

abbrev pub asking_answer : Result Asking ImageFailure → ImageList → ImageAnswer
asking_answer answer list = result_map_both (λ asking. (Ask asking, list)) (λ why. why) answer

-- an image that is found is selected, and has these arguments, also where there are none
abbrev pub select_at : Option ℕ → List (List ℕ) → Result Asking ImageFailure → ImageList → ImageAnswer
select_at (Some i) args asking list = Ok (Done, selected_with i args list)
select_at None args asking list = asking_answer asking list

abbrev pub selects : Option (List ℕ) → Option (List ℕ) → List ℕ → List (List ℕ) → ImageList → ImageAnswer
selects base name uri args list =
    select_at (image_place uri list.images) args (asked_file base name uri args after.Select) list

-- and one that is executed has them too
abbrev pub execute_at : Option ℕ → List (List ℕ) → Bool → Result Asking ImageFailure → ImageList → ImageAnswer
execute_at (Some i) args replace asking list = executed i args replace list
execute_at None args replace asking list = asking_answer asking list

abbrev pub executes : Option (List ℕ) → Option (List ℕ) → List ℕ → List (List ℕ) → Bool → ImageList → ImageAnswer
executes base name uri args replace list =
    execute_at (image_place uri list.images) args replace (asked_file base name uri args (after.Run replace)) list

abbrev pub set_args_at : Option ℕ → List ℕ → ImageList → ImageAnswer
set_args_at None args list = Err NoImage
set_args_at (Some i) args list = Ok (Done, record list { images = with_args_at i args list.images })

abbrev pub sets_args : List ℕ → List (List ℕ) → ImageList → ImageAnswer
sets_args name args list = set_args_at (image_place name list.images) (join_with_byte 32 args) list

abbrev pub images_freed : List (List ℕ) → ImageList → ImageAnswer
images_freed names list = if are_all_listed names list.images then Ok (Done, kept_list names list) else Err NoImage

-- the outcome and the list after it, or why the command fails, which leaves the list as it was
unfoldable pub image_effect : ImageCommand → Option (List ℕ) → ImageList → ImageAnswer
image_effect (Fetch name uri args) base list = asking_answer (asked_file base name uri args after.Keep) list
image_effect (Select name uri args) base list = selects base name uri args list
image_effect (Exec name autofree replace None args) base list = executed_selected list.selected replace list
image_effect (Exec name autofree replace (Some uri) args) base list = executes base name uri args replace list
image_effect (Imgargs name args) base list = sets_args name args list
image_effect (Imgfree names) base list = images_freed names list
image_effect Imgstat base list = Ok (Print (stat_lines list), list)

-- a fact on what is asked for, where a file is
abbrev pub IfAsks : ImageOutcome → (Asking → Type 0) → Type 0
IfAsks (Ask asking) P = P asking
IfAsks Done P = ⊤
IfAsks (Print lines) P = ⊤
IfAsks (Run image replace) P = ⊤
IfAsks Boot P = ⊤
