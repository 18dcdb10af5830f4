-- The images that a file leaves which has come.
use Rattle.std.proofs.Common.{◌≡◌, ℕ, ◌≤◌, Bool, true, false, cond, List, length, Option, Some, None, refl, subst, arith}
use Rattle.std.specs.Prelude.{Ok, Err, IfOk}
use Rattle.nb_image.specs.declared.error.ImageError.{ImageError}
use Rattle.nb_image.specs.declared.image.Image.{Image}
use Rattle.nb_image.specs.declared.kind.ImageKind.{ImageKind}
use Rattle.nb_image.specs.declared.kind.ImageKind.TheVariants.{Script, BzImage, Elf, Efi, Other}
use Rattle.nb_image.specs.Images.{ImageList, refusal}
use Rattle.nb_image.specs.Kinds.{kind_of}
use Rattle.nb_imagecmd.specs.declared.arriving.Arrival.{Arrival}
use Rattle.nb_imagecmd.specs.declared.asking.After.{After}
use Rattle.nb_imagecmd.specs.declared.asking.After.TheVariants as after
use Rattle.nb_imagecmd.specs.declared.asking.Asking.{Asking}
use Rattle.nb_imagecmd.specs.declared.error.ImageFailure.TheVariants.{ManyScripts}
use Rattle.nb_imagecmd.specs.Arriving.{ArrivalAnswer, arrived, arrived_image, arrives_as, listed_place, runs_kind, script_gone, selected_listed, taken_unless}
use Rattle.nb_imagecmd.specs.Executing.{is_too_deep, script_of}
use Rattle.nb_imagecmd.specs.declared.arriving.Arrival.TheVariants as arrival
use Rattle.nb_runner.specs.CommandWords.{IsAskedWell}
use Rattle.nb_runner.specs.Handings.{IsShortImage, AreShortImages}
use Rattle.nb_client.specs.Concluding.{ArrivesWell}
use Rattle.nb_runner.proofs.HandingLemmas.{all_remove, with_short}
use Rattle.nb_runner.proofs.ImageLaws.{deep_enough}

abbrev LeavesShort : ℕ → ArrivalAnswer → Type 0
LeavesShort depth answer = IfOk answer (λ x. ArrivesWell depth x.0 x.1)

listed_short : (image : Image) (list : ImageList) → IsShortImage image → AreShortImages list.images → AreShortImages (selected_listed image list).images
listed_short image list one all = with_short image list.images one all

script_short : (image : Image) (replace : Bool) (depth : ℕ) (list : ImageList) → IsShortImage image → AreShortImages list.images → (b : Bool) → is_too_deep replace depth ≡ b →
    LeavesShort depth (cond b (Err ManyScripts) (Ok (arrival.Run (script_of image) replace, script_gone image list)))
script_short image replace depth list one all true e = tt
script_short image replace depth list one all false e = (all_remove IsShortImage (selected_listed image list).images (listed_place image list) (listed_short image list one all), deep_enough replace depth e)

kind_short : (kind : ImageKind) (image : Image) (replace : Bool) (depth : ℕ) (list : ImageList) → IsShortImage image → AreShortImages list.images → LeavesShort depth (runs_kind kind image replace depth list)
kind_short Script image replace depth list one all = script_short image replace depth list one all (is_too_deep replace depth) refl
kind_short BzImage image replace depth list one all = (listed_short image list one all, listed_place image list, refl)
kind_short Elf image replace depth list one all = (listed_short image list one all, listed_place image list, refl)
kind_short Efi image replace depth list one all = (listed_short image list one all, listed_place image list, refl)
kind_short Other image replace depth list one all = tt

after_short : (a : After) (image : Image) (depth : ℕ) (list : ImageList) → IsShortImage image → AreShortImages list.images → LeavesShort depth (arrives_as a image depth list)
after_short after.Keep image depth list one all = listed_short image list one all
after_short after.Select image depth list one all = listed_short image list one all
after_short (after.Run replace) image depth list one all = kind_short (kind_of image.body) image replace depth list one all

unless_short : (why : Option ImageError) (a : After) (image : Image) (depth : ℕ) (list : ImageList) → IsShortImage image → AreShortImages list.images → LeavesShort depth (taken_unless why a image depth list)
unless_short (Some why) a image depth list one all = tt
unless_short None a image depth list one all = after_short a image depth list one all

pub arrives_well : (asking : Asking) (body uri : List ℕ) (depth : ℕ) (list left : ImageList) (a : Arrival) → IsAskedWell asking → length body ≤ 268435456 → AreShortImages list.images → arrived asking body uri depth list ≡ Ok (a, left) → ArrivesWell depth a left
unfolding arrived
arrives_well asking body uri depth list left a fits few all is =
    let image = arrived_image asking body uri in
    let one : IsShortImage image = record { name = omega (arith, fits.fetched.named); body = few; args = omega (arith, fits.args) } in
    subst (λ (r : ArrivalAnswer). LeavesShort depth r) is (unless_short (refusal image list.images) asking.after image depth list one all)
