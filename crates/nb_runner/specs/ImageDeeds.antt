-- What a command on images comes to, as the code has it, and what holds of that.
use Rattle.std.specs.Prelude.{◌≡◌, ◌<◌, ◌≤◌, ℕ, false, length, All, Some}
use Rattle.nb_image.specs.Images.{ImageList}
use Rattle.nb_imagecmd.specs.Promises.{HasShortNames, IsShortLine, args_len}
use Rattle.nb_imagecmd.specs.declared.commands.ImageCommand.{ImageCommand}
use Rattle.nb_imagecmd.specs.declared.outcome.ImageOutcome.{ImageOutcome}
use Rattle.nb_imagecmd.specs.declared.outcome.ImageOutcome.TheVariants as outcome
use Rattle.nb_machine.specs.Conclusions as defs
use Rattle.nb_machine.specs.Effects.{Effect, concludes_at_once}
use Rattle.nb_runner.specs.CommandWords.{IsAskedWell}
use Rattle.nb_runner.specs.Handings.{AreShortImages}
use Rattle.nb_runner.specs.Intents.{IsAskable, intent_effect}
use Rattle.nb_runner.specs.declared.images.Conclusion.{Conclusion}
use Rattle.nb_runner.specs.declared.images.Conclusion.TheVariants as conclusion
use Rattle.nb_runner.specs.declared.images.ImageDeed.{ImageDeed}
use Rattle.nb_runner.specs.declared.images.ImageDeed.TheVariants.{Intends, Concludes}

-- a conclusion, with the list of images that it leaves
abbrev pub conclusion_of : Conclusion → ImageList → defs.Conclusion
conclusion_of conclusion.Keeps list = defs.keeps list
conclusion_of (conclusion.Tells lines) list = defs.tells list lines
conclusion_of (conclusion.Fails cause) list = defs.fails cause
conclusion_of (conclusion.Boots kernel) list = defs.boots list kernel
conclusion_of (conclusion.Runs script replace) list = defs.runs_script list script replace

abbrev pub image_deed_effect : ImageDeed → ImageList → Effect
image_deed_effect (Intends intent) list = intent_effect intent
image_deed_effect (Concludes c) list = concludes_at_once (conclusion_of c list)

-- images whose texts are short
pub record MayFollow (list : ImageList) : Type 0 where
  pub named : HasShortNames list
  pub short : AreShortImages list.images

-- What holds of a conclusion of a script of this depth: one that fails leaves the list, one that boots names a place of it, the
-- lines that it prints are short, and a script that runs within isn't the ninth.
abbrev pub IsConcludedWell : Conclusion → ℕ → ImageList → ImageList → Type 0
IsConcludedWell conclusion.Keeps depth before after = MayFollow after
IsConcludedWell (conclusion.Tells lines) depth before after = MayFollow after × All IsShortLine lines
IsConcludedWell (conclusion.Fails cause) depth before after = after ≡ before
IsConcludedWell (conclusion.Boots kernel) depth before after = MayFollow after × (kernel < length after.images) × (length after.images ≤ 32)
IsConcludedWell (conclusion.Runs script replace) depth before after = MayFollow after × (replace ≡ false → depth < 8)

-- and of a deed, where so many opens were made
abbrev pub IsDeedWell : ImageDeed → ℕ → ℕ → ImageList → ImageList → Type 0
IsDeedWell (Intends intent) depth opens before after = IsAskable opens intent × (after ≡ before)
IsDeedWell (Concludes c) depth opens before after = IsConcludedWell c depth before after

-- what an outcome says of the list that it leaves
abbrev pub FitsOutcome : ImageOutcome → ImageList → Type 0
FitsOutcome outcome.Done list = Unit {0}
FitsOutcome (outcome.Print lines) list = All IsShortLine lines
FitsOutcome (outcome.Ask asking) list = IsAskedWell asking
FitsOutcome (outcome.Run image replace) list = image < length list.images
FitsOutcome outcome.Boot list = (i : ℕ) × (list.selected ≡ Some i)

-- one that waits for a file or runs a script leaves the list as it was
abbrev pub IsUnmoved : ImageOutcome → ImageList → ImageList → Type 0
IsUnmoved outcome.Done before list = Unit {0}
IsUnmoved (outcome.Print lines) before list = Unit {0}
IsUnmoved (outcome.Ask asking) before list = list ≡ before
IsUnmoved (outcome.Run image replace) before list = list ≡ before
IsUnmoved outcome.Boot before list = Unit {0}

-- the arguments that a command gives an image are short
abbrev pub HasShortArgs : ImageCommand → Type 0
HasShortArgs c = args_len c ≤ 4160
