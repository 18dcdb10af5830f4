-- The hooked drive that a command boots, as its words say.
use Rattle.std.proofs.Common.{◌≡◌, ℕ, List, Some, None, refl, sym, ◌∙◌, ap}
use Rattle.std.proofs.lemmas.Option.{none-some}
use Rattle.nb_imagecmd.specs.declared.asking.Asking.{Asking}
use Rattle.nb_imagecmd.specs.declared.commands.ImageCommand.{ImageCommand}
use Rattle.nb_machine.specs.Effects.{Effect, says, asks, goes, sleeps, shuts_device, inquires, on_images, on_drives, hooks_disk, unhooks_drive, boots_drive, concludes_at_once, ShownWords, images_effect}
use Rattle.nb_machine.proofs.Eithers.{images_either}
use Rattle.nb_laws.specs.CommandsSoFar.{CommandsSoFar, shown_effect, surroundings_in, comes_by, comes_after, asking_in, booted_in}
use Rattle.nb_laws.specs.Moves.{MovedOpen}
use Rattle.nb_laws.proofs.Moved.{after_either}
use Rattle.nb_laws.proofs.Settling.{IsPlain, WordsAre, images_words, drives_words, other_words, words_are, images_come, drives_stay, plain_comes}

plain_boots : (e : Effect) → IsPlain e → booted_in e ≡ None
plain_boots (says o) is = refl
plain_boots (asks wanted) is = refl
plain_boots (goes name) is = refl
plain_boots (sleeps seconds) is = refl
plain_boots shuts_device is = refl
plain_boots (inquires q) is = refl
plain_boots (on_images c) is = refl
plain_boots (on_drives c) is = refl
plain_boots (hooks_disk hooking) is = refl
plain_boots (unhooks_drive number cause) is = refl
plain_boots (boots_drive number) is = absurd is
plain_boots (concludes_at_once c) is = refl

abbrev BootsNone : Effect → Type 0
BootsNone e = booted_in e ≡ None

-- it doesn't depend on the opens that were made
pub boots_same : (k j : ℕ) (m : CommandsSoFar) (shown : ShownWords) → booted_in (comes_by k m shown) ≡ booted_in (comes_by j m shown)
boots_same k j m shown = by (words_are m.table shown.expanded shown.words)
  where
    images_none : (n : ℕ) (c : ImageCommand) → BootsNone (images_effect (surroundings_in n m) c)
    images_none n c = images_either BootsNone (λ o. refl) (λ y. refl) (λ wanted. refl) (λ q. refl) (surroundings_in n m) c

    by : WordsAre m.table shown.expanded shown.words → booted_in (comes_by k m shown) ≡ booted_in (comes_by j m shown)
    by (images_words c at keeps stays) = ap booted_in (images_come k m shown c (at k)) ∙ images_none k c ∙ sym (ap booted_in (images_come j m shown c (at j)) ∙ images_none j c)
    by (drives_words c at keeps stays) = ap booted_in (drives_stay k j m shown c at)
    by (other_words plain) =
        ap booted_in (plain_comes k m shown (plain k)) ∙ plain_boots (shown_effect k m.table shown) (plain k)
        ∙ sym (ap booted_in (plain_comes j m shown (plain j)) ∙ plain_boots (shown_effect j m.table shown) (plain j))

-- a command that asks for a file boots none
pub asking_boots : (e : Effect) (asking : Asking) → asking_in e ≡ Some asking → booted_in e ≡ None
asking_boots (asks wanted) asking is = refl
asking_boots (inquires q) asking is = refl
asking_boots (says o) asking is = refl
asking_boots (goes name) asking is = refl
asking_boots (sleeps seconds) asking is = refl
asking_boots shuts_device asking is = refl
asking_boots (on_images c) asking is = refl
asking_boots (on_drives c) asking is = refl
asking_boots (hooks_disk hooking) asking is = refl
asking_boots (unhooks_drive number cause) asking is = refl
asking_boots (boots_drive number) asking is = absurd (none-some asking is)
asking_boots (concludes_at_once c) asking is = refl

-- where it comes to anything but that, its words boot none
pub after_unbooted : (k : ℕ) (m : CommandsSoFar) (shown : ShownWords) (ms : List MovedOpen) (e : Effect) → booted_in e ≡ None → comes_after k m shown ms ≡ e → booted_in (comes_by 0 m shown) ≡ None
after_unbooted k m shown ms e none is = after_either (λ x. x ≡ e → booted_in (comes_by 0 m shown) ≡ None) k m shown ms
    (λ here. boots_same 0 k m shown ∙ ap booted_in here ∙ none) (λ first at moved. asking_boots (comes_by 0 m shown) first at) is
