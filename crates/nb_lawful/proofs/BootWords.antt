-- The words of a command boot a hooked drive.
use Rattle.std.proofs.Common.{◌≡◌, ℕ, ◌-◌, List, [], ◌∷◌, ◌++◌, Option, Some, None, option_and_then, refl, sym, ◌∙◌, ap, subst}
use Rattle.std.proofs.lemmas.Option.{none-some, same_Some}
use Rattle.nb_terms.specs.declared.cause.Cause.{Cause}
use Rattle.nb_defs.specs.Records.{result}
use Rattle.nb_drivecmd.specs.declared.drive.Drive.{Drive}
use Rattle.nb_drivecmd.specs.HookedDrives.{drive_numbered}
use Rattle.nb_machine.specs.Effects.{Effect, says, asks, goes, sleeps, shuts_device, inquires, on_images, on_drives, hooks_disk, unhooks_drive, boots_drive, concludes_at_once, ShownWords}
use Rattle.nb_machine.proofs.Eithers.{images_either}
use Rattle.nb_laws.specs.CommandsSoFar.{CommandsSoFar, so_far, comes_by, comes_after, ComesTo, asking_in, booted_in, booted_drive, concluded_in, hooking_in, query_in, shown_effect, shown_query, shown_table, surroundings_in, conclusion_so_far}
use Rattle.nb_laws.specs.Events.{Event, puts}
use Rattle.nb_laws.specs.Lists.{made, last_end}
use Rattle.nb_laws.specs.Moves.{moves}
use Rattle.nb_laws.specs.Wanting.{wanted_by}
use Rattle.nb_laws.proofs.Afterwards.{after_by_words, unasked_after}
use Rattle.nb_laws.proofs.Settling.{comes_hooking, comes_keeps, WordsAre, images_words, drives_words, other_words, words_are, images_come, plain_comes, IsPlain}
use Rattle.nb_laws.proofs.SoFar.{over_so_far, result_so_far, fetches_nothing, hooks_none, left_unasked}

-- which one
pub boots_so : (e : Effect) (number : ℕ) → booted_in e ≡ Some number → e ≡ boots_drive number
boots_so (boots_drive other) number is = ap boots_drive (same_Some other number is)
boots_so (says o) number is = absurd (none-some number is)
boots_so (asks wanted) number is = absurd (none-some number is)
boots_so (goes name) number is = absurd (none-some number is)
boots_so (sleeps seconds) number is = absurd (none-some number is)
boots_so shuts_device number is = absurd (none-some number is)
boots_so (inquires q) number is = absurd (none-some number is)
boots_so (on_images c) number is = absurd (none-some number is)
boots_so (on_drives c) number is = absurd (none-some number is)
boots_so (hooks_disk hooking) number is = absurd (none-some number is)
boots_so (unhooks_drive other cause) number is = absurd (none-some number is)
boots_so (concludes_at_once c) number is = absurd (none-some number is)

-- the words, and the number that they name
pub record BootWords (m : CommandsSoFar) (d : Drive) : Type 0 where
  pub shown : ShownWords
  pub said : m.shown ≡ Some shown
  pub number : ℕ
  pub words : (n : ℕ) → comes_by n m shown ≡ boots_drive number
  pub its : drive_numbered number m.drives ≡ Some d

pub boot_words : (m : CommandsSoFar) (d : Drive) → booted_drive m ≡ Some d → BootWords m d
boot_words m d is = by m.shown refl is
  where
    by_number : (shown : ShownWords) (x : Option ℕ) → booted_in (comes_by 0 m shown) ≡ x → m.shown ≡ Some shown → option_and_then (λ number. drive_numbered number m.drives) x ≡ Some d → BootWords m d
    by_number shown None at said found = absurd (none-some d found)
    by_number shown (Some number) at said found = record {
      shown = shown;
      said = said;
      number = number;
      words = λ n. comes_hooking 0 n m shown (boots_drive number) (λ no. no) (boots_so (comes_by 0 m shown) number at);
      its = found;
    }

    by : (x : Option ShownWords) → m.shown ≡ x → option_and_then (λ number. drive_numbered number m.drives) (option_and_then (λ s. booted_in (comes_by 0 m s)) x) ≡ Some d → BootWords m d
    by None said found = absurd (none-some d found)
    by (Some shown) said found = by_number shown (booted_in (comes_by 0 m shown)) refl said found

-- where the command comes to that, they name it
pub names_number : (es : List Event) (number : ℕ) → ComesTo es (made es) (boots_drive number) → booted_drive (so_far es) ≡ drive_numbered number (so_far es).drives
names_number es number (shown, said, is) =
    let m = so_far es in
    let words : comes_by 0 m shown ≡ boots_drive number = comes_hooking (made es) 0 m shown (boots_drive number) (λ no. no) (after_by_words (made es) m shown (moves es) (boots_drive number) (λ no. no) is) in
    ap (option_and_then (λ n. drive_numbered n m.drives)) (ap (option_and_then (λ s. booted_in (comes_by 0 m s))) said ∙ ap booted_in words)

pub names_boots : (es : List Event) (number : ℕ) (d : Drive) → ComesTo es (made es) (boots_drive number) → drive_numbered number (so_far es).drives ≡ Some d → booted_drive (so_far es) ≡ Some d
names_boots es number d comes its = names_number es number comes ∙ its

-- they ask for nothing by one exchange
boot_unasked : (k : ℕ) (m : CommandsSoFar) (shown : ShownWords) (number : ℕ) → ((n : ℕ) → comes_by n m shown ≡ boots_drive number) → query_in (shown_effect k m.table shown) ≡ None
boot_unasked k m shown number words = by (words_are m.table shown.expanded shown.words)
  where
    by : WordsAre m.table shown.expanded shown.words → query_in (shown_effect k m.table shown) ≡ None
    by (images_words c at keeps stays) = absurd (none-some number (sym (images_either (λ e. booted_in e ≡ None) (λ o. refl) (λ y. refl) (λ wanted. refl) (λ q. refl) (surroundings_in 0 m) c) ∙ ap booted_in (sym (images_come 0 m shown c (at 0)) ∙ words 0)))
    by (drives_words c at keeps stays) = ap query_in (at k)
    by (other_words plain) = absurd (subst IsPlain (sym (plain_comes k m shown (plain k)) ∙ words k) (plain k))

-- so its result leaves the settings, and concludes nothing
pub boots_over : (es : List Event) (d : Drive) (cause : Cause) → (so_far es).left ≡ None → booted_drive (so_far es) ≡ Some d → so_far (es ++ puts (result cause) ∷ []) ≡ over_so_far None (so_far es)
boots_over es d cause none_left names =
    let m = so_far es in
    let w = boot_words m d names in
    let still : comes_after (made es - 1) m w.shown (moves es) ≡ boots_drive w.number = unasked_after (made es - 1) m w.shown (moves es) (ap asking_in (w.words 0)) ∙ w.words (made es - 1) in
    let nothing : conclusion_so_far (last_end es) es m ≡ None = fetches_nothing es m w.shown w.said (λ x. ap (λ e. wanted_by e x) still) (ap concluded_in (w.words (made es))) in
    let unasked : shown_query (made es - 1) m.table m.shown ≡ None = ap (shown_query (made es - 1) m.table) w.said ∙ boot_unasked (made es - 1) m w.shown w.number w.words in
    result_so_far es cause None none_left nothing (left_unasked es m.table m.shown unasked) ∙ ap (over_so_far None) (hooks_none es cause w.shown w.said (ap hooking_in (w.words 0)))

pub boots_keep : (es : List Event) (d : Drive) → booted_drive (so_far es) ≡ Some d → shown_table (so_far es).table (so_far es).shown ≡ (so_far es).table
boots_keep es d names =
    let w = boot_words (so_far es) d names in
    ap (shown_table (so_far es).table) w.said ∙ comes_keeps (made es) (so_far es) w.shown (boots_drive w.number) (w.words (made es)) tt
