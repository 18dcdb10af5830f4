-- What a command asks by a query of its own, and that one that sleeps asks none.
use Rattle.std.proofs.Common.{◌≡◌, ℕ, Bool, true, false, List, Option, Some, None, refl, sym, ◌∙◌, ap, subst}
use Rattle.nb_drivecmd.specs.declared.commands.DriveCommand.{DriveCommand}
use Rattle.nb_drivecmd.specs.declared.outcome.Hooking.{Hooking}
use Rattle.nb_imagecmd.specs.declared.asking.Asking.{Asking}
use Rattle.nb_imagecmd.specs.declared.commands.ImageCommand.{ImageCommand}
use Rattle.nb_machine.specs.Effects.{Effect, says, asks, goes, sleeps, shuts_device, inquires, on_images, on_drives, hooks_disk, unhooks_drive, boots_drive, concludes_at_once, words_table, ShownWords, shown_as, Surroundings, images_effect, drives_effect}
use Rattle.nb_machine.specs.Errands.{Errand, fetches_then, hooks_then}
use Rattle.nb_machine.specs.Queries.{Query, for_host}
use Rattle.nb_machine.proofs.Eithers.{images_case, drives_either}
use Rattle.nb_machine.proofs.Words.{KeepsTable, keeps_words}
use Rattle.nb_laws.specs.CommandsSoFar.{CommandsSoFar, shown_effect, shown_table, surroundings_in, comes_by, query_in}
use Rattle.nb_laws.proofs.Settling.{IsNoFetch, IsPlain, WordsAre, images_words, drives_words, other_words, words_are, images_come, drives_come, plain_comes}

abbrev pub AsksFile : Effect → Type 0
AsksFile (inquires q) = IsNoFetch q → ⊥
AsksFile (says o) = Unit {0}
AsksFile (asks wanted) = Unit {0}
AsksFile (goes name) = Unit {0}
AsksFile (sleeps seconds) = Unit {0}
AsksFile shuts_device = Unit {0}
AsksFile (on_images c) = Unit {0}
AsksFile (on_drives c) = Unit {0}
AsksFile (hooks_disk hooking) = Unit {0}
AsksFile (unhooks_drive number cause) = Unit {0}
AsksFile (boots_drive number) = Unit {0}
AsksFile (concludes_at_once c) = Unit {0}

images_ask : (x : Surroundings) (c : ImageCommand) → AsksFile (images_effect x c)
images_ask x c = images_case AsksFile (λ o. tt) (λ y. tt) (λ wanted. tt) (λ asking name by. λ no. no) x c

-- nor anything by one exchange
drives_query : (x : Surroundings) (c : DriveCommand) (q : Query) → drives_effect x c ≡ inquires q → ⊥
drives_query x c q = drives_either (λ e. e ≡ inquires q → ⊥) (λ o is. absurd (cc)) (λ hooking is. absurd (cc)) (λ number cause is. absurd (cc)) (λ number is. absurd (cc)) x c

-- the host of a disk isn't looked up by the words of a command alone
abbrev pub LooksUpNoDisk : Effect → Type 0
LooksUpNoDisk e = (hooking : Hooking) (name : List ℕ) (by : ℕ) → e ≡ inquires (for_host (hooks_then hooking) name by) → ⊥

plain_looks_up : (e : Effect) → IsPlain e → LooksUpNoDisk e
plain_looks_up e plain hooking name by is = subst IsPlain is plain

pub same_errand : (a b : Errand) (name other : List ℕ) (by at : ℕ) → inquires (for_host a name by) ≡ inquires (for_host b other at) → a ≡ b
same_errand a b name other by at is = cc is

pub no_errand : (asking : Asking) (hooking : Hooking) → fetches_then asking ≡ hooks_then hooking → ⊥
no_errand asking hooking is = cc is

images_look_up : (x : Surroundings) (c : ImageCommand) → LooksUpNoDisk (images_effect x c)
images_look_up x c = images_case LooksUpNoDisk (λ o hooking name by is. absurd (cc)) (λ y hooking name by is. absurd (cc)) (λ wanted hooking name by is. absurd (cc))
    (λ asking own server hooking name by is. absurd (no_errand asking hooking (same_errand (fetches_then asking) (hooks_then hooking) own name server by is))) x c

pub looks_up_no_disk : (k : ℕ) (m : CommandsSoFar) (shown : ShownWords) → LooksUpNoDisk (comes_by k m shown)
looks_up_no_disk k m shown = by (words_are m.table shown.expanded shown.words)
  where
    by : WordsAre m.table shown.expanded shown.words → LooksUpNoDisk (comes_by k m shown)
    by (images_words c at keeps stays) = subst LooksUpNoDisk (sym (images_come k m shown c (at k))) (images_look_up (surroundings_in k m) c)
    by (drives_words c at keeps stays) = λ hooking name server is. drives_query (surroundings_in k m) c (for_host (hooks_then hooking) name server) (sym (drives_come k m shown c (at k)) ∙ is)
    by (other_words plain) = subst LooksUpNoDisk (sym (plain_comes k m shown (plain k))) (plain_looks_up (shown_effect k m.table shown) (plain k))

-- the query of the words is the command's, unless it is for a file
pub asked_plainly : (k : ℕ) (m : CommandsSoFar) (shown : ShownWords) (q : Query) → IsNoFetch q → comes_by k m shown ≡ inquires q → shown_effect k m.table shown ≡ inquires q
asked_plainly k m shown q none e = by (words_are m.table shown.expanded shown.words)
  where
    by : WordsAre m.table shown.expanded shown.words → shown_effect k m.table shown ≡ inquires q
    by (images_words c at keeps stays) = absurd (subst AsksFile (sym (images_come k m shown c (at k)) ∙ e) (images_ask (surroundings_in k m) c) none)
    by (drives_words c at keeps stays) = absurd (drives_query (surroundings_in k m) c q (sym (drives_come k m shown c (at k)) ∙ e))
    by (other_words plain) = sym (plain_comes k m shown (plain k)) ∙ e

-- what the words ask, where the command looks its server up
pub data WordsAsk (q : Option Query) : Type 0 where
  ask_none : q ≡ None → WordsAsk q
  ask_host : (errand : Errand) (name : List ℕ) (by : ℕ) → q ≡ Some (for_host errand name by) → WordsAsk q

pub query_of_host : (k : ℕ) (m : CommandsSoFar) (shown : ShownWords) (errand : Errand) (name : List ℕ) (by : ℕ) → comes_by k m shown ≡ inquires (for_host errand name by) → WordsAsk (query_in (shown_effect k m.table shown))
query_of_host k m shown errand name server e = by (words_are m.table shown.expanded shown.words)
  where
    by : WordsAre m.table shown.expanded shown.words → WordsAsk (query_in (shown_effect k m.table shown))
    by (images_words c at keeps stays) = ask_none (ap query_in (at k))
    by (drives_words c at keeps stays) = ask_none (ap query_in (at k))
    by (other_words plain) = ask_host errand name server (ap query_in (sym (plain_comes k m shown (plain k)) ∙ e))

-- a command that sleeps leaves the settings, and asks nothing
pub comes_asleep : (k : ℕ) (m : CommandsSoFar) (shown : ShownWords) (n : ℕ) → comes_by k m shown ≡ sleeps n → shown_table m.table (Some shown) ≡ m.table
comes_asleep k m shown n e = by (words_are m.table shown.expanded shown.words)
  where
    at_once : (expanded : Bool) (ws : List (List ℕ)) → shown_effect k m.table (shown_as expanded ws) ≡ sleeps n → shown_table m.table (Some (shown_as expanded ws)) ≡ m.table
    at_once true ws at = subst (λ x. KeepsTable x m.table (words_table m.table ws)) at (keeps_words k m.table ws)
    at_once false ws at = refl

    by : WordsAre m.table shown.expanded shown.words → shown_table m.table (Some shown) ≡ m.table
    by (images_words c at keeps stays) = keeps
    by (drives_words c at keeps stays) = keeps
    by (other_words plain) = at_once shown.expanded shown.words (sym (plain_comes k m shown (plain k)) ∙ e)

pub query_asleep : (k : ℕ) (m : CommandsSoFar) (shown : ShownWords) (n : ℕ) → comes_by k m shown ≡ sleeps n → query_in (shown_effect k m.table shown) ≡ None
query_asleep k m shown n e = by (words_are m.table shown.expanded shown.words)
  where
    by : WordsAre m.table shown.expanded shown.words → query_in (shown_effect k m.table shown) ≡ None
    by (images_words c at keeps stays) = ap query_in (at k)
    by (drives_words c at keeps stays) = ap query_in (at k)
    by (other_words plain) = ap query_in (sym (plain_comes k m shown (plain k)) ∙ e)
