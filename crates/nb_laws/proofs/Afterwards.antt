-- What holds of a command by its words holds also once its file was moved.
use Rattle.std.proofs.Common.{◌≡◌, ℕ, ◌-◌, ◌<◌, List, [], ◌∷◌, Option, Some, None, Result, Ok, Err, refl, sym, ◌∙◌, ap, subst}
use Rattle.nb_imagecmd.specs.declared.asking.Asking.{Asking}
use Rattle.nb_imagecmd.specs.declared.error.ImageFailure.{ImageFailure}
use Rattle.nb_imagecmd.specs.Asking.{target_host}
use Rattle.nb_settings.specs.Tables.{TableLists}
use Rattle.nb_machine.specs.Effects.{Effect, says, asks, goes, sleeps, shuts_device, inquires, on_images, on_drives, hooks_disk, unhooks_drive, boots_drive, concludes_at_once, next_effect, next_moved, ShownWords}
use Rattle.nb_machine.specs.Errands.{Errand, fetches_then, hooks_then}
use Rattle.nb_machine.specs.Queries.{Query, for_host}
use Rattle.nb_machine.proofs.Eithers.{host_either}
use Rattle.nb_laws.specs.CommandsSoFar.{CommandsSoFar, shown_effect, shown_table, shown_query, left_table, comes_by, asking_in, asking_after, effect_moved, comes_after, concluded_in, query_in, hooking_in}
use Rattle.nb_laws.specs.Events.{Event}
use Rattle.nb_laws.specs.Lists.{made}
use Rattle.nb_laws.specs.Moves.{MovedOpen}
use Rattle.nb_laws.proofs.Fetching.{plain_asks}
use Rattle.nb_laws.proofs.Moved.{asking_asks, after_either}
use Rattle.nb_laws.proofs.Settling.{IsNoFetch, LeavesTable, WordsAre, images_words, drives_words, other_words, words_are, plain_comes, comes_sleeps, comes_stays, comes_keeps, concludes_same, hooks_same}
use Rattle.nb_laws.proofs.OwnQueries.{AsksFile, LooksUpNoDisk, looks_up_no_disk, same_errand, no_errand}
use Rattle.nb_laws.proofs.SoFar.{left_unasked, left_by_host}
use Rattle.nb_laws.proofs.Stays.{Stays, IsAsking, host_stays}
use Rattle.std.proofs.lemmas.Option.{none-some}

-- OTHER OPENS MADE

moved_stays : (k j : ℕ) (table : TableLists) (r : Result Asking ImageFailure) → j < 16384 → Stays (next_effect (next_moved k table r)) (next_effect (next_moved j table r))
moved_stays k j table (Ok asking) few = host_stays k j table (target_host asking.target) (fetches_then asking) few
moved_stays k j table (Err why) few = λ is. absurd is

-- what it asks for it asks for while more opens may be made
pub after_stays : (k j : ℕ) (m : CommandsSoFar) (shown : ShownWords) (ms : List MovedOpen) → j < 16384 → Stays (comes_after k m shown ms) (comes_after j m shown ms)
after_stays k j m shown [] few = comes_stays k j m shown few
after_stays k j m shown (x ∷ xs) few = by (asking_in (comes_by 0 m shown))
  where
    by : (a : Option Asking) → Stays (effect_moved k m.table (comes_by k m shown) (x ∷ xs) a) (effect_moved j m.table (comes_by j m shown) (x ∷ xs) a)
    by None = comes_stays k j m shown few
    by (Some first) = moved_stays k j m.table (asking_after first (x ∷ xs)) few

-- WHAT IT LEAVES

asking_leaves : (e : Effect) → IsAsking e → LeavesTable e
asking_leaves (asks wanted) is = tt
asking_leaves (inquires q) is = tt
asking_leaves (says o) is = absurd is
asking_leaves (goes name) is = absurd is
asking_leaves (sleeps seconds) is = absurd is
asking_leaves shuts_device is = absurd is
asking_leaves (on_images c) is = absurd is
asking_leaves (on_drives c) is = absurd is
asking_leaves (hooks_disk hooking) is = tt
asking_leaves (unhooks_drive number cause) is = absurd is
asking_leaves (boots_drive number) is = absurd is
asking_leaves (concludes_at_once c) is = absurd is

-- the settings, where its words ask for a file
pub asked_keeps : (m : CommandsSoFar) (shown : ShownWords) (asking : Asking) → asking_in (comes_by 0 m shown) ≡ Some asking → shown_table m.table (Some shown) ≡ m.table
asked_keeps m shown asking is = comes_keeps 0 m shown (comes_by 0 m shown) refl (asking_leaves (comes_by 0 m shown) (asking_asks (comes_by 0 m shown) asking is))

-- or it asks for anything
pub after_keeps : (k : ℕ) (m : CommandsSoFar) (shown : ShownWords) (ms : List MovedOpen) (e : Effect) → comes_after k m shown ms ≡ e → IsAsking e → shown_table m.table (Some shown) ≡ m.table
after_keeps k m shown ms e is asking = after_either (λ x. x ≡ e → shown_table m.table (Some shown) ≡ m.table) k m shown ms
    (λ here. comes_keeps k m shown e here (asking_leaves e asking)) (λ first at moved. asked_keeps m shown first at) is

-- its words ask for nothing by one exchange of its own
asked_query : (j : ℕ) (m : CommandsSoFar) (shown : ShownWords) (asking : Asking) → asking_in (comes_by 0 m shown) ≡ Some asking → query_in (shown_effect j m.table shown) ≡ None
asked_query j m shown asking is = by (words_are m.table shown.expanded shown.words)
  where
    by : WordsAre m.table shown.expanded shown.words → query_in (shown_effect j m.table shown) ≡ None
    by (images_words c at keeps stays) = ap query_in (at j)
    by (drives_words c at keeps stays) = ap query_in (at j)
    by (other_words plain) = absurd (none-some asking (sym (ap asking_in (plain_comes 0 m shown (plain 0)) ∙ plain_asks (shown_effect 0 m.table shown) (plain 0)) ∙ is))

pub asked_leaves : (es : List Event) (m : CommandsSoFar) (shown : ShownWords) (asking : Asking) → m.shown ≡ Some shown → asking_in (comes_by 0 m shown) ≡ Some asking → left_table es m.table m.shown ≡ shown_table m.table m.shown
asked_leaves es m shown asking said is = left_unasked es m.table m.shown (ap (shown_query (made es - 1) m.table) said ∙ asked_query (made es - 1) m shown asking is)

pub host_leaves : (es : List Event) (m : CommandsSoFar) (shown : ShownWords) (ms : List MovedOpen) (errand : Errand) (name : List ℕ) (by : ℕ) → m.shown ≡ Some shown → comes_after (made es - 1) m shown ms ≡ inquires (for_host errand name by) →
    left_table es m.table m.shown ≡ shown_table m.table m.shown
host_leaves es m shown ms errand name by said is =
    after_either (λ e. e ≡ inquires (for_host errand name by) → left_table es m.table m.shown ≡ shown_table m.table m.shown) (made es - 1) m shown ms
    (λ here. left_by_host es m shown errand name by said here) (λ first at moved. asked_leaves es m shown first said at) is

-- IT CONCLUDES NOTHING BEFORE ITS FILE HAS COME

asking_concludes : (e : Effect) → IsAsking e → concluded_in e ≡ None
asking_concludes (asks wanted) is = refl
asking_concludes (inquires q) is = refl
asking_concludes (says o) is = absurd is
asking_concludes (goes name) is = absurd is
asking_concludes (sleeps seconds) is = absurd is
asking_concludes shuts_device is = absurd is
asking_concludes (on_images c) is = absurd is
asking_concludes (on_drives c) is = absurd is
asking_concludes (hooks_disk hooking) is = refl
asking_concludes (unhooks_drive number cause) is = absurd is
asking_concludes (boots_drive number) is = absurd is
asking_concludes (concludes_at_once c) is = absurd is

pub asked_none : (k : ℕ) (m : CommandsSoFar) (shown : ShownWords) (asking : Asking) → asking_in (comes_by 0 m shown) ≡ Some asking → concluded_in (comes_by k m shown) ≡ None
asked_none k m shown asking is = concludes_same k 0 m shown ∙ asking_concludes (comes_by 0 m shown) (asking_asks (comes_by 0 m shown) asking is)

pub after_none : (k j : ℕ) (m : CommandsSoFar) (shown : ShownWords) (ms : List MovedOpen) → IsAsking (comes_after k m shown ms) → concluded_in (comes_by j m shown) ≡ None
after_none k j m shown ms is = after_either (λ e. IsAsking e → concluded_in (comes_by j m shown) ≡ None) k m shown ms
    (λ here. concludes_same j k m shown ∙ asking_concludes (comes_by k m shown) here) (λ first at moved. asked_none j m shown first at) is

-- WHAT ITS WORDS SAY

-- a query of its own is that of the words
moved_fetches : (k : ℕ) (table : TableLists) (r : Result Asking ImageFailure) → AsksFile (next_effect (next_moved k table r))
moved_fetches k table (Ok asking) = host_either AsksFile (λ o. tt) k table (target_host asking.target) (fetches_then asking) (λ name by no. no) (λ address. tt)
moved_fetches k table (Err why) = tt

pub after_plainly : (k : ℕ) (m : CommandsSoFar) (shown : ShownWords) (ms : List MovedOpen) (q : Query) → IsNoFetch q → comes_after k m shown ms ≡ inquires q → comes_by k m shown ≡ inquires q
after_plainly k m shown ms q none is = after_either (λ e. e ≡ inquires q → comes_by k m shown ≡ inquires q) k m shown ms
    (λ here. here) (λ first at moved. absurd (subst AsksFile moved (moved_fetches k m.table (asking_after first ms)) none)) is

moved_looks_up : (k : ℕ) (table : TableLists) (r : Result Asking ImageFailure) → LooksUpNoDisk (next_effect (next_moved k table r))
moved_looks_up k table (Ok asking) = host_either LooksUpNoDisk (λ o hooking name by is. absurd (cc)) k table (target_host asking.target) (fetches_then asking)
    (λ own server hooking name by is. absurd (no_errand asking hooking (same_errand (fetches_then asking) (hooks_then hooking) own name server by is))) (λ address hooking name by is. absurd (cc))
moved_looks_up k table (Err why) = λ hooking name by is. absurd (cc)

-- nor once its file was moved
pub looks_up_no_disk_after : (k : ℕ) (m : CommandsSoFar) (shown : ShownWords) (ms : List MovedOpen) → LooksUpNoDisk (comes_after k m shown ms)
looks_up_no_disk_after k m shown ms = after_either (λ e. LooksUpNoDisk e) k m shown ms
    (looks_up_no_disk k m shown) (λ first at. moved_looks_up k m.table (asking_after first ms))

-- where they ask for no file, nothing is moved
pub unasked_after : (k : ℕ) (m : CommandsSoFar) (shown : ShownWords) (ms : List MovedOpen) → asking_in (comes_by 0 m shown) ≡ None → comes_after k m shown ms ≡ comes_by k m shown
unasked_after k m shown [] none = refl
unasked_after k m shown (x ∷ xs) none = ap (effect_moved k m.table (comes_by k m shown) (x ∷ xs)) none

-- a file that was moved is asked for, or refused
abbrev pub IsNext : Effect → Type 0
IsNext (says o) = Unit {0}
IsNext (asks wanted) = Unit {0}
IsNext (inquires q) = Unit {0}
IsNext (goes name) = ⊥
IsNext (sleeps seconds) = ⊥
IsNext shuts_device = ⊥
IsNext (on_images c) = ⊥
IsNext (on_drives c) = ⊥
IsNext (hooks_disk hooking) = ⊥
IsNext (unhooks_drive number cause) = ⊥
IsNext (boots_drive number) = ⊥
IsNext (concludes_at_once c) = ⊥

pub moved_next : (k : ℕ) (table : TableLists) (r : Result Asking ImageFailure) → IsNext (next_effect (next_moved k table r))
moved_next k table (Ok asking) = host_either IsNext (λ o. tt) k table (target_host asking.target) (fetches_then asking) (λ name by. tt) (λ address. tt)
moved_next k table (Err why) = tt

-- so all else is what the words say
pub after_by_words : (k : ℕ) (m : CommandsSoFar) (shown : ShownWords) (ms : List MovedOpen) (e : Effect) → (IsNext e → ⊥) → comes_after k m shown ms ≡ e → comes_by k m shown ≡ e
after_by_words k m shown ms e never is = after_either (λ x. x ≡ e → comes_by k m shown ≡ e) k m shown ms
    (λ here. here) (λ first at moved. absurd (never (subst IsNext moved (moved_next k m.table (asking_after first ms))))) is

-- and where it asks for something, so did they
pub asks_by_words : (k : ℕ) (m : CommandsSoFar) (shown : ShownWords) (ms : List MovedOpen) → IsAsking (comes_after k m shown ms) → (n : ℕ) × IsAsking (comes_by n m shown)
asks_by_words k m shown ms is = after_either (λ e. IsAsking e → (n : ℕ) × IsAsking (comes_by n m shown)) k m shown ms
    (λ here. (k, here)) (λ first at moved. (0, asking_asks (comes_by 0 m shown) first at)) is

-- where it comes to anything but a disk, its words hook none
pub asking_hooks : (e : Effect) (asking : Asking) → asking_in e ≡ Some asking → hooking_in e ≡ None
asking_hooks (asks wanted) asking is = refl
asking_hooks (inquires q) asking is = refl
asking_hooks (says o) asking is = refl
asking_hooks (goes name) asking is = refl
asking_hooks (sleeps seconds) asking is = refl
asking_hooks shuts_device asking is = refl
asking_hooks (on_images c) asking is = refl
asking_hooks (on_drives c) asking is = refl
asking_hooks (hooks_disk hooking) asking is = absurd (none-some asking is)
asking_hooks (unhooks_drive number cause) asking is = refl
asking_hooks (boots_drive number) asking is = refl
asking_hooks (concludes_at_once c) asking is = refl

pub after_unhooked : (k : ℕ) (m : CommandsSoFar) (shown : ShownWords) (ms : List MovedOpen) (e : Effect) → hooking_in e ≡ None → comes_after k m shown ms ≡ e → hooking_in (comes_by 0 m shown) ≡ None
after_unhooked k m shown ms e none is = after_either (λ x. x ≡ e → hooking_in (comes_by 0 m shown) ≡ None) k m shown ms
    (λ here. hooks_same 0 k m shown ∙ ap hooking_in here ∙ none) (λ first at moved. asking_hooks (comes_by 0 m shown) first at) is

-- SLEEPING

pub sleeps_after : (k j : ℕ) (m : CommandsSoFar) (shown : ShownWords) (ms : List MovedOpen) (n : ℕ) → comes_by k m shown ≡ sleeps n → comes_after j m shown ms ≡ sleeps n
sleeps_after k j m shown ms n is = unasked_after j m shown ms (ap asking_in (comes_sleeps k 0 m shown n is)) ∙ comes_sleeps k j m shown n is
