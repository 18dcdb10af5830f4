-- A command hooks a disk, or hooks none.
use Rattle.std.proofs.Common.{◌≡◌, ℕ, ◌-◌, ◌==◌, false, List, [], ◌∷◌, Some, None, refl, sym, ◌∙◌, ap, subst, cond, ◌++◌}
use Rattle.std.proofs.lemmas.Option.{none-some}
use Rattle.std.specs.Option.{option_and_then}
use Rattle.std.specs.List.{flat_map, AllByRecursion}
use Rattle.nb_drivecmd.specs.declared.outcome.Hooking.{Hooking}
use Rattle.nb_machine.specs.Effects.{ShownWords, hooks_disk}
use Rattle.nb_machine.proofs.Eithers.{images_either}
use Rattle.nb_laws.specs.Events.{Event}
use Rattle.nb_laws.specs.Lists.{made, Opening, openings, opening_at, gathered}
use Rattle.nb_laws.specs.Moves.{MovedOpen, moves}
use Rattle.nb_laws.specs.CommandsSoFar.{CommandsSoFar, so_far, comes_by, comes_after, ComesTo, asking_in, hooking_in, hooking_so_far, shown_effect, query_in, shown_query, left_table, shown_table, surroundings_in}
use Rattle.nb_laws.specs.Hookings.{HooksDisk, HasDriveAnswer}
use Rattle.nb_laws.proofs.Settling.{comes_hooking, same_shown, WordsAre, images_words, drives_words, other_words, words_are, images_come, plain_comes, IsPlain}
use Rattle.nb_laws.proofs.Afterwards.{after_by_words, unasked_after}
use Rattle.nb_laws.proofs.SoFar.{left_unasked}
use Rattle.nb_laws.specs.Drives.{SessionOpening, sessions, session_with, session_opening, session_at}
use Rattle.nb_laws.specs.Webs.{opens_session}

-- what the words say that hook a disk, whatever opens were made
pub words_hook : (k j : ℕ) (m : CommandsSoFar) (shown : ShownWords) (ms : List MovedOpen) (hooking : Hooking) → comes_after k m shown ms ≡ hooks_disk hooking → comes_by j m shown ≡ hooks_disk hooking
words_hook k j m shown ms hooking is = comes_hooking k j m shown (hooks_disk hooking) (λ some. some) (after_by_words k m shown ms (hooks_disk hooking) (λ some. some) is)

-- and whatever was moved
pub still_hooks : (k j : ℕ) (m : CommandsSoFar) (shown : ShownWords) (ms others : List MovedOpen) (hooking : Hooking) → comes_after k m shown ms ≡ hooks_disk hooking → comes_after j m shown others ≡ hooks_disk hooking
still_hooks k j m shown ms others hooking is = unasked_after j m shown others (ap asking_in (words_hook k 0 m shown ms hooking is)) ∙ words_hook k j m shown ms hooking is

-- words that hook none
pub no_disk_where : (es : List Event) (shown : ShownWords) → (so_far es).shown ≡ Some shown → hooking_in (comes_by 0 (so_far es) shown) ≡ None → HooksDisk es → ⊥
no_disk_where es shown said none d =
    let same = same_shown (so_far es).shown d.names.0 shown d.names.1 said in
    let hooked = words_hook (made es) 0 (so_far es) d.names.0 (moves es) d.hooking d.names.2 in
    absurd (none-some d.hooking (sym none ∙ ap (λ x. hooking_in (comes_by 0 (so_far es) x)) (sym same) ∙ ap hooking_in hooked))

-- the hooking of the command that began last
pub hooking_is : (es : List Event) (hooking : Hooking) → ComesTo es (made es) (hooks_disk hooking) → hooking_so_far (so_far es) ≡ Some hooking
hooking_is es hooking (shown, said, is) = ap (option_and_then (λ x. hooking_in (comes_by 0 (so_far es) x))) said ∙ ap hooking_in (words_hook (made es) 0 (so_far es) shown (moves es) hooking is)

-- its words ask for nothing by one exchange
disk_unasked : (k : ℕ) (m : CommandsSoFar) (shown : ShownWords) (hooking : Hooking) → ((n : ℕ) → comes_by n m shown ≡ hooks_disk hooking) → query_in (shown_effect k m.table shown) ≡ None
disk_unasked k m shown hooking words = by (words_are m.table shown.expanded shown.words)
  where
    by : WordsAre m.table shown.expanded shown.words → query_in (shown_effect k m.table shown) ≡ None
    by (images_words c at keeps stays) = absurd (none-some hooking (sym (images_either (λ e. hooking_in e ≡ None) (λ o. refl) (λ y. refl) (λ wanted. refl) (λ q. refl) (surroundings_in 0 m) c) ∙ ap hooking_in (sym (images_come 0 m shown c (at 0)) ∙ words 0)))
    by (drives_words c at keeps stays) = ap query_in (at k)
    by (other_words plain) = absurd (subst IsPlain (sym (plain_comes k m shown (plain k)) ∙ words k) (plain k))

-- such words ask for nothing by one exchange, so the settings stay
pub disk_leaves : (es : List Event) (hooking : Hooking) → ComesTo es (made es) (hooks_disk hooking) → left_table es (so_far es).table (so_far es).shown ≡ shown_table (so_far es).table (so_far es).shown
disk_leaves es hooking (shown, said, is) =
    left_unasked es (so_far es).table (so_far es).shown (ap (shown_query (made es - 1) (so_far es).table) said ∙ disk_unasked (made es - 1) (so_far es) shown hooking (λ n. words_hook (made es) n (so_far es) shown (moves es) hooking is))

-- AN OPEN THAT IS NO DRIVE'S

abbrev IsBare : Opening → Type 0
IsBare o = opens_session o ≡ false

bare_one : (k : ℕ) (before : List Event) (os : List Opening) → AllByRecursion IsBare os → flat_map (session_opening k before) os ≡ []
bare_one k before [] h = refl
bare_one k before (o ∷ os) h = ap (λ b. cond b (session_with k before o ∷ []) [] ++ flat_map (session_opening k before) os) h.0 ∙ bare_one k before os h.1

all_front : (xs ys : List Opening) → AllByRecursion IsBare (xs ++ ys) → AllByRecursion IsBare xs
all_front [] ys h = tt
all_front (x ∷ xs) ys h = (h.0, all_front xs ys h.1)

all_back : (xs ys : List Opening) → AllByRecursion IsBare (xs ++ ys) → AllByRecursion IsBare ys
all_back [] ys h = h
all_back (x ∷ xs) ys h = all_back xs ys h.1

bare_sessions : (k : ℕ) (before es : List Event) → AllByRecursion IsBare (gathered (opening_at k) before es) → gathered (session_at k) before es ≡ []
unfolding gathered
bare_sessions k before [] h = refl
bare_sessions k before (e ∷ es) h =
    let rest = gathered (opening_at k) (before ++ e ∷ []) es in
    ap (λ z. z ++ gathered (session_at k) (before ++ e ∷ []) es) (bare_one k before (opening_at k before e) (all_front (opening_at k before e) rest h))
    ∙ bare_sessions k (before ++ e ∷ []) es (all_back (opening_at k before e) rest h)

pub no_sessions : (k : ℕ) (es : List Event) (o : Opening) → openings k es ≡ o ∷ [] → opens_session o ≡ false → sessions k es ≡ []
unfolding openings sessions
no_sessions k es o opened bare = bare_sessions k [] es (subst (AllByRecursion IsBare) (sym opened) (bare, tt))

-- has answered nothing as a drive
pub no_drive_last : (es : List Event) (o : Opening) (kind : ℕ) → openings (made es - 1) es ≡ o ∷ [] → o.kind ≡ kind → (kind == 3) ≡ false → HasDriveAnswer es → ⊥
no_drive_last es o kind opened is other h =
    let none = no_sessions (made es - 1) es o opened (ap (λ k. k == 3) is ∙ other) in
    no_session h.session (sym none ∙ h.is)
  where
    no_session : (s : SessionOpening) → ◌≡◌ {A = List SessionOpening} [] (s ∷ []) → ⊥
    no_session s e = cc e
