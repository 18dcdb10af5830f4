-- By the laws alone: an open that lives is the running command's own, or one on which a drive was hooked.
use Rattle.std.proofs.Common.{◌≡◌, ◌⊎◌, inl, inr, ℕ, ◌+◌, ◌-◌, ◌≤◌, length, true, false, ◌||◌, List, [], ◌∷◌, ◌++◌, Option, Some, None, sym, ◌∙◌, ap, subst, append_assoc, append-nil, add-zero, cond, Bool, ◌==◌, refl}
use Rattle.std.specs.List.{AllByRecursion, list_any}
use Rattle.std.proofs.Math.Bool.{or-false}
use Rattle.std.proofs.lemmas.Bool.{eqb-true}
use Rattle.nb_tftp.proofs.BlockLemmas.{either_way}
use Rattle.nb_terms.specs.declared.cause.Cause.{Cause}
use Rattle.nb_drivecmd.specs.declared.drive.Drive.{Drive}
use Rattle.nb_machine.specs.Effects.{Effect, asks, inquires, hooks_disk, onward_effect, ShownWords, settled_effect}
use Rattle.nb_machine.specs.Errands.{Onward, fetches_now, echoes_now, hooks_now, looks_up_now}
use Rattle.nb_machine.specs.Queries.{for_host}
use Rattle.nb_laws.specs.Events.{Event}
use Rattle.nb_laws.specs.CommandsSoFar.{CommandsSoFar, ScriptSoFar, so_far, so_far_by, running_base, shown_effect, comes_by, ComesTo}
use Rattle.nb_laws.specs.Moves.{moves}
use Rattle.nb_image.specs.Images.{ImageList}
use Rattle.nb_settings.specs.Tables.{TableLists}
use Rattle.nb_laws.specs.Lists.{made, opens_by, Opening, opening_at, openings, is_end_of, open_has_ended, live, came_ok}
use Rattle.nb_laws.specs.Hookings.{is_on_open, OnlyDrivesLive, boots_hooking, boots_hooked, HasRead}
use Rattle.nb_laws.proofs.Afterwards.{asks_by_words}
use Rattle.nb_laws.proofs.SoFar.{so_far_more}
use Rattle.nb_laws.proofs.Stays.{IsAsking}
use Rattle.nb_laws.proofs.Tellings.{made_more, openings_more, over_more, no_more, live_same}
use Rattle.nb_laws.specs.CommandOpens.{CommandOpen, command_open_by, command_open, over_of}
use Rattle.nb_laws.specs.Openings.{OpensFor, opens_for_file, opens_for_query, opens_onward, opens_moved, opens_for_disk, opens_disk_onward}
use Rattle.nb_laws.specs.Frames.{HoldsResult, by_words, by_jump, by_no_label, by_shut, by_sleep, by_failed_end, by_found, by_images, by_file, by_move, by_full_next, by_echo_of_host, by_unhook, by_no_hooking, by_full_hooking, by_hooking, by_booting, by_lost_drive}
use Rattle.nb_lawful.specs.Results.{HasEndedOpens}
use Rattle.nb_lawful.proofs.Quiet.{command_open_more}
use Rattle.nb_lawful.proofs.Awaited.{its, last_view, snoc_both}
use Rattle.nb_lawful.proofs.HookWords.{Hooks, HookedOn, serves, keeps_by, reads_by}

-- WHAT HOLDS AFTER ANY EVENTS

-- a command's open has ended, or it has none
abbrev pub IsOver : Option Cause → Type 0
IsOver None = ⊥
IsOver (Some cause) = Unit {0}

abbrev pub IsSettled : Option CommandOpen → Type 0
IsSettled None = Unit {0}
IsSettled (Some o) = IsOver o.over

-- it is the one made last
abbrev pub IsLastMade : Option CommandOpen → ℕ → Type 0
IsLastMade None n = Unit {0}
IsLastMade (Some o) n = o.number + 1 ≡ n

-- a command that has made an open asks for something by its words
abbrev pub HasAsked : Option CommandOpen → CommandsSoFar → Type 0
HasAsked None m = Unit {0}
HasAsked (Some o) m = (n : ℕ) × (shown : ShownWords) × (m.shown ≡ Some shown) × IsAsking (comes_by n m shown)

-- while the command's open lives the settings and the device's state stay
abbrev pub SettingsStay : List Event → Type 0
SettingsStay es = (j : ℕ) (o was : Opening) (before since : List Event) → live j es ≡ o ∷ [] → command_open es ≡ its j None → es ≡ before ++ since → openings j before ≡ was ∷ [] →
    ((so_far before).table ≡ (so_far es).table) × ((so_far before).up ≡ (so_far es).up)

-- a drive that was hooked was so on an open of its kind
pub record IsDrives (es : List Event) (d : Drive) : Type 0 where
  pub opening : Opening
  pub opened : openings d.open_number es ≡ opening ∷ []
  pub kind : opening.kind ≡ 3

-- all that lives are drives
abbrev pub OnlyHooked : List Event → Type 0
OnlyHooked es = (j : ℕ) (o : Opening) → live j es ≡ o ∷ [] → HookedOn j (so_far es).hooked

-- what holds while a command has no result yet
pub record IsRunning (es : List Event) : Type 0 where
  pub own : (j : ℕ) (o : Opening) → live j es ≡ o ∷ [] → (command_open es ≡ its j None) ⊎ HookedOn j (so_far es).hooked
  pub asked : HasAsked (command_open es) (so_far es)
  pub stay : SettingsStay es

pub record Solitude (es : List Event) : Type 0 where
  pub opened : (j : ℕ) → (openings j es ≡ []) ⊎ ((o : Opening) × (openings j es ≡ o ∷ []))
  pub unopened : (j : ℕ) → made es ≤ j → openings j es ≡ []
  pub last : IsLastMade (command_open es) (made es)
  pub kinds : AllByRecursion (IsDrives es) (so_far es).hooked
  pub none_left : (so_far es).is_open ≡ false → (so_far es).left ≡ None
  pub none_shown : (cause : Cause) → (so_far es).left ≡ Some cause → (so_far es).shown ≡ None
  -- but where a script was left that a command has run
  pub idle : (so_far es).is_open ≡ false → OnlyHooked es
  pub handed : (cause : Cause) → (so_far es).left ≡ Some cause → OnlyHooked es
  pub running : (so_far es).is_open ≡ true → (so_far es).left ≡ None → IsRunning es

live_either : (b : Bool) (os : List Opening) → (os ≡ []) ⊎ ((o : Opening) × (os ≡ o ∷ [])) → (cond b [] os ≡ []) ⊎ ((x : Opening) × (cond b [] os ≡ x ∷ []))
live_either true os one = inl refl
live_either false os one = one

-- one open of each number at most lives
pub one_live : (es : List Event) → Solitude es → (j : ℕ) → (live j es ≡ []) ⊎ ((o : Opening) × (live j es ≡ o ∷ []))
unfolding live
one_live es a j = live_either (open_has_ended j es) (openings j es) (a.opened j)

-- where the command's open has ended, or was not made, those that live are drives
pub only_hooked : (es : List Event) → IsRunning es → IsSettled (command_open es) → OnlyHooked es
only_hooked es r settled j o lives = elim (r.own j o lives) [
  | inl its_own ↦ absurd (subst IsSettled its_own settled)
  | inr hooked ↦ hooked
]

pub only_drives : (es : List Event) → OnlyHooked es → OnlyDrivesLive es
only_drives es h k o lives = serves k es o lives (h k o lives)

-- whose each open that lives is
pub whose : (es : List Event) → Solitude es → (j : ℕ) (o : Opening) → live j es ≡ o ∷ [] → (command_open es ≡ its j None) ⊎ HookedOn j (so_far es).hooked
whose es a j o lives = by (so_far es).is_open refl (so_far es).left refl
  where
    by : (b : Bool) → (so_far es).is_open ≡ b → (left : Option Cause) → (so_far es).left ≡ left → (command_open es ≡ its j None) ⊎ HookedOn j (so_far es).hooked
    by false is left at = inr (a.idle is j o lives)
    by true is None at = (a.running is at).own j o lives
    by true is (Some cause) at = inr (a.handed cause at j o lives)

-- a drive's open is of its kind
pub hooked_kind : (es : List Event) → Solitude es → (j : ℕ) (o : Opening) → openings j es ≡ o ∷ [] → HookedOn j (so_far es).hooked → o.kind ≡ 3
hooked_kind es a j o opening hooked = by (so_far es).hooked a.kinds hooked
  where
    same : (x y : Opening) → x ∷ [] ≡ y ∷ [] → x ≡ y
    same x y e = cc

    by : (ds : List Drive) → AllByRecursion (IsDrives es) ds → HookedOn j ds → o.kind ≡ 3
    by [] each h = absurd (let no : false ≡ true = h in cc no)
    by (d ∷ ds) each h = either_way (d.open_number == j)
        (λ on. ap (λ (x : Opening). x.kind) (same o each.0.opening (sym opening ∙ sym (ap (λ k. openings k es) (eqb-true d.open_number j on)) ∙ each.0.opened)) ∙ each.0.kind)
        (λ other. by ds each.1 (ap (λ b. b || list_any (is_on_open j) ds) (sym other) ∙ h))

-- WHERE A RESULT OR AN OPEN STANDS

settled_none : (es : List Event) → command_open es ≡ None → IsSettled (command_open es)
settled_none es none = subst IsSettled (sym none) tt

settled_end : (x : Option CommandOpen) (cause : Cause) → over_of x ≡ Some cause → IsSettled x
settled_end None cause e = tt
settled_end (Some o) cause e = subst IsOver (sym e) tt

settled_well : (x : Option CommandOpen) → came_ok (over_of x) ≡ true → IsSettled x
settled_well None e = tt
settled_well (Some o) e = by o.over e
  where
    by : (c : Option Cause) → came_ok c ≡ true → IsOver c
    by None e = let no : false ≡ true = e in cc no
    by (Some cause) e = tt

-- the command's open has ended, or its disk has answered on it, as the command wants it
pub over_by : (es : List Event) (cause : Cause) → HoldsResult es cause → IsSettled (command_open es) ⊎ Hooks es cause
over_by es cause (by_words o none comes is) = inl (settled_none es none)
over_by es cause (by_jump name line none comes there is) = inl (settled_none es none)
over_by es cause (by_no_label name none comes nowhere is) = inl (settled_none es none)
over_by es cause (by_shut none comes is) = inl (settled_none es none)
over_by es cause (by_sleep seconds none comes due is) = inl (settled_none es none)
over_by es cause (by_failed_end end bad) = inl (settled_end (command_open es) cause end)
over_by es cause (by_found query last well comes is) = inl (settled_well (command_open es) well)
over_by es cause (by_images c none comes gives) = inl (settled_none es none)
over_by es cause (by_file c well comes gives) = inl (settled_well (command_open es) well)
over_by es cause (by_move o moved comes is) = inl (settled_well (command_open es) moved.ended)
over_by es cause (by_full_next errand name by well comes kind full is) = inl (settled_well (command_open es) well)
over_by es cause (by_echo_of_host name by well comes kind is) = inl (settled_well (command_open es) well)
over_by es cause (by_unhook number why none comes is) = inl (settled_none es none)
over_by es cause (by_no_hooking hooking none comes err) = inl (settled_none es none)
over_by es cause (by_full_hooking disk well kind full is) = inl (settled_well (command_open es) well)
over_by es cause (by_hooking disk has answer is) = inr (keeps_by es cause disk has answer is)
over_by es cause (by_booting k bytes (boots_hooking disk has own) read is) = inr (reads_by es cause disk bytes has (subst (λ j. HasRead j es bytes) own read) is)
over_by es cause (by_booting k bytes (boots_hooked drive none names own) read is) = inl (settled_none es none)
over_by es cause (by_lost_drive drive none names ended) = inl (settled_none es none)

pub settled_opens : (x : Option CommandOpen) → HasEndedOpens x → IsSettled x
settled_opens None h = tt
settled_opens (Some o) (cause, e) = subst IsOver (sym e) tt

pub settled_for : (es : List Event) (number kind server port own : ℕ) (target : List ℕ) → OpensFor es number kind server port own target → IsSettled (command_open es)
settled_for es number kind server port own target (opens_for_file r) = settled_none es r.first
settled_for es number kind server port own target (opens_for_query r) = settled_none es r.first
settled_for es number kind server port own target (opens_for_disk r) = settled_none es r.first
settled_for es number kind server port own target (opens_onward r) = settled_well (command_open es) r.finds.ended
settled_for es number kind server port own target (opens_disk_onward r) = settled_well (command_open es) r.finds.ended
settled_for es number kind server port own target (opens_moved r) = settled_well (command_open es) r.moved.ended

asks_next : (next : Onward) → IsAsking (onward_effect next)
asks_next (fetches_now wanted) = tt
asks_next (echoes_now server) = tt
asks_next (hooks_now hooking server) = tt
asks_next (looks_up_now errand name by) = tt

-- such an open is asked for, by the words of its command
asked_to : (es : List Event) (opens : ℕ) (e : Effect) → IsAsking e → ComesTo es opens e → (n : ℕ) × (shown : ShownWords) × ((so_far es).shown ≡ Some shown) × IsAsking (comes_by n (so_far es) shown)
asked_to es opens e wanted (shown, said, is) = let (n, asked) = asks_by_words opens (so_far es) shown (moves es) (subst IsAsking (sym is) wanted) in (n, shown, said, asked)

pub asked_for : (es : List Event) (number kind server port own : ℕ) (target : List ℕ) → OpensFor es number kind server port own target → (n : ℕ) × (shown : ShownWords) × ((so_far es).shown ≡ Some shown) × IsAsking (comes_by n (so_far es) shown)
asked_for es number kind server port own target (opens_for_file r) = asked_to es number (asks r.wanted) tt r.names
asked_for es number kind server port own target (opens_for_query r) = asked_to es number (inquires r.query) tt r.names
asked_for es number kind server port own target (opens_for_disk r) = asked_to es number (hooks_disk r.hooking) tt r.names
asked_for es number kind server port own target (opens_onward r) = asked_to es (made es - 1) (inquires (for_host r.errand r.name r.by)) tt r.names
asked_for es number kind server port own target (opens_disk_onward r) = asked_to es number (hooks_disk r.hooking) tt r.names
asked_for es number kind server port own target (opens_moved r) = asked_to es number (onward_effect r.next) (asks_next r.next) r.names

-- EVENTS THAT CHANGE NOTHING OF IT

pub record IsCalm (es : List Event) (e : Event) : Type 0 where
  pub unopens : (j : ℕ) → opening_at j es e ≡ []
  pub unends : (j : ℕ) → is_end_of j e ≡ false
  pub opens : (last : Option CommandOpen) → command_open_by last e ≡ last
  pub none : opens_by e ≡ 0
  pub table : (so_far_by es (so_far es) e).table ≡ (so_far es).table
  pub up : (so_far_by es (so_far es) e).up ≡ (so_far es).up
  pub shown : (so_far_by es (so_far es) e).shown ≡ (so_far es).shown
  pub is_open : (so_far_by es (so_far es) e).is_open ≡ (so_far es).is_open
  pub left : (so_far_by es (so_far es) e).left ≡ (so_far es).left
  pub images : (so_far_by es (so_far es) e).images ≡ (so_far es).images
  pub scripts : (so_far_by es (so_far es) e).scripts ≡ (so_far es).scripts
  pub hooked : (so_far_by es (so_far es) e).hooked ≡ (so_far es).hooked
  pub drives : (so_far_by es (so_far es) e).drives ≡ (so_far es).drives

-- an event at which no open begins or ends
pub live_then : (es : List Event) (e : Event) (j : ℕ) → opening_at j es e ≡ [] → is_end_of j e ≡ false → live j (es ++ e ∷ []) ≡ live j es
live_then es e j none lasts = live_same j (es ++ e ∷ []) es (openings_more j es e ∙ no_more (openings j es) _ none) (over_more j es e ∙ ap (λ b. open_has_ended j es || b) lasts ∙ or-false (open_has_ended j es))

pub openings_then : (es : List Event) (e : Event) (j : ℕ) → opening_at j es e ≡ [] → openings j (es ++ e ∷ []) ≡ openings j es
openings_then es e j none = openings_more j es e ∙ no_more (openings j es) _ none

-- drives that were hooked stay so
pub kinds_then : (es : List Event) (e : Event) (ds : List Drive) → ((j : ℕ) → opening_at j es e ≡ []) → AllByRecursion (IsDrives es) ds → AllByRecursion (IsDrives (es ++ e ∷ [])) ds
kinds_then es e [] none h = tt
kinds_then es e (d ∷ ds) none h = (record { opening = h.0.opening; opened = openings_then es e d.open_number (none d.open_number) ∙ h.0.opened; kind = h.0.kind }, kinds_then es e ds none h.1)

-- the settings stay by one more event, where each open that lives then as the command's did so before, and they are the same
pub stay_more : (es : List Event) (e : Event) → SettingsStay es →
    ((j : ℕ) (o was : Opening) (before since : List Event) → live j (es ++ e ∷ []) ≡ o ∷ [] → command_open (es ++ e ∷ []) ≡ its j None → es ≡ before ++ since → openings j before ≡ was ∷ [] →
    (live j es ≡ o ∷ []) × (command_open es ≡ its j None) × ((so_far (es ++ e ∷ [])).table ≡ (so_far es).table) × ((so_far (es ++ e ∷ [])).up ≡ (so_far es).up)) → SettingsStay (es ++ e ∷ [])
stay_more es e stay same = λ j o was before since lives own split made_one. by j o was before since lives own split made_one (last_view since)
  where
    by : (j : ℕ) (o was : Opening) (before since : List Event) → live j (es ++ e ∷ []) ≡ o ∷ [] → command_open (es ++ e ∷ []) ≡ its j None → es ++ e ∷ [] ≡ before ++ since → openings j before ≡ was ∷ [] →
        (since ≡ []) ⊎ ((front : List Event) × (z : Event) × (since ≡ front ++ z ∷ [])) →
        ((so_far before).table ≡ (so_far (es ++ e ∷ [])).table) × ((so_far before).up ≡ (so_far (es ++ e ∷ [])).up)
    by j o was before since lives own split made_one (inl none) =
        let all : before ≡ es ++ e ∷ [] = sym (append-nil before) ∙ sym (ap (λ z. before ++ z) none) ∙ sym split in
        (ap (λ (z : List Event). (so_far z).table) all, ap (λ (z : List Event). (so_far z).up) all)
    by j o was before since lives own split made_one (inr (front, z, is)) =
        let two = snoc_both es (before ++ front) e z (split ∙ ap (λ y. before ++ y) is ∙ sym (append_assoc before front (z ∷ []))) in
        let s = same j o was before front lives own two.0 made_one in
        let t = stay j o was before front s.0 s.1 two.0 made_one in
        (t.0 ∙ sym s.2, t.1 ∙ sym s.3)

-- a command comes to the same
comes_as : (n : ℕ) (m m' : CommandsSoFar) (words : ShownWords) → m'.table ≡ m.table → m'.images ≡ m.images → m'.scripts ≡ m.scripts → m'.drives ≡ m.drives → comes_by n m' words ≡ comes_by n m words
comes_as n m m' words table images scripts drives =
    ap (λ (t : TableLists). settled_effect (record { opens = n; table = t; images = m'.images; drives = m'.drives; base = running_base m'.scripts; depth = length m'.scripts }) (shown_effect n t words)) table
    ∙ ap (λ (l : ImageList). settled_effect (record { opens = n; table = m.table; images = l; drives = m'.drives; base = running_base m'.scripts; depth = length m'.scripts }) (shown_effect n m.table words)) images
    ∙ ap (λ (l : List Drive). settled_effect (record { opens = n; table = m.table; images = m.images; drives = l; base = running_base m'.scripts; depth = length m'.scripts }) (shown_effect n m.table words)) drives
    ∙ ap (λ (z : List ScriptSoFar). settled_effect (record { opens = n; table = m.table; images = m.images; drives = m.drives; base = running_base z; depth = length z }) (shown_effect n m.table words)) scripts

pub asked_as : (x : Option CommandOpen) (m m' : CommandsSoFar) → m'.shown ≡ m.shown → m'.table ≡ m.table → m'.images ≡ m.images → m'.scripts ≡ m.scripts → m'.drives ≡ m.drives → HasAsked x m → HasAsked x m'
asked_as None m m' shown table images scripts drives a = tt
asked_as (Some o) m m' shown table images scripts drives (n, words, said, by_open) = (n, words, shown ∙ said, subst IsAsking (sym (comes_as n m m' words table images scripts drives)) by_open)

pub calm_then : (es : List Event) (e : Event) → IsCalm es e → Solitude es → Solitude (es ++ e ∷ [])
calm_then es e c a =
    let same : (j : ℕ) → live j (es ++ e ∷ []) ≡ live j es = λ j. live_then es e j (c.unopens j) (c.unends j) in
    let opens : command_open (es ++ e ∷ []) ≡ command_open es = command_open_more es e ∙ c.opens (command_open es) in
    let now : so_far (es ++ e ∷ []) ≡ so_far_by es (so_far es) e = so_far_more es e in
    let is_open : (so_far (es ++ e ∷ [])).is_open ≡ (so_far es).is_open = ap (λ (m : CommandsSoFar). m.is_open) now ∙ c.is_open in
    let table : (so_far (es ++ e ∷ [])).table ≡ (so_far es).table = ap (λ (m : CommandsSoFar). m.table) now ∙ c.table in
    let up : (so_far (es ++ e ∷ [])).up ≡ (so_far es).up = ap (λ (m : CommandsSoFar). m.up) now ∙ c.up in
    let shown : (so_far (es ++ e ∷ [])).shown ≡ (so_far es).shown = ap (λ (m : CommandsSoFar). m.shown) now ∙ c.shown in
    let left : (so_far (es ++ e ∷ [])).left ≡ (so_far es).left = ap (λ (m : CommandsSoFar). m.left) now ∙ c.left in
    let images : (so_far (es ++ e ∷ [])).images ≡ (so_far es).images = ap (λ (m : CommandsSoFar). m.images) now ∙ c.images in
    let scripts : (so_far (es ++ e ∷ [])).scripts ≡ (so_far es).scripts = ap (λ (m : CommandsSoFar). m.scripts) now ∙ c.scripts in
    let hooked : (so_far (es ++ e ∷ [])).hooked ≡ (so_far es).hooked = ap (λ (m : CommandsSoFar). m.hooked) now ∙ c.hooked in
    let drives : (so_far (es ++ e ∷ [])).drives ≡ (so_far es).drives = ap (λ (m : CommandsSoFar). m.drives) now ∙ c.drives in
    let made_is : made (es ++ e ∷ []) ≡ made es = made_more es e ∙ ap (λ n. made es + n) c.none ∙ add-zero (made es) in
    let on : (j : ℕ) → HookedOn j (so_far es).hooked → HookedOn j (so_far (es ++ e ∷ [])).hooked = λ j h. subst (HookedOn j) (sym hooked) h in
    record {
      opened = λ j. subst (λ z. (z ≡ []) ⊎ ((o : Opening) × (z ≡ o ∷ []))) (sym (openings_then es e j (c.unopens j))) (a.opened j);
      unopened = λ j more. openings_then es e j (c.unopens j) ∙ a.unopened j (subst (λ n. n ≤ j) made_is more);
      last = subst (IsLastMade (command_open (es ++ e ∷ []))) (sym made_is) (subst (λ z. IsLastMade z (made es)) (sym opens) a.last);
      kinds = subst (AllByRecursion (IsDrives (es ++ e ∷ []))) (sym hooked) (kinds_then es e (so_far es).hooked c.unopens a.kinds);
      none_left = λ off. left ∙ a.none_left (sym is_open ∙ off);
      none_shown = λ cause some. shown ∙ a.none_shown cause (sym left ∙ some);
      idle = λ off j o is. on j (a.idle (sym is_open ∙ off) j o (sym (same j) ∙ is));
      handed = λ cause some j o is. on j (a.handed cause (sym left ∙ some) j o (sym (same j) ∙ is));
      running = λ still none. runs same opens on shown table up images scripts drives (a.running (sym is_open ∙ still) (sym left ∙ none));
    }
  where
    runs : ((j : ℕ) → live j (es ++ e ∷ []) ≡ live j es) → command_open (es ++ e ∷ []) ≡ command_open es → ((j : ℕ) → HookedOn j (so_far es).hooked → HookedOn j (so_far (es ++ e ∷ [])).hooked) →
        (so_far (es ++ e ∷ [])).shown ≡ (so_far es).shown → (so_far (es ++ e ∷ [])).table ≡ (so_far es).table → (so_far (es ++ e ∷ [])).up ≡ (so_far es).up → (so_far (es ++ e ∷ [])).images ≡ (so_far es).images →
        (so_far (es ++ e ∷ [])).scripts ≡ (so_far es).scripts → (so_far (es ++ e ∷ [])).drives ≡ (so_far es).drives → IsRunning es → IsRunning (es ++ e ∷ [])
    runs same opens on shown table up images scripts drives r = record {
      own = λ j o is. elim (r.own j o (sym (same j) ∙ is)) [
        | inl its_own ↦ inl (opens ∙ its_own)
        | inr hooked ↦ inr (on j hooked)
      ];
      asked = asked_as (command_open (es ++ e ∷ [])) (so_far es) (so_far (es ++ e ∷ [])) shown table images scripts drives (subst (λ z. HasAsked z (so_far es)) (sym opens) r.asked);
      stay = stay_more es e r.stay (λ j o was before since is own split made_one. (sym (same j) ∙ is, sym opens ∙ own, table, up));
    }
