-- What a command comes to by all that it finds: what it would come to with other opens made, and what it leaves.
use Rattle.std.proofs.Common.{◌≡◌, ℕ, ◌==◌, ◌<◌, Bool, true, false, List, Option, Some, None, Result, Ok, Err, refl, sym, ◌∙◌, ap, subst}
use Rattle.nb_defs.specs.Causes.{ok}
use Rattle.nb_defs.specs.Commands.{refused}
use Rattle.nb_settings.specs.Tables.{TableLists}
use Rattle.nb_expand.specs.declared.error.ExpandError.{ExpandError}
use Rattle.nb_command.specs.declared.command_plan.CommandPlan.{CommandPlan}
use Rattle.nb_command.specs.declared.command_plan.CommandPlan.TheVariants as plan
use Rattle.nb_command.specs.declared.error.ApplyError.{ApplyError}
use Rattle.nb_command.specs.Bases.{base_by}
use Rattle.nb_command.specs.Device.{device_change}
use Rattle.nb_command.specs.Planning.{planned}
use Rattle.nb_image.specs.Images.{ImageList}
use Rattle.nb_drivecmd.specs.declared.commands.DriveCommand.{DriveCommand}
use Rattle.nb_drivecmd.specs.declared.drive.Drive.{Drive}
use Rattle.nb_imagecmd.specs.declared.asking.Asking.{Asking}
use Rattle.nb_imagecmd.specs.declared.commands.ImageCommand.{ImageCommand}
use Rattle.nb_imagecmd.specs.declared.error.PlanError.{PlanError}
use Rattle.nb_imagecmd.specs.declared.outcome.ImageOutcome.{ImageOutcome}
use Rattle.nb_imagecmd.specs.declared.outcome.ImageOutcome.TheVariants.{Done, Print, Ask, Run, Boot}
use Rattle.nb_imagecmd.specs.CarryingOut.{image_effect}
use Rattle.nb_imagecmd.specs.Executing.{ImageAnswer}
use Rattle.nb_uri.specs.declared.target.UriTarget.{UriTarget}
use Rattle.nb_uri.specs.declared.target.UriTarget.TheVariants.{Tftp, Http, Iscsi}
use Rattle.nb_machine.specs.Effects.{Effect, says, asks, goes, sleeps, shuts_device, inquires, on_images, on_drives, hooks_disk, unhooks_drive, boots_drive, concludes_at_once, unless_full, device_effect, plan_effect, planned_effect, planned_table, planned_up, words_effect, words_table, words_up, expansion, expanded_effect, effect, ShownWords, shown_as, Surroundings, settled_effect, images_effect, drives_effect, asked_effect, image_outcome_effect, image_answer_effect}
use Rattle.nb_machine.specs.Errands.{fetches_then, echoes_then, hooks_then}
use Rattle.nb_machine.specs.Queries.{Query, for_lease, for_echo, for_host, for_address}
use Rattle.nb_machine.proofs.Eithers.{either_of, full_either, pinged_case, pinged_either, looked_up_case, looked_up_either, asked_case, images_either}
use Rattle.nb_machine.proofs.Words.{effect_of_words, effect_of_refused}
use Rattle.nb_laws.specs.CommandsSoFar.{CommandsSoFar, so_far, shown_effect, shown_table, shown_up, surroundings_in, comes_by, concluded_in, hooking_in}
use Rattle.nb_laws.specs.Events.{Event}
use Rattle.nb_laws.specs.Progress.{NoneOversleeps}
use Rattle.nb_laws.proofs.Inquiries.{shown_inquiry_keeps}
use Rattle.nb_laws.proofs.Stays.{Stays, IsAsking, host_stays, shown_stays}

-- A COMMAND ON IMAGES, OR ANOTHER

-- no file or disk of a host that is looked up
abbrev pub IsNoFetch : Query → Type 0
IsNoFetch for_lease = Unit {0}
IsNoFetch (for_echo server) = Unit {0}
IsNoFetch (for_address setting name by) = Unit {0}
IsNoFetch (for_host echoes_then name by) = Unit {0}
IsNoFetch (for_host (hooks_then hooking) name by) = ⊥
IsNoFetch (for_host (fetches_then asking) name by) = ⊥

-- it is settled by the opens and the settings alone
abbrev pub IsPlain : Effect → Type 0
IsPlain (says o) = Unit {0}
IsPlain (asks wanted) = ⊥
IsPlain (goes name) = Unit {0}
IsPlain (sleeps seconds) = Unit {0}
IsPlain shuts_device = Unit {0}
IsPlain (inquires q) = IsNoFetch q
IsPlain (on_images c) = ⊥
IsPlain (on_drives c) = ⊥
IsPlain (hooks_disk hooking) = ⊥
IsPlain (unhooks_drive number cause) = ⊥
IsPlain (boots_drive number) = ⊥
IsPlain (concludes_at_once c) = ⊥

pub plain_settles : (x : Surroundings) (e : Effect) → IsPlain e → settled_effect x e ≡ e
plain_settles x (says o) is = refl
plain_settles x (asks wanted) is = absurd is
plain_settles x (goes name) is = refl
plain_settles x (sleeps seconds) is = refl
plain_settles x shuts_device is = refl
plain_settles x (inquires q) is = refl
plain_settles x (on_images c) is = absurd is
plain_settles x (on_drives c) is = absurd is
plain_settles x (hooks_disk hooking) is = absurd is
plain_settles x (unhooks_drive number cause) is = absurd is
plain_settles x (boots_drive number) is = absurd is
plain_settles x (concludes_at_once c) is = absurd is

device_plain : (e : Effect) → IsPlain e → (r : Result Bool ApplyError) → IsPlain (device_effect e r)
device_plain e is (Ok up) = is
device_plain e is (Err why) = tt

-- however many opens were made
pub data PlanIs (table : TableLists) (p : CommandPlan) : Type 0 where
  images_plan : (c : ImageCommand) → p ≡ plan.Images c → PlanIs table p
  drives_plan : (c : DriveCommand) → p ≡ plan.Drives c → PlanIs table p
  other_plan : ((k : ℕ) → IsPlain (plan_effect k table p)) → PlanIs table p

pub plan_is : (table : TableLists) (p : CommandPlan) → PlanIs table p
plan_is table (plan.Images c) = images_plan c refl
plan_is table (plan.Drives c) = drives_plan c refl
plan_is table (plan.Echo newline text) = other_plan (λ k. tt)
plan_is table (plan.Goto label) = other_plan (λ k. tt)
plan_is table (plan.Exit x) = other_plan (λ k. tt)
plan_is table (plan.Isset word) = other_plan (λ k. tt)
plan_is table (plan.Iseq a b) = other_plan (λ k. tt)
plan_is table (plan.Set name value) = other_plan (λ k. tt)
plan_is table (plan.Clear name) = other_plan (λ k. tt)
plan_is table (plan.Show name) = other_plan (λ k. tt)
plan_is table (plan.Inc name by) = other_plan (λ k. tt)
plan_is table (plan.Ifopen device) = other_plan (λ k. device_plain (says (refused ok)) tt (device_change device true))
plan_is table (plan.Ifclose device) = other_plan (λ k. device_plain shuts_device tt (device_change device false))
plan_is table (plan.Dhcp device) = other_plan (λ k. device_plain (unless_full k (inquires for_lease)) (full_either IsPlain (λ o. tt) k (inquires for_lease) tt) (device_change device true))
plan_is table (plan.Ping host) = other_plan (λ k. pinged_case IsPlain (λ o. tt) (λ server. tt) (λ name by. tt) k table host)
plan_is table (plan.Nslookup name host) = other_plan (λ k. looked_up_case IsPlain (λ o. tt) k table name host (λ asked by. tt))
plan_is table (plan.Sleep seconds) = other_plan (λ k. either_of IsPlain (seconds == 0) (says (refused ok)) (sleeps seconds) tt tt)

-- the words that a record shows are a command on images or drives, which leaves the settings and the device as they are, or another
pub data WordsAre (table : TableLists) (expanded : Bool) (ws : List (List ℕ)) : Type 0 where
  images_words : (c : ImageCommand) → ((k : ℕ) → shown_effect k table (shown_as expanded ws) ≡ on_images c) → shown_table table (Some (shown_as expanded ws)) ≡ table → ((up : Bool) → shown_up up (shown_as expanded ws) ≡ up) → WordsAre table expanded ws
  drives_words : (c : DriveCommand) → ((k : ℕ) → shown_effect k table (shown_as expanded ws) ≡ on_drives c) → shown_table table (Some (shown_as expanded ws)) ≡ table → ((up : Bool) → shown_up up (shown_as expanded ws) ≡ up) → WordsAre table expanded ws
  other_words : ((k : ℕ) → IsPlain (shown_effect k table (shown_as expanded ws))) → WordsAre table expanded ws

expanded_are : (table : TableLists) (ws : List (List ℕ)) → WordsAre table true ws
unfolding words_effect words_table words_up
expanded_are table ws = by (planned ws) refl
  where
    by_plan : (p : CommandPlan) → planned ws ≡ Ok p → PlanIs table p → WordsAre table true ws
    by_plan p is (images_plan c at) =
        let both : planned ws ≡ Ok (plan.Images c) = is ∙ ap (λ x. Ok x) at in
        images_words c (λ k. ap (planned_effect k table) both) (ap (λ r. shown_planned r) both) (λ up. ap (λ r. shown_planned_up up r) both)
      where
        shown_planned : Result CommandPlan PlanError → TableLists
        shown_planned r = planned_table table r

        shown_planned_up : Bool → Result CommandPlan PlanError → Bool
        shown_planned_up up r = planned_up up r
    by_plan p is (drives_plan c at) =
        let both : planned ws ≡ Ok (plan.Drives c) = is ∙ ap (λ x. Ok x) at in
        drives_words c (λ k. ap (planned_effect k table) both) (ap (λ r. shown_planned r) both) (λ up. ap (λ r. shown_planned_up up r) both)
      where
        shown_planned : Result CommandPlan PlanError → TableLists
        shown_planned r = planned_table table r

        shown_planned_up : Bool → Result CommandPlan PlanError → Bool
        shown_planned_up up r = planned_up up r
    by_plan p is (other_plan plain) = other_words (λ k. subst IsPlain (sym (ap (planned_effect k table) is)) (plain k))

    by : (r : Result CommandPlan PlanError) → planned ws ≡ r → WordsAre table true ws
    by (Ok p) is = by_plan p is (plan_is table p)
    by (Err why) is = other_words (λ k. subst IsPlain (sym (ap (planned_effect k table) is)) tt)

written_are : (table : TableLists) (ws : List (List ℕ)) → WordsAre table false ws
written_are table ws = by (expansion table ws) refl
  where
    by_words : (xs : List (List ℕ)) → expansion table ws ≡ Ok xs → WordsAre table true xs → WordsAre table false ws
    by_words xs is (images_words c at keeps stays) = images_words c (λ k. effect_of_words k table ws xs is ∙ at k) refl (λ up. refl)
    by_words xs is (drives_words c at keeps stays) = drives_words c (λ k. effect_of_words k table ws xs is ∙ at k) refl (λ up. refl)
    by_words xs is (other_words plain) = other_words (λ k. subst IsPlain (sym (effect_of_words k table ws xs is)) (plain k))

    by : (r : Result (List (List ℕ)) ExpandError) → expansion table ws ≡ r → WordsAre table false ws
    by (Ok xs) is = by_words xs is (expanded_are table xs)
    by (Err why) is = other_words (λ k. subst IsPlain (sym (effect_of_refused k table ws why is)) tt)

pub words_are : (table : TableLists) (expanded : Bool) (ws : List (List ℕ)) → WordsAre table expanded ws
words_are table true ws = expanded_are table ws
words_are table false ws = written_are table ws

-- what it comes to
pub images_come : (k : ℕ) (m : CommandsSoFar) (shown : ShownWords) (c : ImageCommand) → shown_effect k m.table shown ≡ on_images c → comes_by k m shown ≡ images_effect (surroundings_in k m) c
images_come k m shown c is = ap (settled_effect (surroundings_in k m)) is

pub drives_come : (k : ℕ) (m : CommandsSoFar) (shown : ShownWords) (c : DriveCommand) → shown_effect k m.table shown ≡ on_drives c → comes_by k m shown ≡ drives_effect (surroundings_in k m) c
drives_come k m shown c is = ap (settled_effect (surroundings_in k m)) is

-- the same, whatever opens were made
pub drives_stay : (k j : ℕ) (m : CommandsSoFar) (shown : ShownWords) (c : DriveCommand) → ((n : ℕ) → shown_effect n m.table shown ≡ on_drives c) → comes_by k m shown ≡ comes_by j m shown
drives_stay k j m shown c at = drives_come k m shown c (at k) ∙ sym (drives_come j m shown c (at j))

pub plain_comes : (k : ℕ) (m : CommandsSoFar) (shown : ShownWords) → IsPlain (shown_effect k m.table shown) → comes_by k m shown ≡ shown_effect k m.table shown
plain_comes k m shown is = plain_settles (surroundings_in k m) (shown_effect k m.table shown) is

-- IT SLEEPS, WHATEVER OPENS WERE MADE

abbrev IsAwake : Effect → Type 0
IsAwake (sleeps seconds) = ⊥
IsAwake (says o) = Unit {0}
IsAwake (asks wanted) = Unit {0}
IsAwake (goes name) = Unit {0}
IsAwake shuts_device = Unit {0}
IsAwake (inquires q) = Unit {0}
IsAwake (on_images c) = Unit {0}
IsAwake (on_drives c) = Unit {0}
IsAwake (hooks_disk hooking) = Unit {0}
IsAwake (unhooks_drive number cause) = Unit {0}
IsAwake (boots_drive number) = Unit {0}
IsAwake (concludes_at_once c) = Unit {0}

device_awake : (e : Effect) → IsAwake e → (r : Result Bool ApplyError) → IsAwake (device_effect e r)
device_awake e is (Ok up) = is
device_awake e is (Err why) = tt

plan_sleeps : (k j : ℕ) (table : TableLists) (p : CommandPlan) (n : ℕ) → plan_effect k table p ≡ sleeps n → plan_effect j table p ≡ sleeps n
plan_sleeps k j table (plan.Echo newline text) n e = e
plan_sleeps k j table (plan.Goto label) n e = e
plan_sleeps k j table (plan.Exit x) n e = e
plan_sleeps k j table (plan.Isset word) n e = e
plan_sleeps k j table (plan.Iseq a b) n e = e
plan_sleeps k j table (plan.Set name value) n e = e
plan_sleeps k j table (plan.Clear name) n e = e
plan_sleeps k j table (plan.Show name) n e = e
plan_sleeps k j table (plan.Inc name by) n e = e
plan_sleeps k j table (plan.Images c) n e = e
plan_sleeps k j table (plan.Drives c) n e = e
plan_sleeps k j table (plan.Ifopen device) n e = e
plan_sleeps k j table (plan.Ifclose device) n e = e
plan_sleeps k j table (plan.Dhcp device) n e = absurd (subst IsAwake e (device_awake (unless_full k (inquires for_lease)) (full_either IsAwake (λ o. tt) k (inquires for_lease) tt) (device_change device true)))
plan_sleeps k j table (plan.Ping host) n e = absurd (subst IsAwake e (pinged_either IsAwake (λ o. tt) (λ q. tt) k table host))
plan_sleeps k j table (plan.Nslookup name host) n e = absurd (subst IsAwake e (looked_up_either IsAwake (λ o. tt) (λ q. tt) k table name host))
plan_sleeps k j table (plan.Sleep seconds) n e = e

planned_sleeps : (k j : ℕ) (table : TableLists) (q : Result CommandPlan PlanError) (n : ℕ) → planned_effect k table q ≡ sleeps n → planned_effect j table q ≡ sleeps n
planned_sleeps k j table (Ok p) n e = plan_sleeps k j table p n e
planned_sleeps k j table (Err why) n e = e

words_sleep : (k j : ℕ) (table : TableLists) (ws : List (List ℕ)) (n : ℕ) → words_effect k table ws ≡ sleeps n → words_effect j table ws ≡ sleeps n
unfolding words_effect
words_sleep k j table ws n e = planned_sleeps k j table (planned ws) n e

expanded_sleep : (k j : ℕ) (table : TableLists) (r : Result (List (List ℕ)) ExpandError) (n : ℕ) → expanded_effect k table r ≡ sleeps n → expanded_effect j table r ≡ sleeps n
expanded_sleep k j table (Ok ws) n e = words_sleep k j table ws n e
expanded_sleep k j table (Err why) n e = e

written_sleep : (k j : ℕ) (table : TableLists) (ws : List (List ℕ)) (n : ℕ) → effect k table ws ≡ sleeps n → effect j table ws ≡ sleeps n
unfolding effect
written_sleep k j table ws n e = expanded_sleep k j table (expansion table ws) n e

shown_sleeps : (k j : ℕ) (table : TableLists) (expanded : Bool) (ws : List (List ℕ)) (n : ℕ) → shown_effect k table (shown_as expanded ws) ≡ sleeps n → shown_effect j table (shown_as expanded ws) ≡ sleeps n
shown_sleeps k j table true ws n e = words_sleep k j table ws n e
shown_sleeps k j table false ws n e = written_sleep k j table ws n e

pub comes_sleeps : (k j : ℕ) (m : CommandsSoFar) (shown : ShownWords) (n : ℕ) → comes_by k m shown ≡ sleeps n → comes_by j m shown ≡ sleeps n
comes_sleeps k j m shown n e = by (words_are m.table shown.expanded shown.words)
  where
    by : WordsAre m.table shown.expanded shown.words → comes_by j m shown ≡ sleeps n
    by (images_words c at keeps stays) = absurd (subst IsAwake (sym (images_come k m shown c (at k)) ∙ e) (images_either IsAwake (λ o. tt) (λ x. tt) (λ wanted. tt) (λ q. tt) (surroundings_in k m) c))
    by (drives_words c at keeps stays) = drives_stay j k m shown c at ∙ e
    by (other_words plain) = plain_comes j m shown (plain j) ∙ shown_sleeps k j m.table shown.expanded shown.words n (sym (plain_comes k m shown (plain k)) ∙ e)

-- SOMETHING IS ASKED FOR, WHILE MORE OPENS MAY BE MADE

asked_stays : (k j : ℕ) (table : TableLists) (images : ImageList) (drives : List Drive) (base : Option (List ℕ)) (depth : ℕ) (target : UriTarget) (asking : Asking) → j < 16384 →
    Stays (asked_effect target (record { opens = k; table = table; images = images; drives = drives; base = base; depth = depth }) asking) (asked_effect target (record { opens = j; table = table; images = images; drives = drives; base = base; depth = depth }) asking)
asked_stays k j table images drives base depth (Tftp host port path whole) asking few = host_stays k j table host (fetches_then asking) few
asked_stays k j table images drives base depth (Http host port path whole) asking few = host_stays k j table host (fetches_then asking) few
asked_stays k j table images drives base depth (Iscsi host port lun name whole) asking few = λ is. refl

images_stay : (k j : ℕ) (table : TableLists) (images : ImageList) (drives : List Drive) (base : Option (List ℕ)) (depth : ℕ) (c : ImageCommand) → j < 16384 →
    Stays (images_effect (record { opens = k; table = table; images = images; drives = drives; base = base; depth = depth }) c) (images_effect (record { opens = j; table = table; images = images; drives = drives; base = base; depth = depth }) c)
images_stay k j table images drives base depth c few = by (image_effect c (base_by base table) images)
  where
    at : ℕ → Surroundings
    at n = record { opens = n; table = table; images = images; drives = drives; base = base; depth = depth }

    by_outcome : (o : ImageOutcome) (list : ImageList) → Stays (image_outcome_effect (at k) o list) (image_outcome_effect (at j) o list)
    by_outcome Done list = λ is. refl
    by_outcome (Print lines) list = λ is. refl
    by_outcome (Ask asking) list = asked_stays k j table images drives base depth asking.target asking few
    by_outcome (Run image replace) list = λ is. refl
    by_outcome Boot list = λ is. refl

    by : (r : ImageAnswer) → Stays (image_answer_effect (at k) r) (image_answer_effect (at j) r)
    by (Ok answer) = by_outcome answer.0 answer.1
    by (Err why) = λ is. refl

pub comes_stays : (k j : ℕ) (m : CommandsSoFar) (shown : ShownWords) → j < 16384 → Stays (comes_by k m shown) (comes_by j m shown)
comes_stays k j m shown few = by (words_are m.table shown.expanded shown.words)
  where
    by : WordsAre m.table shown.expanded shown.words → Stays (comes_by k m shown) (comes_by j m shown)
    by (images_words c at keeps stays) = λ is.
        let here = images_come k m shown c (at k) in
        images_come j m shown c (at j) ∙ images_stay k j m.table m.images m.drives (surroundings_in k m).base (surroundings_in k m).depth c few (subst IsAsking here is) ∙ sym here
    by (drives_words c at keeps stays) = λ is. drives_stay j k m shown c at
    by (other_words plain) = λ is.
        let here = plain_comes k m shown (plain k) in
        plain_comes j m shown (plain j) ∙ shown_stays k j m.table shown few (subst IsAsking here is) ∙ sym here

-- IT HOOKS A DISK, OR LETS A DRIVE GO OR BOOTS IT, WHATEVER OPENS WERE MADE

-- no other command does
abbrev IsNoDrive : Effect → Type 0
IsNoDrive (says o) = Unit {0}
IsNoDrive (asks wanted) = Unit {0}
IsNoDrive (goes name) = Unit {0}
IsNoDrive (sleeps seconds) = Unit {0}
IsNoDrive shuts_device = Unit {0}
IsNoDrive (inquires q) = Unit {0}
IsNoDrive (on_images c) = Unit {0}
IsNoDrive (on_drives c) = Unit {0}
IsNoDrive (hooks_disk hooking) = ⊥
IsNoDrive (unhooks_drive number cause) = ⊥
IsNoDrive (boots_drive number) = ⊥
IsNoDrive (concludes_at_once c) = Unit {0}

plain_no_drive : (e : Effect) → IsPlain e → IsNoDrive e
plain_no_drive (says o) is = tt
plain_no_drive (asks wanted) is = tt
plain_no_drive (goes name) is = tt
plain_no_drive (sleeps seconds) is = tt
plain_no_drive shuts_device is = tt
plain_no_drive (inquires q) is = tt
plain_no_drive (on_images c) is = tt
plain_no_drive (on_drives c) is = tt
plain_no_drive (hooks_disk hooking) is = absurd is
plain_no_drive (unhooks_drive number cause) is = absurd is
plain_no_drive (boots_drive number) is = absurd is
plain_no_drive (concludes_at_once c) is = tt

pub comes_hooking : (k j : ℕ) (m : CommandsSoFar) (shown : ShownWords) (e : Effect) → (IsNoDrive e → ⊥) → comes_by k m shown ≡ e → comes_by j m shown ≡ e
comes_hooking k j m shown e some is = by (words_are m.table shown.expanded shown.words)
  where
    by : WordsAre m.table shown.expanded shown.words → comes_by j m shown ≡ e
    by (images_words c at keeps stays) = absurd (some (subst IsNoDrive (sym (images_come k m shown c (at k)) ∙ is) (images_either IsNoDrive (λ o. tt) (λ x. tt) (λ wanted. tt) (λ q. tt) (surroundings_in k m) c)))
    by (drives_words c at keeps stays) = drives_stay j k m shown c at ∙ is
    by (other_words plain) = absurd (some (subst IsNoDrive (sym (plain_comes k m shown (plain k)) ∙ is) (plain_no_drive (shown_effect k m.table shown) (plain k))))

plain_hooks : (e : Effect) → IsPlain e → hooking_in e ≡ None
plain_hooks (says o) is = refl
plain_hooks (asks wanted) is = refl
plain_hooks (goes name) is = refl
plain_hooks (sleeps seconds) is = refl
plain_hooks shuts_device is = refl
plain_hooks (inquires q) is = refl
plain_hooks (on_images c) is = refl
plain_hooks (on_drives c) is = refl
plain_hooks (hooks_disk hooking) is = absurd is
plain_hooks (unhooks_drive number cause) is = refl
plain_hooks (boots_drive number) is = refl
plain_hooks (concludes_at_once c) is = refl

abbrev HooksNone : Effect → Type 0
HooksNone e = hooking_in e ≡ None

pub hooks_same : (k j : ℕ) (m : CommandsSoFar) (shown : ShownWords) → hooking_in (comes_by k m shown) ≡ hooking_in (comes_by j m shown)
hooks_same k j m shown = by (words_are m.table shown.expanded shown.words)
  where
    images_none : (n : ℕ) (c : ImageCommand) → HooksNone (images_effect (surroundings_in n m) c)
    images_none n c = images_either HooksNone (λ o. refl) (λ y. refl) (λ wanted. refl) (λ q. refl) (surroundings_in n m) c

    by : WordsAre m.table shown.expanded shown.words → hooking_in (comes_by k m shown) ≡ hooking_in (comes_by j m shown)
    by (images_words c at keeps stays) = ap hooking_in (images_come k m shown c (at k)) ∙ images_none k c ∙ sym (ap hooking_in (images_come j m shown c (at j)) ∙ images_none j c)
    by (drives_words c at keeps stays) = ap hooking_in (drives_stay k j m shown c at)
    by (other_words plain) =
        ap hooking_in (plain_comes k m shown (plain k)) ∙ plain_hooks (shown_effect k m.table shown) (plain k)
        ∙ sym (ap hooking_in (plain_comes j m shown (plain j)) ∙ plain_hooks (shown_effect j m.table shown) (plain j))

-- IT CONCLUDES AT ONCE, WHATEVER OPENS WERE MADE

pub plain_concludes : (e : Effect) → IsPlain e → concluded_in e ≡ None
plain_concludes (says o) is = refl
plain_concludes (asks wanted) is = absurd is
plain_concludes (goes name) is = refl
plain_concludes (sleeps seconds) is = refl
plain_concludes shuts_device is = refl
plain_concludes (inquires q) is = refl
plain_concludes (on_images c) is = refl
plain_concludes (on_drives c) is = refl
plain_concludes (hooks_disk hooking) is = refl
plain_concludes (unhooks_drive number cause) is = refl
plain_concludes (boots_drive number) is = refl
plain_concludes (concludes_at_once c) is = absurd is

abbrev ConcludesNone : Effect → Type 0
ConcludesNone e = concluded_in e ≡ None

pub asked_concludes : (target : UriTarget) (x : Surroundings) (asking : Asking) → ConcludesNone (asked_effect target x asking)
asked_concludes target x asking = asked_case ConcludesNone (λ o. refl) target x asking (λ server. refl) (λ name by. refl)

images_conclude : (k j : ℕ) (table : TableLists) (images : ImageList) (drives : List Drive) (base : Option (List ℕ)) (depth : ℕ) (c : ImageCommand) →
    concluded_in (images_effect (record { opens = k; table = table; images = images; drives = drives; base = base; depth = depth }) c) ≡ concluded_in (images_effect (record { opens = j; table = table; images = images; drives = drives; base = base; depth = depth }) c)
images_conclude k j table images drives base depth c = by (image_effect c (base_by base table) images)
  where
    at : ℕ → Surroundings
    at n = record { opens = n; table = table; images = images; drives = drives; base = base; depth = depth }

    by_outcome : (o : ImageOutcome) (list : ImageList) → concluded_in (image_outcome_effect (at k) o list) ≡ concluded_in (image_outcome_effect (at j) o list)
    by_outcome Done list = refl
    by_outcome (Print lines) list = refl
    by_outcome (Ask asking) list = asked_concludes asking.target (at k) asking ∙ sym (asked_concludes asking.target (at j) asking)
    by_outcome (Run image replace) list = refl
    by_outcome Boot list = refl

    by : (r : ImageAnswer) → concluded_in (image_answer_effect (at k) r) ≡ concluded_in (image_answer_effect (at j) r)
    by (Ok answer) = by_outcome answer.0 answer.1
    by (Err why) = refl

pub concludes_same : (k j : ℕ) (m : CommandsSoFar) (shown : ShownWords) → concluded_in (comes_by k m shown) ≡ concluded_in (comes_by j m shown)
concludes_same k j m shown = by (words_are m.table shown.expanded shown.words)
  where
    by : WordsAre m.table shown.expanded shown.words → concluded_in (comes_by k m shown) ≡ concluded_in (comes_by j m shown)
    by (images_words c at keeps stays) = ap concluded_in (images_come k m shown c (at k)) ∙ images_conclude k j m.table m.images m.drives (surroundings_in k m).base (surroundings_in k m).depth c ∙ ap concluded_in (sym (images_come j m shown c (at j)))
    by (drives_words c at keeps stays) = ap concluded_in (drives_stay k j m shown c at)
    by (other_words plain) =
        ap concluded_in (plain_comes k m shown (plain k)) ∙ plain_concludes (shown_effect k m.table shown) (plain k)
        ∙ sym (ap concluded_in (plain_comes j m shown (plain j)) ∙ plain_concludes (shown_effect j m.table shown) (plain j))

-- WHAT IT LEAVES

-- the settings, where it asks for something or concludes
abbrev pub LeavesTable : Effect → Type 0
LeavesTable (asks wanted) = Unit {0}
LeavesTable (inquires q) = Unit {0}
LeavesTable (concludes_at_once c) = Unit {0}
LeavesTable (says o) = ⊥
LeavesTable (goes name) = ⊥
LeavesTable (sleeps seconds) = ⊥
LeavesTable shuts_device = ⊥
LeavesTable (on_images c) = ⊥
LeavesTable (on_drives c) = ⊥
LeavesTable (hooks_disk hooking) = Unit {0}
LeavesTable (unhooks_drive number cause) = Unit {0}
LeavesTable (boots_drive number) = Unit {0}

pub comes_keeps : (k : ℕ) (m : CommandsSoFar) (shown : ShownWords) (e : Effect) → comes_by k m shown ≡ e → LeavesTable e → shown_table m.table (Some shown) ≡ m.table
comes_keeps k m shown e is leaves = by (words_are m.table shown.expanded shown.words)
  where
    by_plain : (f : Effect) → shown_effect k m.table shown ≡ f → IsPlain f → LeavesTable f → shown_table m.table (Some shown) ≡ m.table
    by_plain (asks wanted) at plain l = absurd plain
    by_plain (inquires q) at plain l = shown_inquiry_keeps k m.table shown q at
    by_plain (says o) at plain l = absurd l
    by_plain (goes name) at plain l = absurd l
    by_plain (sleeps seconds) at plain l = absurd l
    by_plain shuts_device at plain l = absurd l
    by_plain (on_images c) at plain l = absurd l
    by_plain (on_drives c) at plain l = absurd l
    by_plain (hooks_disk hooking) at plain l = absurd plain
    by_plain (unhooks_drive number cause) at plain l = absurd plain
    by_plain (boots_drive number) at plain l = absurd plain
    by_plain (concludes_at_once c) at plain l = absurd plain

    by : WordsAre m.table shown.expanded shown.words → shown_table m.table (Some shown) ≡ m.table
    by (images_words c at keeps stays) = keeps
    by (drives_words c at keeps stays) = keeps
    by (other_words plain) = by_plain (shown_effect k m.table shown) refl (plain k) (subst LeavesTable (sym is ∙ plain_comes k m shown (plain k)) leaves)

-- OVERSLEEPING

pub same_seconds : (n n' : ℕ) → sleeps n ≡ sleeps n' → n ≡ n'
same_seconds n n' e = cc

pub same_shown : (o : Option ShownWords) (x y : ShownWords) → o ≡ Some x → o ≡ Some y → x ≡ y
same_shown o x y p q = let both : Some x ≡ Some y = sym p ∙ q in cc

-- a command that has its result doesn't oversleep
pub over_rests : (es : List Event) → (so_far es).is_open ≡ false → NoneOversleeps es
over_rests es over = λ seconds still comes. absurd (let impossible : false ≡ true = sym over ∙ still in cc)
