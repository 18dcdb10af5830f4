-- A command that sets the device down does so however many opens were made, and leaves the settings.
use Rattle.std.proofs.Common.{◌≡◌, ℕ, Bool, true, false, List, Result, Ok, Err, refl, sym, ◌∙◌, subst}
use Rattle.nb_settings.specs.Tables.{TableLists}
use Rattle.nb_expand.specs.declared.error.ExpandError.{ExpandError}
use Rattle.nb_command.specs.declared.command_plan.CommandPlan.{CommandPlan}
use Rattle.nb_command.specs.declared.command_plan.CommandPlan.TheVariants as plan
use Rattle.nb_command.specs.declared.error.ApplyError.{ApplyError}
use Rattle.nb_imagecmd.specs.declared.error.PlanError.{PlanError}
use Rattle.nb_command.specs.Device.{device_change}
use Rattle.nb_command.specs.Planning.{planned}
use Rattle.nb_machine.specs.Effects.{Effect, says, asks, goes, sleeps, shuts_device, inquires, on_images, on_drives, hooks_disk, unhooks_drive, boots_drive, concludes_at_once, unless_full, device_effect, ShownWords, shown_as, effect, effect_in, Surroundings, settled_effect, words_effect, words_table, expansion, expanded_effect, expanded_table, plan_effect, plan_table, planned_effect, planned_table, table_after}
use Rattle.nb_machine.specs.Queries.{for_lease}
use Rattle.nb_machine.specs.Running.{Running}
use Rattle.nb_machine.specs.Scripts.{surroundings}
use Rattle.nb_machine.specs.States.{State}
use Rattle.nb_machine.proofs.Eithers.{full_either, images_either, pinged_case, looked_up_case, drives_either}
use Rattle.nb_laws.specs.CommandsSoFar.{CommandsSoFar, shown_effect, surroundings_in, comes_by}
use Rattle.nb_laws.proofs.Settling.{WordsAre, images_words, other_words, words_are, images_come, plain_comes, drives_words, drives_stay}
use Rattle.nb_openlaws.proofs.Doings.{comes_to}

abbrev IsUpOn : Effect → Type 0
IsUpOn shuts_device = ⊥
IsUpOn (sleeps seconds) = Unit {0}
IsUpOn (says o) = Unit {0}
IsUpOn (asks wanted) = Unit {0}
IsUpOn (goes name) = Unit {0}
IsUpOn (inquires q) = Unit {0}
IsUpOn (on_images c) = Unit {0}
IsUpOn (on_drives c) = Unit {0}
IsUpOn (hooks_disk hooking) = Unit {0}
IsUpOn (unhooks_drive number cause) = Unit {0}
IsUpOn (boots_drive number) = Unit {0}
IsUpOn (concludes_at_once c) = Unit {0}

device_up_on : (e : Effect) → IsUpOn e → (r : Result Bool ApplyError) → IsUpOn (device_effect e r)
device_up_on e is (Ok up) = is
device_up_on e is (Err why) = tt

plan_shuts : (k j : ℕ) (table : TableLists) (p : CommandPlan) → plan_effect k table p ≡ shuts_device → plan_effect j table p ≡ shuts_device
plan_shuts k j table (plan.Echo newline text) e = e
plan_shuts k j table (plan.Goto label) e = e
plan_shuts k j table (plan.Exit x) e = e
plan_shuts k j table (plan.Isset word) e = e
plan_shuts k j table (plan.Iseq a b) e = e
plan_shuts k j table (plan.Set name value) e = e
plan_shuts k j table (plan.Clear name) e = e
plan_shuts k j table (plan.Show name) e = e
plan_shuts k j table (plan.Inc name by) e = e
plan_shuts k j table (plan.Images c) e = e
plan_shuts k j table (plan.Drives c) e = e
plan_shuts k j table (plan.Ifopen device) e = e
plan_shuts k j table (plan.Ifclose device) e = e
plan_shuts k j table (plan.Dhcp device) e = absurd (subst IsUpOn e (device_up_on (unless_full k (inquires for_lease)) (full_either IsUpOn (λ o. tt) k (inquires for_lease) tt) (device_change device true)))
plan_shuts k j table (plan.Ping host) e = absurd (subst IsUpOn e (pinged_case IsUpOn (λ o. tt) (λ server. tt) (λ name by. tt) k table host))
plan_shuts k j table (plan.Nslookup name host) e = absurd (subst IsUpOn e (looked_up_case IsUpOn (λ o. tt) k table name host (λ asked by. tt)))
plan_shuts k j table (plan.Sleep seconds) e = e

planned_shuts : (k j : ℕ) (table : TableLists) (q : Result CommandPlan PlanError) → planned_effect k table q ≡ shuts_device → planned_effect j table q ≡ shuts_device
planned_shuts k j table (Ok p) e = plan_shuts k j table p e
planned_shuts k j table (Err why) e = e

words_shut : (k j : ℕ) (table : TableLists) (ws : List (List ℕ)) → words_effect k table ws ≡ shuts_device → words_effect j table ws ≡ shuts_device
unfolding words_effect
words_shut k j table ws e = planned_shuts k j table (planned ws) e

expanded_shuts : (k j : ℕ) (table : TableLists) (r : Result (List (List ℕ)) ExpandError) → expanded_effect k table r ≡ shuts_device → expanded_effect j table r ≡ shuts_device
expanded_shuts k j table (Ok ws) e = words_shut k j table ws e
expanded_shuts k j table (Err why) e = e

written_shuts : (k j : ℕ) (table : TableLists) (ws : List (List ℕ)) → effect k table ws ≡ shuts_device → effect j table ws ≡ shuts_device
unfolding effect
written_shuts k j table ws e = expanded_shuts k j table (expansion table ws) e

shown_shuts : (k j : ℕ) (table : TableLists) (expanded : Bool) (ws : List (List ℕ)) → shown_effect k table (shown_as expanded ws) ≡ shuts_device → shown_effect j table (shown_as expanded ws) ≡ shuts_device
shown_shuts k j table true ws e = words_shut k j table ws e
shown_shuts k j table false ws e = written_shuts k j table ws e

-- by all that it finds
pub comes_shuts : (k j : ℕ) (m : CommandsSoFar) (shown : ShownWords) → comes_by k m shown ≡ shuts_device → comes_by j m shown ≡ shuts_device
comes_shuts k j m shown e = by (words_are m.table shown.expanded shown.words)
  where
    by : WordsAre m.table shown.expanded shown.words → comes_by j m shown ≡ shuts_device
    by (images_words c at keeps stays) = absurd (subst IsUpOn (sym (images_come k m shown c (at k)) ∙ e) (images_either IsUpOn (λ o. tt) (λ x. tt) (λ wanted. tt) (λ q. tt) (surroundings_in k m) c))
    by (drives_words c at keeps stays) = drives_stay j k m shown c at ∙ e
    by (other_words plain) = plain_comes j m shown (plain j) ∙ shown_shuts k j m.table shown.expanded shown.words (sym (plain_comes k m shown (plain k)) ∙ e)

-- IT LEAVES THE SETTINGS

plan_keeps : (k : ℕ) (table : TableLists) (p : CommandPlan) → plan_effect k table p ≡ shuts_device → plan_table p table ≡ table
plan_keeps k table (plan.Set name value) e = absurd (subst IsUpOn e tt)
plan_keeps k table (plan.Clear name) e = absurd (subst IsUpOn e tt)
plan_keeps k table (plan.Inc name by) e = absurd (subst IsUpOn e tt)
plan_keeps k table (plan.Nslookup name host) e = absurd (subst IsUpOn e (looked_up_case IsUpOn (λ o. tt) k table name host (λ asked by. tt)))
plan_keeps k table (plan.Echo newline text) e = refl
plan_keeps k table (plan.Goto label) e = refl
plan_keeps k table (plan.Exit x) e = refl
plan_keeps k table (plan.Isset word) e = refl
plan_keeps k table (plan.Iseq a b) e = refl
plan_keeps k table (plan.Show name) e = refl
plan_keeps k table (plan.Images c) e = refl
plan_keeps k table (plan.Drives c) e = refl
plan_keeps k table (plan.Ifopen device) e = refl
plan_keeps k table (plan.Ifclose device) e = refl
plan_keeps k table (plan.Dhcp device) e = refl
plan_keeps k table (plan.Ping host) e = refl
plan_keeps k table (plan.Sleep seconds) e = refl

planned_keeps : (k : ℕ) (table : TableLists) (q : Result CommandPlan PlanError) → planned_effect k table q ≡ shuts_device → planned_table table q ≡ table
planned_keeps k table (Ok p) e = plan_keeps k table p e
planned_keeps k table (Err why) e = refl

words_keep : (k : ℕ) (table : TableLists) (ws : List (List ℕ)) → words_effect k table ws ≡ shuts_device → words_table table ws ≡ table
unfolding words_effect words_table
words_keep k table ws e = planned_keeps k table (planned ws) e

expanded_keeps : (k : ℕ) (table : TableLists) (r : Result (List (List ℕ)) ExpandError) → expanded_effect k table r ≡ shuts_device → expanded_table table r ≡ table
expanded_keeps k table (Ok ws) e = words_keep k table ws e
expanded_keeps k table (Err why) e = refl

written_keeps : (k : ℕ) (table : TableLists) (ws : List (List ℕ)) → effect k table ws ≡ shuts_device → table_after table ws ≡ table
unfolding effect table_after
written_keeps k table ws e = expanded_keeps k table (expansion table ws) e

settled_shuts : (x : Surroundings) (e : Effect) → settled_effect x e ≡ shuts_device → e ≡ shuts_device
settled_shuts x (on_images c) is = absurd (subst IsUpOn is (images_either IsUpOn (λ o. tt) (λ y. tt) (λ wanted. tt) (λ q. tt) x c))
settled_shuts x (on_drives c) is = absurd (subst IsUpOn is (drives_either IsUpOn (λ o. tt) (λ hooking. tt) (λ number cause. tt) (λ number. tt) x c))
settled_shuts x (hooks_disk hooking) is = is
settled_shuts x (unhooks_drive number cause) is = is
settled_shuts x (boots_drive number) is = is
settled_shuts x (says o) is = is
settled_shuts x (asks wanted) is = is
settled_shuts x (goes name) is = is
settled_shuts x (sleeps seconds) is = is
settled_shuts x shuts_device is = is
settled_shuts x (inquires q) is = is
settled_shuts x (concludes_at_once c) is = is

pub shuts_keeps_table : (s : State) (inner : Running) (ws : List (List ℕ)) → comes_to s inner ws ≡ shuts_device → table_after s.table ws ≡ s.table
unfolding effect_in
shuts_keeps_table s inner ws is = written_keeps s.opens s.table ws (settled_shuts (surroundings s inner) (effect s.opens s.table ws) is)
