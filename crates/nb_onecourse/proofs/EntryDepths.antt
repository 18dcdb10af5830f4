-- A script is entered within others only where fewer than eight are there.
use Rattle.std.proofs.Common.{◌≡◌, ◌<◌, ℕ, ◌==◌, Bool, true, false, not, cond, List, [], Option, Some, None, Result, Ok, Err, refl, subst}
use Rattle.std.specs.Prelude.{nat_lt, slice_get}
use Rattle.std.specs.Option.{option_map_or}
use Rattle.std.proofs.lemmas.Bool.{ltb-true}
use Rattle.nb_terms.specs.declared.cause.Cause.{Cause}
use Rattle.nb_defs.specs.Causes.{is_ok_cause}
use Rattle.nb_settings.specs.Tables.{TableLists}
use Rattle.nb_expand.specs.declared.error.ExpandError.{ExpandError}
use Rattle.nb_command.specs.declared.command_plan.CommandPlan.{CommandPlan}
use Rattle.nb_command.specs.declared.command_plan.CommandPlan.TheVariants as plan
use Rattle.nb_command.specs.declared.error.ApplyError.{ApplyError}
use Rattle.nb_command.specs.Bases.{base_by}
use Rattle.nb_command.specs.Planning.{planned}
use Rattle.nb_command.specs.Device.{device_change}
use Rattle.nb_image.specs.declared.error.ImageError.{ImageError}
use Rattle.nb_image.specs.declared.image.Image.{Image}
use Rattle.nb_image.specs.declared.kind.ImageKind.{ImageKind}
use Rattle.nb_image.specs.declared.kind.ImageKind.TheVariants.{Script, BzImage, Elf, Efi, Other}
use Rattle.nb_image.specs.Images.{ImageList, refusal}
use Rattle.nb_image.specs.Kinds.{kind_of}
use Rattle.nb_imagecmd.specs.declared.arriving.Arrival.TheVariants as arrival
use Rattle.nb_imagecmd.specs.declared.asking.After.{After}
use Rattle.nb_imagecmd.specs.declared.asking.After.TheVariants as after
use Rattle.nb_imagecmd.specs.declared.asking.Asking.{Asking}
use Rattle.nb_imagecmd.specs.declared.error.ImageFailure.TheVariants.{ManyScripts}
use Rattle.nb_imagecmd.specs.declared.error.PlanError.{PlanError}
use Rattle.nb_imagecmd.specs.declared.outcome.ImageOutcome.{ImageOutcome}
use Rattle.nb_imagecmd.specs.declared.outcome.ImageOutcome.TheVariants.{Done, Print, Ask, Run, Boot}
use Rattle.nb_imagecmd.specs.Arriving.{arrived, arrived_image, taken_unless, arrives_as, runs_kind, script_gone}
use Rattle.nb_imagecmd.specs.Asking.{target_uri}
use Rattle.nb_imagecmd.specs.Moving.{moved_file}
use Rattle.nb_imagecmd.specs.CarryingOut.{image_effect}
use Rattle.nb_imagecmd.specs.Executing.{ImageAnswer, script_of, script_taken_from, script_taken}
use Rattle.nb_machine.specs.Conclusions.{Conclusion, keeps, tells, fails, boots, runs_script, file_conclusion, conclusion}
use Rattle.nb_machine.specs.Effects.{Effect, says, asks, goes, sleeps, shuts_device, inquires, on_images, on_drives, hooks_disk, unhooks_drive, boots_drive, concludes_at_once, Surroundings, taken_effect, image_outcome_effect, image_answer_effect, settled_effect, effect_in, next_moved, effect, expanded_effect, expansion, words_effect, planned_effect, plan_effect, device_effect, unless_full, table_after, up_after, refusal_effect, drive_answer_effect}
use Rattle.nb_machine.specs.Queries.{for_lease}
use Rattle.nb_machine.specs.Errands.{Wanted, Onward}
use Rattle.nb_machine.specs.Findings.{Settlement}
use Rattle.nb_machine.specs.Kinds.{fetched, read_last}
use Rattle.nb_machine.specs.Running.{Running}
use Rattle.nb_machine.specs.States.{State}
use Rattle.nb_machine.specs.Takings.{Over}
use Rattle.nb_machine.specs.Scripts.{Doing, ends, opens, goes_to, waits_until, shuts, concludes_now, surroundings, doing, doing_by, Job, fetch, takes_lease, hears_echo, keeps_address, asks_on, sleep, Answer, by_end, by_time, Upshot, concludes, settles, goes_onward, next_of, place_moved_to, upshot_moved, upshot_fetched, concluded_by, hooks_one, lets_go, boots_one, hooks, boots as boots_read, by_drive, hooks_drive, reads_drive, boots_drive_by, upshot_hooked, upshot_read, hooked_drive}
use Rattle.nb_machine.proofs.Eithers.{either_of, full_either, asked_case, pinged_either, looked_up_either}
use Rattle.nb_drivecmd.specs.declared.error.DriveRefusal.{DriveRefusal}
use Rattle.nb_drivecmd.specs.declared.drive.Drive.{Drive}
use Rattle.nb_drivecmd.specs.declared.outcome.AfterHook.{AfterHook}
use Rattle.nb_drivecmd.specs.declared.outcome.AfterHook.TheVariants as after_hook
use Rattle.nb_drivecmd.specs.declared.outcome.DriveOutcome.{DriveOutcome}
use Rattle.nb_drivecmd.specs.declared.outcome.DriveOutcome.TheVariants as drive_outcome
use Rattle.nb_drivecmd.specs.DriveEffect.{drive_effect}
use Rattle.nb_drivecmd.specs.DriveFailures.{drive_cause}

-- a script that runs within others has fewer than eight there
abbrev pub Fits : ℕ → Conclusion → Type 0
Fits depth (keeps list) = Unit {0}
Fits depth (tells list lines) = Unit {0}
Fits depth (fails cause) = Unit {0}
Fits depth (boots list kernel) = Unit {0}
Fits depth (runs_script list image true) = Unit {0}
Fits depth (runs_script list image false) = depth < 8

abbrev EffectFits : ℕ → Effect → Type 0
EffectFits depth (concludes_at_once c) = Fits depth c
EffectFits depth (says o) = Unit {0}
EffectFits depth (asks wanted) = Unit {0}
EffectFits depth (goes name) = Unit {0}
EffectFits depth (sleeps seconds) = Unit {0}
EffectFits depth shuts_device = Unit {0}
EffectFits depth (inquires q) = Unit {0}
EffectFits depth (on_images command) = Unit {0}
EffectFits depth (on_drives c) = Unit {0}
EffectFits depth (hooks_disk hooking) = Unit {0}
EffectFits depth (unhooks_drive number cause) = Unit {0}
EffectFits depth (boots_drive number) = Unit {0}

-- words and settings alone come to no conclusion
abbrev IsPlain : Effect → Type 0
IsPlain (concludes_at_once c) = ⊥
IsPlain (says o) = Unit {0}
IsPlain (asks wanted) = Unit {0}
IsPlain (goes name) = Unit {0}
IsPlain (sleeps seconds) = Unit {0}
IsPlain shuts_device = Unit {0}
IsPlain (inquires q) = Unit {0}
IsPlain (on_images command) = Unit {0}
IsPlain (on_drives c) = Unit {0}
IsPlain (hooks_disk hooking) = Unit {0}
IsPlain (unhooks_drive number cause) = Unit {0}
IsPlain (boots_drive number) = Unit {0}

device_plain : (done : Effect) (r : Result Bool ApplyError) → IsPlain done → IsPlain (device_effect done r)
device_plain done (Ok up) p = p
device_plain done (Err why) p = tt

plan_plain : (n : ℕ) (table : TableLists) (p : CommandPlan) → IsPlain (plan_effect n table p)
plan_plain n table (plan.Echo newline text) = tt
plan_plain n table (plan.Goto label) = tt
plan_plain n table (plan.Exit k) = tt
plan_plain n table (plan.Isset word) = tt
plan_plain n table (plan.Iseq a b) = tt
plan_plain n table (plan.Set name value) = tt
plan_plain n table (plan.Clear name) = tt
plan_plain n table (plan.Show name) = tt
plan_plain n table (plan.Inc name by) = tt
plan_plain n table (plan.Images command) = tt
plan_plain n table (plan.Drives command) = tt
plan_plain n table (plan.Ifopen device) = device_plain _ (device_change device true) tt
plan_plain n table (plan.Ifclose device) = device_plain shuts_device (device_change device false) tt
plan_plain n table (plan.Dhcp device) = device_plain (unless_full n (inquires for_lease)) (device_change device true) (full_either IsPlain (λ o. tt) n (inquires for_lease) tt)
plan_plain n table (plan.Ping text) = pinged_either IsPlain (λ o. tt) (λ q. tt) n table text
plan_plain n table (plan.Nslookup setting text) = looked_up_either IsPlain (λ o. tt) (λ q. tt) n table setting text
plan_plain n table (plan.Sleep seconds) = either_of IsPlain (seconds == 0) _ (sleeps seconds) tt tt

planned_plain : (n : ℕ) (table : TableLists) (r : Result CommandPlan PlanError) → IsPlain (planned_effect n table r)
planned_plain n table (Ok p) = plan_plain n table p
planned_plain n table (Err why) = tt

expanded_plain : (n : ℕ) (table : TableLists) (r : Result (List (List ℕ)) ExpandError) → IsPlain (expanded_effect n table r)
unfolding words_effect
expanded_plain n table (Ok ws) = planned_plain n table (planned ws)
expanded_plain n table (Err why) = tt

effect_plain : (n : ℕ) (table : TableLists) (ws : List (List ℕ)) → IsPlain (effect n table ws)
unfolding effect
effect_plain n table ws = expanded_plain n table (expansion table ws)

-- a script that leaves the list
from_fits : (replace : Bool) (depth i : ℕ) (list : ImageList) (o : Option Image) → Fits depth (runs_script list (record { text = []; uri = [] }) replace) → EffectFits depth (taken_effect replace (script_taken_from o i list))
from_fits replace depth i list None f = tt
from_fits true depth i list (Some image) f = tt
from_fits false depth i list (Some image) f = f

taken_fits : (replace : Bool) (depth i : ℕ) (list : ImageList) → EffectFits depth (taken_effect replace (script_taken i replace depth list))
unfolding script_taken
taken_fits true depth i list = from_fits true depth i list (slice_get list.images i) tt
taken_fits false depth i list = by (nat_lt depth 8) refl
  where
    by : (b : Bool) → nat_lt depth 8 ≡ b → EffectFits depth (taken_effect false (cond (not b) (Err ManyScripts) (script_taken_from (slice_get list.images i) i list)))
    by true e = from_fits false depth i list (slice_get list.images i) (ltb-true depth 8 e)
    by false e = tt

outcome_fits : (x : Surroundings) (o : ImageOutcome) (list : ImageList) → EffectFits x.depth (image_outcome_effect x o list)
outcome_fits x Done list = tt
outcome_fits x (Print lines) list = tt
outcome_fits x (Ask asking) list = asked_case (EffectFits x.depth) (λ o. tt) asking.target x asking (λ server. tt) (λ name by. tt)
outcome_fits x (Run image replace) list = taken_fits replace x.depth image list
outcome_fits x Boot list = tt

answer_fits : (x : Surroundings) (r : ImageAnswer) → EffectFits x.depth (image_answer_effect x r)
answer_fits x (Ok answer) = outcome_fits x answer.0 answer.1
answer_fits x (Err why) = tt

refusal_fits : (depth : ℕ) (cause : Cause) (drive : Option ℕ) → EffectFits depth (refusal_effect cause drive)
refusal_fits depth cause None = tt
refusal_fits depth cause (Some number) = tt

drives_fit : (x : Surroundings) (r : Result DriveOutcome DriveRefusal) → EffectFits x.depth (drive_answer_effect r)
drives_fit x (Ok (drive_outcome.Hook hooking)) = tt
drives_fit x (Ok (drive_outcome.Boot number keep)) = tt
drives_fit x (Ok (drive_outcome.Unhook number)) = tt
drives_fit x (Err refusal) = refusal_fits x.depth (drive_cause refusal.why) refusal.unhooks

settled_fits : (x : Surroundings) (e : Effect) → IsPlain e → EffectFits x.depth (settled_effect x e)
settled_fits x (on_images command) p = answer_fits x (image_effect command (base_by x.base x.table) x.images)
settled_fits x (on_drives c) p = drives_fit x (drive_effect c (base_by x.base x.table) x.table x.drives)
settled_fits x (hooks_disk hooking) p = tt
settled_fits x (unhooks_drive number cause) p = tt
settled_fits x (boots_drive number) p = tt
settled_fits x (concludes_at_once c) p = absurd p
settled_fits x (says o) p = tt
settled_fits x (asks wanted) p = tt
settled_fits x (goes name) p = tt
settled_fits x (sleeps seconds) p = tt
settled_fits x shuts_device p = tt
settled_fits x (inquires q) p = tt

effect_in_fits : (x : Surroundings) (ws : List (List ℕ)) → EffectFits x.depth (effect_in x ws)
unfolding effect_in
effect_in_fits x ws = settled_fits x (effect x.opens x.table ws) (effect_plain x.opens x.table ws)

abbrev pub DoingFits : ℕ → Doing → Type 0
DoingFits depth (concludes_now c) = Fits depth c
DoingFits depth (ends o s) = Unit {0}
DoingFits depth (opens s l job) = Unit {0}
DoingFits depth (goes_to name) = Unit {0}
DoingFits depth (waits_until time) = Unit {0}
DoingFits depth (shuts s) = Unit {0}
DoingFits depth (hooks_one hooking) = Unit {0}
DoingFits depth (lets_go number cause) = Unit {0}
DoingFits depth (boots_one number) = Unit {0}

doing_by_fits : (depth : ℕ) (s : State) (table : TableLists) (up : Bool) (e : Effect) → EffectFits depth e → DoingFits depth (doing_by s table up e)
doing_by_fits depth s table up (says o) f = tt
doing_by_fits depth s table up (asks wanted) f = tt
doing_by_fits depth s table up (goes name) f = tt
doing_by_fits depth s table up (sleeps seconds) f = tt
doing_by_fits depth s table up shuts_device f = tt
doing_by_fits depth s table up (inquires q) f = tt
doing_by_fits depth s table up (on_images command) f = tt
doing_by_fits depth s table up (on_drives c) f = tt
doing_by_fits depth s table up (hooks_disk hooking) f = tt
doing_by_fits depth s table up (unhooks_drive number cause) f = tt
doing_by_fits depth s table up (boots_drive number) f = tt
doing_by_fits depth s table up (concludes_at_once c) f = f

pub doing_fits : (s : State) (inner : Running) (ws : List (List ℕ)) (d : Doing) → doing s inner ws ≡ d → DoingFits inner.depth d
doing_fits s inner ws d e =
    subst (DoingFits inner.depth) e (doing_by_fits inner.depth s (table_after s.table ws) (up_after s.table s.up ws) (effect_in (surroundings s inner) ws) (effect_in_fits (surroundings s inner) ws))

-- a script that has come
kind_fits : (kind : ImageKind) (image : Image) (replace : Bool) (depth : ℕ) (list : ImageList) → Fits depth (file_conclusion (runs_kind kind image replace depth list))
kind_fits Script image true depth list = tt
kind_fits Script image false depth list = by (nat_lt depth 8) refl
  where
    by : (b : Bool) → nat_lt depth 8 ≡ b → Fits depth (file_conclusion (cond (not b) (Err ManyScripts) (Ok (arrival.Run (script_of image) false, script_gone image list))))
    by true e = ltb-true depth 8 e
    by false e = tt
kind_fits BzImage image replace depth list = tt
kind_fits Elf image replace depth list = tt
kind_fits Efi image replace depth list = tt
kind_fits Other image replace depth list = tt

after_fits : (then : After) (image : Image) (depth : ℕ) (list : ImageList) → Fits depth (file_conclusion (arrives_as then image depth list))
after_fits after.Keep image depth list = tt
after_fits after.Select image depth list = tt
after_fits (after.Run replace) image depth list = kind_fits (kind_of image.body) image replace depth list

unless_fits : (o : Option ImageError) (then : After) (image : Image) (depth : ℕ) (list : ImageList) → Fits depth (file_conclusion (taken_unless o then image depth list))
unless_fits (Some why) then image depth list = tt
unless_fits None then image depth list = after_fits then image depth list

arrived_fits : (asking : Asking) (body uri : List ℕ) (depth : ℕ) (list : ImageList) → Fits depth (file_conclusion (arrived asking body uri depth list))
unfolding arrived
arrived_fits asking body uri depth list = unless_fits (refusal (arrived_image asking body uri) list.images) asking.after (arrived_image asking body uri) depth list

conclusion_fits : (cause : Cause) (asking : Asking) (body : List ℕ) (depth : ℕ) (list : ImageList) → Fits depth (conclusion cause asking body depth list)
conclusion_fits cause asking body depth list = by (is_ok_cause cause)
  where
    by : (b : Bool) → Fits depth (cond b (file_conclusion (arrived asking body (target_uri asking.target) depth list)) (fails cause))
    by true = arrived_fits asking body (target_uri asking.target) depth list
    by false = tt

abbrev pub UpshotFits : ℕ → Upshot → Type 0
UpshotFits depth (concludes c) = Fits depth c
UpshotFits depth (settles x) = Unit {0}
UpshotFits depth (hooks_drive d) = Unit {0}
UpshotFits depth (reads_drive d) = Unit {0}
UpshotFits depth (boots_drive_by d bytes) = Unit {0}
UpshotFits depth (goes_onward next) = Unit {0}

next_fits : (depth : ℕ) (o : Option Onward) (x : Settlement) → UpshotFits depth (option_map_or goes_onward o (settles x))
next_fits depth None x = tt
next_fits depth (Some next) x = tt

moved_fits : (depth : ℕ) (r : Result Onward Cause) → UpshotFits depth (upshot_moved r)
moved_fits depth (Ok next) = tt
moved_fits depth (Err cause) = tt

fetched_fits : (s : State) (depth : ℕ) (wanted : Wanted) (o : Over) (place : Option (List ℕ)) → UpshotFits depth (upshot_fetched s depth wanted o place)
fetched_fits s depth wanted o None = conclusion_fits o.cause wanted.asking (fetched o.live) depth s.images
fetched_fits s depth wanted o (Some place) = moved_fits depth (next_moved s.opens s.table (moved_file wanted.asking place))

hooked_fits : (depth : ℕ) (after : AfterHook) (d : Drive) → UpshotFits depth (upshot_hooked after d)
hooked_fits depth after_hook.Keep d = tt
hooked_fits depth (after_hook.Boot keep) d = tt

read_fits : (s : State) (depth : ℕ) (d : Option Drive) (bytes : Option (List ℕ)) → UpshotFits depth (upshot_read s d bytes)
read_fits s depth d None = tt
read_fits s depth d (Some bytes) = tt

pub upshot_fits : (s : State) (depth : ℕ) (job : Job) (a : Answer) → UpshotFits depth (concluded_by s depth job a)
upshot_fits s depth (fetch wanted) (by_end o) = fetched_fits s depth wanted o (place_moved_to o)
upshot_fits s depth takes_lease (by_end o) = tt
upshot_fits s depth hears_echo (by_end o) = tt
upshot_fits s depth (keeps_address setting) (by_end o) = tt
upshot_fits s depth (asks_on errand) (by_end o) = next_fits depth (next_of errand o) _
upshot_fits s depth sleep (by_end o) = tt
upshot_fits s depth (fetch wanted) by_time = tt
upshot_fits s depth takes_lease by_time = tt
upshot_fits s depth hears_echo by_time = tt
upshot_fits s depth (keeps_address setting) by_time = tt
upshot_fits s depth (asks_on errand) by_time = tt
upshot_fits s depth sleep by_time = tt
upshot_fits s depth (hooks hooking) (by_end o) = tt
upshot_fits s depth (hooks hooking) by_time = tt
upshot_fits s depth (hooks hooking) (by_drive l) = hooked_fits depth hooking.after (hooked_drive hooking l)
upshot_fits s depth (boots_read d) (by_end o) = tt
upshot_fits s depth (boots_read d) by_time = tt
upshot_fits s depth (boots_read d) (by_drive l) = read_fits s depth d (read_last l)
upshot_fits s depth (fetch wanted) (by_drive l) = tt
upshot_fits s depth takes_lease (by_drive l) = tt
upshot_fits s depth hears_echo (by_drive l) = tt
upshot_fits s depth (keeps_address setting) (by_drive l) = tt
upshot_fits s depth (asks_on errand) (by_drive l) = tt
upshot_fits s depth sleep (by_drive l) = tt
