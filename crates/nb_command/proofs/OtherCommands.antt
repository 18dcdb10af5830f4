-- Each command by itself changes no setting but the one that it names.
use Rattle.std.proofs.Common.{◌≡◌, ℕ, Bool, false, List, Option, Ok, Err, refl, subst}
use Rattle.std.specs.declared.result.Result.{Result}
use Rattle.std.specs.List.{join_with_byte}
use Rattle.nb_settings.specs.declared.setting.OwnedKey.{OwnedKey}
use Rattle.nb_settings.specs.Names.{SettingName, name_read}
use Rattle.nb_settings.specs.Tables.{TableLists, own_value, cleared}
use Rattle.nb_command.specs.declared.command_plan.CommandPlan.{CommandPlan}
use Rattle.nb_command.specs.declared.command_plan.CommandPlan.TheVariants as plan
use Rattle.nb_command.specs.declared.error.ApplyError.{ApplyError}
use Rattle.nb_image.specs.Images.{ImageList}
use Rattle.nb_drivecmd.specs.declared.error.DriveRefusal.{DriveRefusal}
use Rattle.nb_drivecmd.specs.declared.outcome.DriveOutcome.{DriveOutcome}
use Rattle.nb_drivecmd.specs.DriveEffect.{drive_effect}
use Rattle.nb_imagecmd.specs.declared.error.ImageFailure.{ImageFailure}
use Rattle.nb_imagecmd.specs.declared.outcome.ImageOutcome.{ImageOutcome}
use Rattle.nb_imagecmd.specs.CarryingOut.{image_effect}
use Rattle.nb_command.specs.Bases.{base_by}
use Rattle.nb_command.specs.declared.outcome.Outcome.{Outcome}
use Rattle.nb_command.specs.declared.outcome.Job.TheVariants as job
use Rattle.nb_command.specs.declared.outcome.Outcome.TheVariants.{Done, Wait, Down, Images, Drives}
use Rattle.nb_command.specs.declared.state.State.{State}
use Rattle.nb_command.specs.Applying.{carried_out, in_state, with_table, with_up, with_image_list, with_drives}
use Rattle.nb_command.specs.Inc.{named_count, sum_put, increased_table}
use Rattle.nb_command.specs.Others.{is_meant, may_change}
use Rattle.nb_command.specs.Set.{set_value, set_table}
use Rattle.nb_command.specs.Clear.{cleared_table}
use Rattle.nb_command.specs.Settings.{named_block}
use Rattle.nb_command.proofs.OtherSettings.{named_stays, set_stays, sum_stays, cleared_stays, stays_if, same_Ok}

-- what is found in the table after a command
abbrev Finds : State → State → List ℕ → OwnedKey → Type 0
Finds s new block key = own_value block key new.table ≡ own_value block key s.table

as_it_was : (s : State) (outcome : Outcome) (after : Outcome × State) → ◌≡◌ {A = Result (Outcome × State) ApplyError} (Ok (outcome, s)) (Ok after) → (block : List ℕ) (key : OwnedKey) → Finds s after.1 block key
as_it_was s outcome after is block key = subst (λ (x : Outcome × State). Finds s x.1 block key) (same_Ok (outcome, s) after is) refl

in_state_stays : (s : State) (answer : Result Outcome ApplyError) (after : Outcome × State) → in_state s answer ≡ Ok after → (block : List ℕ) (key : OwnedKey) → Finds s after.1 block key
in_state_stays s (Ok outcome) after is block key = as_it_was s outcome after is block key
in_state_stays s (Err why) after is block key = absurd cc

with_table_stays : (s : State) (answer : Result TableLists ApplyError) (after : Outcome × State) (name : Option SettingName) → with_table s answer ≡ Ok after → ((new : TableLists) → answer ≡ Ok new → (block : List ℕ) (key : OwnedKey) → is_meant name block key ≡ false → own_value block key new ≡ own_value block key s.table) → (block : List ℕ) (key : OwnedKey) → is_meant name block key ≡ false → Finds s after.1 block key
with_table_stays s (Ok new) after name is stays block key off =
    subst (λ (x : Outcome × State). Finds s x.1 block key) (same_Ok (Done, record s { table = new }) after is) (stays new refl block key off)
with_table_stays s (Err why) after name is stays block key off = absurd cc

with_up_stays : (s : State) (outcome : Outcome) (answer : Result Bool ApplyError) (after : Outcome × State) → with_up outcome s answer ≡ Ok after → (block : List ℕ) (key : OwnedKey) → Finds s after.1 block key
with_up_stays s outcome (Ok up) after is block key =
    subst (λ (x : Outcome × State). Finds s x.1 block key) (same_Ok (outcome, record s { up = up }) after is) refl
with_up_stays s outcome (Err why) after is block key = absurd cc

with_images_stays : (s : State) (answer : Result (ImageOutcome × ImageList) ImageFailure) (after : Outcome × State) → with_image_list s answer ≡ Ok after → (block : List ℕ) (key : OwnedKey) → Finds s after.1 block key
with_images_stays s (Ok done) after is block key =
    subst (λ (x : Outcome × State). Finds s x.1 block key) (same_Ok (Images done.0, record s { images = done.1 }) after is) refl
with_images_stays s (Err why) after is block key = absurd cc

with_drives_stays : (s : State) (answer : Result DriveOutcome DriveRefusal) (after : Outcome × State) → with_drives s answer ≡ Ok after → (block : List ℕ) (key : OwnedKey) → Finds s after.1 block key
with_drives_stays s (Ok outcome) after is block key = as_it_was s (Drives outcome) after is block key
with_drives_stays s (Err why) after is block key = absurd cc

pub others_stay : (p : CommandPlan) (own : Option (List ℕ)) (s : State) (after : Outcome × State) → carried_out p own s ≡ Ok after → (block : List ℕ) (key : OwnedKey) → may_change p block key ≡ false → own_value block key after.1.table ≡ own_value block key s.table
others_stay (plan.Echo newline text) own s after is block key off = as_it_was s _ after is block key
others_stay (plan.Goto label) own s after is block key off = as_it_was s _ after is block key
others_stay (plan.Exit n) own s after is block key off = as_it_was s _ after is block key
others_stay (plan.Isset word) own s after is block key off = in_state_stays s _ after is block key
others_stay (plan.Iseq a b) own s after is block key off = in_state_stays s _ after is block key
others_stay (plan.Show name) own s after is block key off = in_state_stays s _ after is block key
others_stay (plan.Images command) own s after is block key off = with_images_stays s (image_effect command (base_by own s.table) s.images) after is block key
others_stay (plan.Drives command) own s after is block key off = with_drives_stays s (drive_effect command (base_by own s.table) s.table s.drives) after is block key
others_stay (plan.Ifopen device) own s after is block key off = with_up_stays s Done _ after is block key
others_stay (plan.Ifclose device) own s after is block key off = with_up_stays s Down _ after is block key
others_stay (plan.Dhcp device) own s after is block key off = with_up_stays s (Wait job.Lease) _ after is block key
others_stay (plan.Ping host) own s after is block key off = as_it_was s _ after is block key
others_stay (plan.Nslookup name host) own s after is block key off = in_state_stays s _ after is block key
others_stay (plan.Sleep seconds) own s after is block key off = as_it_was s _ after is block key
others_stay (plan.Set name value) own s after is block key off =
    with_table_stays s (set_table name value s.table) after (name_read name) is
    (λ new e. named_stays (set_value (join_with_byte 32 value) s.table) s.table new (name_read name) e (λ n h. set_stays (join_with_byte 32 value) s.table new n h))
    block key off
others_stay (plan.Clear name) own s after is block key off =
    with_table_stays s (cleared_table name s.table) after (name_read name) is
    (λ new e. named_stays (λ n. Ok (cleared (named_block n) n.key s.table)) s.table new (name_read name) e (λ n h. stays_if (named_block n) n.key s.table (cleared (named_block n) n.key s.table) new h (cleared_stays (named_block n) n.key s.table)))
    block key off
others_stay (plan.Inc name by) own s after is block key off =
    with_table_stays s (increased_table name by s.table) after (name_read name) is
    (λ new e. named_stays (λ n. sum_put n by s.table (named_count n s.table)) s.table new (name_read name) e (λ n h. sum_stays n by s.table new (named_count n s.table) h))
    block key off
