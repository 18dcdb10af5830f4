-- own, after ipxe.org's commands: what a command comes to, and the state that it leaves
use Rattle.std.specs.Prelude.{ℕ, List, Bool, true, false, Option, Result, Ok, Err, if◌then◌else◌}
use Rattle.std.specs.Result.{result_map_both}
use Rattle.std.specs.Str.{bytes_eq}
use Rattle.nb_terms.specs.declared.cause.Cause.{Cause}
use Rattle.nb_settings.specs.Tables.{TableLists}
use Rattle.nb_image.specs.Images.{ImageList}
use Rattle.nb_drivecmd.specs.declared.error.DriveRefusal.{DriveRefusal}
use Rattle.nb_drivecmd.specs.declared.outcome.DriveOutcome.{DriveOutcome}
use Rattle.nb_drivecmd.specs.DriveEffect.{drive_effect}
use Rattle.nb_imagecmd.specs.declared.error.ImageFailure.{ImageFailure}
use Rattle.nb_imagecmd.specs.declared.outcome.ImageOutcome.{ImageOutcome}
use Rattle.nb_imagecmd.specs.CarryingOut.{image_effect, IfAsks}
use Rattle.nb_imagecmd.specs.Asking.{MayBeFetched}
use Rattle.nb_command.specs.declared.command_plan.CommandPlan.{CommandPlan}
use Rattle.nb_command.specs.declared.command_plan.CommandPlan.TheVariants as plan
use Rattle.nb_command.specs.declared.error.ApplyError.{ApplyError}
use Rattle.nb_command.specs.declared.error.ApplyError.TheVariants.{False, NoMemory}
use Rattle.nb_command.specs.declared.outcome.Job.{Job}
use Rattle.nb_command.specs.declared.outcome.Job.TheVariants as job
use Rattle.nb_command.specs.declared.outcome.Outcome.{Outcome}
use Rattle.nb_command.specs.declared.outcome.Outcome.TheVariants.{Done, Text, Goto, Leave, Wait, Down, Images, Drives}
use Rattle.nb_command.specs.declared.state.State.{State}
use Rattle.nb_command.specs.Bases.{base_by}
use Rattle.nb_command.specs.Failures.{apply_cause, image_failure, drive_failure}
use Rattle.nb_command.specs.Echo.{echoed}
use Rattle.nb_command.specs.Isset.{is_word_set}
use Rattle.nb_command.specs.Set.{set_table}
use Rattle.nb_command.specs.Clear.{cleared_table}
use Rattle.nb_command.specs.Show.{setting_shown}
use Rattle.nb_command.specs.Inc.{increased_table}
use Rattle.nb_command.specs.Device.{device_change}
use Rattle.nb_command.specs.Nslookup.{lookup_job}

abbrev pub out_of_memory : Cause
out_of_memory = apply_cause NoMemory

-- Ok where it is true, else False
abbrev pub truth : Bool → Result Outcome ApplyError
truth is_true = if is_true then Ok Done else Err False

-- an outcome that leaves the state as it was
abbrev pub in_state : State → Result Outcome ApplyError → Result (Outcome × State) ApplyError
in_state s answer = result_map_both (λ outcome. (outcome, s)) (λ why. why) answer

-- a command that leaves another table, and all else of the state as it was
abbrev pub with_table : State → Result TableLists ApplyError → Result (Outcome × State) ApplyError
with_table s answer =
    result_map_both (λ table. (Done, record s { table = table })) (λ why. why) answer

-- a command that sets the device up or down, and leaves all else of the state as it was
abbrev pub with_up : Outcome → State → Result Bool ApplyError → Result (Outcome × State) ApplyError
with_up outcome s answer =
    result_map_both (λ up. (outcome, record s { up = up })) (λ why. why) answer

abbrev pub text_outcome : Result (List ℕ) ApplyError → Result Outcome ApplyError
text_outcome answer = result_map_both (λ text. Text text) (λ why. why) answer

abbrev pub waits_for_wanted : Result Job ApplyError → Result Outcome ApplyError
waits_for_wanted answer = result_map_both (λ wanted. Wait wanted) (λ why. why) answer

-- a command on images leaves another list, and all else of the state as it was
abbrev pub with_image_list : State → Result (ImageOutcome × ImageList) ImageFailure → Result (Outcome × State) ApplyError
with_image_list s answer =
    result_map_both (λ done. (Images done.0, record s { images = done.1 })) image_failure answer

-- a drive command leaves the state as it was: who carries the outcome out changes the drives
abbrev pub with_drives : State → Result DriveOutcome DriveRefusal → Result (Outcome × State) ApplyError
with_drives s answer = result_map_both (λ outcome. (Drives outcome, s)) (λ refusal. drive_failure refusal.why) answer

-- the script was fetched from that URI, if it was
abbrev pub carried_out : CommandPlan → Option (List ℕ) → State → Result (Outcome × State) ApplyError
carried_out (plan.Echo newline text) own s = Ok (Text (echoed newline text), s)
carried_out (plan.Goto label) own s = Ok (Goto label, s)
carried_out (plan.Exit n) own s = Ok (Leave n, s)
carried_out (plan.Isset word) own s = in_state s (truth (is_word_set word))
carried_out (plan.Iseq a b) own s = in_state s (truth (bytes_eq a b))
carried_out (plan.Set name value) own s = with_table s (set_table name value s.table)
carried_out (plan.Clear name) own s = with_table s (cleared_table name s.table)
carried_out (plan.Show name) own s = in_state s (text_outcome (setting_shown name s.table))
carried_out (plan.Inc name by) own s = with_table s (increased_table name by s.table)
carried_out (plan.Images command) own s = with_image_list s (image_effect command (base_by own s.table) s.images)
carried_out (plan.Drives command) own s = with_drives s (drive_effect command (base_by own s.table) s.table s.drives)
carried_out (plan.Ifopen device) own s = with_up Done s (device_change device true)
carried_out (plan.Ifclose device) own s = with_up Down s (device_change device false)
carried_out (plan.Dhcp device) own s = with_up (Wait job.Lease) s (device_change device true)
carried_out (plan.Ping host) own s = Ok (Wait (job.Ping host), s)
carried_out (plan.Nslookup name host) own s = in_state s (waits_for_wanted (lookup_job name host s.table))
carried_out (plan.Sleep seconds) own s = Ok (Wait (job.Sleep seconds), s)

-- the outcome and the state after it, or the cause of the refusal, which leaves the state as it was
unfoldable pub applied : CommandPlan → Option (List ℕ) → State → Result (Outcome × State) Cause
applied p own s = result_map_both (λ after. after) apply_cause (carried_out p own s)

-- a file that it asks for may be fetched
abbrev pub AsksRightly : Outcome → Type 0
AsksRightly (Images outcome) = IfAsks outcome MayBeFetched
AsksRightly (Drives outcome) = Unit {0}
AsksRightly Done = Unit {0}
AsksRightly (Text text) = Unit {0}
AsksRightly (Goto label) = Unit {0}
AsksRightly (Leave n) = Unit {0}
AsksRightly (Wait job) = Unit {0}
AsksRightly Down = Unit {0}
