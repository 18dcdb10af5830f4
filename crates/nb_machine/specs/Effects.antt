-- What a command comes to: it is over with an outcome, it asks for a file, or for something by one exchange, it goes to a
-- label, it sleeps, it shuts the device, it hooks, unhooks or boots a drive, or it is a command on images; and what it does to the settings
-- and the device. Its words are expanded first. What a command on images or drives comes to, depends on these and its script besides.
use Rattle.std.specs.Prelude.{ℕ, ◌==◌, ◌||◌, nat_le, length, Bool, true, false, List, Option, Some, None, Result, Ok, Err, if◌then◌else◌}
use Rattle.std.specs.Option.{option_map_or, is_some}
use Rattle.std.specs.Str.{bytes_eq}
use Rattle.nb_terms.specs.declared.cause.Cause.{Cause}
use Rattle.nb_terms.specs.declared.reason.Fullness.TheVariants as fullness
use Rattle.nb_terms.specs.declared.reason.Long.TheVariants as long
use Rattle.nb_terms.specs.declared.reason.Plain.TheVariants as plain
use Rattle.nb_terms.specs.declared.reason.Reason.TheVariants as reason
use Rattle.nb_terms.specs.Reasons.{as_cause}
use Rattle.nb_defs.specs.Causes.{ok, unknown, usage, exit_cause}
use Rattle.nb_defs.specs.Commands.{CommandOutcome, refused, prints_text}
use Rattle.nb_settings.specs.Tables.{TableLists}
use Rattle.nb_expand.specs.declared.error.ExpandError.{ExpandError}
use Rattle.nb_expand.specs.declared.error.ExpandError.TheVariants as expand_error
use Rattle.nb_expand.specs.Values.{named_text}
use Rattle.nb_expand.specs.WordsExpansion.{expanded_words}
use Rattle.nb_command.specs.declared.command_plan.CommandPlan.{CommandPlan}
use Rattle.nb_command.specs.declared.command_plan.CommandPlan.TheVariants as plan
use Rattle.nb_command.specs.declared.error.ApplyError.{ApplyError}
use Rattle.nb_command.specs.declared.error.ApplyError.TheVariants.{False}
use Rattle.nb_imagecmd.specs.declared.error.PlanError.{PlanError}
use Rattle.nb_imagecmd.specs.declared.error.PlanError.TheVariants as plan_error
use Rattle.nb_imagecmd.specs.declared.asking.Asking.{Asking}
use Rattle.nb_imagecmd.specs.declared.commands.ImageCommand.{ImageCommand}
use Rattle.nb_imagecmd.specs.declared.error.ImageFailure.{ImageFailure}
use Rattle.nb_imagecmd.specs.declared.error.ImageFailure.TheVariants.{NoScheme}
use Rattle.nb_imagecmd.specs.declared.outcome.ImageOutcome.{ImageOutcome}
use Rattle.nb_imagecmd.specs.declared.outcome.ImageOutcome.TheVariants.{Done, Print, Ask, Run, Boot}
use Rattle.nb_imagecmd.specs.declared.outcome.ScriptImage.{ScriptImage}
use Rattle.nb_imagecmd.specs.Asking.{target_host}
use Rattle.nb_imagecmd.specs.CarryingOut.{image_effect}
use Rattle.nb_imagecmd.specs.Executing.{ImageAnswer, script_taken}
use Rattle.nb_imagecmd.specs.Failures.{image_cause}
use Rattle.nb_image.specs.Images.{ImageList}
use Rattle.nb_drivecmd.specs.declared.commands.DriveCommand.{DriveCommand}
use Rattle.nb_drivecmd.specs.declared.drive.Drive.{Drive}
use Rattle.nb_drivecmd.specs.declared.error.DriveRefusal.{DriveRefusal}
use Rattle.nb_drivecmd.specs.declared.outcome.DriveOutcome.{DriveOutcome}
use Rattle.nb_drivecmd.specs.declared.outcome.DriveOutcome.TheVariants as drive_outcome
use Rattle.nb_drivecmd.specs.declared.outcome.Hooking.{Hooking}
use Rattle.nb_drivecmd.specs.DriveEffect.{drive_effect}
use Rattle.nb_drivecmd.specs.DriveFailures.{drive_cause}
use Rattle.nb_uri.specs.declared.target.UriTarget.{UriTarget}
use Rattle.nb_uri.specs.declared.target.UriTarget.TheVariants.{Tftp, Http, Iscsi}
use Rattle.nb_command.specs.Failures.{apply_cause}
use Rattle.nb_command.specs.Bases.{base_by}
use Rattle.nb_command.specs.Applying.{out_of_memory}
use Rattle.nb_command.specs.Planning.{planned}
use Rattle.nb_command.specs.Settings.{Change}
use Rattle.nb_command.specs.Echo.{echoed}
use Rattle.nb_command.specs.Isset.{is_word_set}
use Rattle.nb_command.specs.Set.{set_table}
use Rattle.nb_command.specs.Clear.{cleared_table}
use Rattle.nb_command.specs.Show.{setting_shown}
use Rattle.nb_command.specs.Inc.{increased_table}
use Rattle.nb_command.specs.Device.{device_change}
use Rattle.nb_command.specs.Addresses.{address_table}
use Rattle.nb_uri.specs.Addresses.{four_decimals}
use Rattle.nb_dns.specs.WrittenNames.{is_lookup_name}
use Rattle.nb_wire.specs.declared.address.Ip4.{Ip4}
use Rattle.nb_machine.specs.Conclusions.{Conclusion, keeps, tells, boots_selected, runs_script}
use Rattle.nb_machine.specs.Errands.{Wanted, Errand, fetches_then, echoes_then, hooks_then, Onward, fetches_now, echoes_now, hooks_now, looks_up_now, onward}
use Rattle.nb_machine.specs.Queries.{Query, for_lease, for_echo, for_address, for_host, bad_name, no_server, dns_in, with_domain}

-- 16,384 opens were made
abbrev pub full_opens : Cause
full_opens = record { code = 8; a = 2; b = 0 }

-- two other drives are hooked
abbrev pub full_drives : Cause
full_drives = as_cause (reason.Full fullness.Drives)

pub data Effect : Type 0 where
  says : CommandOutcome → Effect
  asks : Wanted → Effect
  goes : (name : List ℕ) → Effect
  sleeps : (seconds : ℕ) → Effect
  -- the device goes down: what is open there is closed, and the command is over with Ok
  shuts_device : Effect
  -- something is asked for by one exchange
  inquires : Query → Effect
  -- it is a command on images: `effect_in` says what that comes to
  on_images : ImageCommand → Effect
  -- it is a drive command: `effect_in` says what that comes to
  on_drives : DriveCommand → Effect
  -- a disk is to be hooked; the drive of its number is closed before, if one is hooked
  hooks_disk : Hooking → Effect
  -- the drive of this number is closed, if one is hooked, and the command is over with this cause
  unhooks_drive : (number : ℕ) → Cause → Effect
  -- the drive of this number, which is hooked, is booted
  boots_drive : (number : ℕ) → Effect
  -- it is one that waits for nothing
  concludes_at_once : Conclusion → Effect

-- where one more open may be made
abbrev pub unless_full : ℕ → Effect → Effect
unless_full opens wanted = if opens == 16384 then says (refused full_opens) else wanted

-- what is asked next, where one more open may be made
abbrev pub next_open : ℕ → Onward → Result Onward Cause
next_open opens next = if opens == 16384 then Err full_opens else Ok next

-- a name server is asked for the server's address, where one is known
abbrev pub next_look_up : Errand → List ℕ → Option Ip4 → Result Onward Cause
next_look_up errand name None = Err no_server
next_look_up errand name (Some by) = Ok (looks_up_now errand name by.0)

-- a server by its name: the refusals in their order
abbrev pub next_by_name : ℕ → TableLists → Errand → List ℕ → Result Onward Cause
next_by_name opens table errand name =
    if is_lookup_name name then (if opens == 16384 then Err full_opens else next_look_up errand name (dns_in table)) else Err bad_name

-- what is asked of a host, or why nothing is: four decimals are its address, and a name is looked up
abbrev pub next_at_host : ℕ → TableLists → List ℕ → Errand → Result Onward Cause
next_at_host opens table text errand =
    option_map_or (λ address. next_open opens (onward errand address)) (four_decimals text) (next_by_name opens table errand (with_domain table text))

-- two drives are hooked, and a third isn't
abbrev pub unless_two_hooked : List Drive → Result Onward Cause → Result Onward Cause
unless_two_hooked drives next = if nat_le 2 (length drives) then Err full_drives else next

-- a text is four decimals, or a name that may be looked up
abbrev pub is_host_text : TableLists → List ℕ → Bool
is_host_text table text = is_some (four_decimals text) || is_lookup_name (with_domain table text)

-- what is asked of the host of a disk that is to be hooked, or why nothing is, once the drive of its number is closed
abbrev pub next_at_target : ℕ → TableLists → List Drive → Hooking → Result Onward Cause
next_at_target opens table drives hooking =
    if is_host_text table hooking.disk.host
    then unless_two_hooked drives (next_at_host opens table hooking.disk.host (hooks_then hooking))
    else Err bad_name

abbrev pub onward_effect : Onward → Effect
onward_effect (fetches_now wanted) = asks wanted
onward_effect (echoes_now server) = inquires (for_echo server)
onward_effect (hooks_now hooking server) = hooks_disk hooking
onward_effect (looks_up_now errand name by) = inquires (for_host errand name by)

abbrev pub next_effect : Result Onward Cause → Effect
next_effect (Ok next) = onward_effect next
next_effect (Err cause) = says (refused cause)

-- what a command comes to that asks this of a host
abbrev pub at_host : ℕ → TableLists → List ℕ → Errand → Effect
at_host opens table text errand = next_effect (next_at_host opens table text errand)

-- a name server is asked, where one is known
abbrev pub asked_name_server : List ℕ → List ℕ → Option Ip4 → Effect
asked_name_server setting name None = says (refused no_server)
asked_name_server setting name (Some by) = inquires (for_address setting name by.0)

-- a name's address for a setting: the refusals in their order
abbrev pub name_effect : ℕ → TableLists → List ℕ → List ℕ → Effect
name_effect opens table setting name =
    if is_lookup_name name then unless_full opens (asked_name_server setting name (dns_in table)) else says (refused bad_name)

-- a setting that refuses an address refuses first
abbrev pub unless_refused : Change → Effect → Effect
unless_refused (Ok table) wanted = wanted
unless_refused (Err why) wanted = says (refused (apply_cause why))

-- the address of a host for a setting: four decimals are it, and a name is looked up
abbrev pub looked_up_effect : ℕ → TableLists → List ℕ → List ℕ → Effect
looked_up_effect opens table setting text =
    unless_refused (address_table setting 0 table)
    (option_map_or (λ address. says (refused ok)) (four_decimals text) (name_effect opens table setting (with_domain table text)))

-- `exit n`
abbrev pub leaves_with : ℕ → CommandOutcome
leaves_with n = record { prints = None; cause = exit_cause n; leaves = true }

abbrev pub truth_outcome : Bool → CommandOutcome
truth_outcome is_true = if is_true then refused ok else refused (apply_cause False)

abbrev pub text_told : Result (List ℕ) ApplyError → CommandOutcome
text_told (Ok text) = prints_text text
text_told (Err why) = refused (apply_cause why)

abbrev pub change_outcome : Change → CommandOutcome
change_outcome (Ok table) = refused ok
change_outcome (Err why) = refused (apply_cause why)

-- `sleep 0` is over at once
abbrev pub sleeping_for : ℕ → Effect
sleeping_for seconds = if seconds == 0 then says (refused ok) else sleeps seconds

-- what a command comes to that sets the device up or down; another device is refused
abbrev pub device_effect : Effect → Result Bool ApplyError → Effect
device_effect done (Ok up) = done
device_effect done (Err why) = says (refused (apply_cause why))

-- what a command comes to, by how many opens were made and the settings
abbrev pub plan_effect : ℕ → TableLists → CommandPlan → Effect
plan_effect opens table (plan.Echo newline text) = says (prints_text (echoed newline text))
plan_effect opens table (plan.Goto label) = goes label
plan_effect opens table (plan.Exit n) = says (leaves_with n)
plan_effect opens table (plan.Isset word) = says (truth_outcome (is_word_set word))
plan_effect opens table (plan.Iseq a b) = says (truth_outcome (bytes_eq a b))
plan_effect opens table (plan.Set name value) = says (change_outcome (set_table name value table))
plan_effect opens table (plan.Clear name) = says (change_outcome (cleared_table name table))
plan_effect opens table (plan.Show name) = says (text_told (setting_shown name table))
plan_effect opens table (plan.Inc name by) = says (change_outcome (increased_table name by table))
plan_effect opens table (plan.Images command) = on_images command
plan_effect opens table (plan.Drives command) = on_drives command
plan_effect opens table (plan.Ifopen device) = device_effect (says (refused ok)) (device_change device true)
plan_effect opens table (plan.Ifclose device) = device_effect shuts_device (device_change device false)
plan_effect opens table (plan.Dhcp device) = device_effect (unless_full opens (inquires for_lease)) (device_change device true)
plan_effect opens table (plan.Ping text) = at_host opens table text echoes_then
plan_effect opens table (plan.Nslookup setting text) = looked_up_effect opens table setting text
plan_effect opens table (plan.Sleep seconds) = sleeping_for seconds

-- the settings that a change leaves
abbrev pub changed : TableLists → Change → TableLists
changed table (Ok other) = other
changed table (Err why) = table

-- the settings that a command leaves
abbrev pub plan_table : CommandPlan → TableLists → TableLists
plan_table (plan.Set name value) table = changed table (set_table name value table)
plan_table (plan.Clear name) table = changed table (cleared_table name table)
plan_table (plan.Inc name by) table = changed table (increased_table name by table)
plan_table (plan.Echo newline text) table = table
plan_table (plan.Goto label) table = table
plan_table (plan.Exit n) table = table
plan_table (plan.Isset word) table = table
plan_table (plan.Iseq a b) table = table
plan_table (plan.Show name) table = table
plan_table (plan.Images command) table = table
plan_table (plan.Drives command) table = table
plan_table (plan.Ifopen device) table = table
plan_table (plan.Ifclose device) table = table
plan_table (plan.Dhcp device) table = table
plan_table (plan.Ping text) table = table
plan_table (plan.Nslookup setting text) table = option_map_or (λ address. changed table (address_table setting address table)) (four_decimals text) table
plan_table (plan.Sleep seconds) table = table

-- whether the device is up after it was set so
abbrev pub set_up : Bool → Result Bool ApplyError → Bool
set_up up (Ok other) = other
set_up up (Err why) = up

-- whether it is up after a command
abbrev pub plan_up : CommandPlan → Bool → Bool
plan_up (plan.Ifopen device) up = set_up up (device_change device true)
plan_up (plan.Ifclose device) up = set_up up (device_change device false)
plan_up (plan.Dhcp device) up = set_up up (device_change device true)
plan_up (plan.Ping text) up = up
plan_up (plan.Nslookup setting text) up = up
plan_up (plan.Echo newline text) up = up
plan_up (plan.Goto label) up = up
plan_up (plan.Exit n) up = up
plan_up (plan.Isset word) up = up
plan_up (plan.Iseq a b) up = up
plan_up (plan.Set name value) up = up
plan_up (plan.Clear name) up = up
plan_up (plan.Show name) up = up
plan_up (plan.Inc name by) up = up
plan_up (plan.Images command) up = up
plan_up (plan.Drives command) up = up
plan_up (plan.Sleep seconds) up = up

-- why words are no command
abbrev pub plan_cause : PlanError → Cause
plan_cause plan_error.Unknown = unknown
plan_cause plan_error.Usage = usage
plan_cause plan_error.NoMemory = out_of_memory

abbrev pub planned_effect : ℕ → TableLists → Result CommandPlan PlanError → Effect
planned_effect opens table (Ok p) = plan_effect opens table p
planned_effect opens table (Err why) = says (refused (plan_cause why))

abbrev pub planned_table : TableLists → Result CommandPlan PlanError → TableLists
planned_table table (Ok p) = plan_table p table
planned_table table (Err why) = table

abbrev pub planned_up : Bool → Result CommandPlan PlanError → Bool
planned_up up (Ok p) = plan_up p up
planned_up up (Err why) = up

-- what expanded words come to
unfoldable pub words_effect : ℕ → TableLists → List (List ℕ) → Effect
words_effect opens table ws = planned_effect opens table (planned ws)

unfoldable pub words_table : TableLists → List (List ℕ) → TableLists
words_table table ws = planned_table table (planned ws)

unfoldable pub words_up : Bool → List (List ℕ) → Bool
words_up up ws = planned_up up (planned ws)

-- why words aren't expanded
abbrev pub expand_cause : ExpandError → Cause
expand_cause expand_error.BadName = as_cause (reason.Plain plain.BadName)
expand_cause expand_error.TooLong = as_cause (reason.TooLong long.Line)
expand_cause expand_error.NoMemory = out_of_memory

-- the words of a command, each `${name}` in them replaced by what it stands for
abbrev pub expansion : TableLists → List (List ℕ) → Result (List (List ℕ)) ExpandError
expansion table ws = expanded_words (named_text table) ws

abbrev pub expanded_effect : ℕ → TableLists → Result (List (List ℕ)) ExpandError → Effect
expanded_effect opens table (Ok ws) = words_effect opens table ws
expanded_effect opens table (Err why) = says (refused (expand_cause why))

abbrev pub expanded_table : TableLists → Result (List (List ℕ)) ExpandError → TableLists
expanded_table table (Ok ws) = words_table table ws
expanded_table table (Err why) = table

abbrev pub expanded_up : Bool → Result (List (List ℕ)) ExpandError → Bool
expanded_up up (Ok ws) = words_up up ws
expanded_up up (Err why) = up

-- what a command comes to, by its words as the script has them
unfoldable pub effect : ℕ → TableLists → List (List ℕ) → Effect
effect opens table ws = expanded_effect opens table (expansion table ws)

-- what a command on images or drives finds: how many opens were made, the settings, the images, the drives, and its script's URI and depth
pub record Surroundings : Type 0 where
  pub opens : ℕ
  pub table : TableLists
  pub images : ImageList
  pub drives : List Drive
  pub base : Option (List ℕ)
  pub depth : ℕ

-- a command on images fails
abbrev pub fails_for : ImageFailure → Effect
fails_for why = says (refused (image_cause why))

-- a file is asked for, by TFTP or by HTTP; a disk is none
abbrev pub asked_effect : UriTarget → Surroundings → Asking → Effect
asked_effect (Tftp host port path whole) x asking = at_host x.opens x.table host (fetches_then asking)
asked_effect (Http host port path whole) x asking = at_host x.opens x.table host (fetches_then asking)
asked_effect (Iscsi host port lun name whole) x asking = fails_for NoScheme

-- what is asked next of a file whose server has moved it, or why the command fails
abbrev pub next_moved : ℕ → TableLists → Result Asking ImageFailure → Result Onward Cause
next_moved opens table (Ok asking) = next_at_host opens table (target_host asking.target) (fetches_then asking)
next_moved opens table (Err why) = Err (image_cause why)

-- a script leaves the list to run, unless too many are within one another
abbrev pub taken_effect : Bool → Result (ScriptImage × ImageList) ImageFailure → Effect
taken_effect replace (Ok taken) = concludes_at_once (runs_script taken.1 taken.0 replace)
taken_effect replace (Err why) = fails_for why

-- what a command on images comes to that has this outcome and leaves this list
abbrev pub image_outcome_effect : Surroundings → ImageOutcome → ImageList → Effect
image_outcome_effect x Done list = concludes_at_once (keeps list)
image_outcome_effect x (Print lines) list = concludes_at_once (tells list lines)
image_outcome_effect x (Ask asking) list = asked_effect asking.target x asking
image_outcome_effect x (Run image replace) list = taken_effect replace (script_taken image replace x.depth list)
image_outcome_effect x Boot list = concludes_at_once (boots_selected list)

abbrev pub image_answer_effect : Surroundings → ImageAnswer → Effect
image_answer_effect x (Ok answer) = image_outcome_effect x answer.0 answer.1
image_answer_effect x (Err why) = fails_for why

-- what a command on images comes to
abbrev pub images_effect : Surroundings → ImageCommand → Effect
images_effect x command = image_answer_effect x (image_effect command (base_by x.base x.table) x.images)

-- what a drive command comes to
abbrev pub drive_outcome_effect : DriveOutcome → Effect
drive_outcome_effect (drive_outcome.Hook hooking) = hooks_disk hooking
drive_outcome_effect (drive_outcome.Boot number keep) = boots_drive number
drive_outcome_effect (drive_outcome.Unhook number) = unhooks_drive number ok

-- one that is refused may let a drive go
abbrev pub refusal_effect : Cause → Option ℕ → Effect
refusal_effect cause None = says (refused cause)
refusal_effect cause (Some number) = unhooks_drive number cause

abbrev pub drive_answer_effect : Result DriveOutcome DriveRefusal → Effect
drive_answer_effect (Ok outcome) = drive_outcome_effect outcome
drive_answer_effect (Err refusal) = refusal_effect (drive_cause refusal.why) refusal.unhooks

abbrev pub drives_effect : Surroundings → DriveCommand → Effect
drives_effect x command = drive_answer_effect (drive_effect command (base_by x.base x.table) x.table x.drives)

-- each command's effect, of those on images and drives by what they find
abbrev pub settled_effect : Surroundings → Effect → Effect
settled_effect x (on_images command) = images_effect x command
settled_effect x (on_drives command) = drives_effect x command
settled_effect x (hooks_disk hooking) = hooks_disk hooking
settled_effect x (unhooks_drive number cause) = unhooks_drive number cause
settled_effect x (boots_drive number) = boots_drive number
settled_effect x (says o) = says o
settled_effect x (asks wanted) = asks wanted
settled_effect x (goes name) = goes name
settled_effect x (sleeps seconds) = sleeps seconds
settled_effect x shuts_device = shuts_device
settled_effect x (inquires q) = inquires q
settled_effect x (concludes_at_once c) = concludes_at_once c

-- what a command comes to by what it finds and its words as the script has them
unfoldable pub effect_in : Surroundings → List (List ℕ) → Effect
effect_in x ws = settled_effect x (effect x.opens x.table ws)

-- the settings that it leaves
unfoldable pub table_after : TableLists → List (List ℕ) → TableLists
table_after table ws = expanded_table table (expansion table ws)

-- whether the device is up then
unfoldable pub up_after : TableLists → Bool → List (List ℕ) → Bool
up_after table up ws = expanded_up up (expansion table ws)

-- the words that COMMAND shows: expanded, or as they are written where that is refused
pub record ShownWords : Type 0 where
  pub expanded : Bool
  pub words : List (List ℕ)

abbrev pub shown_as : Bool → List (List ℕ) → ShownWords
shown_as expanded ws = record { expanded = expanded; words = ws }

abbrev pub shown_by : List (List ℕ) → Result (List (List ℕ)) ExpandError → ShownWords
shown_by written (Ok ws) = shown_as true ws
shown_by written (Err why) = shown_as false written

unfoldable pub shown_words : TableLists → List (List ℕ) → ShownWords
shown_words table ws = shown_by ws (expansion table ws)
