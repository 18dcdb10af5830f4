-- What a command comes to that asks for something, or is refused.
use Rattle.std.proofs.Common.{ℕ, ◌==◌, Bool, true, false, cond, List, Option, Some, None, Result, Ok, Err}
use Rattle.std.specs.Option.{option_map_or}
use Rattle.nb_terms.specs.declared.cause.Cause.{Cause}
use Rattle.nb_defs.specs.Causes.{ok}
use Rattle.nb_defs.specs.Commands.{CommandOutcome, refused}
use Rattle.nb_command.specs.Addresses.{address_table}
use Rattle.nb_command.specs.Failures.{apply_cause}
use Rattle.nb_command.specs.Bases.{base_by}
use Rattle.nb_command.specs.Settings.{Change}
use Rattle.nb_dns.specs.WrittenNames.{is_lookup_name}
use Rattle.nb_settings.specs.Tables.{TableLists}
use Rattle.nb_uri.specs.Addresses.{four_decimals}
use Rattle.nb_wire.specs.declared.address.Ip4.{Ip4}
use Rattle.nb_image.specs.Images.{ImageList}
use Rattle.nb_imagecmd.specs.declared.asking.Asking.{Asking}
use Rattle.nb_imagecmd.specs.declared.commands.ImageCommand.{ImageCommand}
use Rattle.nb_imagecmd.specs.declared.error.ImageFailure.{ImageFailure}
use Rattle.nb_imagecmd.specs.declared.error.ImageFailure.TheVariants.{NoScheme}
use Rattle.nb_imagecmd.specs.declared.outcome.ImageOutcome.{ImageOutcome}
use Rattle.nb_imagecmd.specs.declared.outcome.ImageOutcome.TheVariants.{Done, Print, Ask, Run, Boot}
use Rattle.nb_imagecmd.specs.declared.outcome.ScriptImage.{ScriptImage}
use Rattle.nb_imagecmd.specs.CarryingOut.{image_effect}
use Rattle.nb_imagecmd.specs.Executing.{ImageAnswer, script_taken}
use Rattle.nb_imagecmd.specs.Failures.{image_cause}
use Rattle.nb_drivecmd.specs.declared.commands.DriveCommand.{DriveCommand}
use Rattle.nb_drivecmd.specs.declared.error.DriveRefusal.{DriveRefusal}
use Rattle.nb_drivecmd.specs.declared.outcome.DriveOutcome.{DriveOutcome}
use Rattle.nb_drivecmd.specs.declared.outcome.DriveOutcome.TheVariants as drive_outcome
use Rattle.nb_drivecmd.specs.declared.outcome.Hooking.{Hooking}
use Rattle.nb_drivecmd.specs.DriveEffect.{drive_effect}
use Rattle.nb_drivecmd.specs.DriveFailures.{drive_cause}
use Rattle.nb_uri.specs.declared.target.UriTarget.{UriTarget}
use Rattle.nb_uri.specs.declared.target.UriTarget.TheVariants.{Tftp, Http, Iscsi}
use Rattle.nb_machine.specs.Conclusions.{Conclusion, keeps, tells, boots_selected, runs_script}
use Rattle.nb_machine.specs.Errands.{Wanted, Errand, fetches_then, echoes_then, Onward, onward}
use Rattle.nb_machine.specs.Effects.{Effect, says, asks, inquires, hooks_disk, unhooks_drive, boots_drive, concludes_at_once, Surroundings, drive_outcome_effect, refusal_effect, drive_answer_effect, drives_effect, asked_effect, taken_effect, image_outcome_effect, image_answer_effect, images_effect, full_opens, unless_full, onward_effect, next_open, next_look_up, next_by_name, next_effect, at_host, asked_name_server, name_effect, unless_refused, looked_up_effect}
use Rattle.nb_machine.specs.Queries.{Query, for_echo, for_address, for_host, bad_name, no_server, dns_in, with_domain}

pub either_of : (P : Effect → Type 0) (b : Bool) (e f : Effect) → P e → P f → P (cond b e f)
either_of P true e f p q = p
either_of P false e f p q = q

-- where all opens may be made
pub full_either : (P : Effect → Type 0) → ((o : CommandOutcome) → P (says o)) → (opens : ℕ) (wanted : Effect) → P wanted → P (unless_full opens wanted)
full_either P said opens wanted p = either_of P (opens == 16384) (says (refused full_opens)) wanted (said (refused full_opens)) p

next_either : (P : Effect → Type 0) (b : Bool) (x y : Result Onward Cause) → P (next_effect x) → P (next_effect y) → P (next_effect (cond b x y))
next_either P true x y p q = p
next_either P false x y p q = q

-- what is asked of a host is refused, asks of it or looks its name up
pub host_either : (P : Effect → Type 0) → ((o : CommandOutcome) → P (says o)) → (opens : ℕ) (table : TableLists) (text : List ℕ) (errand : Errand) → ((name : List ℕ) (by : ℕ) → P (inquires (for_host errand name by))) →
    ((address : ℕ) → P (onward_effect (onward errand address))) → P (at_host opens table text errand)
host_either P said opens table text errand inquired asked = by (four_decimals text)
  where
    server : (name : List ℕ) (o : Option Ip4) → P (next_effect (next_look_up errand name o))
    server name None = said (refused no_server)
    server name (Some address) = inquired name address.0

    named : (name : List ℕ) → P (next_effect (next_by_name opens table errand name))
    named name = next_either P (is_lookup_name name) _ _ (next_either P (opens == 16384) _ _ (said (refused full_opens)) (server name (dns_in table))) (said (refused bad_name))

    by : (o : Option ℕ) → P (next_effect (option_map_or (λ address. next_open opens (onward errand address)) o (next_by_name opens table errand (with_domain table text))))
    by None = named (with_domain table text)
    by (Some address) = next_either P (opens == 16384) _ _ (said (refused full_opens)) (asked address)

-- a file that is asked for is refused, asked for at once, or its server's address is
pub asked_case : (P : Effect → Type 0) → ((o : CommandOutcome) → P (says o)) → (target : UriTarget) (x : Surroundings) (asking : Asking) → ((server : ℕ) → P (asks (record { server = server; asking = asking }))) →
    ((name : List ℕ) (by : ℕ) → P (inquires (for_host (fetches_then asking) name by))) → P (asked_effect target x asking)
asked_case P said (Tftp host port path whole) x asking asked inquired = host_either P said x.opens x.table host (fetches_then asking) inquired asked
asked_case P said (Http host port path whole) x asking asked inquired = host_either P said x.opens x.table host (fetches_then asking) inquired asked
asked_case P said (Iscsi host port lun name whole) x asking asked inquired = said (refused (image_cause NoScheme))

-- a command on images is refused, comes to a conclusion at once, asks for its file, or for its server's address
pub images_case : (P : Effect → Type 0) → ((o : CommandOutcome) → P (says o)) → ((c : Conclusion) → P (concludes_at_once c)) → ((wanted : Wanted) → P (asks wanted)) →
    ((asking : Asking) (name : List ℕ) (by : ℕ) → P (inquires (for_host (fetches_then asking) name by))) → (x : Surroundings) (command : ImageCommand) → P (images_effect x command)
images_case P said concluded asked inquired x command = by (image_effect command (base_by x.base x.table) x.images)
  where
    by_taken : (replace : Bool) (r : Result (ScriptImage × ImageList) ImageFailure) → P (taken_effect replace r)
    by_taken replace (Ok taken) = concluded (runs_script taken.1 taken.0 replace)
    by_taken replace (Err why) = said (refused (image_cause why))

    by_outcome : (o : ImageOutcome) (list : ImageList) → P (image_outcome_effect x o list)
    by_outcome Done list = concluded (keeps list)
    by_outcome (Print lines) list = concluded (tells list lines)
    by_outcome (Ask asking) list = asked_case P said asking.target x asking (λ server. asked (record { server = server; asking = asking })) (inquired asking)
    by_outcome (Run image replace) list = by_taken replace (script_taken image replace x.depth list)
    by_outcome Boot list = concluded (boots_selected list)

    by : (r : ImageAnswer) → P (image_answer_effect x r)
    by (Ok answer) = by_outcome answer.0 answer.1
    by (Err why) = said (refused (image_cause why))

pub images_either : (P : Effect → Type 0) → ((o : CommandOutcome) → P (says o)) → ((c : Conclusion) → P (concludes_at_once c)) → ((wanted : Wanted) → P (asks wanted)) → ((q : Query) → P (inquires q)) →
    (x : Surroundings) (command : ImageCommand) → P (images_effect x command)
images_either P said concluded asked inquired x command = images_case P said concluded asked (λ asking name by. inquired (for_host (fetches_then asking) name by)) x command

-- `ping` is refused, asks for an echo, or for its host's address
pub pinged_case : (P : Effect → Type 0) → ((o : CommandOutcome) → P (says o)) → ((server : ℕ) → P (inquires (for_echo server))) → ((name : List ℕ) (by : ℕ) → P (inquires (for_host echoes_then name by))) →
    (opens : ℕ) (table : TableLists) (text : List ℕ) → P (at_host opens table text echoes_then)
pinged_case P said echoed inquired opens table text = host_either P said opens table text echoes_then inquired echoed

pub pinged_either : (P : Effect → Type 0) → ((o : CommandOutcome) → P (says o)) → ((q : Query) → P (inquires q)) → (opens : ℕ) (table : TableLists) (text : List ℕ) → P (at_host opens table text echoes_then)
pinged_either P said inquired opens table text = pinged_case P said (λ server. inquired (for_echo server)) (λ name by. inquired (for_host echoes_then name by)) opens table text

name_case : (P : Effect → Type 0) → ((o : CommandOutcome) → P (says o)) → (opens : ℕ) (table : TableLists) (setting name : List ℕ) → ((by : ℕ) → P (inquires (for_address setting name by))) → P (name_effect opens table setting name)
name_case P said opens table setting name asked =
    either_of P (is_lookup_name name) _ _ (full_either P said opens _ (by (dns_in table))) (said (refused bad_name))
  where
    by : (o : Option Ip4) → P (asked_name_server setting name o)
    by None = said (refused no_server)
    by (Some address) = asked address.0

-- `nslookup` is over at once, or asks for an address
pub looked_up_case : (P : Effect → Type 0) → ((o : CommandOutcome) → P (says o)) → (opens : ℕ) (table : TableLists) (setting text : List ℕ) → ((name : List ℕ) (by : ℕ) → P (inquires (for_address setting name by))) → P (looked_up_effect opens table setting text)
looked_up_case P said opens table setting text asked = by (address_table setting 0 table) (four_decimals text)
  where
    by : (c : Change) (o : Option ℕ) → P (unless_refused c (option_map_or (λ address. says (refused ok)) o (name_effect opens table setting (with_domain table text))))
    by (Ok after) None = name_case P said opens table setting (with_domain table text) (λ server. asked (with_domain table text) server)
    by (Ok after) (Some address) = said (refused ok)
    by (Err why) o = said (refused (apply_cause why))

pub looked_up_either : (P : Effect → Type 0) → ((o : CommandOutcome) → P (says o)) → ((q : Query) → P (inquires q)) → (opens : ℕ) (table : TableLists) (setting text : List ℕ) → P (looked_up_effect opens table setting text)
looked_up_either P said asked opens table setting text = looked_up_case P said opens table setting text (λ name by. asked (for_address setting name by))

-- a drive command is refused, hooks a disk, lets a drive go, or boots one
pub drives_either : (P : Effect → Type 0) → ((o : CommandOutcome) → P (says o)) → ((hooking : Hooking) → P (hooks_disk hooking)) → ((number : ℕ) (cause : Cause) → P (unhooks_drive number cause)) →
    ((number : ℕ) → P (boots_drive number)) → (x : Surroundings) (command : DriveCommand) → P (drives_effect x command)
drives_either P said hooked unhooked booted x command = by (drive_effect command (base_by x.base x.table) x.table x.drives)
  where
    by_outcome : (o : DriveOutcome) → P (drive_outcome_effect o)
    by_outcome (drive_outcome.Hook hooking) = hooked hooking
    by_outcome (drive_outcome.Boot number keep) = booted number
    by_outcome (drive_outcome.Unhook number) = unhooked number ok

    by_refusal : (cause : Cause) (o : Option ℕ) → P (refusal_effect cause o)
    by_refusal cause None = said (refused cause)
    by_refusal cause (Some number) = unhooked number cause

    by : (r : Result DriveOutcome DriveRefusal) → P (drive_answer_effect r)
    by (Ok outcome) = by_outcome outcome
    by (Err refusal) = by_refusal (drive_cause refusal.why) refusal.unhooks
