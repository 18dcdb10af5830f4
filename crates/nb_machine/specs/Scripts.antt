-- Scripts: what a command does to the state, and what comes of one that waited. No word of frames.
use Rattle.std.specs.Prelude.{ℕ, ◌+◌, ◌*◌, ◌==◌, nat_le, Bool, List, [], ◌∷◌, ◌++◌, Option, Some, None, Result, Ok, Err, find, option_map, if◌then◌else◌}
use Rattle.std.specs.Option.{option_map_or, option_or, option_and_then, is_some}
use Rattle.nb_terms.specs.declared.cause.Cause.{Cause}
use Rattle.nb_wire.specs.declared.address.Mac.{Mac}
use Rattle.nb_defs.specs.Causes.{ok, is_ok_cause}
use Rattle.nb_defs.specs.Commands.{CommandOutcome}
use Rattle.nb_defs.specs.Records.{In, Out, result}
use Rattle.nb_stack.specs.Client.{Client}
use Rattle.nb_imagecmd.specs.Asking.{target_port, target_text}
use Rattle.nb_imagecmd.specs.Moving.{moved_file}
use Rattle.nb_uri.specs.declared.target.UriTarget.{UriTarget}
use Rattle.nb_uri.specs.declared.target.UriTarget.TheVariants.{Tftp, Http, Iscsi}
use Rattle.nb_settings.specs.Tables.{TableLists}
use Rattle.nb_command.specs.Settings.{Change}
use Rattle.nb_drivecmd.specs.declared.drive.Drive.{Drive}
use Rattle.nb_drivecmd.specs.declared.outcome.AfterHook.{AfterHook}
use Rattle.nb_drivecmd.specs.declared.outcome.AfterHook.TheVariants as after_hook
use Rattle.nb_drivecmd.specs.declared.outcome.Hooking.{Hooking}
use Rattle.nb_drivelogin.specs.DriveLogins.{login_by}
use Rattle.nb_command.specs.Addresses.{address_table}
use Rattle.nb_machine.specs.Errands.{Wanted, Errand, Onward, fetches_now, echoes_now, hooks_now, looks_up_now, onward}
use Rattle.nb_machine.specs.Effects.{Effect, says, asks, goes, sleeps, shuts_device, inquires, on_images, on_drives, hooks_disk, unhooks_drive, boots_drive, concludes_at_once, Surroundings, effect_in, next_moved, table_after, up_after}
use Rattle.nb_machine.specs.Queries.{Query, for_lease, for_echo, for_host, for_address}
use Rattle.nb_machine.specs.Findings.{first_word, open_words, asker_at, query_id, lease_change, Settlement, settled_by}
use Rattle.nb_machine.specs.Conclusions.{Conclusion, keeps, fails, conclusion, conclusion_records}
use Rattle.nb_machine.specs.Starting.{own_port}
use Rattle.nb_machine.specs.Running.{Running, anew}
use Rattle.nb_machine.specs.Lives.{OpenKind, tftp, http, iscsi, dns, dhcp, ping, Live}
use Rattle.nb_machine.specs.Kinds.{fetched, moved, resolved, granted, answered, read_last}
use Rattle.nb_machine.specs.States.{State, net0, with_settings}
use Rattle.nb_machine.specs.Takings.{Over}

-- what a command does once what it waits for has come
pub data Job : Type 0 where
  -- the file becomes an image, is booted, or runs
  fetch : Wanted → Job
  -- the acknowledgement's settings are put
  takes_lease : Job
  -- nothing but what its end says
  hears_echo : Job
  -- the address is put into this setting
  keeps_address : (setting : List ℕ) → Job
  -- the disk is hooked as a drive, and booted, if that is asked for
  hooks : Hooking → Job
  -- the disk whose first block has come is booted, and hooked as this drive, where it isn't hooked yet
  boots : Option Drive → Job
  -- the command goes on to the server whose name was looked up
  asks_on : Errand → Job
  -- nothing
  sleep : Job

-- what a command comes to: it is over at once and leaves this state, it opens something in this state and waits for it, it goes to a
-- label, it waits for this time, it sets the device down, closes all that lives and leaves this state, it is one on images,
-- of which this comes at once, it hooks a disk, it lets the drive of a number go and is over with this cause, or it boots the drive of a
-- number
pub data Doing : Type 0 where
  ends : CommandOutcome → State → Doing
  opens : State → Live → Job → Doing
  goes_to : (name : List ℕ) → Doing
  waits_until : (time : ℕ) → Doing
  shuts : State → Doing
  concludes_now : Conclusion → Doing
  hooks_one : Hooking → Doing
  lets_go : (number : ℕ) → Cause → Doing
  boots_one : (number : ℕ) → Doing

-- the kind of the next open for a target: by HTTP its SYN has the open's first word as its number; a disk is no file, and isn't fetched
abbrev pub transfer_kind : State → UriTarget → OpenKind
transfer_kind s (Tftp host port path whole) = tftp
transfer_kind s (Http host port path whole) = http (first_word s.machine s.opens)
transfer_kind s (Iscsi host port lun name whole) = tftp

-- the next open, on a device, for a file: from the client's next port to the file's port of the server
abbrev pub transfer_for : State → Wanted → Live
transfer_for s wanted = record {
  number = s.opens;
  kind = transfer_kind s wanted.asking.target;
  device = net0;
  server = wanted.server;
  port = target_port wanted.asking.target;
  own = own_port s.w s.opens;
  target = target_text wanted.asking.target;
  since = s.now;
  exchanges = [];
}

-- net0's hardware address
abbrev pub net0_mac : List Client → Mac
net0_mac [] = record { 0 = [] }
net0_mac (link ∷ others) = link.mac

-- for a lease: from port 68 to port 67 of all hosts
abbrev pub lease_for : State → Live
lease_for s = record {
  number = s.opens;
  kind = dhcp (asker_at (net0_mac s.devices) s.machine s.opens);
  device = net0;
  server = 4294967295;
  port = 67;
  own = 68;
  target = [];
  since = s.now;
  exchanges = [];
}

-- for an echo of a host: its number is the identifier
abbrev pub echo_for : State → ℕ → Live
echo_for s server = record {
  number = s.opens;
  kind = ping;
  device = net0;
  server = server;
  port = 0;
  own = s.opens;
  target = [];
  since = s.now;
  exchanges = [];
}

-- for a name's address: from the client's next port to port 53 of the name server
abbrev pub look_up_for : State → List ℕ → ℕ → Live
look_up_for s name by = record {
  number = s.opens;
  kind = dns (query_id s.machine s.opens);
  device = net0;
  server = by;
  port = 53;
  own = own_port s.w s.opens;
  target = name;
  since = s.now;
  exchanges = [];
}

-- for a disk: from the client's next port to the disk's port of its server; the login has what the settings say, and the open's words. The target
-- is the name that the disk has there, a zero, and its logical unit's number.
abbrev pub drive_for : State → Hooking → ℕ → Live
drive_for s hooking server = record {
  number = s.opens;
  kind = iscsi (first_word s.machine s.opens) (login_by hooking.disk (open_words s.machine s.opens) s.table);
  device = net0;
  server = server;
  port = hooking.disk.port;
  own = own_port s.w s.opens;
  target = hooking.disk.name ++ 0 ∷ hooking.disk.lun;
  since = s.now;
  exchanges = [];
}

-- what is opened for a query, and what is done with what comes of it
abbrev pub live_for : State → Query → Live
live_for s for_lease = lease_for s
live_for s (for_echo server) = echo_for s server
live_for s (for_host errand name by) = look_up_for s name by
live_for s (for_address setting name by) = look_up_for s name by

abbrev pub job_for : Query → Job
job_for for_lease = takes_lease
job_for (for_echo server) = hears_echo
job_for (for_host errand name by) = asks_on errand
job_for (for_address setting name by) = keeps_address setting

-- what is opened of a server that was looked up, or for the address of another, and what is done with what comes of it
abbrev pub live_onward : State → Onward → Live
live_onward s (fetches_now wanted) = transfer_for s wanted
live_onward s (echoes_now server) = echo_for s server
live_onward s (hooks_now hooking server) = drive_for s hooking server
live_onward s (looks_up_now errand name by) = look_up_for s name by

abbrev pub job_onward : Onward → Job
job_onward (fetches_now wanted) = fetch wanted
job_onward (echoes_now server) = hears_echo
job_onward (hooks_now hooking server) = hooks hooking
job_onward (looks_up_now errand name by) = asks_on errand

-- by its effect, and the settings that it leaves and whether the device is up then
abbrev pub doing_by : State → TableLists → Bool → Effect → Doing
doing_by s table up (says o) = ends o (with_settings s table up)
doing_by s table up shuts_device = shuts (with_settings s table up)
doing_by s table up (asks wanted) = opens s (transfer_for s wanted) (fetch wanted)
doing_by s table up (inquires q) = opens (with_settings s table up) (live_for (with_settings s table up) q) (job_for q)
doing_by s table up (goes name) = goes_to name
doing_by s table up (sleeps seconds) = waits_until (s.now + 1000 * seconds)
doing_by s table up (concludes_at_once c) = concludes_now c
doing_by s table up (hooks_disk hooking) = hooks_one hooking
doing_by s table up (unhooks_drive number cause) = lets_go number cause
doing_by s table up (boots_drive number) = boots_one number
-- `effect_in` has settled what such commands come to
doing_by s table up (on_images command) = concludes_now (keeps s.images)
doing_by s table up (on_drives command) = concludes_now (keeps s.images)

-- what a command of this script finds
abbrev pub surroundings : State → Running → Surroundings
surroundings s inner = record { opens = s.opens; table = s.table; images = s.images; drives = s.drives; base = inner.base; depth = inner.depth }

-- by its words, as the script has them, and the state
abbrev pub doing : State → Running → List (List ℕ) → Doing
doing s inner words = doing_by s (table_after s.table words) (up_after s.table s.up words) (effect_in (surroundings s inner) words)

-- what a command waits for: the answer of the open of this number, a time, that the open of this number is a drive whose capacity is known,
-- the same of one that lives on, or that such a drive has read what it was asked for
pub data Awaited : Type 0 where
  answer : (number : ℕ) → Awaited
  moment : (time : ℕ) → Awaited
  drive : (number : ℕ) → Awaited
  disk : (number : ℕ) → Awaited
  block : (number : ℕ) → Awaited

-- a disk that is hooked is to live on where it is booted
abbrev pub awaited_hook : AfterHook → ℕ → Awaited
awaited_hook after_hook.Keep number = drive number
awaited_hook (after_hook.Boot keep) number = disk number

-- what is awaited of the open of this number that is made next
abbrev pub awaited_onward : Onward → ℕ → Awaited
awaited_onward (fetches_now wanted) number = answer number
awaited_onward (echoes_now server) number = answer number
awaited_onward (hooks_now hooking server) number = awaited_hook hooking.after number
awaited_onward (looks_up_now errand name by) number = answer number

-- what it gets: the open, with its end; the drive, whether its open lives on or not; or the time has come
pub data Answer : Type 0 where
  by_end : Over → Answer
  by_drive : Live → Answer
  by_time : Answer

abbrev pub is_number : ℕ → Over → Bool
is_number number o = o.live.number == number

abbrev pub has_number : ℕ → Live → Bool
has_number number l = l.number == number

-- a drive has answered, though its open may have ended by the same record; or else it has ended
abbrev pub answer_of_over : Over → Answer
answer_of_over o = if is_some (answered o.live) then by_drive o.live else by_end o

abbrev pub answer_of_live : Live → Option Answer
answer_of_live l = if is_some (answered l) then Some (by_drive l) else None

-- likewise of what a drive was asked to read
abbrev pub block_of_over : Over → Answer
block_of_over o = if is_some (read_last o.live) then by_drive o.live else by_end o

abbrev pub block_of_live : Live → Option Answer
block_of_live l = if is_some (read_last l) then Some (by_drive l) else None

-- the answer, where it has come by this record, which led to this state and these ends
abbrev pub answer_in : State → In → List Over → Awaited → Option Answer
answer_in s r over (answer number) = option_map by_end (find (is_number number) over)
answer_in s r over (drive number) = option_or (option_map answer_of_over (find (is_number number) over)) (option_and_then answer_of_live (find (has_number number) s.live))
answer_in s r over (disk number) = option_or (option_map by_end (find (is_number number) over)) (option_and_then answer_of_live (find (has_number number) s.live))
answer_in s r over (block number) = option_or (option_map block_of_over (find (is_number number) over)) (option_and_then block_of_live (find (has_number number) s.live))
answer_in s r over (moment time) = if nat_le time s.now then Some by_time else None

-- scripts that run, the innermost first, whose command waits
pub record Waiting : Type 0 where
  pub script : Running
  pub outer : List Running
  pub awaited : Awaited
  pub job : Job

-- the same, as a step begins
abbrev pub waiting_anew : Waiting → Waiting
waiting_anew w = record w { script = anew w.script }

-- what comes of a command that waited: its images, as they are concluded, its result and settings, a drive that is hooked, or one of which the
-- first block is read before, a disk that is booted by this block, and hooked as this drive, where it isn't yet, or what it asks next
pub data Upshot : Type 0 where
  concludes : Conclusion → Upshot
  settles : Settlement → Upshot
  hooks_drive : Drive → Upshot
  reads_drive : Drive → Upshot
  boots_drive_by : Option Drive → (block : List ℕ) → Upshot
  goes_onward : Onward → Upshot

-- its RESULT, if it is over
abbrev pub upshot_records : Upshot → List Out
upshot_records (concludes c) = conclusion_records c
upshot_records (settles x) = result x.cause ∷ []
upshot_records (hooks_drive d) = result ok ∷ []
upshot_records (reads_drive d) = []
upshot_records (boots_drive_by d bytes) = result ok ∷ []
upshot_records (goes_onward next) = []

-- an open that has ended well gives what was found, unless the settings refuse it
abbrev pub settled_with : Cause → Change → TableLists → Settlement
settled_with cause change table = if is_ok_cause cause then settled_by table change else record { cause = cause; table = table }

-- the settings with what an open has found, if it has found it
abbrev pub leased_change : Live → TableLists → Change
leased_change l table = option_map_or (lease_change table) (granted l) (Ok table)

abbrev pub resolved_change : List ℕ → Live → TableLists → Change
resolved_change setting l table = option_map_or (λ address. address_table setting address.0 table) (resolved l) (Ok table)

-- what is asked of the server whose address an open has found, if it has
abbrev pub next_of : Errand → Over → Option Onward
next_of errand o = if is_ok_cause o.cause then option_map (λ address. onward errand address.0) (resolved o.live) else None

-- the place to which a file's server has moved it, by an open that has ended well
abbrev pub place_moved_to : Over → Option (List ℕ)
place_moved_to o = if is_ok_cause o.cause then moved o.live else None

-- a file that was moved is asked for at its new place, unless its command fails
abbrev pub upshot_moved : Result Onward Cause → Upshot
upshot_moved (Ok next) = goes_onward next
upshot_moved (Err cause) = concludes (fails cause)

-- an open of a file has ended: it was moved to a place, or this comes of the file
abbrev pub upshot_fetched : State → ℕ → Wanted → Over → Option (List ℕ) → Upshot
upshot_fetched s depth wanted o None = concludes (conclusion o.cause wanted.asking (fetched o.live) depth s.images)
upshot_fetched s depth wanted o (Some place) = upshot_moved (next_moved s.opens s.table (moved_file wanted.asking place))

-- a disk that has answered is a drive of this number
abbrev pub hooked_drive : Hooking → Live → Drive
hooked_drive hooking l = record { number = hooking.number; described = hooking.described; open_number = l.number }

-- it is kept, or booted
abbrev pub upshot_hooked : AfterHook → Drive → Upshot
upshot_hooked after_hook.Keep d = hooks_drive d
upshot_hooked (after_hook.Boot keep) d = reads_drive d

-- the disk is booted by the block that was read; where none was, nothing comes of it
abbrev pub upshot_read : State → Option Drive → Option (List ℕ) → Upshot
upshot_read s d None = concludes (keeps s.images)
upshot_read s d (Some bytes) = boots_drive_by d bytes

-- What a job comes to by its answer, in this state and within so many scripts. A command that waits for a time goes on with
-- its images; one that waits for an open gets no time for an answer, and no other than one that hooks or boots a disk gets a drive.
abbrev pub concluded_by : State → ℕ → Job → Answer → Upshot
concluded_by s depth (fetch wanted) (by_end o) = upshot_fetched s depth wanted o (place_moved_to o)
concluded_by s depth takes_lease (by_end o) = settles (settled_with o.cause (leased_change o.live s.table) s.table)
concluded_by s depth hears_echo (by_end o) = settles (settled_with o.cause (Ok s.table) s.table)
concluded_by s depth (keeps_address setting) (by_end o) = settles (settled_with o.cause (resolved_change setting o.live s.table) s.table)
concluded_by s depth (asks_on errand) (by_end o) = option_map_or goes_onward (next_of errand o) (settles (settled_with o.cause (Ok s.table) s.table))
concluded_by s depth sleep (by_end o) = concludes (keeps s.images)
concluded_by s depth (hooks hooking) (by_end o) = concludes (fails o.cause)
concluded_by s depth (hooks hooking) (by_drive l) = upshot_hooked hooking.after (hooked_drive hooking l)
concluded_by s depth (boots d) (by_end o) = concludes (fails o.cause)
concluded_by s depth (boots d) (by_drive l) = upshot_read s d (read_last l)
concluded_by s depth job (by_drive l) = concludes (keeps s.images)
concluded_by s depth job by_time = concludes (keeps s.images)
