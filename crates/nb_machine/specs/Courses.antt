-- The machine over a whole run: records used and records written, by the network and the scripts. It reads whole
-- lists, and knows nothing of bytes, buffers or calls.
use Rattle.std.specs.Prelude.{◌≡◌, ◌<◌, ℕ, ◌+◌, ◌==◌, Bool, true, false, List, [], ◌∷◌, ◌++◌, Option, Some, None, Ok, Err, filter, not, slice_get}
use Rattle.std.specs.List.{list_any}
use Rattle.nb_terms.specs.declared.cause.Cause.{Cause}
use Rattle.nb_defs.specs.Causes.{ok, plain_cause}
use Rattle.nb_defs.specs.Commands.{CommandOutcome, refused}
use Rattle.nb_defs.specs.Records.{Start, In, start, off, IsIn, Out, step, enter, leave, result}
use Rattle.nb_defs.specs.ScriptLines.{Line, script, script_reading, label_place}
use Rattle.nb_stack.specs.Client.{Client}
use Rattle.nb_imagecmd.specs.declared.outcome.ScriptImage.{ScriptImage}
use Rattle.nb_drivecmd.specs.declared.drive.Drive.{Drive}
use Rattle.nb_drivecmd.specs.declared.outcome.Hooking.{Hooking}
use Rattle.nb_drivecmd.specs.HookedDrives.{is_drive, drive_numbered}
use Rattle.nb_scripts.specs.Records.{replace}
use Rattle.nb_machine.specs.Conclusions.{Conclusion, keeps, tells, fails, boots, runs_script, conclusion_records, handoff_records, disk_records}
use Rattle.nb_machine.specs.BootTables.{boot_table}
use Rattle.nb_machine.specs.Effects.{shown_words, full_opens, next_at_target}
use Rattle.nb_machine.specs.Errands.{Onward}
use Rattle.nb_machine.specs.FirstText.{first_reading, text_refusal, lines_of}
use Rattle.nb_machine.specs.Running.{Running, first_script, coming, passing, leaving, beginning, entered, further, behind_line, with_result, anew, script_within, script_in_place, counting_on, no_label}
use Rattle.nb_machine.specs.CommandRecords.{command_record, command_records, no_route, stopped_cause}
use Rattle.nb_machine.specs.Drives.{first_block_read}
use Rattle.nb_machine.specs.Lives.{task, close, Live, open_record, end_record}
use Rattle.nb_machine.specs.Kinds.{first_records}
use Rattle.nb_machine.specs.States.{State, state_at_start, with_images, with_settings, with_live, with_drive, with_opened, with_one_made}
use Rattle.nb_machine.specs.Takings.{Over, AllTake}
use Rattle.nb_machine.specs.Network.{Network}
use Rattle.nb_machine.specs.Scripts.{Job, sleep, boots as boots_read, ends, opens, goes_to, waits_until, shuts, concludes_now, hooks_one, lets_go, boots_one, doing, live_onward, job_onward, answer, moment, block, awaited_onward, Answer, answer_in, has_number, Waiting, waiting_anew, Upshot, concludes, settles, hooks_drive, reads_drive, boots_drive_by, goes_onward, upshot_records, concluded_by}

-- the device went down
abbrev pub down_cause : Cause
down_cause = plain_cause 25

-- the open is that of one of these drives
abbrev pub is_drives_own : List Drive → Live → Bool
is_drives_own drives l = list_any (λ d. d.open_number == l.number) drives

-- all that lives, the drives first as they are numbered: each drive's open, and then what remains
abbrev pub drives_first : List Drive → List Live → List Live
drives_first [] live = live
drives_first (d ∷ drives) live = filter (has_number d.open_number) live ++ drives_first drives (filter (λ l. not (has_number d.open_number l)) live)

-- The drive of this number is closed, if one is hooked: it puts these records, and all else lives on.
pub record DropsDrive (s : State) (number : ℕ) (put : List Out) (s' : State) : Type 0 where
  pub over : List Over
  pub closes : AllTake s.devices (close stopped_cause) (filter (is_drives_own (filter (is_drive number) s.drives)) s.live) put [] over
  pub leaves : s' ≡ with_live s (filter (λ l. not (is_drives_own (filter (is_drive number) s.drives) l)) s.live)

-- where a run stands
pub data Standing : Type 0 where
  -- no record was used
  ready : Standing
  -- these scripts run, the innermost first
  running : State → Running → (outer : List Running) → Standing
  -- a command of the innermost waits
  waiting : State → Waiting → Standing
  -- a command of the innermost has looked up its server, or hooks a disk, and its own open is to be made
  reaching : State → Running → (outer : List Running) → Onward → Standing
  -- the innermost had all the commands of a step, and another is to begin
  yielded : State → Running → (outer : List Running) → Standing
  -- an image or a disk is handed off, of which these records are still to come
  handing : State → (rest : List Out) → Standing
  -- the innermost script was left with this cause, and those outside it stand still; where there are none, the run is over
  left : State → (outer : List Running) → Cause → Standing
  -- all was handed off
  handed_off : State → Standing
  -- the power was switched off
  stopped : State → Standing

-- how many records were used, and where the run stands
pub record Progress : Type 0 where
  pub used : ℕ
  pub standing : Standing

abbrev pub stands : ℕ → Standing → Progress
stands used standing = record { used = used; standing = standing }

-- before any record
abbrev pub nowhere : Progress
nowhere = stands 0 ready

-- SCRIPT for a text that is to run, and for its end where it doesn't
abbrev pub text_records : ℕ → Out → Option Cause → List Out
text_records depth begins None = begins ∷ []
text_records depth begins (Some cause) = begins ∷ leave depth cause ∷ []

-- where the scripts stand then: it runs within these, or they have its cause
abbrev pub text_standing : State → Running → List Running → Option Cause → Standing
text_standing s new outer None = running s new outer
text_standing s new outer (Some cause) = left s (counting_on new outer) cause

-- a text runs within the script that runs, or in its place
abbrev pub ScriptLeads : State → Running → List Running → ScriptImage → Bool → List Out → Standing → Type 0
ScriptLeads s inner outer image false put p =
    (put ≡ text_records (inner.depth + 1) (enter (inner.depth + 1)) (text_refusal (script_reading image.text)))
    × (p ≡ text_standing s (script_within inner image.uri (lines_of (script_reading image.text))) (inner ∷ outer) (text_refusal (script_reading image.text)))
ScriptLeads s inner outer image true put p =
    (put ≡ text_records inner.depth (replace inner.depth) (text_refusal (script_reading image.text)))
    × (p ≡ text_standing s (script_in_place inner image.uri (lines_of (script_reading image.text))) outer (text_refusal (script_reading image.text)))

-- Where a conclusion leads, and the records put there: the script goes on, with the command's result; an image is handed off,
-- once all that lives is closed; or another script runs.
abbrev pub ConclusionLeads : State → Running → List Running → Conclusion → List Out → Standing → Type 0
ConclusionLeads s inner outer (keeps list) put p = (put ≡ []) × (p ≡ running (with_images s list) (with_result inner ok) outer)
ConclusionLeads s inner outer (tells list lines) put p = (put ≡ []) × (p ≡ running (with_images s list) (with_result inner ok) outer)
ConclusionLeads s inner outer (fails cause) put p = (put ≡ []) × (p ≡ running s (with_result inner cause) outer)
ConclusionLeads s inner outer (boots list kernel) put p =
    (over : List Over) × AllTake s.devices (close stopped_cause) s.live put [] over
    × (p ≡ handing (with_live (with_images s list) []) (handoff_records kernel list.images (boot_table s)))
ConclusionLeads s inner outer (runs_script list image replaces) put p = ScriptLeads (with_images s list) inner outer image replaces put p

-- a drive was asked for its first block: where its open has ended by that, the command has its cause
abbrev pub block_lost : List Over → List Out
block_lost [] = []
block_lost (o ∷ over) = result o.cause ∷ []

-- else it waits for the block; the drive is to be hooked then, if it isn't hooked yet
abbrev pub block_standing : State → Running → List Running → ℕ → Option Drive → List Over → Standing
block_standing s inner outer number d [] = waiting s (record { script = inner; outer = outer; awaited = block number; job = boots_read d })
block_standing s inner outer number d (o ∷ over) = running s (with_result inner o.cause) outer

-- The drive of the open of this number is asked for its first block, and puts these records, which may end it; all else lives on.
pub record AsksBlock (s : State) (number : ℕ) (put : List Out) (s' : State) (over : List Over) : Type 0 where
  pub before : List Live
  pub behind : List Live
  pub after : List Live
  pub l : Live
  pub parted : s.live ≡ before ++ l ∷ behind
  pub its : l.number ≡ number
  pub takes : AllTake s.devices (task first_block_read s.now) (l ∷ []) put after over
  pub leaves : s' ≡ with_live s (before ++ after ++ behind)

-- so a command asks, and these records are put
pub record ReadsBlock (s : State) (inner : Running) (outer : List Running) (number : ℕ) (d : Option Drive) (put : List Out) (p : Standing) : Type 0 where
  pub asked : List Out
  pub next : State
  pub over : List Over
  pub asks : AsksBlock s number asked next over
  pub all : put ≡ asked ++ block_lost over
  pub stands_so : p ≡ block_standing next inner outer number d over

-- with a disk that is hooked as this drive, if it wasn't
abbrev pub with_booted : State → Option Drive → State
with_booted s None = s
with_booted s (Some d) = with_drive s d

-- The same of what comes of a command: where that is settings, the device follows them; a drive is hooked, if its open lives on, or is asked
-- for its first block before; a disk is handed off, once it is hooked and all that lives is closed; and where its server was looked up, its own
-- open is next.
abbrev pub LeadsTo : State → Running → List Running → Upshot → List Out → Standing → Type 0
LeadsTo s inner outer (concludes c) put p = ConclusionLeads s inner outer c put p
LeadsTo s inner outer (settles x) put p = (put ≡ []) × (p ≡ running (with_settings s x.table s.up) (with_result inner x.cause) outer)
LeadsTo s inner outer (hooks_drive d) put p = (put ≡ []) × (p ≡ running (with_drive s d) (with_result inner ok) outer)
LeadsTo s inner outer (reads_drive d) put p = ReadsBlock s inner outer d.open_number (Some d) put p
LeadsTo s inner outer (boots_drive_by d bytes) put p =
    (over : List Over) × AllTake s.devices (close stopped_cause) s.live put [] over
    × (p ≡ handing (with_live (with_booted s d) []) (disk_records bytes (boot_table (with_booted s d))))
LeadsTo s inner outer (goes_onward next) put p = (put ≡ []) × (p ≡ reaching s inner outer next)

-- A record is used, and its step begins. A first record comes before any other; each later one comes while a command
-- waits, or where a script had all the commands of a step. What it does, the network says; what comes of the command, the scripts.
pub data StepBegins : Progress → In → List Out → Progress → Type 0 where
  -- the first script is entered
  runs : (n : ℕ) (s : Start) (code : List Line) → IsIn (start s) → first_reading s.script ≡ script code →
      StepBegins (stands n ready) (start s) (step (n + 1) ∷ enter 1 ∷ []) (stands (n + 1) (running (state_at_start s) (first_script code) []))
  -- a text that doesn't run is entered and left at once
  refuses : (n : ℕ) (s : Start) (cause : Cause) → IsIn (start s) → text_refusal (first_reading s.script) ≡ Some cause →
      StepBegins (stands n ready) (start s) (step (n + 1) ∷ enter 1 ∷ leave 1 cause ∷ []) (stands (n + 1) (left (state_at_start s) [] cause))
  -- the command waits on
  waits_on : (n : ℕ) (s s' : State) (w : Waiting) (r : In) (put : List Out) (over : List Over) → IsIn r →
      Network s (n + 1) r put s' over → answer_in s' r over w.awaited ≡ None →
      StepBegins (stands n (waiting s w)) r (step (n + 1) ∷ put) (stands (n + 1) (waiting s' (waiting_anew w)))
  -- what it waits for has come
  is_answered : (n : ℕ) (s s' : State) (w : Waiting) (r : In) (put more : List Out) (over : List Over) (a : Answer) (p : Standing) → IsIn r →
      Network s (n + 1) r put s' over → answer_in s' r over w.awaited ≡ Some a → LeadsTo s' (anew w.script) w.outer (concluded_by s' w.script.depth w.job a) more p →
      StepBegins (stands n (waiting s w)) r (step (n + 1) ∷ put ++ upshot_records (concluded_by s' w.script.depth w.job a) ++ more) (stands (n + 1) p)
  -- the power is switched off: every open is closed, and the command gives no result
  switches_off : (n : ℕ) (s : State) (w : Waiting) (put : List Out) (over : List Over) →
      AllTake s.devices (close stopped_cause) s.live put [] over →
      StepBegins (stands n (waiting s w)) off (step (n + 1) ∷ put) (stands (n + 1) (stopped (with_live s [])))
  -- a script that had all its commands goes on, whatever the record does
  resumes : (n : ℕ) (s s' : State) (inner : Running) (outer : List Running) (r : In) (put : List Out) (over : List Over) → IsIn r →
      Network s (n + 1) r put s' over →
      StepBegins (stands n (yielded s inner outer)) r (step (n + 1) ∷ put) (stands (n + 1) (running s' (anew inner) outer))
  -- or the power is switched off
  goes_off : (n : ℕ) (s : State) (inner : Running) (outer : List Running) (put : List Out) (over : List Over) →
      AllTake s.devices (close stopped_cause) s.live put [] over →
      StepBegins (stands n (yielded s inner outer)) off (step (n + 1) ∷ put) (stands (n + 1) (stopped (with_live s [])))

-- What a run does next. Each rule has its condition, and one of them fits a script that runs and an image that is handed off.
pub data Proceeds : Progress → List Out → Progress → Type 0 where
  -- the script passes a line or a command
  passes : (n : ℕ) (s : State) (inner next : Running) (outer : List Running) → coming inner ≡ passing next →
      Proceeds (stands n (running s inner outer)) [] (stands n (running s next outer))
  -- it is left
  is_left : (n : ℕ) (s : State) (inner : Running) (outer : List Running) (cause : Cause) → coming inner ≡ leaving cause →
      Proceeds (stands n (running s inner outer)) (leave inner.depth cause ∷ []) (stands n (left s (counting_on inner outer) cause))
  -- the command that ran it has its cause, and the script outside goes on
  hands_back : (n : ℕ) (s : State) (inner : Running) (outer : List Running) (cause : Cause) →
      Proceeds (stands n (left s (inner ∷ outer) cause)) (result cause ∷ []) (stands n (running s (with_result inner cause) outer))
  -- its next command has to wait for the next step
  yields : (n : ℕ) (s : State) (inner : Running) (outer : List Running) (c : List ℕ) (cs : List (List ℕ)) → coming inner ≡ beginning c cs → inner.begun ≡ 4096 →
      Proceeds (stands n (running s inner outer)) [] (stands n (yielded s inner outer))
  -- a command after which the list goes on
  does : (n : ℕ) (s s' : State) (inner : Running) (outer : List Running) (c : List ℕ) (cs : List (List ℕ)) (o : CommandOutcome) →
      coming inner ≡ beginning c cs → inner.begun < 4096 → doing s inner (c ∷ cs) ≡ ends o s' → o.leaves ≡ false →
      Proceeds (stands n (running s inner outer)) (command_records inner (shown_words s.table (c ∷ cs)) o) (stands n (running s' (further inner o.cause) outer))
  -- `ifclose`: the device is down, and then all that lives is closed with Down, the drives by rising number
  closes_device : (n : ℕ) (s s' : State) (inner : Running) (outer : List Running) (c : List ℕ) (cs : List (List ℕ)) (put : List Out) (over : List Over) →
      coming inner ≡ beginning c cs → inner.begun < 4096 → doing s inner (c ∷ cs) ≡ shuts s' → AllTake s'.devices (close down_cause) (drives_first s'.drives s'.live) put [] over →
      Proceeds (stands n (running s inner outer)) (command_record inner (shown_words s.table (c ∷ cs)) ∷ put ++ (result ok ∷ []))
      (stands n (running (with_live s' []) (further inner ok) outer))
  -- a disk is to be hooked: the drive of its number is closed, and the command's open is next
  goes_to_hook : (n : ℕ) (s s' : State) (inner : Running) (outer : List Running) (c : List ℕ) (cs : List (List ℕ)) (hooking : Hooking) (put : List Out) (next : Onward) →
      coming inner ≡ beginning c cs → inner.begun < 4096 → doing s inner (c ∷ cs) ≡ hooks_one hooking → DropsDrive s hooking.number put s' →
      next_at_target s'.opens s'.table s'.drives hooking ≡ Ok next →
      Proceeds (stands n (running s inner outer)) (command_record inner (shown_words s.table (c ∷ cs)) ∷ put) (stands n (reaching s' (entered inner) outer next))
  -- the drive of its number is closed, and nothing may be opened
  hooks_none : (n : ℕ) (s s' : State) (inner : Running) (outer : List Running) (c : List ℕ) (cs : List (List ℕ)) (hooking : Hooking) (put : List Out) (cause : Cause) →
      coming inner ≡ beginning c cs → inner.begun < 4096 → doing s inner (c ∷ cs) ≡ hooks_one hooking → DropsDrive s hooking.number put s' →
      next_at_target s'.opens s'.table s'.drives hooking ≡ Err cause →
      Proceeds (stands n (running s inner outer)) (command_record inner (shown_words s.table (c ∷ cs)) ∷ put ++ (result cause ∷ [])) (stands n (running s' (further inner cause) outer))
  -- the drive of a number is closed, and the command is over
  unhooks : (n : ℕ) (s s' : State) (inner : Running) (outer : List Running) (c : List ℕ) (cs : List (List ℕ)) (number : ℕ) (put : List Out) (cause : Cause) →
      coming inner ≡ beginning c cs → inner.begun < 4096 → doing s inner (c ∷ cs) ≡ lets_go number cause → DropsDrive s number put s' →
      Proceeds (stands n (running s inner outer)) (command_record inner (shown_words s.table (c ∷ cs)) ∷ put ++ (result cause ∷ [])) (stands n (running s' (further inner cause) outer))
  -- a drive that is hooked is booted: it is asked for its first block
  boots_hooked : (n : ℕ) (s : State) (inner : Running) (outer : List Running) (c : List ℕ) (cs : List (List ℕ)) (number : ℕ) (d : Drive) (put : List Out) (p : Standing) →
      coming inner ≡ beginning c cs → inner.begun < 4096 → doing s inner (c ∷ cs) ≡ boots_one number → drive_numbered number s.drives ≡ Some d →
      ReadsBlock s (entered inner) outer d.open_number None put p →
      Proceeds (stands n (running s inner outer)) (command_record inner (shown_words s.table (c ∷ cs)) ∷ put) (stands n p)
  -- a command on images that waits for nothing
  concludes_there : (n : ℕ) (s : State) (inner : Running) (outer : List Running) (c : List ℕ) (cs : List (List ℕ)) (x : Conclusion) (put : List Out) (p : Standing) →
      coming inner ≡ beginning c cs → inner.begun < 4096 → doing s inner (c ∷ cs) ≡ concludes_now x → ConclusionLeads s (entered inner) outer x put p →
      Proceeds (stands n (running s inner outer)) (command_record inner (shown_words s.table (c ∷ cs)) ∷ conclusion_records x ++ put) (stands n p)
  -- a command with which the script is left
  leaves : (n : ℕ) (s s' : State) (inner : Running) (outer : List Running) (c : List ℕ) (cs : List (List ℕ)) (o : CommandOutcome) →
      coming inner ≡ beginning c cs → inner.begun < 4096 → doing s inner (c ∷ cs) ≡ ends o s' → o.leaves ≡ true →
      Proceeds (stands n (running s inner outer)) (command_records inner (shown_words s.table (c ∷ cs)) o ++ (leave inner.depth o.cause ∷ [])) (stands n (left s' (counting_on (entered inner) outer) o.cause))
  -- `goto`: the script goes on after the first line that is the label
  jumps : (n : ℕ) (s : State) (inner : Running) (outer : List Running) (c : List ℕ) (cs : List (List ℕ)) (name : List ℕ) (line : ℕ) →
      coming inner ≡ beginning c cs → inner.begun < 4096 → doing s inner (c ∷ cs) ≡ goes_to name → label_place name inner.code ≡ Some line →
      Proceeds (stands n (running s inner outer)) (command_records inner (shown_words s.table (c ∷ cs)) (refused ok)) (stands n (running s (behind_line inner line) outer))
  -- there is no such label
  finds_no_label : (n : ℕ) (s : State) (inner : Running) (outer : List Running) (c : List ℕ) (cs : List (List ℕ)) (name : List ℕ) →
      coming inner ≡ beginning c cs → inner.begun < 4096 → doing s inner (c ∷ cs) ≡ goes_to name → label_place name inner.code ≡ None →
      Proceeds (stands n (running s inner outer)) (command_records inner (shown_words s.table (c ∷ cs)) (refused no_label)) (stands n (running s (further inner no_label) outer))
  -- a command that waits for a time
  falls_asleep : (n : ℕ) (s : State) (inner : Running) (outer : List Running) (c : List ℕ) (cs : List (List ℕ)) (time : ℕ) →
      coming inner ≡ beginning c cs → inner.begun < 4096 → doing s inner (c ∷ cs) ≡ waits_until time →
      Proceeds (stands n (running s inner outer)) (command_record inner (shown_words s.table (c ∷ cs)) ∷ [])
      (stands n (waiting s (record { script = entered inner; outer = outer; awaited = moment time; job = sleep })))
  -- a command that opens something, and waits for it
  opens_one : (n : ℕ) (s s' : State) (inner : Running) (outer : List Running) (c : List ℕ) (cs : List (List ℕ)) (l : Live) (job : Job) (link : Client) (put : List Out) →
      coming inner ≡ beginning c cs → inner.begun < 4096 → doing s inner (c ∷ cs) ≡ opens s' l job →
      slice_get s'.devices l.device ≡ Some link → first_records l.kind l link ≡ Some put →
      Proceeds (stands n (running s inner outer)) (command_record inner (shown_words s.table (c ∷ cs)) ∷ open_record l ∷ put)
      (stands n (waiting (with_opened s' l) (record { script = entered inner; outer = outer; awaited = answer l.number; job = job })))
  -- one whose server there is no way to: the open was made, and has ended
  finds_no_route : (n : ℕ) (s s' : State) (inner : Running) (outer : List Running) (c : List ℕ) (cs : List (List ℕ)) (l : Live) (job : Job) (link : Client) →
      coming inner ≡ beginning c cs → inner.begun < 4096 → doing s inner (c ∷ cs) ≡ opens s' l job →
      slice_get s'.devices l.device ≡ Some link → first_records l.kind l link ≡ None →
      Proceeds (stands n (running s inner outer))
      (command_record inner (shown_words s.table (c ∷ cs)) ∷ open_record l ∷ end_record l (no_route l.server) ∷ conclusion_records (fails (no_route l.server)))
      (stands n (running (with_one_made s') (further inner (no_route l.server)) outer))
  -- a command's server was looked up, or hooks a disk: its own open begins, and it waits for that
  opens_onward : (n : ℕ) (s : State) (inner : Running) (outer : List Running) (next : Onward) (link : Client) (put : List Out) → s.opens < 16384 →
      slice_get s.devices (live_onward s next).device ≡ Some link → first_records (live_onward s next).kind (live_onward s next) link ≡ Some put →
      Proceeds (stands n (reaching s inner outer next)) (open_record (live_onward s next) ∷ put)
      (stands n (waiting (with_opened s (live_onward s next)) (record { script = inner; outer = outer; awaited = awaited_onward next (live_onward s next).number; job = job_onward next })))
  -- there is no way to it: the open was made, and has ended
  finds_no_way : (n : ℕ) (s : State) (inner : Running) (outer : List Running) (next : Onward) (link : Client) → s.opens < 16384 →
      slice_get s.devices (live_onward s next).device ≡ Some link → first_records (live_onward s next).kind (live_onward s next) link ≡ None →
      Proceeds (stands n (reaching s inner outer next))
      (open_record (live_onward s next) ∷ end_record (live_onward s next) (no_route (live_onward s next).server)
      ∷ conclusion_records (fails (no_route (live_onward s next).server)))
      (stands n (running (with_one_made s) (with_result inner (no_route (live_onward s next).server)) outer))
  -- or no more opens may be made
  opens_no_more : (n : ℕ) (s : State) (inner : Running) (outer : List Running) (next : Onward) → s.opens ≡ 16384 →
      Proceeds (stands n (reaching s inner outer next)) (result full_opens ∷ []) (stands n (running s (with_result inner full_opens) outer))
  -- a piece of the image is handed off
  hands : (n : ℕ) (s : State) (r : Out) (rest : List Out) → Proceeds (stands n (handing s (r ∷ rest))) (r ∷ []) (stands n (handing s rest))
  -- all was handed off
  has_handed : (n : ℕ) (s : State) → Proceeds (stands n (handing s [])) [] (stands n (handed_off s))

-- The records used and the records written so far are a course of the machine that has come here.
pub data Course : List In → List Out → Progress → Type 0 where
  begins : Course [] [] nowhere
  uses : (ins : List In) (outs : List Out) (m : Progress) (r : In) (added : List Out) (m' : Progress) →
      Course ins outs m → StepBegins m r added m' → Course (ins ++ r ∷ []) (outs ++ added) m'
  goes_on : (ins : List In) (outs : List Out) (m : Progress) (added : List Out) (m' : Progress) →
      Course ins outs m → Proceeds m added m' → Course ins (outs ++ added) m'
