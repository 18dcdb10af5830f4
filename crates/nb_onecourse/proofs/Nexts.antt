-- What a run does next, as a function; where it has come to rest, nothing.
use Rattle.std.proofs.Common.{◌≡◌, ℕ, ◌+◌, ◌==◌, Bool, true, false, List, [], ◌∷◌, ◌++◌, Option, Some, None, refl}
use Rattle.std.specs.Prelude.{slice_get, filter, not, Result, Ok, Err}
use Rattle.nb_defs.specs.Causes.{ok}
use Rattle.nb_defs.specs.Commands.{CommandOutcome, refused}
use Rattle.nb_defs.specs.Records.{Out, enter, leave, result}
use Rattle.nb_defs.specs.ScriptLines.{script_reading, label_place}
use Rattle.nb_imagecmd.specs.declared.outcome.ScriptImage.{ScriptImage}
use Rattle.nb_scripts.specs.Records.{replace}
use Rattle.nb_machine.specs.FirstText.{text_refusal, lines_of}
use Rattle.nb_stack.specs.Client.{Client}
use Rattle.nb_machine.specs.Conclusions.{Conclusion, keeps, tells, fails, boots, runs_script, conclusion_records, handoff_records}
use Rattle.nb_machine.specs.Effects.{shown_words, full_opens, next_at_target}
use Rattle.nb_machine.specs.Errands.{Onward}
use Rattle.nb_machine.specs.Running.{Running, Coming, coming, passing, leaving, beginning, entered, further, behind_line, with_result, script_within, script_in_place, counting_on, no_label}
use Rattle.nb_machine.specs.CommandRecords.{command_record, command_records, no_route}
use Rattle.nb_machine.specs.Lives.{Live, open_record, end_record}
use Rattle.nb_machine.specs.Kinds.{first_records}
use Rattle.nb_machine.specs.States.{State, with_images, with_live, with_opened, with_one_made}
use Rattle.nb_machine.specs.Scripts.{Job, sleep, Doing, ends, opens, goes_to, waits_until, shuts, concludes_now, doing, live_onward, job_onward, answer, moment, hooks_one, lets_go, boots_one, awaited_onward}
use Rattle.nb_machine.specs.Courses.{text_records, text_standing, Standing, ready, running, waiting, reaching, yielded, handing, left, handed_off, stopped, is_drives_own}
use Rattle.nb_machine.specs.BootTables.{boot_table}
use Rattle.nb_onecourse.specs.Rests.{HasComeToRest}
use Rattle.nb_drivecmd.specs.declared.outcome.Hooking.{Hooking}
use Rattle.nb_drivecmd.specs.declared.drive.Drive.{Drive}
use Rattle.nb_drivecmd.specs.HookedDrives.{is_drive, drive_numbered}
use Rattle.nb_terms.specs.declared.cause.Cause.{Cause}

-- what is next: nothing; these records, and then this standing; all that lives in this state is closed, after this record, the drives
-- first, or after these ones before a hand-off; the drive of a number is closed, after this record and before these, and then this standing;
-- or, after this record, the drive of the open of this number is asked for its first block
pub data Next : Type 0 where
  still : Next
  puts : List Out → Standing → Next
  shuts_all : Out → State → Standing → Next
  closes_all : List Out → State → Standing → Next
  drops : Out → State → (number : ℕ) → List Out → Standing → Next
  asks_one : Out → State → Running → (outer : List Running) → (number : ℕ) → Next

abbrev pub next_ended : State → Running → List Running → List (List ℕ) → CommandOutcome → State → Bool → Next
next_ended s inner outer ws o s' true = puts (command_records inner (shown_words s.table ws) o ++ (leave inner.depth o.cause ∷ [])) (left s' (counting_on (entered inner) outer) o.cause)
next_ended s inner outer ws o s' false = puts (command_records inner (shown_words s.table ws) o) (running s' (further inner o.cause) outer)

abbrev pub next_route : State → Running → List Running → List (List ℕ) → State → Live → Job → Option (List Out) → Next
next_route s inner outer ws s' l job (Some put) =
    puts (command_record inner (shown_words s.table ws) ∷ open_record l ∷ put) (waiting (with_opened s' l) (record { script = entered inner; outer = outer; awaited = answer l.number; job = job }))
next_route s inner outer ws s' l job None =
    puts (command_record inner (shown_words s.table ws) ∷ open_record l ∷ end_record l (no_route l.server) ∷ conclusion_records (fails (no_route l.server))) (running (with_one_made s') (further inner (no_route l.server)) outer)

abbrev pub next_opened : State → Running → List Running → List (List ℕ) → State → Live → Job → Option Client → Next
next_opened s inner outer ws s' l job None = still
next_opened s inner outer ws s' l job (Some link) = next_route s inner outer ws s' l job (first_records l.kind l link)

abbrev pub next_label : State → Running → List Running → List (List ℕ) → Option ℕ → Next
next_label s inner outer ws (Some line) = puts (command_records inner (shown_words s.table ws) (refused ok)) (running s (behind_line inner line) outer)
next_label s inner outer ws None = puts (command_records inner (shown_words s.table ws) (refused no_label)) (running s (further inner no_label) outer)

-- a script runs within the one that runs, or in its place
abbrev pub next_script : State → Running → List Running → List Out → ScriptImage → Bool → Next
next_script s inner outer before image false =
    puts (before ++ text_records (inner.depth + 1) (enter (inner.depth + 1)) (text_refusal (script_reading image.text)))
    (text_standing s (script_within inner image.uri (lines_of (script_reading image.text))) (inner ∷ outer) (text_refusal (script_reading image.text)))
next_script s inner outer before image true =
    puts (before ++ text_records inner.depth (replace inner.depth) (text_refusal (script_reading image.text)))
    (text_standing s (script_in_place inner image.uri (lines_of (script_reading image.text))) outer (text_refusal (script_reading image.text)))

-- what a command comes to that waits for nothing
abbrev pub next_concluded : State → Running → List Running → Out → Conclusion → Next
next_concluded s inner outer first (keeps list) = puts (first ∷ conclusion_records (keeps list) ++ []) (running (with_images s list) (with_result inner ok) outer)
next_concluded s inner outer first (tells list lines) = puts (first ∷ conclusion_records (tells list lines) ++ []) (running (with_images s list) (with_result inner ok) outer)
next_concluded s inner outer first (fails cause) = puts (first ∷ conclusion_records (fails cause) ++ []) (running s (with_result inner cause) outer)
next_concluded s inner outer first (boots list kernel) = closes_all (first ∷ conclusion_records (boots list kernel)) s (handing (with_live (with_images s list) []) (handoff_records kernel list.images (boot_table s)))
next_concluded s inner outer first (runs_script list image replaces) =
    next_script (with_images s list) inner outer (first ∷ conclusion_records (runs_script list image replaces)) image replaces

-- without the drive of this number
abbrev pub without_number : State → ℕ → State
without_number s number = with_live s (filter (λ l. not (is_drives_own (filter (is_drive number) s.drives) l)) s.live)

abbrev pub next_hooked : State → Running → List Running → List (List ℕ) → Hooking → Result Onward Cause → Next
next_hooked s inner outer ws hooking (Ok next) = drops (command_record inner (shown_words s.table ws)) s hooking.number [] (reaching (without_number s hooking.number) (entered inner) outer next)
next_hooked s inner outer ws hooking (Err cause) =
    drops (command_record inner (shown_words s.table ws)) s hooking.number (result cause ∷ []) (running (without_number s hooking.number) (further inner cause) outer)

-- what may be asked of a disk's host then
abbrev pub asked_then : State → Hooking → Result Onward Cause
asked_then s hooking = next_at_target s.opens s.table s.drives hooking

-- the drive that is booted is asked for its first block
abbrev pub next_booted : State → Running → List Running → List (List ℕ) → Option Drive → Next
next_booted s inner outer ws None = still
next_booted s inner outer ws (Some d) = asks_one (command_record inner (shown_words s.table ws)) s (entered inner) outer d.open_number

abbrev pub next_doing : State → Running → List Running → List (List ℕ) → Doing → Next
next_doing s inner outer ws (ends o s') = next_ended s inner outer ws o s' o.leaves
next_doing s inner outer ws (opens s' l job) = next_opened s inner outer ws s' l job (slice_get s'.devices l.device)
next_doing s inner outer ws (goes_to name) = next_label s inner outer ws (label_place name inner.code)
next_doing s inner outer ws (waits_until time) =
    puts (command_record inner (shown_words s.table ws) ∷ []) (waiting s (record { script = entered inner; outer = outer; awaited = moment time; job = sleep }))
next_doing s inner outer ws (concludes_now x) = next_concluded s (entered inner) outer (command_record inner (shown_words s.table ws)) x
next_doing s inner outer ws (hooks_one hooking) = next_hooked s inner outer ws hooking (asked_then (without_number s hooking.number) hooking)
next_doing s inner outer ws (lets_go number cause) =
    drops (command_record inner (shown_words s.table ws)) s number (result cause ∷ []) (running (without_number s number) (further inner cause) outer)
next_doing s inner outer ws (boots_one number) = next_booted s inner outer ws (drive_numbered number s.drives)
next_doing s inner outer ws (shuts s') = shuts_all (command_record inner (shown_words s.table ws)) s' (running (with_live s' []) (further inner ok) outer)

abbrev pub next_begun : State → Running → List Running → List (List ℕ) → Bool → Next
next_begun s inner outer ws true = puts [] (yielded s inner outer)
next_begun s inner outer ws false = next_doing s inner outer ws (doing s inner ws)

abbrev pub next_coming : State → Running → List Running → Coming → Next
next_coming s inner outer (passing next) = puts [] (running s next outer)
next_coming s inner outer (leaving cause) = puts (leave inner.depth cause ∷ []) (left s (counting_on inner outer) cause)
next_coming s inner outer (beginning c cs) = next_begun s inner outer (c ∷ cs) (inner.begun == 4096)

abbrev pub next_way : State → Running → List Running → Onward → Option (List Out) → Next
next_way s inner outer next (Some put) =
    puts (open_record (live_onward s next) ∷ put) (waiting (with_opened s (live_onward s next)) (record { script = inner; outer = outer; awaited = awaited_onward next (live_onward s next).number; job = job_onward next }))
next_way s inner outer next None =
    puts (open_record (live_onward s next) ∷ end_record (live_onward s next) (no_route (live_onward s next).server) ∷ conclusion_records (fails (no_route (live_onward s next).server)))
    (running (with_one_made s) (with_result inner (no_route (live_onward s next).server)) outer)

abbrev pub next_link : State → Running → List Running → Onward → Option Client → Next
next_link s inner outer next None = still
next_link s inner outer next (Some link) = next_way s inner outer next (first_records (live_onward s next).kind (live_onward s next) link)

abbrev pub next_onward : State → Running → List Running → Onward → Bool → Next
next_onward s inner outer next true = puts (result full_opens ∷ []) (running s (with_result inner full_opens) outer)
next_onward s inner outer next false = next_link s inner outer next (slice_get s.devices (live_onward s next).device)

abbrev pub next_handed : State → List Out → Next
next_handed s [] = puts [] (handed_off s)
next_handed s (r ∷ rest) = puts (r ∷ []) (handing s rest)

abbrev pub what_next : Standing → Next
what_next ready = still
what_next (running s inner outer) = next_coming s inner outer (coming inner)
what_next (waiting s w) = still
what_next (reaching s inner outer next) = next_onward s inner outer next (s.opens == 16384)
what_next (yielded s inner outer) = still
what_next (handing s rest) = next_handed s rest
what_next (left s [] cause) = still
what_next (left s (inner ∷ outer) cause) = puts (result cause ∷ []) (running s (with_result inner cause) outer)
what_next (handed_off s) = still
what_next (stopped s) = still

-- at rest nothing is next
pub rest_still : (p : Standing) → HasComeToRest p → what_next p ≡ still
rest_still ready h = absurd h
rest_still (running s inner outer) h = absurd h
rest_still (waiting s w) h = refl
rest_still (reaching s inner outer next) h = absurd h
rest_still (yielded s inner outer) h = refl
rest_still (handing s rest) h = absurd h
rest_still (left s [] cause) h = refl
rest_still (left s (inner ∷ outer) cause) h = absurd h
rest_still (handed_off s) h = refl
rest_still (stopped s) h = refl
