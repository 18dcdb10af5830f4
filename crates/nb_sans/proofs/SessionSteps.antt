-- What one thing more adds to what a session says, and how it ends.
use Rattle.std.proofs.Common.{◌≡◌, ◌≤◌, ◌+◌, ℕ, Bool, true, false, List, [], ◌∷◌, ◌++◌, length, map, fold, Option, Some, None, if◌then◌else◌, refl, ap, ◌∙◌, sym, subst, append_assoc, append-nil, arith}
use Rattle.std.specs.List.{AllByRecursion}
use Rattle.std.proofs.lemmas.List.{length-append, length-map}
use Rattle.nb_streams.proofs.FlowLaws.{all_append}
use Rattle.nb_iscsipdu.specs.PduTexts.{PduParts}
use Rattle.nb_iscsipdu.specs.Streams.{cut, is_refused}
use Rattle.nb_login.specs.declared.info.LoginInfo.{LoginInfo}
use Rattle.nb_login.specs.declared.session.Session.{Session}
use Rattle.nb_login.specs.LoginHistory.{PduCame, pdu_came, LoginEntry, login_entry, login_ended, decided_at}
use Rattle.nb_login.specs.LoginStands.{session_opened}
use Rattle.nb_login.specs.Logins.{after_came, login_history, login_said}
use Rattle.nb_disk.specs.Histories.{DiskCall, came, asked, stream_ended, DiskReading, nothing_read, reading}
use Rattle.nb_disk.specs.DiskAnswers.{opened_of, disk_answer, session_has_ended}
use Rattle.nb_sans.specs.Sessions.{ReadTask, last_part, stream_parts, pdus_came, login_so_far, session_come, comes_from, drive_comes, takes_read, is_call, taken_from, drive_calls, puts_from, opening_command, said_after_login, session_says, over_from, over_or_short, session_end_by, session_end}
use Rattle.nb_sans.specs.SessionSteps.{AreAskedBy, said_to, said_to_task}
use Rattle.nb_sans.proofs.SessionGrowth.{answers_stay, opened_ended, stays_open, said_same}
use Rattle.nb_sans.proofs.EndCauses.{all_last}
use Rattle.nb_sans.proofs.Parts.{same_pdus}
use Rattle.nb_sans.proofs.DriveSteps.{part_comes, task_comes, said_on, taken_then, part_ends}

-- ---- a login takes no more answers than there are PDUs, and all as long as it goes on

came_few : (i : LoginInfo) (h : List LoginEntry) (m : PduCame) (b : Bool) → length (if b then h else h ++ login_entry m (decided_at i h m) ∷ []) ≤ length h + 1
came_few i h m true = omega arith
came_few i h m false = omega (arith, length-append h (login_entry m (decided_at i h m) ∷ []))

few_answers : (i : LoginInfo) (ms : List PduCame) (h : List LoginEntry) → length (fold (after_came i) h ms) ≤ length h + length ms
few_answers i [] h = omega arith
few_answers i (m ∷ ms) h = let rest = few_answers i ms (after_came i h m) in let one = came_few i h m (login_ended h) in omega (arith, rest, one)

within : (rec : ℕ) (i : LoginInfo) (stream : List ℕ) → length (login_so_far rec i stream) ≤ length (stream_parts rec stream)
within rec i stream =
    let few = few_answers i (pdus_came rec stream) [] in
    let ms = length-map (cut stream).pdus (pdu_came rec) in
    let ps = length-map (cut stream).pdus (came rec) in
    let all = length-append (map (came rec) (cut stream).pdus) (last_part rec (cut stream).rest) in
    omega (arith, few, ms, ps, all)

-- ---- a task

task_by : (i : LoginInfo) (come : List ℕ) (tasks : List (ReadTask × ℕ)) (task : ReadTask) (o : Option Session) → AreAskedBy come tasks
    → said_after_login i come (tasks ++ (task, length come) ∷ []) o ≡ said_after_login i come tasks o ++ said_to_task i come tasks task o
task_by i come tasks task None by = refl
task_by i come tasks task (Some s) by =
    let comes = drive_comes 0 i come tasks in
    let more : drive_comes 0 i come (tasks ++ (task, length come) ∷ []) ≡ drive_comes 0 i come tasks ++ asked task.lba task.blocks ∷ [] = task_comes 0 come (length (login_so_far 0 i come)) tasks task by in
    ap (λ (l : List DiskCall). opening_command s ++ puts_from (opened_of s) nothing_read (taken_from (opened_of s) nothing_read l)) more
    ∙ ap (λ l. opening_command s ++ l) (said_on (opened_of s) (drive_comes 0 i come tasks) (asked task.lba task.blocks))
    ∙ sym (append_assoc (opening_command s) (puts_from (opened_of s) nothing_read (drive_calls 0 i come tasks s)) (said_to (opened_of s) (drive_calls 0 i come tasks s) (asked task.lba task.blocks)))

pub task_step : (i : LoginInfo) (come : List ℕ) (ended : Bool) (tasks : List (ReadTask × ℕ)) (task : ReadTask) → AreAskedBy come tasks
    → session_says i come ended (tasks ++ (task, length come) ∷ []) ≡ session_says i come ended tasks ++ said_to_task i come tasks task (session_come 0 i come)
task_step i come ended tasks task by =
    ap (λ l. login_said i (pdus_came 0 come) ++ l) (task_by i come tasks task (session_come 0 i come) by)
    ∙ sym (append_assoc (login_said i (pdus_came 0 come)) (said_after_login i come tasks (session_come 0 i come)) (said_to_task i come tasks task (session_come 0 i come)))

-- ---- a part of an open session

module _ (rec : ℕ) (i : LoginInfo) (come later : List ℕ) (tasks : List (ReadTask × ℕ)) (by : AreAskedBy come tasks) (new : List DiskCall)
    (ended : login_ended (login_so_far rec i come) ≡ true) (is : stream_parts rec (come ++ later) ≡ stream_parts rec come ++ new) where
  pub part_comes_in : drive_comes rec i (come ++ later) tasks ≡ drive_comes rec i come tasks ++ new
  part_comes_in =
      ap (λ n. comes_from rec (come ++ later) n tasks) (ap length (answers_stay rec i come later ended))
      ∙ part_comes rec come later new (length (login_so_far rec i come)) tasks by (within rec i come) is

pub part_step : (i : LoginInfo) (come later : List ℕ) (before after : Bool) (tasks : List (ReadTask × ℕ)) (s : Session) (part : DiskCall) → AreAskedBy come tasks
    → session_come 0 i come ≡ Some s → stream_parts 0 (come ++ later) ≡ stream_parts 0 come ++ part ∷ []
    → session_says i (come ++ later) after tasks ≡ session_says i come before tasks ++ said_to (opened_of s) (drive_calls 0 i come tasks s) part
part_step i come later before after tasks s part by opens is =
    let ended : login_ended (login_so_far 0 i come) ≡ true = opened_ended 0 i come s opens in
    let still : session_come 0 i (come ++ later) ≡ Some s = stays_open 0 i come later ended ∙ opens in
    let said : said_after_login i (come ++ later) tasks (Some s) ≡ said_after_login i come tasks (Some s) ++ said_to (opened_of s) (drive_calls 0 i come tasks s) part =
    ap (λ (l : List DiskCall). opening_command s ++ puts_from (opened_of s) nothing_read (taken_from (opened_of s) nothing_read l)) (part_comes_in 0 i come later tasks by (part ∷ []) ended is)
    ∙ ap (λ l. opening_command s ++ l) (said_on (opened_of s) (drive_comes 0 i come tasks) part)
    ∙ sym (append_assoc (opening_command s) (puts_from (opened_of s) nothing_read (drive_calls 0 i come tasks s)) (said_to (opened_of s) (drive_calls 0 i come tasks s) part)) in
    ap (λ (o : Option Session). login_said i (pdus_came 0 (come ++ later)) ++ said_after_login i (come ++ later) tasks o) still
    ∙ ap (λ l. l ++ said_after_login i (come ++ later) tasks (Some s)) (said_same i come later ended)
    ∙ ap (λ l. login_said i (pdus_came 0 come) ++ l) said
    ∙ sym (append_assoc (login_said i (pdus_came 0 come)) (said_after_login i come tasks (Some s)) (said_to (opened_of s) (drive_calls 0 i come tasks s) part))
    ∙ ap (λ (o : Option Session). (login_said i (pdus_came 0 come) ++ said_after_login i come tasks o) ++ said_to (opened_of s) (drive_calls 0 i come tasks s) part) (sym opens)

-- ---- how it ends it

abbrev IsOfStream : DiskCall → Type 0
IsOfStream (came rec p) = Unit {0}
IsOfStream (asked lba n) = ⊥
IsOfStream (stream_ended rec) = Unit {0}

each_came : (rec : ℕ) (ps : List PduParts) → AllByRecursion IsOfStream (map (came rec) ps)
each_came rec [] = tt
each_came rec (p ∷ ps) = (tt, each_came rec ps)

last_came : (rec : ℕ) (b : Bool) → AllByRecursion IsOfStream (if b then stream_ended rec ∷ [] else [])
last_came rec true = (tt, tt)
last_came rec false = tt

each_part : (rec : ℕ) (stream : List ℕ) → AllByRecursion IsOfStream (stream_parts rec stream)
each_part rec stream = all_append IsOfStream (map (came rec) (cut stream).pdus) (last_part rec (cut stream).rest) (each_came rec (cut stream).pdus) (last_came rec (is_refused (cut stream).rest))

part_counts : (part : DiskCall) → IsOfStream part → (r : DiskReading) → is_call r part ≡ true
part_counts (came rec p) of r = refl
part_counts (asked lba n) of r = absurd of
part_counts (stream_ended rec) of r = refl

part_is : (rec : ℕ) (come later : List ℕ) (part : DiskCall) → stream_parts rec (come ++ later) ≡ stream_parts rec come ++ part ∷ [] → (r : DiskReading) → is_call r part ≡ true
part_is rec come later part is = part_counts part (all_last IsOfStream (stream_parts rec come) part (subst (AllByRecursion IsOfStream) is (each_part rec (come ++ later))))

pub part_end_step : (rec : ℕ) (i : LoginInfo) (come later : List ℕ) (ended : Bool) (tasks : List (ReadTask × ℕ)) (s : Session) (part : DiskCall) → AreAskedBy come tasks
    → session_come rec i come ≡ Some s → session_has_ended (opened_of s) (drive_calls rec i come tasks s) ≡ false
    → stream_parts rec (come ++ later) ≡ stream_parts rec come ++ part ∷ []
    → session_end rec i (come ++ later) ended tasks ≡ over_or_short rec ended (disk_answer (opened_of s) (reading (opened_of s) (drive_calls rec i come tasks s)) part).over
part_end_step rec i come later ended tasks s part by opens lives is =
    let over : login_ended (login_so_far rec i come) ≡ true = opened_ended rec i come s opens in
    let still : session_come rec i (come ++ later) ≡ Some s = stays_open rec i come later over ∙ opens in
    ap (session_end_by rec i (come ++ later) ended tasks) still
    ∙ ap (λ (l : List DiskCall). over_or_short rec ended (over_from (opened_of s) nothing_read (taken_from (opened_of s) nothing_read l))) (part_comes_in rec i come later tasks by (part ∷ []) over is)
    ∙ ap (over_or_short rec ended) (part_ends (opened_of s) (drive_comes rec i come tasks) part (part_is rec come later part is) lives)

-- ---- the calls

pub part_call : (rec : ℕ) (i : LoginInfo) (come later : List ℕ) (tasks : List (ReadTask × ℕ)) (s : Session) (part : DiskCall) → AreAskedBy come tasks
    → session_come rec i come ≡ Some s → session_has_ended (opened_of s) (drive_calls rec i come tasks s) ≡ false
    → stream_parts rec (come ++ later) ≡ stream_parts rec come ++ part ∷ [] → drive_calls rec i (come ++ later) tasks s ≡ drive_calls rec i come tasks s ++ part ∷ []
part_call rec i come later tasks s part by opens lives is =
    ap (taken_from (opened_of s) nothing_read) (part_comes_in rec i come later tasks by (part ∷ []) (opened_ended rec i come s opens) is)
    ∙ taken_then (opened_of s) (drive_comes rec i come tasks) part lives
    ∙ ap (λ b. drive_calls rec i come tasks s ++ (if b then part ∷ [] else [])) (part_is rec come later part is (reading (opened_of s) (drive_calls rec i come tasks s)))

pub task_call : (rec : ℕ) (i : LoginInfo) (come : List ℕ) (tasks : List (ReadTask × ℕ)) (s : Session) (task : ReadTask) → AreAskedBy come tasks
    → session_come rec i come ≡ Some s → session_has_ended (opened_of s) (drive_calls rec i come tasks s) ≡ false
    → drive_calls rec i come (tasks ++ (task, length come) ∷ []) s ≡ drive_calls rec i come tasks s
    ++ (if takes_read (reading (opened_of s) (drive_calls rec i come tasks s)) task.lba task.blocks then asked task.lba task.blocks ∷ [] else [])
task_call rec i come tasks s task by opens lives =
    ap (taken_from (opened_of s) nothing_read) (task_comes rec come (length (login_so_far rec i come)) tasks task by)
    ∙ taken_then (opened_of s) (drive_comes rec i come tasks) (asked task.lba task.blocks) lives

-- ---- bytes alone

quiet_by : (i : LoginInfo) (come later : List ℕ) (tasks : List (ReadTask × ℕ)) (o : Option Session) → drive_comes 0 i (come ++ later) tasks ≡ drive_comes 0 i come tasks
    → said_after_login i (come ++ later) tasks o ≡ said_after_login i come tasks o
quiet_by i come later tasks None same = refl
quiet_by i come later tasks (Some s) same = ap (λ (l : List DiskCall). opening_command s ++ puts_from (opened_of s) nothing_read (taken_from (opened_of s) nothing_read l)) same

pub quiet_step : (i : LoginInfo) (come later : List ℕ) (before after : Bool) (tasks : List (ReadTask × ℕ)) → AreAskedBy come tasks
    → stream_parts 0 (come ++ later) ≡ stream_parts 0 come → session_says i (come ++ later) after tasks ≡ session_says i come before tasks
quiet_step i come later before after tasks by is =
    let ms : pdus_came 0 (come ++ later) ≡ pdus_came 0 come = ap (map (pdu_came 0)) (same_pdus 0 come (come ++ later) is) in
    let h : login_so_far 0 i (come ++ later) ≡ login_so_far 0 i come = ap (login_history i) ms in
    let opens : session_come 0 i (come ++ later) ≡ session_come 0 i come = ap (λ (h : List LoginEntry). if login_ended h then session_opened i h else None) h in
    let comes : drive_comes 0 i (come ++ later) tasks ≡ drive_comes 0 i come tasks =
    ap (λ n. comes_from 0 (come ++ later) n tasks) (ap length h)
    ∙ part_comes 0 come later [] (length (login_so_far 0 i come)) tasks by (within 0 i come) (is ∙ sym (append-nil (stream_parts 0 come)))
    ∙ append-nil (drive_comes 0 i come tasks) in
    ap (λ (ms : List PduCame). login_said i ms ++ said_after_login i (come ++ later) tasks (session_come 0 i (come ++ later))) ms
    ∙ ap (λ (o : Option Session). login_said i (pdus_came 0 come) ++ said_after_login i (come ++ later) tasks o) opens
    ∙ ap (λ l. login_said i (pdus_came 0 come) ++ l) (quiet_by i come later tasks (session_come 0 i come) comes)
