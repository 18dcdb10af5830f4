-- A task that is asked of a drive's session after all that has come: it changes neither the capacity nor how the session goes on, and where it is
-- the first, nothing is read yet.
use Rattle.std.proofs.Common.{◌≡◌, ℕ, ◌≤◌, ◌==◌, Bool, true, false, cond, List, [], ◌∷◌, ◌++◌, length, map, drop, zero, suc, fold, Option, Some, None, refl, sym, ◌∙◌, ap, subst, arith}
use Rattle.std.specs.Prelude.{slice_get, ◌-◌}
use Rattle.std.specs.List.{AllByRecursion}
use Rattle.std.specs.Option.{is_some, option_or}
use Rattle.std.proofs.lemmas.List.{length-append}
use Rattle.nb_terms.specs.declared.cause.Cause.{Cause}
use Rattle.nb_iscsipdu.specs.declared.command.Command.{Command}
use Rattle.nb_iscsipdu.specs.declared.answer.TaskStatus.{TaskStatus}
use Rattle.nb_iscsipdu.specs.Answers.{AnswerParts, login, scsi, data_in, nop_in, other, answer_read}
use Rattle.nb_iscsipdu.specs.PduTexts.{PduParts}
use Rattle.nb_iscsipdu.specs.Streams.{cut, is_refused}
use Rattle.nb_disk.specs.DiskAnswers.{disk_answer, opened_of}
use Rattle.nb_disk.specs.Histories.{DiskCall, came, asked, stream_ended, TaskResult, DiskReading, SessionNumbers, nothing_read, with_status, with_bytes, after_ready, command_at_work, at_work, completes, fits, after_answer, after_call, capacity_read}
use Rattle.nb_login.specs.declared.info.LoginInfo.{LoginInfo}
use Rattle.nb_login.specs.declared.session.Session.{Session}
use Rattle.nb_sans.specs.RecordNumbers.{brought_by}
use Rattle.nb_sans.specs.SessionSteps.{AreAskedBy}
use Rattle.nb_sans.specs.Sessions.{ReadTask, TaskAnswer, last_part, stream_parts, drive_comes, drive_calls, is_call, login_so_far, over_from, over_or_short, read_by, read_results, answers_of, session_capacity, session_come, session_end, session_end_by, taken_from, task_answers, tasks_taken}
use Rattle.nb_sans.proofs.DriveSteps.{task_comes}
use Rattle.nb_sans.proofs.RecordLaws.{records_show}
use Rattle.nb_streams.proofs.FlowLaws.{all_append, front_grows}
use Rattle.nb_streams.specs.Flows.{TcpCall, held_after}
use Rattle.nb_streams.specs.Streams.{front, IsPrefixOf}
use Rattle.nb_talks.specs.Talking.{Came, Talk, Talker, by_segment, by_time, by_task, come_of, talk_held, receives, talks_on, texts_for}
use Rattle.nb_talks.proofs.TalkLaws.{held_with_texts}

-- THE CAPACITY

-- of what comes to a drive, a read at last changes nothing of its results
sized_by : (o : SessionNumbers) (comes : List DiskCall) (lba n : ℕ) (r : DiskReading) → capacity_read (fold (after_call o) r (taken_from o r (comes ++ asked lba n ∷ []))) ≡ capacity_read (fold (after_call o) r (taken_from o r comes))
sized_by o [] lba n r = by (is_call r (asked lba n))
  where
    by : (b : Bool) → capacity_read (fold (after_call o) r (cond b (asked lba n ∷ []) [])) ≡ capacity_read r
    by true = refl
    by false = refl
sized_by o (call ∷ comes) lba n r = by (is_call r call) (is_some (disk_answer o r call).over) (sized_by o comes lba n (after_call o r call)) (sized_by o comes lba n r)
  where
    by : (b v : Bool) → capacity_read (fold (after_call o) (after_call o r call) (taken_from o (after_call o r call) (comes ++ asked lba n ∷ []))) ≡ capacity_read (fold (after_call o) (after_call o r call) (taken_from o (after_call o r call) comes))
        → capacity_read (fold (after_call o) r (taken_from o r (comes ++ asked lba n ∷ []))) ≡ capacity_read (fold (after_call o) r (taken_from o r comes))
        → capacity_read (fold (after_call o) r (cond b (call ∷ cond v [] (taken_from o (after_call o r call) (comes ++ asked lba n ∷ []))) (taken_from o r (comes ++ asked lba n ∷ []))))
        ≡ capacity_read (fold (after_call o) r (cond b (call ∷ cond v [] (taken_from o (after_call o r call) comes)) (taken_from o r comes)))
    by true true on past = refl
    by true false on past = on
    by false v on past = past

capacity_as : (i : LoginInfo) (come : List ℕ) (tasks : List (ReadTask × ℕ)) (t : ReadTask) (s : Option Session) → AreAskedBy come tasks → capacity_read (read_by i come (tasks ++ (t, length come) ∷ []) s) ≡ capacity_read (read_by i come tasks s)
capacity_as i come tasks t None by = refl
capacity_as i come tasks t (Some s) by =
    ap (λ (l : List DiskCall). capacity_read (fold (after_call (opened_of s)) nothing_read (taken_from (opened_of s) nothing_read l))) (task_comes 0 come (length (login_so_far 0 i come)) tasks t by)
    ∙ sized_by (opened_of s) (drive_comes 0 i come tasks) t.lba t.blocks nothing_read

pub task_capacity : (i : LoginInfo) (come : List ℕ) (tasks : List (ReadTask × ℕ)) (t : ReadTask) → AreAskedBy come tasks → session_capacity i come (tasks ++ (t, length come) ∷ []) ≡ session_capacity i come tasks
task_capacity i come tasks t by = capacity_as i come tasks t (session_come 0 i come) by

-- ITS END

-- a read ends nothing
over_by : (o : SessionNumbers) (comes : List DiskCall) (lba n : ℕ) (r : DiskReading) → over_from o r (taken_from o r (comes ++ asked lba n ∷ [])) ≡ over_from o r (taken_from o r comes)
over_by o [] lba n r = by (is_call r (asked lba n))
  where
    by : (b : Bool) → over_from o r (cond b (asked lba n ∷ []) []) ≡ None
    by true = refl
    by false = refl
over_by o (call ∷ comes) lba n r = by (is_call r call) (is_some (disk_answer o r call).over) (over_by o comes lba n (after_call o r call)) (over_by o comes lba n r)
  where
    by : (b v : Bool) → over_from o (after_call o r call) (taken_from o (after_call o r call) (comes ++ asked lba n ∷ [])) ≡ over_from o (after_call o r call) (taken_from o (after_call o r call) comes)
        → over_from o r (taken_from o r (comes ++ asked lba n ∷ [])) ≡ over_from o r (taken_from o r comes)
        → over_from o r (cond b (call ∷ cond v [] (taken_from o (after_call o r call) (comes ++ asked lba n ∷ []))) (taken_from o r (comes ++ asked lba n ∷ [])))
        ≡ over_from o r (cond b (call ∷ cond v [] (taken_from o (after_call o r call) comes)) (taken_from o r comes))
    by true true on past = refl
    by true false on past = ap (option_or (disk_answer o r call).over) on
    by false v on past = past

ends_as : (rec : ℕ) (i : LoginInfo) (come : List ℕ) (ended : Bool) (tasks : List (ReadTask × ℕ)) (t : ReadTask) (s : Option Session) → AreAskedBy come tasks →
    session_end_by rec i come ended (tasks ++ (t, length come) ∷ []) s ≡ session_end_by rec i come ended tasks s
ends_as rec i come ended tasks t None by = refl
ends_as rec i come ended tasks t (Some s) by =
    ap (λ (l : List DiskCall). over_or_short rec ended (over_from (opened_of s) nothing_read (taken_from (opened_of s) nothing_read l))) (task_comes rec come (length (login_so_far rec i come)) tasks t by)
    ∙ ap (over_or_short rec ended) (over_by (opened_of s) (drive_comes rec i come tasks) t.lba t.blocks nothing_read)

pub task_ends : (rec : ℕ) (i : LoginInfo) (come : List ℕ) (ended : Bool) (tasks : List (ReadTask × ℕ)) (t : ReadTask) → AreAskedBy come tasks → session_end rec i come ended (tasks ++ (t, length come) ∷ []) ≡ session_end rec i come ended tasks
task_ends rec i come ended tasks t by = ends_as rec i come ended tasks t (session_come rec i come) by

-- whichever record is at hand, it ends or doesn't
over_shows : (o : SessionNumbers) (rec : ℕ) (calls : List DiskCall) (r : DiskReading) → is_some (over_from o r (map (brought_by rec) calls)) ≡ is_some (over_from o r calls)
over_shows o rec [] r = refl
over_shows o rec (call ∷ calls) r =
    either_some (disk_answer o r (brought_by rec call)).over (disk_answer o r call).over (over_from o (after_call o r (brought_by rec call)) (map (brought_by rec) calls)) (over_from o (after_call o r call) calls)
    (records_show.over o r rec call) (ap (λ (x : DiskReading). is_some (over_from o x (map (brought_by rec) calls))) (reads_same call) ∙ over_shows o rec calls (after_call o r call))
  where
    either_some : (a b c d : Option Cause) → is_some a ≡ is_some b → is_some c ≡ is_some d → is_some (option_or a c) ≡ is_some (option_or b d)
    either_some (Some x) (Some y) c d e f = refl
    either_some (Some x) None c d e f = absurd (cc)
    either_some None (Some y) c d e f = absurd (cc)
    either_some None None c d e f = f

    reads_same : (x : DiskCall) → after_call o r (brought_by rec x) ≡ after_call o r x
    reads_same (came n p) = refl
    reads_same (asked lba n) = refl
    reads_same (stream_ended n) = refl

short_shows : (one two : ℕ) (short : Bool) (a b : Option Cause) → is_some a ≡ is_some b → is_some (over_or_short one short a) ≡ is_some (over_or_short two short b)
short_shows one two short (Some x) (Some y) e = refl
short_shows one two short (Some x) None e = absurd (cc)
short_shows one two short None (Some y) e = absurd (cc)
short_shows one two true None None e = refl
short_shows one two false None None e = refl

-- of a session that was opened
pub end_shows : (rec : ℕ) (i : LoginInfo) (come : List ℕ) (ended : Bool) (tasks : List (ReadTask × ℕ)) (s : Session) → session_come 0 i come ≡ Some s → is_some (session_end rec i come ended tasks) ≡ is_some (session_end 0 i come ended tasks)
end_shows rec i come ended tasks s opens =
    ap (λ z. is_some (session_end_by rec i come ended tasks z)) (records_show.session rec i come ∙ opens)
    ∙ short_shows rec 0 ended (over_from (opened_of s) nothing_read (drive_calls rec i come tasks s)) (over_from (opened_of s) nothing_read (drive_calls 0 i come tasks s))
    (ap (λ z. is_some (over_from (opened_of s) nothing_read z)) (records_show.calls rec i come tasks s) ∙ over_shows (opened_of s) rec (drive_calls 0 i come tasks s) nothing_read)
    ∙ sym (ap (λ z. is_some (session_end_by 0 i come ended tasks z)) opens)

-- WHAT WAS READ BEFORE ANY TASK

-- no read was asked for, and none is answered
record IsUnread (r : DiskReading) : Type 0 where
  unasked : r.reads ≡ []
  unread : read_results r.results ≡ []

one_result : (rs : List TaskResult) (x : TaskResult) (command : Command) → command_at_work rs [] ≡ Some command → read_results (rs ++ x ∷ []) ≡ []
one_result [] x command is = by (x.status == 0)
  where
    nothing : List TaskResult
    nothing = []

    by : (b : Bool) → cond b (drop 1 nothing) nothing ≡ nothing
    by true = refl
    by false = refl
one_result (r ∷ rs) x command is = by (r.status == 0) (λ e. one_result rs x command e) is
  where
    after : (ys : List TaskResult) → after_ready ys [] ≡ Some command → drop 1 (ys ++ x ∷ []) ≡ []
    after [] e = refl
    after (y ∷ ys) e = absurd (cc)

    by : (b : Bool) → (command_at_work rs [] ≡ Some command → read_results (rs ++ x ∷ []) ≡ []) → cond b (after_ready rs []) (command_at_work rs []) ≡ Some command → cond b (drop 1 (rs ++ x ∷ [])) (read_results (rs ++ x ∷ [])) ≡ []
    by true rest e = after rs e
    by false rest e = rest e

with_unread : (r : DiskReading) (bytes : List ℕ) (s : TaskStatus) (command : Command) → at_work r ≡ Some command → IsUnread r → IsUnread (with_status r bytes s)
with_unread r bytes s command is u =
    record { unasked = u.unasked; unread = one_result r.results _ command (ap (command_at_work r.results) (sym u.unasked) ∙ is) }

data_unread : (r : DiskReading) (bytes : List ℕ) (s : Option TaskStatus) (command : Command) → at_work r ≡ Some command → IsUnread r → IsUnread (with_bytes r bytes s)
data_unread r bytes None command is u = record { unasked = u.unasked; unread = u.unread }
data_unread r bytes (Some s) command is u = with_unread r bytes s command is u

answer_unread : (o : SessionNumbers) (r : DiskReading) (a : AnswerParts) → IsUnread r → IsUnread (after_answer o r a)
answer_unread o r (login a) u = u
answer_unread o r (scsi a) u = by (at_work r) refl
  where
    where_so : (b : Bool) (command : Command) → at_work r ≡ Some command → IsUnread (cond b (with_status r [] a.status) r)
    where_so true command is = with_unread r [] a.status command is u
    where_so false command is = u

    by : (work : Option Command) → at_work r ≡ work → IsUnread (cond (completes o r work a) (with_status r [] a.status) r)
    by None is = u
    by (Some command) is = where_so (completes o r (Some command) a) command is
answer_unread o r (data_in d) u = by (at_work r) refl
  where
    where_so : (b : Bool) (command : Command) → at_work r ≡ Some command → IsUnread (cond b (with_bytes r d.bytes d.status) r)
    where_so true command is = data_unread r d.bytes d.status command is u
    where_so false command is = u

    by : (work : Option Command) → at_work r ≡ work → IsUnread (cond (fits o r work d) (with_bytes r d.bytes d.status) r)
    by None is = u
    by (Some command) is = where_so (fits o r (Some command) d) command is
answer_unread o r (nop_in n) u = u
answer_unread o r other u = u

abbrev IsOfStream : DiskCall → Type 0
IsOfStream (came rec p) = Unit {0}
IsOfStream (asked lba n) = ⊥
IsOfStream (stream_ended rec) = Unit {0}

call_unread : (o : SessionNumbers) (r : DiskReading) (call : DiskCall) → IsOfStream call → IsUnread r → IsUnread (after_call o r call)
call_unread o r (came rec p) of u = answer_unread o r (answer_read p) u
call_unread o r (asked lba n) of u = absurd of
call_unread o r (stream_ended rec) of u = u

taken_unread : (o : SessionNumbers) (calls : List DiskCall) (r : DiskReading) → AllByRecursion IsOfStream calls → IsUnread r → IsUnread (fold (after_call o) r (taken_from o r calls))
taken_unread o [] r of u = u
taken_unread o (call ∷ calls) r of u =
    by (is_call r call) (is_some (disk_answer o r call).over) (taken_unread o calls (after_call o r call) of.1 (call_unread o r call of.0 u)) (taken_unread o calls r of.1 u)
  where
    by : (b v : Bool) → IsUnread (fold (after_call o) (after_call o r call) (taken_from o (after_call o r call) calls)) → IsUnread (fold (after_call o) r (taken_from o r calls))
        → IsUnread (fold (after_call o) r (cond b (call ∷ cond v [] (taken_from o (after_call o r call) calls)) (taken_from o r calls)))
    by true true on past = call_unread o r call of.0 u
    by true false on past = on
    by false v on past = past

each_came : (rec : ℕ) (ps : List PduParts) → AllByRecursion IsOfStream (map (came rec) ps)
each_came rec [] = tt
each_came rec (p ∷ ps) = (tt, each_came rec ps)

last_came : (rec : ℕ) (b : Bool) → AllByRecursion IsOfStream (cond b (stream_ended rec ∷ []) [])
last_came rec true = (tt, tt)
last_came rec false = tt

all_drop : (n : ℕ) (calls : List DiskCall) → AllByRecursion IsOfStream calls → AllByRecursion IsOfStream (drop n calls)
all_drop zero calls of = of
all_drop (suc n) [] of = tt
all_drop (suc n) (call ∷ calls) of = all_drop n calls of.1

none_asked : (i : LoginInfo) (come : List ℕ) → AllByRecursion IsOfStream (drive_comes 0 i come [])
none_asked i come =
    all_drop (length (login_so_far 0 i come)) (stream_parts 0 come)
    (all_append IsOfStream (map (came 0) (cut come).pdus) (last_part 0 (cut come).rest) (each_came 0 (cut come).pdus) (last_came 0 (is_refused (cut come).rest)))

-- the answer of the read that was taken last
abbrev pub last_of : LoginInfo → List ℕ → List (ReadTask × ℕ) → Option TaskAnswer
last_of i come tasks = slice_get (task_answers i come tasks) (length (tasks_taken i come tasks) - 1)

abbrev last_in : DiskReading → Option TaskAnswer
last_in r = slice_get (answers_of r.reads (read_results r.results)) (length r.reads - 1)

none_in : (r : DiskReading) → IsUnread r → last_in r ≡ None
none_in r u = ap (λ z. slice_get (answers_of z (read_results r.results)) (length z - 1)) u.unasked

unread_by : (i : LoginInfo) (come : List ℕ) (s : Option Session) → IsUnread (read_by i come [] s)
unread_by i come None = record { unasked = refl; unread = refl }
unread_by i come (Some s) = taken_unread (opened_of s) (drive_comes 0 i come []) nothing_read (none_asked i come) (record { unasked = refl; unread = refl })

-- no task was asked
pub none_read : (i : LoginInfo) (come : List ℕ) → last_of i come [] ≡ None
none_read i come = none_in (read_by i come [] (session_come 0 i come)) (unread_by i come (session_come 0 i come))

-- nor is anything read after the first read was asked for
first_in : (o : SessionNumbers) (comes : List DiskCall) (lba n : ℕ) (r : DiskReading) → IsUnread (fold (after_call o) r (taken_from o r comes)) → last_in (fold (after_call o) r (taken_from o r (comes ++ asked lba n ∷ []))) ≡ None
first_in o [] lba n r u = by (is_call r (asked lba n))
  where
    by : (b : Bool) → last_in (fold (after_call o) r (cond b (asked lba n ∷ []) [])) ≡ None
    by true = ap (λ z. slice_get (answers_of (z ++ (lba, n) ∷ []) (read_results r.results)) (length (z ++ (lba, n) ∷ []) - 1)) u.unasked ∙ ap (λ z. slice_get (answers_of ((lba, n) ∷ []) z) 0) u.unread
    by false = none_in r u
first_in o (call ∷ comes) lba n r u =
    by (is_call r call) (is_some (disk_answer o r call).over) (λ w. first_in o comes lba n (after_call o r call) w) (λ w. first_in o comes lba n r w) u
  where
    by : (b v : Bool)
        → (IsUnread (fold (after_call o) (after_call o r call) (taken_from o (after_call o r call) comes)) → last_in (fold (after_call o) (after_call o r call) (taken_from o (after_call o r call) (comes ++ asked lba n ∷ []))) ≡ None)
        → (IsUnread (fold (after_call o) r (taken_from o r comes)) → last_in (fold (after_call o) r (taken_from o r (comes ++ asked lba n ∷ []))) ≡ None)
        → IsUnread (fold (after_call o) r (cond b (call ∷ cond v [] (taken_from o (after_call o r call) comes)) (taken_from o r comes)))
        → last_in (fold (after_call o) r (cond b (call ∷ cond v [] (taken_from o (after_call o r call) (comes ++ asked lba n ∷ []))) (taken_from o r (comes ++ asked lba n ∷ [])))) ≡ None
    by true true on past w = none_in (after_call o r call) w
    by true false on past w = on w
    by false v on past w = past w

first_by : (i : LoginInfo) (come : List ℕ) (t : ReadTask) (s : Option Session) → last_in (read_by i come ((t, length come) ∷ []) s) ≡ None
first_by i come t None = refl
first_by i come t (Some s) =
    ap (λ (l : List DiskCall). last_in (fold (after_call (opened_of s)) nothing_read (taken_from (opened_of s) nothing_read l))) (task_comes 0 come (length (login_so_far 0 i come)) [] t tt)
    ∙ first_in (opened_of s) (drive_comes 0 i come []) t.lba t.blocks nothing_read (unread_by i come (Some s))

pub first_unread : (i : LoginInfo) (come : List ℕ) (t : ReadTask) → last_of i come ((t, length come) ∷ []) ≡ None
first_unread i come t = first_by i come t (session_come 0 i come)

-- WHEN TASKS WERE ASKED

prefix_len : (a b : List ℕ) → IsPrefixOf a b → length a ≤ length b
prefix_len a b p = let e = ap length p.1 ∙ length-append a p.0 in omega (arith, e)

later_asked : (come later : List ℕ) (tasks : List (ReadTask × ℕ)) → length come ≤ length later → AreAskedBy come tasks → AreAskedBy later tasks
later_asked come later [] more by = tt
later_asked come later (t ∷ tasks) more by = (let first = by.0 in omega (arith, more, first), later_asked come later tasks more by.1)

-- each task of a talk was asked when no more had come
abbrev pub IsAskedInTime : ℕ → Talk ReadTask → Type 0
IsAskedInTime isn d = AreAskedBy (come_of isn d) d.tasks

calls_later : (isn : ℕ) (d e : Talk ReadTask) (more : List TcpCall) → e.tasks ≡ d.tasks → talk_held isn e ≡ held_after isn (d.calls ++ more) → IsAskedInTime isn d → IsAskedInTime isn e
calls_later isn d e more tasks held by =
    subst (λ z. AreAskedBy (front z) e.tasks) (sym held)
    (subst (λ z. AreAskedBy (front (held_after isn (d.calls ++ more))) z) (sym tasks)
    (later_asked (come_of isn d) (front (held_after isn (d.calls ++ more))) d.tasks (prefix_len (come_of isn d) (front (held_after isn (d.calls ++ more))) (front_grows isn d.calls more)) by))

pub asked_on : (t : Talker ReadTask) (isn : ℕ) (d : Talk ReadTask) (c : Came ReadTask) → IsAskedInTime isn d → IsAskedInTime isn (talks_on t isn d c)
asked_on t isn d (by_segment m now) by = calls_later isn d (talks_on t isn d (by_segment m now)) _ refl (held_with_texts isn (receives isn d (by_segment m now)).calls (texts_for t isn d (by_segment m now)) now) by
asked_on t isn d (by_time now) by = calls_later isn d (talks_on t isn d (by_time now)) _ refl (held_with_texts isn (receives isn d (by_time now)).calls (texts_for t isn d (by_time now)) now) by
asked_on t isn d (by_task task now) by =
    subst (λ z. AreAskedBy (front z) (d.tasks ++ (task, length (come_of isn d)) ∷ [])) (sym (held_with_texts isn d.calls (texts_for t isn d (by_task task now)) now))
    (all_append _ d.tasks ((task, length (come_of isn d)) ∷ []) by (omega arith, tt))
