-- What a session has read, and the answers of its tasks, stay.
use Rattle.std.proofs.Common.{◌≡◌, ℕ, Bool, true, false, List, [], ◌∷◌, ◌++◌, drop, fold, Option, Some, None, option_map, if◌then◌else◌, refl, ap, ◌∙◌, sym, subst, eqb}
use Rattle.std.proofs.lemmas.List.Sums.{fold-append}
use Rattle.nb_iscsipdu.specs.Answers.{AnswerParts, login, scsi, data_in, nop_in, other, answer_read}
use Rattle.nb_iscsipdu.specs.declared.answer.TaskStatus.{TaskStatus}
use Rattle.nb_login.specs.declared.info.LoginInfo.{LoginInfo}
use Rattle.nb_login.specs.declared.session.Session.{Session}
use Rattle.nb_login.specs.LoginHistory.{login_ended}
use Rattle.nb_disk.specs.Histories.{DiskCall, came, asked, stream_ended, TaskResult, DiskReading, nothing_read, with_status, with_bytes, SessionNumbers, completes, fits, after_answer, after_call, at_work, reading, first_capacity, capacity_in, capacity_read}
use Rattle.nb_disk.specs.DiskAnswers.{opened_of}
use Rattle.nb_sans.specs.Sessions.{ReadTask, login_so_far, drive_calls, session_come, read_by, session_reading, session_capacity, session_chap, TaskAnswer, task_answer, read_results, answers_of, task_answers}
use Rattle.nb_sans.specs.SessionLaws.{ReadingsStay}
use Rattle.nb_sans.proofs.Starts.{Starts, starts_itself, starts_all, starts_then, starts_after, starts_drop}
use Rattle.nb_sans.proofs.StreamGrowth.{FirstIsLater, first_is_later}
use Rattle.nb_sans.proofs.SessionGrowth.{opened_ended, stays_open, calls_grow}

-- ---- one reading goes on from another

pub record GoesOn (r s : DiskReading) : Type 0 where
  pub results : Starts r.results s.results
  pub reads : Starts r.reads s.reads

goes_itself : (r : DiskReading) → GoesOn r r
goes_itself r = record { results = starts_itself r.results; reads = starts_itself r.reads }

goes_then : (r s t : DiskReading) → GoesOn r s → GoesOn s t → GoesOn r t
goes_then r s t a b = record { results = starts_then r.results s.results t.results a.results b.results; reads = starts_then r.reads s.reads t.reads a.reads b.reads }

with_result : (r : DiskReading) (bytes : List ℕ) (s : TaskStatus) → GoesOn r (with_status r bytes s)
with_result r bytes s = record { results = record { rest = _; is = refl }; reads = starts_itself r.reads }

with_data : (r : DiskReading) (bytes : List ℕ) (s : Option TaskStatus) → GoesOn r (with_bytes r bytes s)
with_data r bytes None = record { results = starts_itself r.results; reads = starts_itself r.reads }
with_data r bytes (Some s) = with_result r bytes s

where_so : (b : Bool) (r s : DiskReading) → GoesOn r s → GoesOn r (if b then s else r)
where_so true r s a = a
where_so false r s a = goes_itself r

answer_goes : (o : SessionNumbers) (r : DiskReading) (a : AnswerParts) → GoesOn r (after_answer o r a)
answer_goes o r (login a) = goes_itself r
answer_goes o r (scsi a) = where_so (completes o r (at_work r) a) r (with_status r [] a.status) (with_result r [] a.status)
answer_goes o r (data_in d) = where_so (fits o r (at_work r) d) r (with_bytes r d.bytes d.status) (with_data r d.bytes d.status)
answer_goes o r (nop_in n) = goes_itself r
answer_goes o r other = goes_itself r

call_goes : (o : SessionNumbers) (r : DiskReading) (call : DiskCall) → GoesOn r (after_call o r call)
call_goes o r (came rec p) = answer_goes o r (answer_read p)
call_goes o r (asked lba blocks) = record { results = starts_itself r.results; reads = record { rest = (lba, blocks) ∷ []; is = refl } }
call_goes o r (stream_ended rec) = goes_itself r

fold_goes : (o : SessionNumbers) (more : List DiskCall) (r : DiskReading) → GoesOn r (fold (after_call o) r more)
fold_goes o [] r = goes_itself r
fold_goes o (call ∷ more) r = goes_then r (after_call o r call) (fold (after_call o) (after_call o r call) more) (call_goes o r call) (fold_goes o more (after_call o r call))

pub reading_goes : (o : SessionNumbers) (calls longer : List DiskCall) → Starts calls longer → GoesOn (reading o calls) (reading o longer)
reading_goes o calls longer a =
    subst (λ (r : DiskReading). GoesOn (reading o calls) r) (sym (ap (reading o) a.is ∙ fold-append (after_call o) nothing_read calls a.rest)) (fold_goes o a.rest (reading o calls))

-- ---- what is read from it stays

first_stays : (rs more : List TaskResult) (c : ℕ) → first_capacity rs ≡ Some c → first_capacity (rs ++ more) ≡ Some c
first_stays [] more c is = absurd cc
first_stays (r ∷ rs) more c is = is

capacity_more : (rs more : List TaskResult) (c : ℕ) → capacity_in rs ≡ Some c → capacity_in (rs ++ more) ≡ Some c
capacity_more [] more c is = absurd cc
capacity_more (r ∷ rs) more c is = by (capacity_more rs more c) (eqb r.status 0) is
  where
    by : (capacity_in rs ≡ Some c → capacity_in (rs ++ more) ≡ Some c) → (b : Bool) → (if b then first_capacity rs else capacity_in rs) ≡ Some c
        → (if b then first_capacity (rs ++ more) else capacity_in (rs ++ more)) ≡ Some c
    by rest true so = first_stays rs more c so
    by rest false so = rest so

results_more : (rs more : List TaskResult) → Starts (read_results rs) (read_results (rs ++ more))
results_more [] more = starts_all (read_results more)
results_more (r ∷ rs) more = by (results_more rs more) (eqb r.status 0)
  where
    by : Starts (read_results rs) (read_results (rs ++ more)) → (b : Bool) → Starts (if b then drop 1 rs else read_results rs) (if b then drop 1 (rs ++ more) else read_results (rs ++ more))
    by rest true = starts_drop 1 rs (rs ++ more) (record { rest = more; is = refl })
    by rest false = rest

answers_more : (reads rest : List (ℕ × ℕ)) (results later : List TaskResult) → Starts (answers_of reads results) (answers_of (reads ++ rest) (results ++ later))
answers_more [] rest results later = starts_all (answers_of rest (results ++ later))
answers_more (read ∷ reads) rest [] later = starts_all (answers_of (read ∷ (reads ++ rest)) later)
answers_more (read ∷ reads) rest (result ∷ results) later =
    starts_after (task_answer read.1 result ∷ []) (answers_of reads results) (answers_of (reads ++ rest) (results ++ later)) (answers_more reads rest results later)

abbrev pub answers_in : DiskReading → List TaskAnswer
answers_in r = answers_of r.reads (read_results r.results)

pub capacity_stays : (r s : DiskReading) (c : ℕ) → GoesOn r s → capacity_read r ≡ Some c → capacity_read s ≡ Some c
capacity_stays r s c a is = ap capacity_in a.results.is ∙ capacity_more r.results a.results.rest c is

pub answers_go : (r s : DiskReading) → GoesOn r s → Starts (answers_in r) (answers_in s)
answers_go r s a =
    let results : Starts (read_results r.results) (read_results s.results) =
    subst (λ (l : List TaskResult). Starts (read_results r.results) (read_results l)) (sym a.results.is) (results_more r.results a.results.rest) in
    let all = answers_more r.reads a.reads.rest (read_results r.results) results.rest in
    record { rest = all.rest; is = ap (λ (l : List (ℕ × ℕ)). answers_of l (read_results s.results)) a.reads.is ∙ ap (answers_of (r.reads ++ a.reads.rest)) results.is ∙ all.is }

-- ---- of a session

module _ (i : LoginInfo) (come later : List ℕ) (tasks more : List (ReadTask × ℕ)) (first : FirstIsLater come more) where
  goes_by : (o : Option Session) → session_come 0 i come ≡ o → GoesOn (read_by i come tasks o) (session_reading i (come ++ later) (tasks ++ more))
  goes_by None opens = record { results = starts_all (session_reading i (come ++ later) (tasks ++ more)).results; reads = starts_all (session_reading i (come ++ later) (tasks ++ more)).reads }
  goes_by (Some s) opens =
      let ended : login_ended (login_so_far 0 i come) ≡ true = opened_ended 0 i come s opens in
      let still : session_come 0 i (come ++ later) ≡ Some s = stays_open 0 i come later ended ∙ opens in
      subst (λ (o : Option Session). GoesOn (read_by i come tasks (Some s)) (read_by i (come ++ later) (tasks ++ more) o)) (sym still)
      (reading_goes (opened_of s) (drive_calls 0 i come tasks s) (drive_calls 0 i (come ++ later) (tasks ++ more) s) (calls_grow 0 i come later tasks more first s ended))

  pub session_goes : GoesOn (session_reading i come tasks) (session_reading i (come ++ later) (tasks ++ more))
  session_goes = goes_by (session_come 0 i come) refl

  pub answers_stay_on : Starts (task_answers i come tasks) (task_answers i (come ++ later) (tasks ++ more))
  answers_stay_on = answers_go (session_reading i come tasks) (session_reading i (come ++ later) (tasks ++ more)) session_goes

  pub capacity_stays_on : (c : ℕ) → session_capacity i come tasks ≡ Some c → session_capacity i (come ++ later) (tasks ++ more) ≡ Some c
  capacity_stays_on c is = capacity_stays (session_reading i come tasks) (session_reading i (come ++ later) (tasks ++ more)) c session_goes is

chap_by : (i : LoginInfo) (come later : List ℕ) (chap : ℕ) (o : Option Session) → session_come 0 i come ≡ o → option_map (λ (s : Session). s.chap) o ≡ Some chap → session_chap i (come ++ later) ≡ Some chap
chap_by i come later chap None opens is = absurd cc
chap_by i come later chap (Some s) opens is = ap (option_map (λ (s : Session). s.chap)) (stays_open 0 i come later (opened_ended 0 i come s opens) ∙ opens) ∙ is

pub readings_stay : ReadingsStay
readings_stay = record {
  capacity = λ i come later tasks more blocks asked is. capacity_stays_on i come later tasks more (first_is_later come more asked) blocks is;
  chap = λ i come later chap is. chap_by i come later chap (session_come 0 i come) refl is;
  answers = λ i come later tasks more asked. let all = answers_stay_on i come later tasks more (first_is_later come more asked) in (all.rest, all.is);
}
