-- What one thing more does to a drive that goes on, by the calls that its unit has had, whichever records brought them.
use Rattle.std.proofs.Common.{◌≡◌, ℕ, Bool, true, false, List, [], ◌∷◌, ◌++◌, length, map, Option, Some, None, if◌then◌else◌, refl, ap, ◌∙◌, sym, append-nil}
use Rattle.std.proofs.lemmas.List.{map-append}
use Rattle.nb_terms.specs.declared.cause.Cause.{Cause}
use Rattle.nb_login.specs.declared.info.LoginInfo.{LoginInfo}
use Rattle.nb_login.specs.declared.session.Session.{Session}
use Rattle.nb_disk.specs.Histories.{DiskCall, came, asked, stream_ended, DiskReading, nothing_read, reading}
use Rattle.nb_disk.specs.DiskAnswers.{disk_answer, session_has_ended, opened_of}
use Rattle.nb_sans.specs.Sessions.{ReadTask, drive_calls, drive_comes, is_call, taken_from, over_or_short, session_come, session_end, session_says, stream_parts, takes_read, text_of_put}
use Rattle.nb_sans.specs.SessionSteps.{AreAskedBy, said_to, said_to_task}
use Rattle.nb_sans.specs.RecordNumbers.{brought_by}
use Rattle.nb_sans.proofs.RecordLaws.{records_show}
use Rattle.nb_sans.proofs.SessionGrowth.{opened_ended, stays_open}
use Rattle.nb_sans.proofs.SessionSteps.{part_call, part_comes_in, part_end_step, part_step, task_call, task_step}
use Rattle.nb_drivetalks.specs.Comings.{IsPart}

counts : (r : DiskReading) (call : DiskCall) → IsPart call → is_call r call ≡ true
counts r (came rec p) of = refl
counts r (asked lba n) of = absurd of
counts r (stream_ended rec) of = refl

pub same_part : (r : ℕ) (call : DiskCall) → IsPart call → IsPart (brought_by r call)
same_part r (came rec p) of = tt
same_part r (asked lba n) of = absurd of
same_part r (stream_ended rec) of = tt

not_short : (rec : ℕ) (over : Option Cause) → over_or_short rec false over ≡ over
not_short rec None = refl
not_short rec (Some x) = refl

-- A drive has had these calls: those of its session, whichever records brought them, and it goes on.
pub record HasHad (i : LoginInfo) (come : List ℕ) (tasks : List (ReadTask × ℕ)) (s : Session) (calls : List DiskCall) : Type 0 where
  pub opens : session_come 0 i come ≡ Some s
  pub same : map (brought_by 0) calls ≡ drive_calls 0 i come tasks s
  pub lives : session_has_ended (opened_of s) calls ≡ false

module _ (i : LoginInfo) (come : List ℕ) (tasks : List (ReadTask × ℕ)) (s : Session) (calls : List DiskCall) (had : HasHad i come tasks s calls) where
  pub reads_so : reading (opened_of s) (drive_calls 0 i come tasks s) ≡ reading (opened_of s) calls
  reads_so = ap (reading (opened_of s)) (sym had.same) ∙ records_show.reads (opened_of s) 0 calls

  first_lives : session_has_ended (opened_of s) (drive_calls 0 i come tasks s) ≡ false
  first_lives = ap (session_has_ended (opened_of s)) (sym had.same) ∙ records_show.ended (opened_of s) 0 calls ∙ had.lives

  pub lives_by : (rec : ℕ) → session_has_ended (opened_of s) (drive_calls rec i come tasks s) ≡ false
  lives_by rec = ap (session_has_ended (opened_of s)) (records_show.calls rec i come tasks s) ∙ records_show.ended (opened_of s) rec (drive_calls 0 i come tasks s) ∙ first_lives

  pub opens_by : (rec : ℕ) → session_come rec i come ≡ Some s
  opens_by rec = records_show.session rec i come ∙ had.opens

  reads_by : (rec : ℕ) → reading (opened_of s) (drive_calls rec i come tasks s) ≡ reading (opened_of s) calls
  reads_by rec = ap (reading (opened_of s)) (records_show.calls rec i come tasks s) ∙ records_show.reads (opened_of s) rec (drive_calls 0 i come tasks s) ∙ reads_so

  -- A PART OF THE STREAM

  module _ (xs : List ℕ) (by : AreAskedBy come tasks) (call : DiskCall) (of : IsPart call) (parts : (r : ℕ) → stream_parts r (come ++ xs) ≡ stream_parts r come ++ brought_by r call ∷ []) where
    pub still : session_come 0 i (come ++ xs) ≡ Some s
    still = stays_open 0 i come xs (opened_ended 0 i come s had.opens) ∙ had.opens

    pub calls_then : drive_calls 0 i (come ++ xs) tasks s ≡ drive_calls 0 i come tasks s ++ brought_by 0 call ∷ []
    calls_then = part_call 0 i come xs tasks s (brought_by 0 call) by had.opens first_lives (parts 0)

    pub same_then : map (brought_by 0) (calls ++ call ∷ []) ≡ drive_calls 0 i (come ++ xs) tasks s
    same_then = map-append (brought_by 0) calls (call ∷ []) ∙ ap (λ z. z ++ brought_by 0 call ∷ []) had.same ∙ sym calls_then

    said_so : said_to (opened_of s) (drive_calls 0 i come tasks s) (brought_by 0 call) ≡ text_of_put (disk_answer (opened_of s) (reading (opened_of s) calls) call).put
    said_so =
        let o = opened_of s in
        let r = reading o (drive_calls 0 i come tasks s) in
        ap (λ b. if b then [] else (if is_call r (brought_by 0 call) then text_of_put (disk_answer o r (brought_by 0 call)).put else [])) first_lives
        ∙ ap (λ b. if b then text_of_put (disk_answer o r (brought_by 0 call)).put else []) (counts r (brought_by 0 call) (same_part 0 call of))
        ∙ ap text_of_put (records_show.put o r 0 call)
        ∙ ap (λ (z : DiskReading). text_of_put (disk_answer o z call).put) reads_so

    pub says_then : (before after : Bool) → session_says i (come ++ xs) after tasks ≡ session_says i come before tasks ++ text_of_put (disk_answer (opened_of s) (reading (opened_of s) calls) call).put
    says_then before after = part_step i come xs before after tasks s (brought_by 0 call) by had.opens (parts 0) ∙ ap (λ z. session_says i come before tasks ++ z) said_so

    -- it ends it so, or not
    pub ends_then : (rec : ℕ) → session_end rec i (come ++ xs) false tasks ≡ (disk_answer (opened_of s) (reading (opened_of s) calls) (brought_by rec call)).over
    ends_then rec =
        part_end_step rec i come xs false tasks s (brought_by rec call) by (opens_by rec) (lives_by rec) (parts rec)
        ∙ not_short rec (disk_answer (opened_of s) (reading (opened_of s) (drive_calls rec i come tasks s)) (brought_by rec call)).over
        ∙ ap (λ (z : DiskReading). (disk_answer (opened_of s) z (brought_by rec call)).over) (reads_by rec)

  -- A TASK

  module _ (by : AreAskedBy come tasks) (task : ReadTask) where
    pub task_says : (ended : Bool) → session_says i come ended (tasks ++ (task, length come) ∷ []) ≡ session_says i come ended tasks
        ++ (if takes_read (reading (opened_of s) calls) task.lba task.blocks then text_of_put (disk_answer (opened_of s) (reading (opened_of s) calls) (asked task.lba task.blocks)).put else [])
    task_says ended =
        let o = opened_of s in
        let r = reading o (drive_calls 0 i come tasks s) in
        task_step i come ended tasks task by
        ∙ ap (λ z. session_says i come ended tasks ++ z)
        (ap (λ (z : Option Session). said_to_task i come tasks task z) had.opens
        ∙ ap (λ b. if b then [] else (if takes_read r task.lba task.blocks then text_of_put (disk_answer o r (asked task.lba task.blocks)).put else [])) first_lives
        ∙ ap (λ (z : DiskReading). if takes_read z task.lba task.blocks then text_of_put (disk_answer o z (asked task.lba task.blocks)).put else []) reads_so)

    pub task_calls : drive_calls 0 i come (tasks ++ (task, length come) ∷ []) s ≡ drive_calls 0 i come tasks s ++ (if takes_read (reading (opened_of s) calls) task.lba task.blocks then asked task.lba task.blocks ∷ [] else [])
    task_calls =
        task_call 0 i come tasks s task by had.opens first_lives
        ∙ ap (λ (z : DiskReading). drive_calls 0 i come tasks s ++ (if takes_read z task.lba task.blocks then asked task.lba task.blocks ∷ [] else [])) reads_so

-- bytes that bring nothing bring no call
pub quiet_calls : (i : LoginInfo) (come xs : List ℕ) (tasks : List (ReadTask × ℕ)) (s : Session) → session_come 0 i come ≡ Some s → AreAskedBy come tasks → stream_parts 0 (come ++ xs) ≡ stream_parts 0 come
    → drive_calls 0 i (come ++ xs) tasks s ≡ drive_calls 0 i come tasks s
quiet_calls i come xs tasks s opens by same =
    ap (taken_from (opened_of s) nothing_read)
    (part_comes_in 0 i come xs tasks by [] (opened_ended 0 i come s opens) (same ∙ sym (append-nil (stream_parts 0 come))) ∙ append-nil (drive_comes 0 i come tasks))
