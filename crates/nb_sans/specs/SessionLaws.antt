-- What holds of each session with a target, whatever comes
use Rattle.std.specs.Prelude.{◌≡◌, ◌≤◌, ◌||◌, ℕ, Bool, true, false, List, [], ◌∷◌, ◌++◌, length, Some, None}
use Rattle.std.specs.List.{AllByRecursion}
use Rattle.nb_terms.specs.declared.cause.Cause.{Cause}
use Rattle.nb_talks.specs.Talking.{Came, OnlyAdds, said_in_all, to_say, talk_after}
use Rattle.nb_iscsipdu.specs.PduTexts.{PduParts}
use Rattle.nb_iscsipdu.specs.Answers.{answer_read}
use Rattle.nb_iscsipdu.specs.Streams.{cut, is_refused}
use Rattle.nb_login.specs.declared.info.LoginInfo.{LoginInfo}
use Rattle.nb_login.specs.declared.session.Session.{Session}
use Rattle.nb_login.specs.LoginHistory.{LoginEntry}
use Rattle.nb_login.specs.LoginEndings.{LoginEnding}
use Rattle.nb_login.specs.Logins.{login_said}
use Rattle.nb_login.specs.LoginTexts.{AreRequestTexts}
use Rattle.nb_disk.specs.Histories.{DiskCall, came, reading}
use Rattle.nb_disk.specs.DiskAnswers.{opened_of, broken}
use Rattle.nb_disk.specs.DiskEndings.{DiskEnding}
use Rattle.nb_sans.specs.Sessions.{ReadTask, pdus_came, login_so_far, session_come, drive_calls, session_says, session_end, session_talker, session_capacity, session_chap, TaskAnswer, task_answers}

-- A longer stream and the next task only add to what is to be said.
abbrev pub SessionsOnlyAdd : Type 0
SessionsOnlyAdd = (i : LoginInfo) → OnlyAdds (session_talker i)

-- All that is to be said in a session has been said, in order and once, and nothing else.
abbrev pub AllOfASessionIsSaid : Type 0
AllOfASessionIsSaid = (i : LoginInfo) (isn start : ℕ) (came : List (Came ReadTask))
    → said_in_all (talk_after (session_talker i) isn start came).calls ≡ to_say (session_talker i) isn (talk_after (session_talker i) isn start came)

-- Why a session ends: it stands in what came, and there is no other cause.
pub data SessionEnding (rec : ℕ) (i : LoginInfo) (stream : List ℕ) (ended : Bool) (tasks : List (ReadTask × ℕ)) (cause : Cause) : Type 0 where
  -- the login's last answer ends it, without a session
  by_login_answer : (before : List LoginEntry) (e : LoginEntry) → session_come rec i stream ≡ None → login_so_far rec i stream ≡ before ++ e ∷ []
      → LoginEnding i before e cause → SessionEnding rec i stream ended tasks cause
  -- the last PDU that the drive took ends it
  by_drive_pdu : (s : Session) (before : List DiskCall) (p : PduParts) → session_come rec i stream ≡ Some s → drive_calls rec i stream tasks s ≡ before ++ came rec p ∷ []
      → DiskEnding (opened_of s) (reading (opened_of s) before) rec (answer_read p) cause → SessionEnding rec i stream ended tasks cause
  -- the stream has ended, or goes on with bytes with which no PDU begins
  by_stream_end : (ended || is_refused (cut stream).rest) ≡ true → cause ≡ broken rec → SessionEnding rec i stream ended tasks cause

abbrev pub SessionsEndForACause : Type 0
SessionsEndForACause = (rec : ℕ) (i : LoginInfo) (stream : List ℕ) (ended : Bool) (tasks : List (ReadTask × ℕ)) (cause : Cause)
    → session_end rec i stream ended tasks ≡ Some cause → SessionEnding rec i stream ended tasks cause

-- these tasks were asked once all this had come
abbrev pub AreAskedAfter : List ℕ → List (ReadTask × ℕ) → Type 0
AreAskedAfter come tasks = AllByRecursion (λ t. length come ≤ t.1) tasks

-- An end stays, whatever more of the stream comes and is asked.
abbrev pub EndsStay : Type 0
EndsStay = (rec : ℕ) (i : LoginInfo) (come later : List ℕ) (after : Bool) (tasks more : List (ReadTask × ℕ)) (cause : Cause) → AreAskedAfter come more
    → session_end rec i come false tasks ≡ Some cause → session_end rec i (come ++ later) after (tasks ++ more) ≡ Some cause

-- So do the capacity that was read and the answers of tasks, in their order.
pub record ReadingsStay : Type 0 where
  pub capacity : (i : LoginInfo) (come later : List ℕ) (tasks more : List (ReadTask × ℕ)) (blocks : ℕ) → AreAskedAfter come more
      → session_capacity i come tasks ≡ Some blocks → session_capacity i (come ++ later) (tasks ++ more) ≡ Some blocks
  pub chap : (i : LoginInfo) (come later : List ℕ) (chap : ℕ) → session_chap i come ≡ Some chap → session_chap i (come ++ later) ≡ Some chap
  pub answers : (i : LoginInfo) (come later : List ℕ) (tasks more : List (ReadTask × ℕ)) → AreAskedAfter come more
      → (rest : List TaskAnswer) × (task_answers i (come ++ later) (tasks ++ more) ≡ task_answers i come tasks ++ rest)

-- Before the login has opened a session, what is said is what the login says.
abbrev pub OnlyTheLoginSpeaksFirst : Type 0
OnlyTheLoginSpeaksFirst = (i : LoginInfo) (stream : List ℕ) (ended : Bool) (tasks : List (ReadTask × ℕ)) → session_come 0 i stream ≡ None
    → session_says i stream ended tasks ≡ login_said i (pdus_came 0 stream)

-- So only Login Requests are.
abbrev pub OnlyRequestsComeFirst : Type 0
OnlyRequestsComeFirst = (i : LoginInfo) (stream : List ℕ) (ended : Bool) (tasks : List (ReadTask × ℕ)) → session_come 0 i stream ≡ None
    → AreRequestTexts (session_says i stream ended tasks)
