-- What one thing more that comes to a session adds to what is said and how it ends, by all that came before it
use Rattle.std.specs.Prelude.{◌≡◌, ◌≤◌, ℕ, Bool, true, false, List, [], ◌∷◌, ◌++◌, length, Option, Some, None, if◌then◌else◌}
use Rattle.std.specs.List.{AllByRecursion}
use Rattle.nb_iscsipdu.specs.PduTexts.{PduParts}
use Rattle.nb_iscsipdu.specs.Streams.{cut, is_refused}
use Rattle.nb_login.specs.declared.info.LoginInfo.{LoginInfo}
use Rattle.nb_login.specs.declared.session.Session.{Session}
use Rattle.nb_login.specs.LoginHistory.{pdu_came, login_entry, login_ended, decided_at}
use Rattle.nb_login.specs.Logins.{text_of_entry}
use Rattle.nb_disk.specs.Histories.{DiskCall, came, asked, stream_ended, SessionNumbers, reading}
use Rattle.nb_disk.specs.DiskAnswers.{opened_of, disk_answer, session_has_ended}
use Rattle.nb_sans.specs.Sessions.{ReadTask, stream_parts, login_so_far, session_come, takes_read, is_call, drive_calls, text_of_put, opening_command, over_or_short, session_says, session_end}

-- these tasks were asked when no more than this had come
abbrev pub AreAskedBy : List ℕ → List (ReadTask × ℕ) → Type 0
AreAskedBy come tasks = AllByRecursion (λ t. t.1 ≤ length come) tasks

-- What bytes more of a stream bring, by the PDUs that it is cut into: nothing yet, a PDU, or that none can come any more.
pub record PartsFollowTheCut : Type 0 where
  pub none : (rec : ℕ) (come later : List ℕ) → (cut (come ++ later)).pdus ≡ (cut come).pdus → is_refused (cut (come ++ later)).rest ≡ false
      → stream_parts rec (come ++ later) ≡ stream_parts rec come
  pub one : (rec : ℕ) (come later : List ℕ) (p : PduParts) → (cut (come ++ later)).pdus ≡ (cut come).pdus ++ p ∷ [] → is_refused (cut (come ++ later)).rest ≡ false
      → stream_parts rec (come ++ later) ≡ stream_parts rec come ++ came rec p ∷ []
  pub off : (rec : ℕ) (come later : List ℕ) → (cut (come ++ later)).pdus ≡ (cut come).pdus → is_refused (cut come).rest ≡ false → is_refused (cut (come ++ later)).rest ≡ true
      → stream_parts rec (come ++ later) ≡ stream_parts rec come ++ stream_ended rec ∷ []

-- What comes is the next answer of a login that goes on, or the next call of a drive that does, if it takes it.
pub record CallsFollowWhatComes : Type 0 where
  pub login : (rec : ℕ) (i : LoginInfo) (come later : List ℕ) (p : PduParts) → login_ended (login_so_far rec i come) ≡ false
      → stream_parts rec (come ++ later) ≡ stream_parts rec come ++ came rec p ∷ []
      → login_so_far rec i (come ++ later) ≡ login_so_far rec i come ++ login_entry (pdu_came rec p) (decided_at i (login_so_far rec i come) (pdu_came rec p)) ∷ []
  pub first : (rec : ℕ) (i : LoginInfo) (come later : List ℕ) (tasks : List (ReadTask × ℕ)) (p : PduParts) (s : Session) → login_ended (login_so_far rec i come) ≡ false
      → stream_parts rec (come ++ later) ≡ stream_parts rec come ++ came rec p ∷ []
      → session_come rec i (come ++ later) ≡ Some s → drive_calls rec i (come ++ later) tasks s ≡ []
  pub part : (rec : ℕ) (i : LoginInfo) (come later : List ℕ) (tasks : List (ReadTask × ℕ)) (s : Session) (part : DiskCall) → AreAskedBy come tasks
      → session_come rec i come ≡ Some s → session_has_ended (opened_of s) (drive_calls rec i come tasks s) ≡ false
      → stream_parts rec (come ++ later) ≡ stream_parts rec come ++ part ∷ []
      → drive_calls rec i (come ++ later) tasks s ≡ drive_calls rec i come tasks s ++ part ∷ []
  pub task : (rec : ℕ) (i : LoginInfo) (come : List ℕ) (tasks : List (ReadTask × ℕ)) (s : Session) (task : ReadTask) → AreAskedBy come tasks
      → session_come rec i come ≡ Some s → session_has_ended (opened_of s) (drive_calls rec i come tasks s) ≡ false
      → drive_calls rec i come (tasks ++ (task, length come) ∷ []) s ≡ drive_calls rec i come tasks s
      ++ (if takes_read (reading (opened_of s) (drive_calls rec i come tasks s)) task.lba task.blocks then asked task.lba task.blocks ∷ [] else [])

-- what a drive says to what comes after these calls, if it takes it
abbrev pub said_to : SessionNumbers → List DiskCall → DiskCall → List ℕ
said_to o calls call =
    if session_has_ended o calls then []
    else (if is_call (reading o calls) call then text_of_put (disk_answer o (reading o calls) call).put else [])

abbrev pub said_to_task : LoginInfo → List ℕ → List (ReadTask × ℕ) → ReadTask → Option Session → List ℕ
said_to_task i come tasks task None = []
said_to_task i come tasks task (Some s) = said_to (opened_of s) (drive_calls 0 i come tasks s) (asked task.lba task.blocks)

-- A task is put at once, where an open drive takes it, or never.
abbrev pub TasksArePutAtOnce : Type 0
TasksArePutAtOnce = (i : LoginInfo) (come : List ℕ) (ended : Bool) (tasks : List (ReadTask × ℕ)) (task : ReadTask) → AreAskedBy come tasks
    → session_says i come ended (tasks ++ (task, length come) ∷ []) ≡ session_says i come ended tasks ++ said_to_task i come tasks task (session_come 0 i come)

-- Bytes that complete no PDU, and leave one possible, change nothing.
abbrev pub BytesAloneSayNothing : Type 0
BytesAloneSayNothing = (i : LoginInfo) (come later : List ℕ) (before after : Bool) (tasks : List (ReadTask × ℕ)) → AreAskedBy come tasks
    → stream_parts 0 (come ++ later) ≡ stream_parts 0 come → session_says i (come ++ later) after tasks ≡ session_says i come before tasks

-- A PDU that comes to an open session, or that none can come any more, adds what the drive says to it.
abbrev pub PartsAreAnsweredAtOnce : Type 0
PartsAreAnsweredAtOnce = (i : LoginInfo) (come later : List ℕ) (before after : Bool) (tasks : List (ReadTask × ℕ)) (s : Session) (part : DiskCall) → AreAskedBy come tasks
    → session_come 0 i come ≡ Some s → stream_parts 0 (come ++ later) ≡ stream_parts 0 come ++ part ∷ []
    → session_says i (come ++ later) after tasks ≡ session_says i come before tasks ++ said_to (opened_of s) (drive_calls 0 i come tasks s) part

-- Such a part ends it as the drive's answer to it says.
abbrev pub PartsEndAtOnce : Type 0
PartsEndAtOnce = (rec : ℕ) (i : LoginInfo) (come later : List ℕ) (ended : Bool) (tasks : List (ReadTask × ℕ)) (s : Session) (part : DiskCall) → AreAskedBy come tasks
    → session_come rec i come ≡ Some s → session_has_ended (opened_of s) (drive_calls rec i come tasks s) ≡ false
    → stream_parts rec (come ++ later) ≡ stream_parts rec come ++ part ∷ []
    → session_end rec i (come ++ later) ended tasks ≡ over_or_short rec ended (disk_answer (opened_of s) (reading (opened_of s) (drive_calls rec i come tasks s)) part).over

-- the first command, where a session is open
abbrev pub opening_of : Option Session → List ℕ
opening_of None = []
opening_of (Some s) = opening_command s

-- A PDU that comes to a login adds its next request, or the first command where it opens the session.
abbrev pub LoginsAnswerAtOnce : Type 0
LoginsAnswerAtOnce = (i : LoginInfo) (come later : List ℕ) (before after : Bool) (tasks : List (ReadTask × ℕ)) (p : PduParts) → AreAskedBy come tasks
    → login_ended (login_so_far 0 i come) ≡ false → stream_parts 0 (come ++ later) ≡ stream_parts 0 come ++ came 0 p ∷ []
    → session_says i (come ++ later) after tasks ≡ session_says i come before tasks
    ++ (text_of_entry i (login_entry (pdu_came 0 p) (decided_at i (login_so_far 0 i come) (pdu_came 0 p))) ++ opening_of (session_come 0 i (come ++ later)))
