-- RFC 7143: an open that is a drive's session with its target, and what that has answered
use Rattle.std.specs.Prelude.{ℕ, ◌-◌, List, [], ◌∷◌, length, slice_get, Option, Some, None}
use Rattle.std.specs.Option.{option_and_then}
use Rattle.nb_login.specs.declared.info.LoginInfo.{LoginInfo}
use Rattle.nb_streams.specs.Streams.{front}
use Rattle.nb_talks.specs.Talking.{Came, by_task, Talk, talk_held}
use Rattle.nb_sans.specs.Sessions.{ReadTask, session_talker, session_capacity, session_chap, TaskAnswer, blocks_read, read_refused, read_short, tasks_taken, task_answers}
use Rattle.nb_machine.specs.Lives.{OpenInput, message, tcp_segment, time, task, close, Live}
use Rattle.nb_machine.specs.Connections.{came_on, Talking, connection_of, talk_of, KeepsTalk}

-- what came to a session: of all that comes from above, the tasks
abbrev pub input_to_session : OpenInput → List (Came ReadTask)
input_to_session (message rec port body now) = came_on (message rec port body now)
input_to_session (tcp_segment rec g now) = came_on (tcp_segment rec g now)
input_to_session (time now) = came_on (time now)
input_to_session (task t now) = by_task t now ∷ []
input_to_session (close cause) = came_on (close cause)

-- it speaks as it reads, and as tasks are asked of it
abbrev pub session_talking : LoginInfo → Talking ReadTask
session_talking i = record { talker = session_talker i; reads = input_to_session }

abbrev pub KeepsSession : ℕ → LoginInfo → Live → Type 0
KeepsSession isn i l = KeepsTalk (session_talking i) isn l

-- what has come of its stream, and the tasks that were asked of it
abbrev pub session_of : ℕ → LoginInfo → Live → Talk ReadTask
session_of isn i l = talk_of (session_talking i) (connection_of isn l) l.exchanges

-- What a drive has answered, once its capacity is known: its server, which kind of CHAP its login used, the number of its blocks, and how the
-- task that it took last was answered, if it was.
pub record DriveAnswer : Type 0 where
  pub server : ℕ
  pub chap : ℕ
  pub capacity : ℕ
  pub last : Option TaskAnswer

-- of as many tasks as were taken, the answer of the last
abbrev pub last_answer : List (ℕ × ℕ) → List TaskAnswer → Option TaskAnswer
last_answer taken answers = slice_get answers (length taken - 1)

abbrev pub drive_answer : ℕ → Option ℕ → Option ℕ → Option TaskAnswer → Option DriveAnswer
drive_answer server None capacity last = None
drive_answer server (Some chap) None last = None
drive_answer server (Some chap) (Some capacity) last = Some (record { server = server; chap = chap; capacity = capacity; last = last })

-- that of a server by what it has sent and was asked
abbrev pub session_answer : ℕ → LoginInfo → List ℕ → List (ReadTask × ℕ) → Option DriveAnswer
session_answer server i stream tasks =
    drive_answer server (session_chap i stream) (session_capacity i stream tasks) (last_answer (tasks_taken i stream tasks) (task_answers i stream tasks))

abbrev pub session_answered : ℕ → LoginInfo → Live → Option DriveAnswer
session_answered isn i l = let d = session_of isn i l in session_answer l.server i (front (talk_held isn d)) d.tasks

-- the read of a disk's first block, by which it is booted
abbrev pub first_block_read : ReadTask
first_block_read = record { lba = 0; blocks = 1 }

-- the bytes of a read, if it was answered by all of them
abbrev pub bytes_read : TaskAnswer → Option (List ℕ)
bytes_read (blocks_read bytes) = Some bytes
bytes_read (read_refused status) = None
bytes_read read_short = None

-- those of the read that a drive took last
abbrev pub last_read : DriveAnswer → Option (List ℕ)
last_read a = option_and_then bytes_read a.last
