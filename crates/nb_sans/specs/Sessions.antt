-- RFC 7143: what a session with a target says on its connection and how it ends, by the stream that has come and the reads asked for
use Rattle.std.specs.Prelude.{ℕ, ◌*◌, ◌==◌, ◌&&◌, ◌||◌, not, Bool, true, List, [], ◌∷◌, ◌++◌, length, take, drop, map, max, nat_le, nat_lt, Option, Some, None, option_map, if◌then◌else◌}
use Rattle.std.specs.Option.{option_or, is_some}
use Rattle.nb_terms.specs.declared.cause.Cause.{Cause}
use Rattle.nb_talks.specs.Talking.{Talker}
use Rattle.nb_iscsipdu.specs.declared.command.Command.TheVariants.{TestUnitReady}
use Rattle.nb_iscsipdu.specs.PduTexts.{PduParts, pdu_text}
use Rattle.nb_iscsipdu.specs.Streams.{Cut, cut, is_refused}
use Rattle.nb_login.specs.declared.info.LoginInfo.{LoginInfo}
use Rattle.nb_login.specs.declared.session.Session.{Session}
use Rattle.nb_login.specs.LoginHistory.{PduCame, pdu_came, LoginEntry, end_given, last_done, login_ended}
use Rattle.nb_login.specs.LoginStands.{session_opened}
use Rattle.nb_login.specs.Logins.{login_history, login_said}
use Rattle.nb_disk.specs.Histories.{DiskCall, came, asked, stream_ended, TaskResult, DiskReading, nothing_read, SessionNumbers, after_call, reading, at_work, capacity_read}
use Rattle.nb_disk.specs.DiskAnswers.{opened_of, broken, command_after, disk_answer}
use Rattle.nb_disk.specs.DiskStands.{is_out}

-- so many blocks from this one on are asked for
pub record ReadTask : Type 0 where
  pub lba : ℕ
  pub blocks : ℕ

-- THE STREAM. It is read as if one record had brought all of it: no text shows a record's number, and an end shows that of the
-- record at hand.

abbrev pub last_part : ℕ → List ℕ → List DiskCall
last_part rec rest = if is_refused rest then stream_ended rec ∷ [] else []

-- its PDUs, and where bytes follow with which none begins, that no further one comes
abbrev pub parts_of_cut : ℕ → Cut → List DiskCall
parts_of_cut rec c = map (came rec) c.pdus ++ last_part rec c.rest

abbrev pub stream_parts : ℕ → List ℕ → List DiskCall
stream_parts rec stream = parts_of_cut rec (cut stream)

-- THE LOGIN

abbrev pub pdus_came : ℕ → List ℕ → List PduCame
pdus_came rec stream = map (pdu_came rec) (cut stream).pdus

-- it takes PDUs until one of them ends it
abbrev pub login_so_far : ℕ → LoginInfo → List ℕ → List LoginEntry
login_so_far rec i stream = login_history i (pdus_came rec stream)

-- once it has ended, the session that it has opened, or else its end
abbrev pub session_come : ℕ → LoginInfo → List ℕ → Option Session
session_come rec i stream = if login_ended (login_so_far rec i stream) then session_opened i (login_so_far rec i stream) else None

abbrev pub login_over : ℕ → LoginInfo → List ℕ → Option Cause
login_over rec i stream = if login_ended (login_so_far rec i stream) then end_given (last_done (login_so_far rec i stream)) else None

-- THE DRIVE

-- What comes to it: the parts of the stream from this one on, and each task after those that had come when it was asked. A task
-- of a place that the stream hasn't come to isn't asked yet.
abbrev pub comes_from : ℕ → List ℕ → ℕ → List (ReadTask × ℕ) → List DiskCall
comes_from rec stream done [] = drop done (stream_parts rec stream)
comes_from rec stream done (t ∷ tasks) =
    if nat_le t.1 (length stream)
    then (let before = stream_parts rec (take t.1 stream) in
    drop done before ++ asked t.0.lba t.0.blocks ∷ comes_from rec stream (max done (length before)) tasks)
    else drop done (stream_parts rec stream)

-- all that comes after the login
abbrev pub drive_comes : ℕ → LoginInfo → List ℕ → List (ReadTask × ℕ) → List DiskCall
drive_comes rec i stream tasks = comes_from rec stream (length (login_so_far rec i stream)) tasks

-- a read is taken of at most 64 blocks within the disk, while no command is at work; others aren't put
abbrev pub takes_read : DiskReading → ℕ → ℕ → Bool
takes_read r lba n = (nat_lt 0 n && nat_le n 64) && (not (is_out r lba n) && not (is_some (at_work r)))

abbrev pub is_call : DiskReading → DiskCall → Bool
is_call r (came rec p) = true
is_call r (asked lba n) = takes_read r lba n
is_call r (stream_ended rec) = true

-- the calls of the drive among what comes, after what was read before: up to the one that ends it
abbrev pub taken_from : SessionNumbers → DiskReading → List DiskCall → List DiskCall
taken_from o r [] = []
taken_from o r (call ∷ calls) =
    if is_call r call
    then call ∷ (if is_some (disk_answer o r call).over then [] else taken_from o (after_call o r call) calls)
    else taken_from o r calls

abbrev pub drive_calls : ℕ → LoginInfo → List ℕ → List (ReadTask × ℕ) → Session → List DiskCall
drive_calls rec i stream tasks s = taken_from (opened_of s) nothing_read (drive_comes rec i stream tasks)

-- WHAT IS SAID

abbrev pub text_of_put : Option PduParts → List ℕ
text_of_put None = []
text_of_put (Some p) = pdu_text p

abbrev pub puts_from : SessionNumbers → DiskReading → List DiskCall → List ℕ
puts_from o r [] = []
puts_from o r (call ∷ calls) = text_of_put (disk_answer o r call).put ++ puts_from o (after_call o r call) calls

abbrev pub opening_command : Session → List ℕ
opening_command s = pdu_text (command_after (opened_of s) nothing_read 0 TestUnitReady)

-- the first command, and what each call puts
abbrev pub drive_said : Session → List DiskCall → List ℕ
drive_said s calls = opening_command s ++ puts_from (opened_of s) nothing_read calls

abbrev pub said_after_login : LoginInfo → List ℕ → List (ReadTask × ℕ) → Option Session → List ℕ
said_after_login i stream tasks None = []
said_after_login i stream tasks (Some s) = drive_said s (drive_calls 0 i stream tasks s)

abbrev pub session_says : LoginInfo → List ℕ → Bool → List (ReadTask × ℕ) → List ℕ
session_says i stream ended tasks = login_said i (pdus_came 0 stream) ++ said_after_login i stream tasks (session_come 0 i stream)

-- HOW IT ENDS

abbrev pub over_from : SessionNumbers → DiskReading → List DiskCall → Option Cause
over_from o r [] = None
over_from o r (call ∷ calls) = option_or (disk_answer o r call).over (over_from o (after_call o r call) calls)

-- so, or where a PDU is lacking
abbrev pub over_or_short : ℕ → Bool → Option Cause → Option Cause
over_or_short rec short over = option_or over (if short then Some (broken rec) else None)

abbrev pub session_end_by : ℕ → LoginInfo → List ℕ → Bool → List (ReadTask × ℕ) → Option Session → Option Cause
session_end_by rec i stream ended tasks None = over_or_short rec (ended || is_refused (cut stream).rest) (login_over rec i stream)
session_end_by rec i stream ended tasks (Some s) = over_or_short rec ended (over_from (opened_of s) nothing_read (drive_calls rec i stream tasks s))

abbrev pub session_end : ℕ → LoginInfo → List ℕ → Bool → List (ReadTask × ℕ) → Option Cause
session_end rec i stream ended tasks = session_end_by rec i stream ended tasks (session_come rec i stream)

-- THE TALKER of an open that is a drive's session
abbrev pub session_talker : LoginInfo → Talker ReadTask
session_talker i = record {
  says = session_says i;
  ends = λ rec stream ended tasks. session_end rec i stream ended tasks;
}

-- WHAT IT HAS READ

abbrev pub read_by : LoginInfo → List ℕ → List (ReadTask × ℕ) → Option Session → DiskReading
read_by i stream tasks None = nothing_read
read_by i stream tasks (Some s) = reading (opened_of s) (drive_calls 0 i stream tasks s)

abbrev pub session_reading : LoginInfo → List ℕ → List (ReadTask × ℕ) → DiskReading
session_reading i stream tasks = read_by i stream tasks (session_come 0 i stream)

-- which kind of CHAP the login used
abbrev pub session_chap : LoginInfo → List ℕ → Option ℕ
session_chap i stream = option_map (λ (s : Session). s.chap) (session_come 0 i stream)

abbrev pub session_capacity : LoginInfo → List ℕ → List (ReadTask × ℕ) → Option ℕ
session_capacity i stream tasks = capacity_read (session_reading i stream tasks)

-- a read that was taken is answered by all its bytes, by another status, or by good status without all of them
pub data TaskAnswer : Type 0 where
  blocks_read : (bytes : List ℕ) → TaskAnswer
  read_refused : (status : ℕ) → TaskAnswer
  read_short : TaskAnswer

abbrev pub task_answer : ℕ → TaskResult → TaskAnswer
task_answer blocks result =
    if result.status == 0
    then (if length result.bytes == 512 * blocks then blocks_read result.bytes else read_short)
    else read_refused result.status

-- the results of the reads: those after READ CAPACITY's, which is the one after the first good one
abbrev pub read_results : List TaskResult → List TaskResult
read_results [] = []
read_results (result ∷ results) = if result.status == 0 then drop 1 results else read_results results

abbrev pub answers_of : List (ℕ × ℕ) → List TaskResult → List TaskAnswer
answers_of [] results = []
answers_of (read ∷ reads) [] = []
answers_of (read ∷ reads) (result ∷ results) = task_answer read.1 result ∷ answers_of reads results

-- the tasks that were taken, each by its first block and how many, and the answers of the first of them
abbrev pub tasks_taken : LoginInfo → List ℕ → List (ReadTask × ℕ) → List (ℕ × ℕ)
tasks_taken i stream tasks = (session_reading i stream tasks).reads

abbrev pub task_answers : LoginInfo → List ℕ → List (ReadTask × ℕ) → List TaskAnswer
task_answers i stream tasks = answers_of (tasks_taken i stream tasks) (read_results (session_reading i stream tasks).results)
