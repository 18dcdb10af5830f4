-- What an honest target serves of a disk (RFC 7143, section 11.7; SBC-3, sections 5.8 and 5.15)
use Rattle.std.specs.Prelude.{◌≡◌, ◌<◌, ◌+◌, ◌-◌, ◌*◌, ◌/◌, ◌^◌, ℕ, List, [], ◌∷◌, ◌++◌, length, take, drop, min, Some}
use Rattle.std.specs.Int.{w32, to_be_bytes}
use Rattle.nb_streams.specs.Streams.{front}
use Rattle.nb_streams.specs.Flows.{TcpCall, asking, held_after}
use Rattle.nb_streams.specs.Carrying.{Carry}
use Rattle.nb_iscsipdu.specs.declared.command.Command.{Command}
use Rattle.nb_iscsipdu.specs.declared.command.Command.TheVariants.{TestUnitReady, ReadCapacity, Read}
use Rattle.nb_iscsipdu.specs.declared.answer.TaskStatus.{TaskStatus}
use Rattle.nb_iscsipdu.specs.Commands.{asked_len}
use Rattle.nb_iscsipdu.specs.Answers.{AnswerParts, DataInParts, login, scsi, data_in, nop_in, other, answer_read}
use Rattle.nb_login.specs.declared.info.LoginInfo.{LoginInfo}
use Rattle.nb_login.specs.declared.session.Session.{Session}
use Rattle.nb_disk.specs.Histories.{DiskCall, came, asked, stream_ended, DiskReading, nothing_read, SessionNumbers, tag_at_work, after_call, at_work}
use Rattle.nb_disk.specs.DiskAnswers.{opened_of}
use Rattle.nb_sans.specs.Sessions.{ReadTask, session_come, drive_calls, session_capacity, TaskAnswer, blocks_read, read_refused, read_short, tasks_taken, task_answers}

-- a disk has whole blocks, at least one
pub record IsDisk (disk : List ℕ) : Type 0 where
  pub blocks : ℕ
  pub some : 0 < blocks
  pub whole : length disk ≡ 512 * blocks

-- The number of its last block and the length of a block. Where that number has more than 32 bits, FFFFFFFF stands for it.
abbrev pub capacity_data : List ℕ → List ℕ
capacity_data disk = to_be_bytes w32 (min (length disk / 512 - 1) 0xffffffff) ++ to_be_bytes w32 512

-- the bytes of which a command asks for the first ones: a read for those from its first block on
abbrev pub data_for : List ℕ → Command → List ℕ
data_for disk TestUnitReady = []
data_for disk ReadCapacity = capacity_data disk
data_for disk (Read lba blocks) = drop (512 * lba) disk

-- the bytes stand at this place
pub record StandAt (all : List ℕ) (place : ℕ) (bytes : List ℕ) : Type 0 where
  pub rest : List ℕ
  pub is : drop place all ≡ bytes ++ rest

-- Data of the command at work stand at their offset, and have a good status only where they are the last of all that was asked for.
pub record ServesData (disk : List ℕ) (r : DiskReading) (command : Command) (d : DataInParts) : Type 0 where
  pub stand : StandAt (data_for disk command) d.offset d.bytes
  pub all : (s : TaskStatus) → d.status ≡ Some s → s.status ≡ 0 → length r.bytes + length d.bytes ≡ asked_len command

-- a PDU that comes after this was read; of another task, it may be any
abbrev pub ServesAnswer : List ℕ → SessionNumbers → DiskReading → AnswerParts → Type 0
ServesAnswer disk o r (login a) = Unit {0}
ServesAnswer disk o r (scsi a) = (command : Command) → at_work r ≡ Some command → a.task_tag ≡ tag_at_work o r → a.status.status ≡ 0 → length r.bytes ≡ asked_len command
ServesAnswer disk o r (data_in d) = (command : Command) → at_work r ≡ Some command → d.task_tag ≡ tag_at_work o r → ServesData disk r command d
ServesAnswer disk o r (nop_in n) = Unit {0}
ServesAnswer disk o r other = Unit {0}

abbrev pub ServesCall : List ℕ → SessionNumbers → DiskReading → DiskCall → Type 0
ServesCall disk o r (came rec p) = ServesAnswer disk o r (answer_read p)
ServesCall disk o r (asked lba blocks) = Unit {0}
ServesCall disk o r (stream_ended rec) = Unit {0}

-- each PDU among these calls does
abbrev pub ServesCalls : List ℕ → SessionNumbers → DiskReading → List DiskCall → Type 0
ServesCalls disk o r [] = Unit {0}
ServesCalls disk o r (call ∷ calls) = ServesCall disk o r call × ServesCalls disk o (after_call o r call) calls

-- A target is honest to a connection of these tasks: one stream is carried, and the PDUs of the session in it serve the disk.
pub record ServesDisk (disk : List ℕ) (i : LoginInfo) (isn : ℕ) (calls : List TcpCall) (tasks : List (ReadTask × ℕ)) : Type 0 where
  pub stream : List ℕ
  pub short : length stream < 2 ^ 31 - 1
  pub carried : Carry stream isn (asking []) calls
  pub serves : (s : Session) → session_come 0 i stream ≡ Some s → ServesCalls disk (opened_of s) nothing_read (drive_calls 0 i stream tasks s)

-- a good answer to a read is its blocks of the disk, byte for byte; none is short
abbrev pub IsOfDisk : List ℕ → ℕ × ℕ → TaskAnswer → Type 0
IsOfDisk disk read (blocks_read bytes) = bytes ≡ take (512 * read.1) (drop (512 * read.0) disk)
IsOfDisk disk read (read_refused status) = Unit {0}
IsOfDisk disk read read_short = ⊥

-- each answer is that of the read in its place
abbrev pub AreOfDisk : List ℕ → List (ℕ × ℕ) → List TaskAnswer → Type 0
AreOfDisk disk reads [] = Unit {0}
AreOfDisk disk [] (answer ∷ answers) = ⊥
AreOfDisk disk (read ∷ reads) (answer ∷ answers) = IsOfDisk disk read answer × AreOfDisk disk reads answers

-- what of its stream has come
abbrev pub stream_come : ℕ → List TcpCall → List ℕ
stream_come isn calls = front (held_after isn calls)

-- Of an honest target, whatever has come, each good answer is the disk's blocks, and the capacity is the disk's.
abbrev pub HonestAnswersAreTheDisks : Type 0
HonestAnswersAreTheDisks = (disk : List ℕ) (i : LoginInfo) (isn : ℕ) (calls : List TcpCall) (tasks : List (ReadTask × ℕ)) → ServesDisk disk i isn calls tasks
    → AreOfDisk disk (tasks_taken i (stream_come isn calls) tasks) (task_answers i (stream_come isn calls) tasks)

abbrev pub HonestCapacitiesAreTheDisks : Type 0
HonestCapacitiesAreTheDisks = (disk : List ℕ) (i : LoginInfo) (isn : ℕ) (calls : List TcpCall) (tasks : List (ReadTask × ℕ)) (blocks : ℕ) → IsDisk disk → ServesDisk disk i isn calls tasks
    → session_capacity i (stream_come isn calls) tasks ≡ Some blocks → 512 * blocks ≡ length disk
