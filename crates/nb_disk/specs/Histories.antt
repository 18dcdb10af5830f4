-- What comes to a drive's session, and how its tasks are answered by it (RFC 7143, sections 4.2 and 11.7)
use Rattle.std.specs.Prelude.{ℕ, ◌+◌, ◌%◌, ◌^◌, ◌==◌, ◌&&◌, Bool, false, List, [], ◌∷◌, ◌++◌, length, fold, nat_le, nat_lt, Option, Some, None, if◌then◌else◌}
use Rattle.nb_iscsipdu.specs.declared.command.Command.{Command}
use Rattle.nb_iscsipdu.specs.declared.command.Command.TheVariants.{TestUnitReady, ReadCapacity, Read}
use Rattle.nb_iscsipdu.specs.declared.answer.ScsiResponse.{ScsiResponse}
use Rattle.nb_iscsipdu.specs.declared.answer.TaskStatus.{TaskStatus}
use Rattle.nb_iscsipdu.specs.Commands.{asked_len}
use Rattle.nb_iscsipdu.specs.Heads.{word_at}
use Rattle.nb_iscsipdu.specs.PduTexts.{PduParts}
use Rattle.nb_iscsipdu.specs.Answers.{AnswerParts, DataInParts, login, scsi, data_in, nop_in, other, answer_read}

-- a PDU or the stream's end, with the number of the record that brought it, or a read that is asked for and put
pub data DiskCall : Type 0 where
  came : (rec : ℕ) (p : PduParts) → DiskCall
  asked : (lba blocks : ℕ) → DiskCall
  stream_ended : (rec : ℕ) → DiskCall

-- a task that was answered: all its data, in order, and the status
pub record TaskResult : Type 0 where
  pub bytes : List ℕ
  pub status : ℕ

-- the tasks that were answered, in order; the data of the one at work; StatSN of the last status; and the reads that were asked for
pub record DiskReading : Type 0 where
  pub results : List TaskResult
  pub bytes : List ℕ
  pub stat_sn : Option ℕ
  pub reads : List (ℕ × ℕ)

abbrev pub nothing_read : DiskReading
nothing_read = record { results = []; bytes = []; stat_sn = None; reads = [] }

abbrev pub with_status : DiskReading → List ℕ → TaskStatus → DiskReading
with_status r bytes s = record {
  results = r.results ++ (let result : TaskResult = record { bytes = r.bytes ++ bytes; status = s.status } in result) ∷ [];
  bytes = [];
  stat_sn = Some s.stat_sn;
  reads = r.reads;
}

abbrev pub with_bytes : DiskReading → List ℕ → Option TaskStatus → DiskReading
with_bytes r bytes None = record { results = r.results; bytes = r.bytes ++ bytes; stat_sn = r.stat_sn; reads = r.reads }
with_bytes r bytes (Some s) = with_status r bytes s

-- Each result answers one command, in order. The commands are TEST UNIT READY until its status is good, then READ CAPACITY, then the
-- reads as they were asked for. The first of them without a result is at work.
abbrev pub read_at_work : List TaskResult → List (ℕ × ℕ) → Option Command
read_at_work rs [] = None
read_at_work [] (read ∷ reads) = Some (Read read.0 read.1)
read_at_work (r ∷ rs) (read ∷ reads) = read_at_work rs reads

abbrev pub after_ready : List TaskResult → List (ℕ × ℕ) → Option Command
after_ready [] reads = Some ReadCapacity
after_ready (r ∷ rs) reads = read_at_work rs reads

abbrev pub command_at_work : List TaskResult → List (ℕ × ℕ) → Option Command
command_at_work [] reads = Some TestUnitReady
command_at_work (r ∷ rs) reads = if r.status == 0 then after_ready rs reads else command_at_work rs reads

abbrev pub at_work : DiskReading → Option Command
at_work r = command_at_work r.results r.reads

-- the numbers with which the session was opened: the unit, and those of the first command
pub record SessionNumbers : Type 0 where
  pub lun : List ℕ
  pub cmd_sn : ℕ
  pub exp_stat_sn : ℕ
  pub task : ℕ

-- a number that counts on, of 32 bits (RFC 1982)
abbrev pub counted : ℕ → ℕ → ℕ
counted first k = (first + k) % 2 ^ 32

-- the tag of the command at work
abbrev pub tag_at_work : SessionNumbers → DiskReading → ℕ
tag_at_work o r = counted o.task (length r.results)

-- the target completed the command at work
abbrev pub completes : SessionNumbers → DiskReading → Option Command → ScsiResponse → Bool
completes o r None a = false
completes o r (Some command) a = (a.task_tag == tag_at_work o r) && (a.response == 0)

-- data of the command at work is the next, without a gap, and no more than was asked for
abbrev pub fits : SessionNumbers → DiskReading → Option Command → DataInParts → Bool
fits o r None d = false
fits o r (Some command) d = (d.task_tag == tag_at_work o r) && ((d.offset == length r.bytes) && nat_le (length r.bytes + length d.bytes) (asked_len command))

-- data goes on the task at work, and a status ends it
abbrev pub after_answer : SessionNumbers → DiskReading → AnswerParts → DiskReading
after_answer o r (login a) = r
after_answer o r (scsi a) = if completes o r (at_work r) a then with_status r [] a.status else r
after_answer o r (data_in d) = if fits o r (at_work r) d then with_bytes r d.bytes d.status else r
after_answer o r (nop_in n) = r
after_answer o r other = r

abbrev pub after_call : SessionNumbers → DiskReading → DiskCall → DiskReading
after_call o r (came rec p) = after_answer o r (answer_read p)
after_call o r (asked lba blocks) = record { results = r.results; bytes = r.bytes; stat_sn = r.stat_sn; reads = r.reads ++ (lba, blocks) ∷ [] }
after_call o r (stream_ended rec) = r

-- all that was read of these calls
abbrev pub reading : SessionNumbers → List DiskCall → DiskReading
reading o calls = fold (after_call o) nothing_read calls

-- READ CAPACITY(10): the last block and the block length, which must be 512. FFFFFFFF says that there are more blocks than it can say.
abbrev pub capacity_by : ℕ → ℕ → Option ℕ
capacity_by last len = if (len == 512) && nat_lt last 0xffffffff then Some (last + 1) else None

abbrev pub capacity_of : List ℕ → Option ℕ
capacity_of bytes = if length bytes == 8 then capacity_by (word_at 0 bytes) (word_at 4 bytes) else None

abbrev pub first_capacity : List TaskResult → Option ℕ
first_capacity [] = None
first_capacity (r ∷ rs) = if r.status == 0 then capacity_of r.bytes else None

-- the capacity, by the result of READ CAPACITY: the one after the first good one
abbrev pub capacity_in : List TaskResult → Option ℕ
capacity_in [] = None
capacity_in (r ∷ rs) = if r.status == 0 then first_capacity rs else capacity_in rs

abbrev pub capacity_read : DiskReading → Option ℕ
capacity_read r = capacity_in r.results
