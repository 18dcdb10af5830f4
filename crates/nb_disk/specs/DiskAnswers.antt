-- What a drive puts and how it ends, by what came (RFC 7143, sections 4.2.2, 11.3 and 11.18)
use Rattle.std.specs.Prelude.{ℕ, ◌+◌, ◌*◌, ◌==◌, ◌&&◌, ◌||◌, Bool, false, List, [], ◌∷◌, ◌++◌, length, nat_lt, Option, Some, None, if◌then◌else◌}
use Rattle.std.specs.Option.{option_map_or, is_some}
use Rattle.nb_terms.specs.declared.cause.Cause.{Cause}
use Rattle.nb_terms.specs.declared.reason.Reason.TheVariants as reason
use Rattle.nb_terms.specs.declared.acts.Acts.{Acts}
use Rattle.nb_terms.specs.Reasons.{as_cause}
use Rattle.nb_iscsipdu.specs.declared.command.Command.{Command}
use Rattle.nb_iscsipdu.specs.declared.command.Command.TheVariants.{TestUnitReady, ReadCapacity, Read}
use Rattle.nb_iscsipdu.specs.declared.answer.TaskStatus.{TaskStatus}
use Rattle.nb_iscsipdu.specs.declared.answer.NopIn.{NopIn}
use Rattle.nb_iscsipdu.specs.declared.answer.ScsiResponse.{ScsiResponse}
use Rattle.nb_iscsipdu.specs.PduTexts.{PduParts}
use Rattle.nb_iscsipdu.specs.Requests.{command_pdu, nop_pdu}
use Rattle.nb_iscsipdu.specs.Answers.{AnswerParts, DataInParts, login, scsi, data_in, nop_in, other, answer_read}
use Rattle.nb_login.specs.declared.session.Session.{Session}
use Rattle.nb_disk.specs.Histories.{DiskCall, came, asked, stream_ended, DiskReading, nothing_read, with_status, SessionNumbers, counted, fits, completes, after_call, at_work, capacity_of}

-- the numbers of a session
abbrev pub opened_of : Session → SessionNumbers
opened_of s = record { lun = s.info.lun; cmd_sn = s.cmd_sn; exp_stat_sn = s.exp_stat_sn; task = s.task }

-- what a call puts, the bytes of a read that it gives, and its end
pub record DiskAnswer : Type 0 where
  pub put : Option PduParts
  pub give : List ℕ
  pub over : Option Cause

abbrev pub no_answer : DiskAnswer
no_answer = record { put = None; give = []; over = None }

abbrev pub puts : PduParts → DiskAnswer
puts p = record { put = Some p; give = []; over = None }

abbrev pub gives : List ℕ → DiskAnswer
gives bytes = record { put = None; give = bytes; over = None }

abbrev pub ends : Cause → DiskAnswer
ends cause = record { put = None; give = []; over = Some cause }

abbrev pub broken : ℕ → Cause
broken rec = as_cause (reason.Broken rec)

abbrev pub refused_cause : ℕ → ℕ → Cause
refused_cause rec status = as_cause (reason.Refused rec status)

-- how many commands were put: each result answers one, and one may be at work
abbrev pub commands_put : DiskReading → ℕ
commands_put r = length r.results + (if is_some (at_work r) then 1 else 0)

-- one after the StatSN of the last status
abbrev pub expected_stat_sn : SessionNumbers → DiskReading → ℕ
expected_stat_sn o r = option_map_or (λ n. counted n 1) r.stat_sn o.exp_stat_sn

-- the command of a number, as it is put after what was read
abbrev pub command_after : SessionNumbers → DiskReading → ℕ → Command → PduParts
command_after o r k command = command_pdu (record { lun = o.lun; task_tag = counted o.task k; cmd_sn = counted o.cmd_sn k; exp_stat_sn = expected_stat_sn o r; command = command })

-- a NOP-In is answered where it has a tag; the answer is immediate, so the next command has its number too
abbrev pub nop_answer : SessionNumbers → DiskReading → NopIn → DiskAnswer
nop_answer o r n = if n.target_tag == 0xffffffff then no_answer
    else puts (nop_pdu (record { lun = n.lun; target_tag = n.target_tag; cmd_sn = counted o.cmd_sn (commands_put r); exp_stat_sn = expected_stat_sn o r }))

-- TEST UNIT READY was answered, after so many answers before: a check condition is answered by another one, the fourth refuses
abbrev pub tested : SessionNumbers → DiskReading → ℕ → ℕ → ℕ → DiskAnswer
tested o after rec before status =
    if status == 0 then puts (command_after o after (before + 1) ReadCapacity)
    else (if (status == 2) && nat_lt before 3 then puts (command_after o after (before + 1) TestUnitReady)
    else ends (refused_cause rec status))

abbrev pub sized : ℕ → List ℕ → ℕ → DiskAnswer
sized rec bytes status =
    if status == 0 then (if is_some (capacity_of bytes) then no_answer else ends (broken rec)) else ends (refused_cause rec status)

-- a read was answered: all bytes that were asked for must have come
abbrev pub have_read : ℕ → ℕ → ℕ → List ℕ → ℕ → DiskAnswer
have_read rec wanted got bytes status =
    if status == 0 then (if got + length bytes == wanted then gives bytes else ends (broken rec)) else ends (refused_cause rec status)

-- a status of the command at work comes, with these bytes
abbrev pub command_answered : SessionNumbers → DiskReading → ℕ → Command → List ℕ → TaskStatus → DiskAnswer
command_answered o r rec TestUnitReady bytes s = tested o (with_status r bytes s) rec (length r.results) s.status
command_answered o r rec ReadCapacity bytes s = sized rec (r.bytes ++ bytes) s.status
command_answered o r rec (Read lba blocks) bytes s = have_read rec (512 * blocks) (length r.bytes) bytes s.status

abbrev pub bytes_given : Command → List ℕ → List ℕ
bytes_given TestUnitReady bytes = []
bytes_given ReadCapacity bytes = []
bytes_given (Read lba blocks) bytes = bytes

abbrev pub bytes_answer : SessionNumbers → DiskReading → ℕ → Command → List ℕ → Option TaskStatus → DiskAnswer
bytes_answer o r rec command bytes None = gives (bytes_given command bytes)
bytes_answer o r rec command bytes (Some s) = command_answered o r rec command bytes s

abbrev pub data_answer : SessionNumbers → DiskReading → ℕ → Option Command → DataInParts → DiskAnswer
data_answer o r rec None d = ends (broken rec)
data_answer o r rec (Some command) d = if fits o r (Some command) d then bytes_answer o r rec command d.bytes d.status else ends (broken rec)

abbrev pub response_answer : SessionNumbers → DiskReading → ℕ → Option Command → ScsiResponse → DiskAnswer
response_answer o r rec None a = ends (broken rec)
response_answer o r rec (Some command) a = if completes o r (Some command) a then command_answered o r rec command [] a.status else ends (broken rec)

abbrev pub pdu_answer : SessionNumbers → DiskReading → ℕ → AnswerParts → DiskAnswer
pdu_answer o r rec (login a) = ends (broken rec)
pdu_answer o r rec (scsi a) = response_answer o r rec (at_work r) a
pdu_answer o r rec (data_in d) = data_answer o r rec (at_work r) d
pdu_answer o r rec (nop_in n) = nop_answer o r n
pdu_answer o r rec other = ends (broken rec)

-- what a call puts, gives and ends with, after what was read before
abbrev pub disk_answer : SessionNumbers → DiskReading → DiskCall → DiskAnswer
disk_answer o r (came rec p) = pdu_answer o r rec (answer_read p)
disk_answer o r (asked lba blocks) = puts (command_after o r (commands_put r) (Read lba blocks))
disk_answer o r (stream_ended rec) = ends (broken rec)

abbrev pub ended_from : SessionNumbers → DiskReading → List DiskCall → Bool
ended_from o r [] = false
ended_from o r (call ∷ calls) = is_some (disk_answer o r call).over || ended_from o (after_call o r call) calls

-- one of the calls ended the session
abbrev pub session_has_ended : SessionNumbers → List DiskCall → Bool
session_has_ended o calls = ended_from o nothing_read calls

-- the range of a PDU's bytes, its head and its data, that has so many bytes of data
abbrev pub data_range : ℕ → Option (ℕ × ℕ)
data_range len = if len == 0 then None else Some (48, 48 + len)

-- what an answer asks of the caller: it hands up the given bytes, which are the data of the PDU
abbrev pub disk_acts : DiskAnswer → Acts
disk_acts a = record { sends = record { items = [] }; tried = None; advance = None; give = data_range (length a.give); ready = false; over = a.over }

abbrev pub disk_asks_nothing : Acts
disk_asks_nothing = disk_acts no_answer
