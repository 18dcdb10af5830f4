-- Why a PDU ends a drive's session: each cause stands in what came, and there is no other (RFC 7143, sections 4.2, 11.4 and 11.7)
use Rattle.std.specs.Prelude.{◌≡◌, ◌<◌, ◌≤◌, ◌≢◌, ℕ, ◌+◌, List, [], ◌++◌, length, Some, None}
use Rattle.nb_terms.specs.declared.cause.Cause.{Cause}
use Rattle.nb_iscsipdu.specs.declared.command.Command.{Command}
use Rattle.nb_iscsipdu.specs.declared.command.Command.TheVariants.{TestUnitReady, ReadCapacity, Read}
use Rattle.nb_iscsipdu.specs.declared.answer.TaskStatus.{TaskStatus}
use Rattle.nb_iscsipdu.specs.declared.answer.ScsiResponse.{ScsiResponse}
use Rattle.nb_iscsipdu.specs.Commands.{asked_len}
use Rattle.nb_iscsipdu.specs.Answers.{AnswerParts, DataInParts, LoginResponseParts, login, scsi, data_in, other}
use Rattle.nb_disk.specs.Histories.{DiskReading, SessionNumbers, tag_at_work, at_work, capacity_of}
use Rattle.nb_disk.specs.DiskAnswers.{broken, refused_cause}

-- a status of the command at work comes, with these bytes of data at last
pub data EndsTask (o : SessionNumbers) (r : DiskReading) (command : Command) : AnswerParts → List ℕ → TaskStatus → Type 0 where
  by_response : (a : ScsiResponse) → a.task_tag ≡ tag_at_work o r → a.response ≡ 0 → EndsTask o r command (scsi a) [] a.status
  by_data : (d : DataInParts) (s : TaskStatus) → d.task_tag ≡ tag_at_work o r → d.offset ≡ length r.bytes → length r.bytes + length d.bytes ≤ asked_len command
      → d.status ≡ Some s → EndsTask o r command (data_in d) d.bytes s

-- a good status doesn't say what it should
abbrev pub IsUnsound : Command → List ℕ → Type 0
IsUnsound TestUnitReady bytes = ⊥
IsUnsound ReadCapacity bytes = capacity_of bytes ≡ None
IsUnsound (Read lba blocks) bytes = length bytes ≢ asked_len (Read lba blocks)

-- a check condition that is answered by another TEST UNIT READY: one of the first three
abbrev pub IsPatient : DiskReading → Command → ℕ → Type 0
IsPatient r TestUnitReady status = (status ≡ 2) × (length r.results < 3)
IsPatient r ReadCapacity status = ⊥
IsPatient r (Read lba blocks) status = ⊥

pub data DiskEnding (o : SessionNumbers) (r : DiskReading) (rec : ℕ) (a : AnswerParts) (cause : Cause) : Type 0 where
  -- a PDU of another kind
  by_login : (l : LoginResponseParts) → a ≡ login l → cause ≡ broken rec → DiskEnding o r rec a cause
  by_other : a ≡ other → cause ≡ broken rec → DiskEnding o r rec a cause
  -- no command is at work
  by_idle_response : (s : ScsiResponse) → a ≡ scsi s → at_work r ≡ None → cause ≡ broken rec → DiskEnding o r rec a cause
  by_idle_data : (d : DataInParts) → a ≡ data_in d → at_work r ≡ None → cause ≡ broken rec → DiskEnding o r rec a cause
  -- it is of another command, or the target didn't complete the command
  by_tag_of_response : (s : ScsiResponse) → a ≡ scsi s → s.task_tag ≢ tag_at_work o r → cause ≡ broken rec → DiskEnding o r rec a cause
  by_failed_response : (s : ScsiResponse) → a ≡ scsi s → s.response ≢ 0 → cause ≡ broken rec → DiskEnding o r rec a cause
  by_tag_of_data : (d : DataInParts) → a ≡ data_in d → d.task_tag ≢ tag_at_work o r → cause ≡ broken rec → DiskEnding o r rec a cause
  -- data isn't the next, or more than was asked for
  by_offset : (d : DataInParts) → a ≡ data_in d → d.offset ≢ length r.bytes → cause ≡ broken rec → DiskEnding o r rec a cause
  by_excess : (d : DataInParts) (command : Command) → a ≡ data_in d → at_work r ≡ Some command → asked_len command < length r.bytes + length d.bytes
      → cause ≡ broken rec → DiskEnding o r rec a cause
  -- good status where not all bytes came, or where the capacity can't be taken
  by_unsound : (command : Command) (bytes : List ℕ) (s : TaskStatus) → at_work r ≡ Some command → EndsTask o r command a bytes s → s.status ≡ 0
      → IsUnsound command (r.bytes ++ bytes) → cause ≡ broken rec → DiskEnding o r rec a cause
  -- another status, but a check condition that is answered
  by_status : (command : Command) (bytes : List ℕ) (s : TaskStatus) → at_work r ≡ Some command → EndsTask o r command a bytes s → 0 < s.status
      → (IsPatient r command s.status → ⊥) → cause ≡ refused_cause rec s.status → DiskEnding o r rec a cause
