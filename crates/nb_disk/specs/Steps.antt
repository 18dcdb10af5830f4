-- What a step of a disk comes to, by what it keeps
use Rattle.std.specs.Prelude.{◌≡◌, ◌≤◌, ◌<◌, ⊤, ℕ, ◌+◌, ◌*◌, ◌^◌, ◌==◌, ◌&&◌, Bool, true, false, List, [], ◌++◌, length, nat_le, nat_lt, Option, Some, None, if◌then◌else◌}
use Rattle.std.specs.Option.{option_map}
use Rattle.nb_terms.specs.declared.cause.Cause.{Cause}
use Rattle.nb_terms.specs.declared.acts.Acts.{Acts}
use Rattle.nb_iscsipdu.specs.declared.command.Command.{Command}
use Rattle.nb_iscsipdu.specs.declared.command.Command.TheVariants.{TestUnitReady, ReadCapacity, Read}
use Rattle.nb_iscsipdu.specs.declared.answer.TaskStatus.{TaskStatus}
use Rattle.nb_iscsipdu.specs.declared.answer.NopIn.{NopIn}
use Rattle.nb_iscsipdu.specs.declared.answer.ScsiResponse.{ScsiResponse}
use Rattle.nb_iscsipdu.specs.PduTexts.{PduParts, pdu_text}
use Rattle.nb_iscsipdu.specs.Requests.{command_pdu, nop_pdu}
use Rattle.nb_iscsipdu.specs.Answers.{AnswerParts, DataInParts, login, scsi, data_in, nop_in, other}
use Rattle.nb_disk.specs.declared.work.Work.{Work}
use Rattle.nb_disk.specs.declared.work.Work.TheVariants.{Testing, Sizing, Idle, Reading, Over}
use Rattle.nb_disk.specs.declared.kept.State.{State}
use Rattle.nb_disk.specs.Histories.{counted, capacity_of}
use Rattle.nb_disk.specs.DiskAnswers.{DiskAnswer, no_answer, puts, gives, ends, broken, refused_cause, disk_acts}

-- what is kept, without where it lies in memory
pub record KeptNumbers : Type 0 where
  pub lun : List ℕ
  pub cmd_sn : ℕ
  pub exp_stat_sn : ℕ
  pub task : ℕ
  pub work : Work
  pub sized : List ℕ

abbrev pub kept_of : State → KeptNumbers
kept_of s = record { lun = s.lun; cmd_sn = s.cmd_sn; exp_stat_sn = s.exp_stat_sn; task = s.task; work = s.work; sized = s.sized.items }

abbrev pub work_is_over : Work → Bool
work_is_over (Testing checks) = false
work_is_over Sizing = false
work_is_over (Idle capacity) = false
work_is_over (Reading capacity asked got) = false
work_is_over (Over capacity) = true

abbrev pub work_capacity : Work → Option ℕ
work_capacity (Testing checks) = None
work_capacity Sizing = None
work_capacity (Idle capacity) = Some capacity
work_capacity (Reading capacity asked got) = Some capacity
work_capacity (Over capacity) = capacity

abbrev pub next_command : KeptNumbers → ℕ → Command → PduParts
next_command k exp_stat_sn command = command_pdu (record { lun = k.lun; task_tag = counted k.task 1; cmd_sn = k.cmd_sn; exp_stat_sn = exp_stat_sn; command = command })

abbrev pub nop_of : KeptNumbers → NopIn → PduParts
nop_of k n = nop_pdu (record { lun = n.lun; target_tag = n.target_tag; cmd_sn = k.cmd_sn; exp_stat_sn = k.exp_stat_sn })

-- what is kept after a step, and what it puts, gives and ends with
pub record DiskStep : Type 0 where
  pub kept : KeptNumbers
  pub answer : DiskAnswer

abbrev pub step_none : KeptNumbers → DiskStep
step_none k = record { kept = k; answer = no_answer }

abbrev pub step_ends : KeptNumbers → Cause → DiskStep
step_ends k cause = record {
  kept = record { lun = k.lun; cmd_sn = k.cmd_sn; exp_stat_sn = k.exp_stat_sn; task = k.task; work = Over (work_capacity k.work); sized = k.sized };
  answer = ends cause;
}

abbrev pub kept_putting : KeptNumbers → ℕ → Work → KeptNumbers
kept_putting k exp_stat_sn work = record { lun = k.lun; cmd_sn = counted k.cmd_sn 1; exp_stat_sn = exp_stat_sn; task = counted k.task 1; work = work; sized = k.sized }

-- the work once so many blocks are asked for, where nothing is at work
abbrev pub work_asked : Work → ℕ → Work
work_asked (Testing checks) n = Testing checks
work_asked Sizing n = Sizing
work_asked (Idle capacity) n = Reading capacity (512 * n) 0
work_asked (Reading capacity asked got) n = Reading capacity asked got
work_asked (Over capacity) n = Over capacity

-- the text by which so many blocks are asked for, from this one on, and what is kept then
abbrev pub read_text : KeptNumbers → ℕ → ℕ → List ℕ
read_text k lba n = pdu_text (next_command k k.exp_stat_sn (Read lba n))

abbrev pub kept_asked : KeptNumbers → ℕ → ℕ → KeptNumbers
kept_asked k lba n = kept_putting k k.exp_stat_sn (work_asked k.work n)

-- a command is put after an answer before the one of this number, and the work is this
abbrev pub step_puts : KeptNumbers → ℕ → Command → Work → DiskStep
step_puts k exp_stat_sn command work = record {
  kept = kept_putting k exp_stat_sn work;
  answer = puts (next_command k exp_stat_sn command);
}

abbrev pub step_tested : KeptNumbers → ℕ → ℕ → TaskStatus → DiskStep
step_tested k rec checks s =
    if s.status == 0 then step_puts k (counted s.stat_sn 1) ReadCapacity Sizing
    else (if (s.status == 2) && nat_lt checks 3 then step_puts k (counted s.stat_sn 1) TestUnitReady (Testing (checks + 1))
    else step_ends k (refused_cause rec s.status))

-- nothing is at work after an answer of that number, on a disk of so many blocks
abbrev pub kept_idle : KeptNumbers → TaskStatus → ℕ → KeptNumbers
kept_idle k s capacity = record { lun = k.lun; cmd_sn = k.cmd_sn; exp_stat_sn = counted s.stat_sn 1; task = k.task; work = Idle capacity; sized = k.sized }

abbrev pub step_idle : KeptNumbers → TaskStatus → ℕ → List ℕ → DiskStep
step_idle k s capacity bytes = record { kept = kept_idle k s capacity; answer = gives bytes }

abbrev pub kept_sized : KeptNumbers → List ℕ → KeptNumbers
kept_sized k size = record { lun = k.lun; cmd_sn = k.cmd_sn; exp_stat_sn = k.exp_stat_sn; task = k.task; work = k.work; sized = size }

abbrev pub step_capacity : KeptNumbers → ℕ → TaskStatus → Option ℕ → DiskStep
step_capacity k rec s None = step_ends k (broken rec)
step_capacity k rec s (Some capacity) = step_idle k s capacity []

abbrev pub step_sized : KeptNumbers → ℕ → List ℕ → TaskStatus → DiskStep
step_sized k rec bytes s =
    if s.status == 0 then step_capacity (kept_sized k (k.sized ++ bytes)) rec s (capacity_of (k.sized ++ bytes)) else step_ends k (refused_cause rec s.status)

abbrev pub step_read : KeptNumbers → ℕ → ℕ → ℕ → ℕ → List ℕ → TaskStatus → DiskStep
step_read k rec capacity asked got bytes s =
    if s.status == 0 then (if got + length bytes == asked then step_idle k s capacity bytes else step_ends k (broken rec))
    else step_ends k (refused_cause rec s.status)

abbrev pub step_answered : KeptNumbers → ℕ → Work → List ℕ → TaskStatus → DiskStep
step_answered k rec (Testing checks) bytes s = step_tested k rec checks s
step_answered k rec Sizing bytes s = step_sized k rec bytes s
step_answered k rec (Idle capacity) bytes s = step_ends k (broken rec)
step_answered k rec (Reading capacity asked got) bytes s = step_read k rec capacity asked got bytes s
step_answered k rec (Over capacity) bytes s = step_ends k (broken rec)

abbrev pub with_work : KeptNumbers → Work → KeptNumbers
with_work k work = record { lun = k.lun; cmd_sn = k.cmd_sn; exp_stat_sn = k.exp_stat_sn; task = k.task; work = work; sized = k.sized }

-- data comes without a status
abbrev pub step_grown : KeptNumbers → Work → List ℕ → DiskStep
step_grown k (Testing checks) bytes = step_none k
step_grown k Sizing bytes = step_none (kept_sized k (k.sized ++ bytes))
step_grown k (Idle capacity) bytes = step_none k
step_grown k (Reading capacity asked got) bytes = record { kept = with_work k (Reading capacity asked (got + length bytes)); answer = gives bytes }
step_grown k (Over capacity) bytes = step_none k

abbrev pub step_bytes : KeptNumbers → ℕ → Work → List ℕ → Option TaskStatus → DiskStep
step_bytes k rec work bytes None = step_grown k work bytes
step_bytes k rec work bytes (Some s) = step_answered k rec work bytes s

-- so many bytes were asked for, and so many have come
abbrev pub fits_work : KeptNumbers → Work → DataInParts → Bool
fits_work k (Testing checks) d = (d.offset == 0) && nat_le (0 + length d.bytes) 0
fits_work k Sizing d = (d.offset == length k.sized) && nat_le (length k.sized + length d.bytes) 8
fits_work k (Idle capacity) d = false
fits_work k (Reading capacity asked got) d = (d.offset == got) && nat_le (got + length d.bytes) asked
fits_work k (Over capacity) d = false

abbrev pub has_work : Work → Bool
has_work (Testing checks) = true
has_work Sizing = true
has_work (Idle capacity) = false
has_work (Reading capacity asked got) = true
has_work (Over capacity) = false

abbrev pub step_data : KeptNumbers → ℕ → Work → DataInParts → DiskStep
step_data k rec work d = if (d.task_tag == k.task) && fits_work k work d then step_bytes k rec work d.bytes d.status else step_ends k (broken rec)

abbrev pub step_response : KeptNumbers → ℕ → Work → ScsiResponse → DiskStep
step_response k rec work a = if has_work work && ((a.task_tag == k.task) && (a.response == 0)) then step_answered k rec work [] a.status else step_ends k (broken rec)

abbrev pub step_nop : KeptNumbers → NopIn → DiskStep
step_nop k n = if n.target_tag == 0xffffffff then step_none k else record { kept = k; answer = puts (nop_of k n) }

abbrev pub step_pdu : KeptNumbers → ℕ → AnswerParts → DiskStep
step_pdu k rec (login a) = step_ends k (broken rec)
step_pdu k rec (scsi a) = step_response k rec k.work a
step_pdu k rec (data_in d) = step_data k rec k.work d
step_pdu k rec (nop_in n) = step_nop k n
step_pdu k rec other = step_ends k (broken rec)

-- a step was made: it left this, put this text and asked this
pub record IsDiskStep (s : DiskStep) (new : KeptNumbers) (text : Option (List ℕ)) (acts : Acts) : Type 0 where
  pub kept : new ≡ s.kept
  pub puts : text ≡ option_map pdu_text s.answer.put
  pub asks : acts ≡ disk_acts s.answer

-- bytes that can be taken as the last ones of the task at work
abbrev pub HasRoom : Work → List ℕ → List ℕ → Type 0
HasRoom (Testing checks) size bytes = ⊤
HasRoom Sizing size bytes = length size + length bytes ≤ 8
HasRoom (Idle capacity) size bytes = ⊤
HasRoom (Reading capacity asked got) size bytes = length bytes < 2 ^ 16
HasRoom (Over capacity) size bytes = ⊤

-- bytes that can be added to those that have come
abbrev pub HasMore : Work → List ℕ → List ℕ → Type 0
HasMore (Testing checks) size bytes = ⊤
HasMore Sizing size bytes = length size + length bytes ≤ 8
HasMore (Idle capacity) size bytes = ⊤
HasMore (Reading capacity asked got) size bytes = got + length bytes < 2 ^ 16
HasMore (Over capacity) size bytes = ⊤
