-- RFC 7143, sections 11.4, 11.7, 11.13 and 11.19: what a target's PDU is
use Rattle.std.specs.Prelude.{ℕ, ◌%◌, ◌==◌, Bool, List, nat_le, take, drop, slice_index, Option, Some, None, if◌then◌else◌}
use Rattle.nb_iscsipdu.specs.declared.stage.Stage.{Stage}
use Rattle.nb_iscsipdu.specs.declared.answer.Answer.{Answer}
use Rattle.nb_iscsipdu.specs.declared.answer.Answer.TheVariants.{Login, Scsi, Data, Nop, Other}
use Rattle.nb_iscsipdu.specs.declared.answer.TaskStatus.{TaskStatus}
use Rattle.nb_iscsipdu.specs.declared.answer.ScsiResponse.{ScsiResponse}
use Rattle.nb_iscsipdu.specs.declared.answer.NopIn.{NopIn}
use Rattle.nb_iscsipdu.specs.declared.answer.LoginResponse.{LoginResponse}
use Rattle.nb_iscsipdu.specs.declared.answer.DataIn.{DataIn}
use Rattle.nb_iscsipdu.specs.Stages.{stage_numbered}
use Rattle.nb_iscsipdu.specs.Heads.{word_at, opcode}
use Rattle.nb_iscsipdu.specs.PduTexts.{PduParts}

-- a Login Response without where its keys lie in memory
pub record LoginResponseParts : Type 0 where
  pub transit : Bool
  pub next : Option Stage
  pub stat_sn : ℕ
  pub class : ℕ
  pub detail : ℕ
  pub keys : List ℕ

-- a Data-In without where its data lie in memory
pub record DataInParts : Type 0 where
  pub task_tag : ℕ
  pub offset : ℕ
  pub status : Option TaskStatus
  pub bytes : List ℕ

-- an answer without where its data lie in memory
pub data AnswerParts : Type 0 where
  login : (r : LoginResponseParts) → AnswerParts
  scsi : (r : ScsiResponse) → AnswerParts
  data_in : (d : DataInParts) → AnswerParts
  nop_in : (n : NopIn) → AnswerParts
  other : AnswerParts

abbrev pub login_response_parts : LoginResponse → LoginResponseParts
login_response_parts r = record { transit = r.transit; next = r.next; stat_sn = r.stat_sn; class = r.class; detail = r.detail; keys = r.keys.bytes.now }

abbrev pub data_in_parts : DataIn → DataInParts
data_in_parts d = record { task_tag = d.task_tag; offset = d.offset; status = d.status; bytes = d.bytes.now }

abbrev pub answer_parts : Answer → AnswerParts
answer_parts (Login r) = login (login_response_parts r)
answer_parts (Scsi r) = scsi r
answer_parts (Data d) = data_in (data_in_parts d)
answer_parts (Nop n) = nop_in n
answer_parts Other = other

-- the flags are byte 1: T is 0x80, the next stage the low two bits
abbrev pub login_response : PduParts → LoginResponseParts
login_response p = record {
  transit = nat_le 0x80 (slice_index p.head 1);
  next = stage_numbered (slice_index p.head 1 % 4);
  stat_sn = word_at 24 p.head;
  class = slice_index p.head 36;
  detail = slice_index p.head 37;
  keys = p.seg;
}

-- the status is byte 3
abbrev pub task_status : List ℕ → TaskStatus
task_status head = record { status = slice_index head 3; stat_sn = word_at 24 head }

-- the target's own answer is byte 2: 0 is that the command was completed
abbrev pub scsi_response : List ℕ → ScsiResponse
scsi_response head = record { task_tag = word_at 16 head; response = slice_index head 2; status = task_status head }

-- with the flag S, the lowest bit of byte 1, a status comes with the data
abbrev pub status_with_data : List ℕ → Option TaskStatus
status_with_data head = if slice_index head 1 % 2 == 1 then Some (task_status head) else None

abbrev pub data_in_read : PduParts → DataInParts
data_in_read p = record {
  task_tag = word_at 16 p.head;
  offset = word_at 40 p.head;
  status = status_with_data p.head;
  bytes = p.seg;
}

abbrev pub nop_in_read : List ℕ → NopIn
nop_in_read head = record { lun = take 8 (drop 8 head); target_tag = word_at 20 head }

-- what a PDU is, by its opcode
unfoldable pub answer_read : PduParts → AnswerParts
answer_read p =
    if opcode p.head == 0x20 then nop_in (nop_in_read p.head)
    else (if opcode p.head == 0x21 then scsi (scsi_response p.head)
    else (if opcode p.head == 0x23 then login (login_response p)
    else (if opcode p.head == 0x25 then data_in (data_in_read p)
    else other)))
