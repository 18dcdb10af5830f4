-- RFC 7143, sections 11.3, 11.12 and 11.18: the PDUs that are sent
use Rattle.std.specs.Prelude.{ℕ, ◌+◌, ◌*◌, List, [], ◌∷◌, ◌++◌, length, replicate, Option, Some, None}
use Rattle.std.specs.Int.{w32, to_be_bytes}
use Rattle.nb_iscsipdu.specs.declared.stage.Stage.{Stage}
use Rattle.nb_iscsipdu.specs.declared.request.LoginRequest.{LoginRequest}
use Rattle.nb_iscsipdu.specs.declared.request.ScsiCommand.{ScsiCommand}
use Rattle.nb_iscsipdu.specs.declared.request.NopOut.{NopOut}
use Rattle.nb_iscsipdu.specs.Stages.{stage_number}
use Rattle.nb_iscsipdu.specs.Commands.{asked_len, command_flags, command_block}
use Rattle.nb_iscsipdu.specs.PduTexts.{PduParts}

-- what a login request asks, without where its keys lie in memory
pub record LoginParts : Type 0 where
  pub current : Stage
  pub next : Option Stage
  pub isid : List ℕ
  pub task_tag : ℕ
  pub cmd_sn : ℕ
  pub exp_stat_sn : ℕ
  pub keys : List ℕ

abbrev pub login_parts : LoginRequest → LoginParts
login_parts r = record { current = r.current; next = r.next; isid = r.isid; task_tag = r.task_tag; cmd_sn = r.cmd_sn; exp_stat_sn = r.exp_stat_sn; keys = r.keys.now }

-- the stage it is in, and with the bit T the one it wants to go to
abbrev pub login_flags : Stage → Option Stage → ℕ
login_flags current None = 4 * stage_number current
login_flags current (Some next) = 128 + 4 * stage_number current + stage_number next

-- a head: the opcode and the flags, the data segment's length, eight bytes, the initiator task tag, a word,
-- CmdSN, ExpStatSN, and 16 bytes
unfoldable pub head_of : ℕ → ℕ → ℕ → List ℕ → ℕ → ℕ → ℕ → ℕ → List ℕ → List ℕ
head_of code flags len lun task_tag word cmd_sn exp_stat_sn last =
    code ∷ flags ∷ 0 ∷ 0 ∷ (to_be_bytes w32 len ++ (lun ++ (to_be_bytes w32 task_tag ++ (to_be_bytes w32 word
    ++ (to_be_bytes w32 cmd_sn ++ (to_be_bytes w32 exp_stat_sn ++ last))))))

-- an immediate Login Request of version 0, of connection 0 of a session that has no handle yet
unfoldable pub login_pdu : LoginParts → PduParts
login_pdu r = record {
  head = head_of 0x43 (login_flags r.current r.next) (length r.keys) (r.isid ++ 0 ∷ 0 ∷ []) r.task_tag 0 r.cmd_sn r.exp_stat_sn (replicate 16 0);
  seg = r.keys;
}

-- a SCSI Command, with no data in it
unfoldable pub command_pdu : ScsiCommand → PduParts
command_pdu r = record {
  head = head_of 0x01 (command_flags r.command) 0 r.lun r.task_tag (asked_len r.command) r.cmd_sn r.exp_stat_sn (command_block r.command);
  seg = [];
}

-- an immediate NOP-Out that answers a NOP-In: no task of its own
unfoldable pub nop_pdu : NopOut → PduParts
nop_pdu r = record {
  head = head_of 0x40 0x80 0 r.lun 0xffffffff r.target_tag r.cmd_sn r.exp_stat_sn (replicate 16 0);
  seg = [];
}
