-- What a call of a drive's core comes to, by all the calls before it: our own.
use Rattle.std.specs.Prelude.{◌≡◌, ℕ, ◌&&◌, Bool, not, List, [], ◌∷◌, ◌++◌, length, Option, None, if◌then◌else◌}
use Rattle.std.specs.Option.{option_map, is_some}
use Rattle.nb_iscsipdu.specs.declared.command.Command.TheVariants.{TestUnitReady}
use Rattle.nb_iscsipdu.specs.PduTexts.{pdu_text}
use Rattle.nb_disk.specs.Histories.{SessionNumbers, DiskCall, nothing_read, reading, at_work, capacity_read}
use Rattle.nb_disk.specs.DiskAnswers.{disk_answer, command_after, data_range}
use Rattle.nb_disk.specs.DiskStands.{DiskStands}
use Rattle.nb_disk.specs.Steps.{KeptNumbers}
use Rattle.nb_drivenodes.specs.declared.session_note.SessionNote.{SessionNote}
use Rattle.nb_drivenodes.specs.declared.unit_answer.UnitAnswer.{UnitAnswer}

-- the numbers with which a session was opened
abbrev pub unit_opened : SessionNote → ℕ → SessionNumbers
unit_opened n exp_stat_sn = record { lun = n.lun; cmd_sn = n.cmd_sn; exp_stat_sn = exp_stat_sn; task = n.task }

-- the number of blocks, where a command was at work before and none is afterwards, and the session goes on
abbrev pub answered_so : Bool → Bool → Bool → Option ℕ → Option ℕ
answered_so over before after capacity = if not over && (before && not after) then capacity else None

abbrev pub unit_answered_by : SessionNumbers → List DiskCall → DiskCall → Option ℕ
unit_answered_by o calls call = answered_so (is_some (disk_answer o (reading o calls) call).over)
    (is_some (at_work (reading o calls))) (is_some (at_work (reading o (calls ++ call ∷ [])))) (capacity_read (reading o (calls ++ call ∷ [])))

-- a core that stood for these calls stands for one more, and comes to what all of them call for
pub record AnswersUnit (o : SessionNumbers) (calls : List DiskCall) (call : DiskCall) (new : KeptNumbers) (a : UnitAnswer) : Type 0 where
  pub stands : DiskStands o (calls ++ call ∷ []) new
  pub text : a.text ≡ option_map pdu_text (disk_answer o (reading o calls) call).put
  pub gives : a.gives ≡ is_some (data_range (length (disk_answer o (reading o calls) call).give))
  pub answered : a.answered ≡ unit_answered_by o calls call
  pub over : a.over ≡ (disk_answer o (reading o calls) call).over

-- the first command of a session
abbrev pub first_command : SessionNumbers → List ℕ
first_command o = pdu_text (command_after o nothing_read 0 TestUnitReady)

pub record StartsUnit (o : SessionNumbers) (k : KeptNumbers) (text : List ℕ) : Type 0 where
  pub stands : DiskStands o [] k
  pub request : text ≡ first_command o
