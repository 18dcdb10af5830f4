-- What a drive's core comes to, and what goes up of it.
use Rattle.std.proofs.Common.{◌≡◌, ◌⊎◌, inl, inr, ℕ, ◌==◌, ◌&&◌, ◌||◌, ◌*◌, nat_lt, ◌+◌, Bool, true, false, List, [], ◌∷◌, ◌++◌, length, fold, Option, Some, None, refl, ap, sym, ◌∙◌, if◌then◌else◌}
use Rattle.std.proofs.lemmas.Bool.{false≢true}
use Rattle.std.specs.Option.{is_some}
use Rattle.nb_iscsipdu.specs.declared.command.Command.{Command}
use Rattle.nb_iscsipdu.specs.declared.command.Command.TheVariants.{TestUnitReady, ReadCapacity, Read}
use Rattle.nb_iscsipdu.specs.declared.answer.TaskStatus.{TaskStatus}
use Rattle.nb_iscsipdu.specs.declared.answer.ScsiResponse.{ScsiResponse}
use Rattle.nb_iscsipdu.specs.declared.answer.NopIn.{NopIn}
use Rattle.nb_iscsipdu.specs.Requests.{nop_pdu}
use Rattle.nb_iscsipdu.specs.Heads.{opcode}
use Rattle.nb_iscsipdu.specs.PduTexts.{PduParts}
use Rattle.nb_iscsipdu.specs.Answers.{login, scsi, data_in, nop_in, other, answer_read, nop_in_read, scsi_response, login_response, data_in_read}
use Rattle.nb_disk.specs.Histories.{SessionNumbers, DiskCall, came, DiskReading, nothing_read, after_call, reading, at_work, capacity_read, fits, completes, with_status, counted, capacity_of}
use Rattle.nb_disk.specs.DiskAnswers.{disk_answer, pdu_answer, data_answer, response_answer, bytes_answer, nop_answer, command_answered, tested, sized, have_read, no_answer, puts, gives, ends, broken, refused_cause, command_after, commands_put, expected_stat_sn, ended_from, session_has_ended, data_range}
use Rattle.nb_disk.specs.DiskStands.{DiskStands}
use Rattle.nb_disk.specs.Steps.{KeptNumbers, has_work, work_is_over, work_capacity}
use Rattle.nb_disk.proofs.StandsLemmas.{busy-at}
use Rattle.nb_drivenodes.specs.UnitAnswers.{answered_so, unit_answered_by}

or-none : (a : Bool) → (a || false) ≡ a
or-none true = refl
or-none false = refl

or-assoc : (a b c : Bool) → (a || (b || c)) ≡ ((a || b) || c)
or-assoc true b c = refl
or-assoc false b c = refl

ended-more : (o : SessionNumbers) (r : DiskReading) (calls : List DiskCall) (call : DiskCall) → ended_from o r (calls ++ call ∷ []) ≡ (ended_from o r calls || is_some (disk_answer o (fold (after_call o) r calls) call).over)
ended-more o r [] call = or-none (is_some (disk_answer o r call).over)
ended-more o r (c ∷ calls) call =
    ap (λ (b : Bool). is_some (disk_answer o r c).over || b) (ended-more o (after_call o r c) calls call)
    ∙ or-assoc (is_some (disk_answer o r c).over) (ended_from o (after_call o r c) calls) (is_some (disk_answer o (fold (after_call o) (after_call o r c) calls) call).over)

-- after one call more it has ended where this one ended it
pub ended-after : (o : SessionNumbers) (calls : List DiskCall) (call : DiskCall) → session_has_ended o calls ≡ false → session_has_ended o (calls ++ call ∷ []) ≡ is_some (disk_answer o (reading o calls) call).over
ended-after o calls call on = ended-more o nothing_read calls call ∙ ap (λ (b : Bool). b || is_some (disk_answer o (reading o calls) call).over) on

-- what is known of the core after a call is what the calls say
pub answered-same : (o : SessionNumbers) (calls : List DiskCall) (call : DiskCall) (new : KeptNumbers) (was over : Bool) → DiskStands o (calls ++ call ∷ []) new → session_has_ended o calls ≡ false → was ≡ is_some (at_work (reading o calls))
    → over ≡ is_some (disk_answer o (reading o calls) call).over → answered_so over was (has_work new.work) (work_capacity new.work) ≡ unit_answered_by o calls call
answered-same o calls call new was over stands on before is = by (is_some (disk_answer o (reading o calls) call).over) refl ∙ ap (λ z. answered_so (is_some (disk_answer o (reading o calls) call).over) z (is_some (at_work (reading o (calls ++ call ∷ [])))) (capacity_read (reading o (calls ++ call ∷ [])))) before
  where
    by : (b : Bool) → is_some (disk_answer o (reading o calls) call).over ≡ b
        → answered_so over was (has_work new.work) (work_capacity new.work) ≡ answered_so (is_some (disk_answer o (reading o calls) call).over) was (is_some (at_work (reading o (calls ++ call ∷ [])))) (capacity_read (reading o (calls ++ call ∷ [])))
    by true e =
        ap (λ z. answered_so z was (has_work new.work) (work_capacity new.work)) (is ∙ e)
        ∙ sym (ap (λ z. answered_so z was (is_some (at_work (reading o (calls ++ call ∷ [])))) (capacity_read (reading o (calls ++ call ∷ [])))) e)
    by false e =
        let goes : work_is_over new.work ≡ false = stands.over ∙ ended-after o calls call on ∙ e in
        ap (λ z. answered_so z was (has_work new.work) (work_capacity new.work)) is
        ∙ ap (λ z. answered_so (is_some (disk_answer o (reading o calls) call).over) was z (work_capacity new.work)) (busy-at o (calls ++ call ∷ []) new stands goes)
        ∙ ap (λ z. answered_so (is_some (disk_answer o (reading o calls) call).over) was (is_some (at_work (reading o (calls ++ call ∷ [])))) z) stands.capacity

-- the bytes that a PDU gives are its data, or none
abbrev IsGiven : PduParts → List ℕ → Type 0
IsGiven p give = (give ≡ []) ⊎ (give ≡ p.seg)

tested-none : (p : PduParts) (o : SessionNumbers) (after : DiskReading) (rec before status : ℕ) → IsGiven p (tested o after rec before status).give
tested-none p o after rec before status = by (status == 0) ((status == 2) && nat_lt before 3)
  where
    by : (b c : Bool) → IsGiven p (if b then puts (command_after o after (before + 1) ReadCapacity) else (if c then puts (command_after o after (before + 1) TestUnitReady) else ends (refused_cause rec status))).give
    by true c = inl refl
    by false true = inl refl
    by false false = inl refl

sized-none : (p : PduParts) (rec : ℕ) (bytes : List ℕ) (status : ℕ) → IsGiven p (sized rec bytes status).give
sized-none p rec bytes status = by (status == 0) (is_some (capacity_of bytes))
  where
    by : (b c : Bool) → IsGiven p (if b then (if c then no_answer else ends (broken rec)) else ends (refused_cause rec status)).give
    by true true = inl refl
    by true false = inl refl
    by false c = inl refl

read-given : (p : PduParts) (rec wanted got : ℕ) (bytes : List ℕ) (status : ℕ) → IsGiven p bytes → IsGiven p (have_read rec wanted got bytes status).give
read-given p rec wanted got bytes status h = by (status == 0) (got + length bytes == wanted)
  where
    by : (b c : Bool) → IsGiven p (if b then (if c then gives bytes else ends (broken rec)) else ends (refused_cause rec status)).give
    by true true = h
    by true false = inl refl
    by false c = inl refl

answered-given : (p : PduParts) (o : SessionNumbers) (r : DiskReading) (rec : ℕ) (command : Command) (bytes : List ℕ) (s : TaskStatus) → IsGiven p bytes → IsGiven p (command_answered o r rec command bytes s).give
answered-given p o r rec TestUnitReady bytes s h = tested-none p o (with_status r bytes s) rec (length r.results) s.status
answered-given p o r rec ReadCapacity bytes s h = sized-none p rec (r.bytes ++ bytes) s.status
answered-given p o r rec (Read lba blocks) bytes s h = read-given p rec (512 * blocks) (length r.bytes) bytes s.status h

bytes-given : (p : PduParts) (o : SessionNumbers) (r : DiskReading) (rec : ℕ) (command : Command) (status : Option TaskStatus) → IsGiven p (bytes_answer o r rec command p.seg status).give
bytes-given p o r rec TestUnitReady None = inl refl
bytes-given p o r rec ReadCapacity None = inl refl
bytes-given p o r rec (Read lba blocks) None = inr refl
bytes-given p o r rec TestUnitReady (Some s) = answered-given p o r rec TestUnitReady p.seg s (inr refl)
bytes-given p o r rec ReadCapacity (Some s) = answered-given p o r rec ReadCapacity p.seg s (inr refl)
bytes-given p o r rec (Read lba blocks) (Some s) = answered-given p o r rec (Read lba blocks) p.seg s (inr refl)

data-given : (p : PduParts) (o : SessionNumbers) (r : DiskReading) (rec : ℕ) (work : Option Command) → IsGiven p (data_answer o r rec work (data_in_read p)).give
data-given p o r rec None = inl refl
data-given p o r rec (Some command) = by (fits o r (Some command) (data_in_read p))
  where
    by : (b : Bool) → IsGiven p (if b then bytes_answer o r rec command p.seg (data_in_read p).status else ends (broken rec)).give
    by true = bytes-given p o r rec command (data_in_read p).status
    by false = inl refl

response-given : (p : PduParts) (o : SessionNumbers) (r : DiskReading) (rec : ℕ) (work : Option Command) (a : ScsiResponse) → IsGiven p (response_answer o r rec work a).give
response-given p o r rec None a = inl refl
response-given p o r rec (Some command) a = by (completes o r (Some command) a)
  where
    by : (b : Bool) → IsGiven p (if b then command_answered o r rec command [] a.status else ends (broken rec)).give
    by true = answered-given p o r rec command [] a.status (inl refl)
    by false = inl refl

nop-given : (p : PduParts) (o : SessionNumbers) (r : DiskReading) (n : NopIn) → IsGiven p (nop_answer o r n).give
nop-given p o r n = by (n.target_tag == 0xffffffff)
  where
    by : (b : Bool) → IsGiven p (if b then no_answer else puts (nop_pdu (record { lun = n.lun; target_tag = n.target_tag; cmd_sn = counted o.cmd_sn (commands_put r); exp_stat_sn = expected_stat_sn o r }))).give
    by true = inl refl
    by false = inl refl

kind-given : (p : PduParts) (o : SessionNumbers) (r : DiskReading) (rec : ℕ) (b c d e : Bool)
    → IsGiven p (pdu_answer o r rec (if b then nop_in (nop_in_read p.head) else (if c then scsi (scsi_response p.head) else (if d then login (login_response p) else (if e then data_in (data_in_read p) else other))))).give
kind-given p o r rec true c d e = nop-given p o r (nop_in_read p.head)
kind-given p o r rec false true d e = response-given p o r rec (at_work r) (scsi_response p.head)
kind-given p o r rec false false true e = inl refl
kind-given p o r rec false false false true = data-given p o r rec (at_work r)
kind-given p o r rec false false false false = inl refl

pdu-given : (o : SessionNumbers) (r : DiskReading) (rec : ℕ) (p : PduParts) → IsGiven p (disk_answer o r (came rec p)).give
unfolding answer_read
pdu-given o r rec p = kind-given p o r rec (opcode p.head == 0x20) (opcode p.head == 0x21) (opcode p.head == 0x23) (opcode p.head == 0x25)

-- where bytes go up, they are all of the PDU's data
all-given : (p : PduParts) (give : List ℕ) → IsGiven p give → is_some (data_range (length give)) ≡ true → give ≡ p.seg
all-given p give (inl none) some = absurd (false≢true (ap (λ (z : List ℕ). is_some (data_range (length z))) (sym none) ∙ some))
all-given p give (inr all) some = all

pub given-all : (o : SessionNumbers) (r : DiskReading) (rec : ℕ) (p : PduParts) → is_some (data_range (length (disk_answer o r (came rec p)).give)) ≡ true → (disk_answer o r (came rec p)).give ≡ p.seg
given-all o r rec p some = all-given p (disk_answer o r (came rec p)).give (pdu-given o r rec p) some
