-- No text that a login or a drive says is empty; and what goes up from a session to its unit reads as it was said.
use Rattle.std.proofs.Common.{◌≡◌, ◌<◌, ◌+◌, ◌*◌, nat_lt, ◌==◌, ◌&&◌, ◌^◌, ℕ, Bool, true, false, List, [], ◌++◌, length, take, drop, Option, Some, None, if◌then◌else◌, refl, ap, ◌∙◌, sym, subst, append_assoc, arith, leb}
use Rattle.std.specs.Int.{w32, from_be_bytes, to_be_bytes}
use Rattle.std.specs.Option.{is_some}
use Rattle.std.proofs.lemmas.Bool.{eq-eqb, le-leb}
use Rattle.std.proofs.lemmas.List.{drop_at, length-append, take-append-le, take_all}
use Rattle.std.proofs.lemmas.Option.{none-some, same_Some}
use Rattle.nb_terms.specs.declared.cause.Cause.{Cause}
use Rattle.nb_iscsipdu.specs.declared.command.Command.{Command}
use Rattle.nb_iscsipdu.specs.declared.command.Command.TheVariants.{TestUnitReady, ReadCapacity, Read}
use Rattle.nb_iscsipdu.specs.declared.answer.NopIn.{NopIn}
use Rattle.nb_iscsipdu.specs.declared.answer.ScsiResponse.{ScsiResponse}
use Rattle.nb_iscsipdu.specs.declared.answer.TaskStatus.{TaskStatus}
use Rattle.nb_iscsipdu.specs.Answers.{AnswerParts, DataInParts, login, scsi, data_in, nop_in, other, answer_read}
use Rattle.nb_iscsipdu.specs.PduTexts.{PduParts, IsPdu, pdu_text}
use Rattle.nb_iscsipdu.specs.Requests.{command_pdu, head_of, login_pdu, nop_pdu}
use Rattle.nb_login.specs.declared.info.LoginInfo.{LoginInfo}
use Rattle.nb_login.specs.declared.session.Session.{Session}
use Rattle.nb_login.specs.Asking.{login_text}
use Rattle.nb_login.specs.LoginHistory.{LoginEntry, text_put}
use Rattle.nb_login.specs.LoginStands.{session_after}
use Rattle.nb_disk.specs.Histories.{DiskCall, came, asked, stream_ended, DiskReading, SessionNumbers, at_work, capacity_of, completes, counted, fits, with_status}
use Rattle.nb_disk.specs.DiskAnswers.{DiskAnswer, command_answered, broken, bytes_answer, command_after, commands_put, data_answer, disk_answer, ends, expected_stat_sn, bytes_given, gives, no_answer, nop_answer, pdu_answer, puts, refused_cause, response_answer}
use Rattle.nb_drivenodes.specs.declared.session_note.SessionNote.{SessionNote}
use Rattle.nb_drivenodes.specs.SessionNotes.{note_at, note_bytes, note_in}
use Rattle.nb_drivenodes.specs.UnitTalks.{pdu_in}

-- ---- texts

pub login_some : (i : LoginInfo) (request : _) (sn : ℕ) → 0 < length (login_text i request sn)
unfolding login_text pdu_text login_pdu head_of
login_some i request sn = omega arith

pub reply_some : (i : LoginInfo) (sn : ℕ) (e : LoginEntry) (text : List ℕ) → text_put i sn e.does ≡ Some text → 0 < length text
reply_some i sn e text h = grind (arith, login_some)

pub command_some : (o : SessionNumbers) (r : DiskReading) (k : ℕ) (command : Command) → 0 < length (pdu_text (command_after o r k command))
unfolding pdu_text command_pdu head_of
command_some o r k command = omega arith

-- each PDU that an answer puts has a text
record HasText (a : DiskAnswer) : Type 0 where
  texts : (p : PduParts) → a.put ≡ Some p → 0 < length (pdu_text p)

none_put : (a : DiskAnswer) → a.put ≡ None → HasText a
none_put a none = record { texts = λ p is. absurd (none-some p (sym none ∙ is)) }

one_put : (a : DiskAnswer) (q : PduParts) → a.put ≡ Some q → 0 < length (pdu_text q) → HasText a
one_put a q one some = record { texts = λ p is. subst (λ (z : PduParts). 0 < length (pdu_text z)) (same_Some q p (sym one ∙ is)) some }

by_test : (b : Bool) (x y : DiskAnswer) → HasText x → HasText y → HasText (if b then x else y)
by_test true x y one two = one
by_test false x y one two = two

by_puts : (o : SessionNumbers) (r : DiskReading) (k : ℕ) (command : Command) → HasText (puts (command_after o r k command))
by_puts o r k command = one_put (puts (command_after o r k command)) (command_after o r k command) refl (command_some o r k command)

by_end : (x : Cause) → HasText (ends x)
by_end x = none_put (ends x) refl

by_gift : (bytes : List ℕ) → HasText (gives bytes)
by_gift bytes = none_put (gives bytes) refl

by_nothing : HasText no_answer
by_nothing = none_put no_answer refl

answered_some : (o : SessionNumbers) (r : DiskReading) (rec : ℕ) (command : Command) (bytes : List ℕ) (s : TaskStatus) → HasText (command_answered o r rec command bytes s)
answered_some o r rec TestUnitReady bytes s =
    by_test (s.status == 0) _ _ (by_puts o (with_status r bytes s) (length r.results + 1) ReadCapacity)
    (by_test ((s.status == 2) && nat_lt (length r.results) 3) _ _ (by_puts o (with_status r bytes s) (length r.results + 1) TestUnitReady) (by_end (refused_cause rec s.status)))
answered_some o r rec ReadCapacity bytes s =
    by_test (s.status == 0) _ _ (by_test (is_some (capacity_of (r.bytes ++ bytes))) _ _ by_nothing (by_end (broken rec))) (by_end (refused_cause rec s.status))
answered_some o r rec (Read lba blocks) bytes s =
    by_test (s.status == 0) _ _ (by_test (length r.bytes + length bytes == 512 * blocks) _ _ (by_gift bytes) (by_end (broken rec))) (by_end (refused_cause rec s.status))

abbrev nop_answer_by : SessionNumbers → DiskReading → NopIn → DiskAnswer
nop_answer_by o r n = puts (nop_pdu (record { lun = n.lun; target_tag = n.target_tag; cmd_sn = counted o.cmd_sn (commands_put r); exp_stat_sn = expected_stat_sn o r }))

nop_some : (o : SessionNumbers) (r : DiskReading) (n : NopIn) → HasText (nop_answer o r n)
unfolding pdu_text nop_pdu head_of
nop_some o r n = by_test (n.target_tag == 0xffffffff) _ _ by_nothing (one_put (nop_answer_by o r n) _ refl (omega arith))

bytes_some : (o : SessionNumbers) (r : DiskReading) (rec : ℕ) (command : Command) (bytes : List ℕ) (s : Option TaskStatus) → HasText (bytes_answer o r rec command bytes s)
bytes_some o r rec command bytes None = by_gift (bytes_given command bytes)
bytes_some o r rec command bytes (Some s) = answered_some o r rec command bytes s

data_some : (o : SessionNumbers) (r : DiskReading) (rec : ℕ) (work : Option Command) (d : DataInParts) → HasText (data_answer o r rec work d)
data_some o r rec None d = by_end (broken rec)
data_some o r rec (Some command) d = by_test (fits o r (Some command) d) _ _ (bytes_some o r rec command d.bytes d.status) (by_end (broken rec))

response_some : (o : SessionNumbers) (r : DiskReading) (rec : ℕ) (work : Option Command) (a : ScsiResponse) → HasText (response_answer o r rec work a)
response_some o r rec None a = by_end (broken rec)
response_some o r rec (Some command) a = by_test (completes o r (Some command) a) _ _ (answered_some o r rec command [] a.status) (by_end (broken rec))

pdu_some : (o : SessionNumbers) (r : DiskReading) (rec : ℕ) (a : AnswerParts) → HasText (pdu_answer o r rec a)
pdu_some o r rec (login a) = by_end (broken rec)
pdu_some o r rec (scsi a) = response_some o r rec (at_work r) a
pdu_some o r rec (data_in d) = data_some o r rec (at_work r) d
pdu_some o r rec (nop_in n) = nop_some o r n
pdu_some o r rec other = by_end (broken rec)

pub put_some : (o : SessionNumbers) (r : DiskReading) (call : DiskCall) (p : PduParts) → (disk_answer o r call).put ≡ Some p → 0 < length (pdu_text p)
put_some o r (came rec p) = (pdu_some o r rec (answer_read p)).texts
put_some o r (asked lba blocks) = (by_puts o r (commands_put r) (Read lba blocks)).texts
put_some o r (stream_ended rec) = (none_put (disk_answer o r (stream_ended rec)) refl).texts

-- ---- a PDU that goes up

pub pdu_back : (p : PduParts) → IsPdu p → pdu_in (p.head ++ p.seg) ≡ Some p
pdu_back p is =
    let long : leb 48 (length (p.head ++ p.seg)) ≡ true = le-leb 48 (length (p.head ++ p.seg)) (omega (arith, length-append p.head p.seg, is.head)) in
    let head : take 48 (p.head ++ p.seg) ≡ p.head = take-append-le 48 p.head p.seg (omega (arith, is.head)) ∙ take_all 48 p.head (omega (arith, is.head)) in
    let seg : drop 48 (p.head ++ p.seg) ≡ p.seg = drop_at p.head p.seg 48 is.head in
    ap (λ b. if b then (let q : PduParts = record { head = take 48 (p.head ++ p.seg); seg = drop 48 (p.head ++ p.seg) } in Some q) else None) long
    ∙ ap (λ z. let q : PduParts = record { head = z; seg = drop 48 (p.head ++ p.seg) } in Some q) head
    ∙ ap (λ z. let q : PduParts = record { head = p.head; seg = z } in Some q) seg

-- ---- a session that is opened

pub session_fields : (i : LoginInfo) (sn : ℕ) (d : _) (s : Session) → session_after i sn d ≡ Some s → (s.info ≡ i) × (s.cmd_sn ≡ 1) × (s.task ≡ 2)
session_fields i sn d s h = grind arith

pub note_back : (lun : List ℕ) → length lun ≡ 8 → (n : SessionNote) → n.lun ≡ lun → n.cmd_sn ≡ 1 → n.task ≡ 2 → note_in (note_bytes n) ≡ Some n
note_back lun eight n is one two =
    let first : List ℕ = to_be_bytes w32 1 in
    let second : List ℕ = to_be_bytes w32 2 in
    let bytes : List ℕ = lun ++ (first ++ second) in
    let spelled : note_bytes n ≡ bytes = append_assoc n.lun (to_be_bytes w32 n.cmd_sn) (to_be_bytes w32 n.task) ∙ ap (λ z. z ++ (to_be_bytes w32 n.cmd_sn ++ to_be_bytes w32 n.task)) is ∙ ap (λ z. lun ++ (to_be_bytes w32 z ++ to_be_bytes w32 n.task)) one ∙ ap (λ z. lun ++ (first ++ to_be_bytes w32 z)) two in
    let long : (length bytes == 16) ≡ true = eq-eqb (length bytes) 16 (length-append lun (first ++ second) ∙ ap (λ k. k + 8) eight) in
    let front : take 8 bytes ≡ lun = take-append-le 8 lun (first ++ second) (omega (arith, eight)) ∙ take_all 8 lun (omega (arith, eight)) in
    let middle : drop 8 bytes ≡ first ++ second = drop_at lun (first ++ second) 8 eight in
    let last : drop 12 bytes ≡ second =
    ap (drop 12) (sym (append_assoc lun first second)) ∙ drop_at (lun ++ first) second 12 (length-append lun first ∙ ap (λ k. k + 4) eight) in
    let m : List ℕ → ℕ → ℕ → SessionNote = λ x y z. record { lun = x; cmd_sn = y; task = z } in
    ap note_in spelled ∙ ap (λ b. if b then Some (note_at bytes) else None) long
    ∙ ap (λ z. Some (m z (from_be_bytes w32 (take 4 (drop 8 bytes))) (from_be_bytes w32 (drop 12 bytes)))) front
    ∙ ap (λ z. Some (m lun (from_be_bytes w32 (take 4 z)) (from_be_bytes w32 (drop 12 bytes)))) middle
    ∙ ap (λ z. Some (m lun 1 (from_be_bytes w32 z))) last
    ∙ ap (λ z. Some (m z 1 2)) (sym is) ∙ ap (λ z. Some (m n.lun z 2)) (sym one) ∙ ap (λ z. Some (m n.lun n.cmd_sn z)) (sym two)

pub note_short : (n : SessionNote) → length n.lun ≡ 8 → length (note_bytes n) < 2 ^ 32
note_short n eight =
    let first = to_be_bytes w32 n.cmd_sn in
    let second = to_be_bytes w32 n.task in
    let whole : length (note_bytes n) ≡ 16 = length-append (n.lun ++ first) second ∙ ap (λ k. k + 4) (length-append n.lun first) ∙ ap (λ k. (k + 4) + 4) eight in
    omega (arith, whole)
