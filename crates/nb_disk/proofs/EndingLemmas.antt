-- A PDU ends a session exactly where a cause stands in what came.
use Rattle.std.proofs.Common.{◌≡◌, ◌≤◌, ℕ, ◌+◌, ◌*◌, ◌&&◌, true, false, List, [], ◌++◌, length, Option, Some, None, if◌then◌else◌, refl, sym, ◌∙◌, arith, eqb, ltb, leb}
use Rattle.std.specs.Option.{is_some}
use Rattle.std.proofs.lemmas.Bool.{eq-eqb, eqb-true, eqb-false, lt-ltb, leb-true, leb-false, and_from, and_left, and_right}
use Rattle.std.proofs.lemmas.List.{length-append}
use Rattle.std.proofs.lemmas.Option.{same_Some}
use Rattle.nb_terms.specs.declared.cause.Cause.{Cause}
use Rattle.nb_iscsipdu.specs.declared.command.Command.{Command}
use Rattle.nb_iscsipdu.specs.declared.command.Command.TheVariants.{TestUnitReady, ReadCapacity, Read}
use Rattle.nb_iscsipdu.specs.declared.answer.TaskStatus.{TaskStatus}
use Rattle.nb_iscsipdu.specs.declared.answer.ScsiResponse.{ScsiResponse}
use Rattle.nb_iscsipdu.specs.declared.answer.NopIn.{NopIn}
use Rattle.nb_iscsipdu.specs.Commands.{asked_len}
use Rattle.nb_iscsipdu.specs.Answers.{AnswerParts, DataInParts, login, scsi, data_in, nop_in, other}
use Rattle.nb_iscsipdu.proofs.KeyLemmas.{either_way}
use Rattle.nb_disk.specs.Histories.{DiskReading, SessionNumbers, tag_at_work, with_status, at_work, capacity_of}
use Rattle.nb_disk.specs.DiskAnswers.{no_answer, ends, broken, refused_cause, nop_answer, tested, sized, have_read, command_answered, bytes_answer, data_answer, response_answer, pdu_answer}
use Rattle.nb_disk.specs.DiskEndings.{EndsTask, by_response, by_data, DiskEnding, by_login, by_other, by_idle_response, by_idle_data, by_tag_of_response, by_failed_response, by_tag_of_data, by_offset, by_excess, by_unsound, by_status}

caused : (c cause : Cause) → Some c ≡ Some cause → cause ≡ c
caused c cause is = sym (same_Some c cause is)

-- the end of a task
over-tested : (o : SessionNumbers) (r after : DiskReading) (rec : ℕ) (a : AnswerParts) (bytes : List ℕ) (s : TaskStatus) (cause : Cause) → at_work r ≡ Some TestUnitReady → EndsTask o r TestUnitReady a bytes s
    → (tested o after rec (length r.results) s.status).over ≡ Some cause → DiskEnding o r rec a cause
over-tested o r after rec a bytes s cause here task is =
    either_way (eqb s.status 0)
    (λ on. let none : None ≡ Some cause = sym (rw on refl) ∙ is in absurd cc)
    (λ off.
    let more = rw off at is in
    either_way (eqb s.status 2 && ltb (length r.results) 3)
    (λ on. let none : None ≡ Some cause = sym (rw on refl) ∙ more in absurd cc)
    (λ last.
    let end : Some (refused_cause rec s.status) ≡ Some cause = sym (rw last refl) ∙ more in
    let other = eqb-false s.status 0 off in
    by_status TestUnitReady bytes s here task (omega (arith, other))
    (λ p.
    let patient : (eqb s.status 2 && ltb (length r.results) 3) ≡ true = and_from (eqb s.status 2) (ltb (length r.results) 3) (eq-eqb s.status 2 p.0) (lt-ltb (length r.results) 3 p.1) in
    let e : true ≡ false = sym patient ∙ last in
    absurd cc)
    (caused (refused_cause rec s.status) cause end)))

over-found : (o : SessionNumbers) (r : DiskReading) (rec : ℕ) (a : AnswerParts) (bytes : List ℕ) (s : TaskStatus) (cause : Cause) (found : Option ℕ) → at_work r ≡ Some ReadCapacity → EndsTask o r ReadCapacity a bytes s
    → s.status ≡ 0 → found ≡ capacity_of (r.bytes ++ bytes) → (if is_some found then no_answer else ends (broken rec)).over ≡ Some cause → DiskEnding o r rec a cause
over-found o r rec a bytes s cause None here task good found is = by_unsound ReadCapacity bytes s here task good (sym found) (caused (broken rec) cause is)
over-found o r rec a bytes s cause (Some capacity) here task good found is = absurd cc

over-sized : (o : SessionNumbers) (r : DiskReading) (rec : ℕ) (a : AnswerParts) (bytes : List ℕ) (s : TaskStatus) (cause : Cause) → at_work r ≡ Some ReadCapacity → EndsTask o r ReadCapacity a bytes s
    → (sized rec (r.bytes ++ bytes) s.status).over ≡ Some cause → DiskEnding o r rec a cause
over-sized o r rec a bytes s cause here task is =
    either_way (eqb s.status 0)
    (λ on. over-found o r rec a bytes s cause (capacity_of (r.bytes ++ bytes)) here task (eqb-true s.status 0 on) refl (sym (rw on refl) ∙ is))
    (λ off.
    let other = eqb-false s.status 0 off in
    by_status ReadCapacity bytes s here task (omega (arith, other)) (λ p. p) (caused (refused_cause rec s.status) cause (sym (rw off refl) ∙ is)))

over-read : (o : SessionNumbers) (r : DiskReading) (rec lba blocks : ℕ) (a : AnswerParts) (bytes : List ℕ) (s : TaskStatus) (cause : Cause) → at_work r ≡ Some (Read lba blocks) → EndsTask o r (Read lba blocks) a bytes s
    → (have_read rec (512 * blocks) (length r.bytes) bytes s.status).over ≡ Some cause → DiskEnding o r rec a cause
over-read o r rec lba blocks a bytes s cause here task is =
    either_way (eqb s.status 0)
    (λ on.
    let more = rw on at is in
    either_way (eqb (length r.bytes + length bytes) (512 * blocks))
    (λ whole. let none : None ≡ Some cause = sym (rw whole refl) ∙ more in absurd cc)
    (λ short.
    let other = eqb-false (length r.bytes + length bytes) (512 * blocks) short in
    by_unsound (Read lba blocks) bytes s here task (eqb-true s.status 0 on) (λ e. other (sym (length-append r.bytes bytes) ∙ e)) (caused (broken rec) cause (sym (rw short refl) ∙ more))))
    (λ off.
    let other = eqb-false s.status 0 off in
    by_status (Read lba blocks) bytes s here task (omega (arith, other)) (λ p. p) (caused (refused_cause rec s.status) cause (sym (rw off refl) ∙ is)))

over-answered : (o : SessionNumbers) (r : DiskReading) (rec : ℕ) (command : Command) (a : AnswerParts) (bytes : List ℕ) (s : TaskStatus) (cause : Cause) → at_work r ≡ Some command → EndsTask o r command a bytes s
    → (command_answered o r rec command bytes s).over ≡ Some cause → DiskEnding o r rec a cause
over-answered o r rec TestUnitReady a bytes s cause here task is = over-tested o r (with_status r bytes s) rec a bytes s cause here task is
over-answered o r rec ReadCapacity a bytes s cause here task is = over-sized o r rec a bytes s cause here task is
over-answered o r rec (Read lba blocks) a bytes s cause here task is = over-read o r rec lba blocks a bytes s cause here task is

over-response : (o : SessionNumbers) (r : DiskReading) (rec : ℕ) (work : Option Command) (a : ScsiResponse) (cause : Cause) → at_work r ≡ work → (response_answer o r rec work a).over ≡ Some cause → DiskEnding o r rec (scsi a) cause
over-response o r rec None a cause here is = by_idle_response a refl here (caused (broken rec) cause is)
over-response o r rec (Some command) a cause here is =
    either_way (eqb a.task_tag (tag_at_work o r))
    (λ tag.
    either_way (eqb a.response 0)
    (λ done.
    let both : (eqb a.task_tag (tag_at_work o r) && eqb a.response 0) ≡ true = and_from _ _ tag done in
    over-answered o r rec command (scsi a) [] a.status cause here (by_response a (eqb-true a.task_tag (tag_at_work o r) tag) (eqb-true a.response 0 done)) (sym (rw both refl) ∙ is))
    (λ failed.
    let off : (eqb a.task_tag (tag_at_work o r) && eqb a.response 0) ≡ false = and_right _ _ failed in
    by_failed_response a refl (eqb-false a.response 0 failed) (caused (broken rec) cause (sym (rw off refl) ∙ is))))
    (λ stray.
    let off : (eqb a.task_tag (tag_at_work o r) && eqb a.response 0) ≡ false = and_left _ _ stray in
    by_tag_of_response a refl (eqb-false a.task_tag (tag_at_work o r) stray) (caused (broken rec) cause (sym (rw off refl) ∙ is)))

over-bytes : (o : SessionNumbers) (r : DiskReading) (rec : ℕ) (command : Command) (d : DataInParts) (status : Option TaskStatus) (cause : Cause) → at_work r ≡ Some command → status ≡ d.status
    → d.task_tag ≡ tag_at_work o r → d.offset ≡ length r.bytes → length r.bytes + length d.bytes ≤ asked_len command
    → (bytes_answer o r rec command d.bytes status).over ≡ Some cause → DiskEnding o r rec (data_in d) cause
over-bytes o r rec command d None cause here same tag place within is = absurd cc
over-bytes o r rec command d (Some s) cause here same tag place within is = over-answered o r rec command (data_in d) d.bytes s cause here (by_data d s tag place within (sym same)) is

over-data : (o : SessionNumbers) (r : DiskReading) (rec : ℕ) (work : Option Command) (d : DataInParts) (cause : Cause) → at_work r ≡ work → (data_answer o r rec work d).over ≡ Some cause → DiskEnding o r rec (data_in d) cause
over-data o r rec None d cause here is = by_idle_data d refl here (caused (broken rec) cause is)
over-data o r rec (Some command) d cause here is =
    let first = eqb d.task_tag (tag_at_work o r) in
    let second = eqb d.offset (length r.bytes) in
    let third = leb (length r.bytes + length d.bytes) (asked_len command) in
    let ended : (first && (second && third)) ≡ false → cause ≡ broken rec = λ off. caused (broken rec) cause (sym (rw off refl) ∙ is) in
    either_way first
    (λ tag.
    either_way second
    (λ place.
    either_way third
    (λ within.
    let all : (first && (second && third)) ≡ true = and_from first (second && third) tag (and_from second third place within) in
    over-bytes o r rec command d d.status cause here refl (eqb-true d.task_tag (tag_at_work o r) tag) (eqb-true d.offset (length r.bytes) place) (leb-true (length r.bytes + length d.bytes) (asked_len command) within) (sym (rw all refl) ∙ is))
    (λ much. by_excess d command refl here (leb-false (length r.bytes + length d.bytes) (asked_len command) much) (ended (and_right first (second && third) (and_right second third much)))))
    (λ gap. by_offset d refl (eqb-false d.offset (length r.bytes) gap) (ended (and_right first (second && third) (and_left second third gap)))))
    (λ stray. by_tag_of_data d refl (eqb-false d.task_tag (tag_at_work o r) stray) (ended (and_left first (second && third) stray)))

over-nop : (o : SessionNumbers) (r : DiskReading) (n : NopIn) (cause : Cause) → (nop_answer o r n).over ≡ Some cause → ⊥
over-nop o r n cause is =
    either_way (eqb n.target_tag 0xffffffff)
    (λ on. let none : None ≡ Some cause = sym (rw on refl) ∙ is in absurd cc)
    (λ off. let none : None ≡ Some cause = sym (rw off refl) ∙ is in absurd cc)

-- an end has its cause
pub ends-caused : (o : SessionNumbers) (r : DiskReading) (rec : ℕ) (a : AnswerParts) (cause : Cause) → (pdu_answer o r rec a).over ≡ Some cause → DiskEnding o r rec a cause
ends-caused o r rec (login l) cause is = by_login l refl (caused (broken rec) cause is)
ends-caused o r rec (scsi a) cause is = over-response o r rec (at_work r) a cause refl is
ends-caused o r rec (data_in d) cause is = over-data o r rec (at_work r) d cause refl is
ends-caused o r rec (nop_in n) cause is = absurd (over-nop o r n cause is)
ends-caused o r rec other cause is = by_other refl (caused (broken rec) cause is)
