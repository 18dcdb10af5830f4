-- A cause that stands in what came ends a session.
use Rattle.std.proofs.Common.{◌≡◌, ◌<◌, ℕ, ◌+◌, ◌*◌, ◌&&◌, true, false, List, ◌++◌, length, Option, Some, None, if◌then◌else◌, refl, ap, subst, ◌∙◌, arith, eqb, ltb, leb}
use Rattle.std.specs.Option.{is_some}
use Rattle.std.proofs.lemmas.Bool.{eq-eqb, eqb-true, ne_eqb, ltb-true, le-leb, lt-leb, and_from, and_left, and_right, and_parts}
use Rattle.std.proofs.lemmas.List.{length-append}
use Rattle.std.proofs.lemmas.Option.{same_Some}
use Rattle.nb_terms.specs.declared.cause.Cause.{Cause}
use Rattle.nb_iscsipdu.specs.declared.command.Command.{Command}
use Rattle.nb_iscsipdu.specs.declared.command.Command.TheVariants.{TestUnitReady, ReadCapacity, Read}
use Rattle.nb_iscsipdu.specs.declared.answer.TaskStatus.{TaskStatus}
use Rattle.nb_iscsipdu.specs.declared.answer.ScsiResponse.{ScsiResponse}
use Rattle.nb_iscsipdu.specs.Commands.{asked_len}
use Rattle.nb_iscsipdu.specs.Answers.{AnswerParts, DataInParts}
use Rattle.nb_iscsipdu.proofs.KeyLemmas.{either_way}
use Rattle.nb_disk.specs.Histories.{DiskReading, SessionNumbers, tag_at_work, with_status, at_work, capacity_of}
use Rattle.nb_disk.specs.DiskAnswers.{DiskAnswer, no_answer, ends, broken, refused_cause, tested, command_answered, data_answer, response_answer, pdu_answer}
use Rattle.nb_disk.specs.DiskEndings.{EndsTask, by_response, by_data, IsUnsound, IsPatient, DiskEnding, by_login, by_other, by_idle_response, by_idle_data, by_tag_of_response, by_failed_response, by_tag_of_data, by_offset, by_excess, by_unsound, by_status}

-- the status of the command at work is answered as that
task-comes : (o : SessionNumbers) (r : DiskReading) (rec : ℕ) (command : Command) (a : AnswerParts) (bytes : List ℕ) (s : TaskStatus) → at_work r ≡ Some command → EndsTask o r command a bytes s
    → pdu_answer o r rec a ≡ command_answered o r rec command bytes s
task-comes o r rec command a bytes s here (by_response p tag done) =
    let both : (eqb p.task_tag (tag_at_work o r) && eqb p.response 0) ≡ true = and_from _ _ (eq-eqb p.task_tag (tag_at_work o r) tag) (eq-eqb p.response 0 done) in
    rw (here, both) refl
task-comes o r rec command a bytes s here (by_data d t tag place within status) =
    let all : (eqb d.task_tag (tag_at_work o r) && (eqb d.offset (length r.bytes) && leb (length r.bytes + length d.bytes) (asked_len command))) ≡ true =
    and_from _ _ (eq-eqb d.task_tag (tag_at_work o r) tag) (and_from _ _ (eq-eqb d.offset (length r.bytes) place) (le-leb (length r.bytes + length d.bytes) (asked_len command) within)) in
    rw (here, all, status) refl

unsized : (rec : ℕ) (found : Option ℕ) → found ≡ None → (if is_some found then no_answer else ends (broken rec)).over ≡ Some (broken rec)
unsized rec None is = refl
unsized rec (Some capacity) is = absurd cc

unsound-ends : (o : SessionNumbers) (r : DiskReading) (rec : ℕ) (command : Command) (bytes : List ℕ) (s : TaskStatus) → s.status ≡ 0 → IsUnsound command (r.bytes ++ bytes)
    → (command_answered o r rec command bytes s).over ≡ Some (broken rec)
unsound-ends o r rec TestUnitReady bytes s good unsound = absurd unsound
unsound-ends o r rec ReadCapacity bytes s good unsound =
    let zero : eqb s.status 0 ≡ true = eq-eqb s.status 0 good in
    rw zero (unsized rec (capacity_of (r.bytes ++ bytes)) unsound)
unsound-ends o r rec (Read lba blocks) bytes s good unsound =
    let zero : eqb s.status 0 ≡ true = eq-eqb s.status 0 good in
    let short : eqb (length r.bytes + length bytes) (512 * blocks) ≡ false =
    ne_eqb (length r.bytes + length bytes) (512 * blocks) (λ e. unsound (length-append r.bytes bytes ∙ e)) in
    rw (zero, short) refl

-- the first three check conditions alone are answered
untested : (o : SessionNumbers) (r after : DiskReading) (rec : ℕ) (s : TaskStatus) → eqb s.status 0 ≡ false → (IsPatient r TestUnitReady s.status → ⊥)
    → (tested o after rec (length r.results) s.status).over ≡ Some (refused_cause rec s.status)
untested o r after rec s off last =
    either_way (eqb s.status 2 && ltb (length r.results) 3)
    (λ on.
    let both = and_parts (eqb s.status 2) (ltb (length r.results) 3) on in
    absurd (last (eqb-true s.status 2 both.0, ltb-true (length r.results) 3 both.1)))
    (λ none. rw (off, none) refl)

status-ends : (o : SessionNumbers) (r : DiskReading) (rec : ℕ) (command : Command) (bytes : List ℕ) (s : TaskStatus) → 0 < s.status → (IsPatient r command s.status → ⊥)
    → (command_answered o r rec command bytes s).over ≡ Some (refused_cause rec s.status)
status-ends o r rec TestUnitReady bytes s some last = untested o r (with_status r bytes s) rec s (ne_eqb s.status 0 (λ e. omega (arith, e))) last
status-ends o r rec ReadCapacity bytes s some last =
    let off : eqb s.status 0 ≡ false = ne_eqb s.status 0 (λ e. omega (arith, e)) in
    rw off refl
status-ends o r rec (Read lba blocks) bytes s some last =
    let off : eqb s.status 0 ≡ false = ne_eqb s.status 0 (λ e. omega (arith, e)) in
    rw off refl

stray-response : (o : SessionNumbers) (r : DiskReading) (rec : ℕ) (work : Option Command) (s : ScsiResponse) → (eqb s.task_tag (tag_at_work o r) && eqb s.response 0) ≡ false
    → (response_answer o r rec work s).over ≡ Some (broken rec)
stray-response o r rec None s off = refl
stray-response o r rec (Some command) s off = rw off refl

stray-data : (o : SessionNumbers) (r : DiskReading) (rec : ℕ) (work : Option Command) (d : DataInParts)
    → ((command : Command) → work ≡ Some command → (eqb d.task_tag (tag_at_work o r) && (eqb d.offset (length r.bytes) && leb (length r.bytes + length d.bytes) (asked_len command))) ≡ false)
    → (data_answer o r rec work d).over ≡ Some (broken rec)
stray-data o r rec None d off = refl
stray-data o r rec (Some command) d off =
    let here = off command refl in
    rw here refl

much : (asked : ℕ) (here command : Command) → Some here ≡ Some command → asked_len here < asked → asked_len command < asked
much asked here command same more = subst (λ (x : Command). asked_len x < asked) (same_Some here command same) more

-- each cause ends it so
pub causes-end : (o : SessionNumbers) (r : DiskReading) (rec : ℕ) (a : AnswerParts) (cause : Cause) → DiskEnding o r rec a cause → (pdu_answer o r rec a).over ≡ Some cause
causes-end o r rec a cause (by_login l is same) = rw (is, same) refl
causes-end o r rec a cause (by_other is same) = rw (is, same) refl
causes-end o r rec a cause (by_idle_response s is idle same) = rw (is, same, idle) refl
causes-end o r rec a cause (by_idle_data d is idle same) = rw (is, same, idle) refl
causes-end o r rec a cause (by_tag_of_response s is stray same) =
    rw (is, same) (stray-response o r rec (at_work r) s (and_left _ _ (ne_eqb s.task_tag (tag_at_work o r) stray)))
causes-end o r rec a cause (by_failed_response s is failed same) = rw (is, same) (stray-response o r rec (at_work r) s (and_right _ _ (ne_eqb s.response 0 failed)))
causes-end o r rec a cause (by_tag_of_data d is stray same) =
    rw (is, same) (stray-data o r rec (at_work r) d (λ command here. and_left _ _ (ne_eqb d.task_tag (tag_at_work o r) stray)))
causes-end o r rec a cause (by_offset d is gap same) =
    rw (is, same) (stray-data o r rec (at_work r) d (λ command here. and_right _ _ (and_left _ _ (ne_eqb d.offset (length r.bytes) gap))))
causes-end o r rec a cause (by_excess d command is here more same) =
    rw (is, same, here) (stray-data o r rec (Some command) d
    (λ work this. and_right _ _ (and_right _ _ (lt-leb (length r.bytes + length d.bytes) (asked_len work) (much (length r.bytes + length d.bytes) command work this more)))))
causes-end o r rec a cause (by_unsound command bytes s here task good unsound same) =
    rw same (ap (λ (x : DiskAnswer). x.over) (task-comes o r rec command a bytes s here task) ∙ unsound-ends o r rec command bytes s good unsound)
causes-end o r rec a cause (by_status command bytes s here task some last same) =
    rw same (ap (λ (x : DiskAnswer). x.over) (task-comes o r rec command a bytes s here task) ∙ status-ends o r rec command bytes s some last)
