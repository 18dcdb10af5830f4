-- What a disk has read once a call has ended it.
use Rattle.std.proofs.Common.{◌≡◌, ℕ, ◌+◌, ◌-◌, ◌*◌, ◌==◌, Bool, true, false, cond, List, [], ◌∷◌, ◌++◌, length, Option, Some, None, refl, sym, ap, ◌∙◌, subst, length-append, arith}
use Rattle.std.specs.Prelude.{slice_get}
use Rattle.std.specs.Option.{is_some}
use Rattle.std.specs.List.{AllByRecursion}
use Rattle.std.proofs.lemmas.Bool.{ne_eqb}
use Rattle.nb_terms.specs.declared.cause.Cause.{Cause}
use Rattle.nb_iscsipdu.specs.declared.command.Command.{Command}
use Rattle.nb_iscsipdu.specs.declared.command.Command.TheVariants.{TestUnitReady, ReadCapacity, Read}
use Rattle.nb_iscsipdu.specs.declared.answer.ScsiResponse.{ScsiResponse}
use Rattle.nb_iscsipdu.specs.declared.answer.TaskStatus.{TaskStatus}
use Rattle.nb_iscsipdu.specs.Answers.{AnswerParts, DataInParts, login, scsi, data_in, nop_in, other, answer_read}
use Rattle.nb_iscsipdu.specs.Requests.{nop_pdu}
use Rattle.nb_disk.specs.Histories.{DiskCall, counted, came, asked, stream_ended, TaskResult, DiskReading, SessionNumbers, after_answer, after_call, at_work}
use Rattle.nb_disk.specs.Histories.{capacity_in, capacity_of, capacity_read, completes, first_capacity, fits, with_bytes, with_status}
use Rattle.nb_disk.specs.DiskAnswers.{command_answered, broken, bytes_answer, commands_put, data_answer, disk_answer, ends, expected_stat_sn, gives, no_answer, pdu_answer, puts, refused_cause, response_answer, sized}
use Rattle.nb_disk.specs.DiskStands.{IsCheck, IsReadingDisk, IsSized, IsSizing, IsTesting}
use Rattle.nb_disk.proofs.WorkLemmas.{at-idle, at-reading, at-sizing, at-testing, ready-added, size-ready, size-sized, size-testing}
use Rattle.nb_sans.specs.Sessions.{answers_of, blocks_read, read_refused, read_results, read_short, task_answer}
use Rattle.nb_machine.specs.Drives.{last_answer}
use Rattle.nb_drivetalks.specs.Comings.{IsPart}
use Rattle.nb_open.specs.DriveAnswers.{IsNotRead}
use Rattle.nb_open.proofs.DiskAnswering.{Phase, is_idle, is_reading, is_sizing, is_testing, last_of, last_read, none_last, results_read, unread_yet}

-- nothing was answered by it, or the read at work was, but not by all its bytes, and none was answered last before
pub data EndsAs (r q : DiskReading) : Type 0 where
  ends_unread : capacity_read q ≡ capacity_read r → last_of q ≡ last_of r → EndsAs r q
  ends_badly : (capacity : ℕ) → capacity_read r ≡ Some capacity → capacity_read q ≡ Some capacity → IsNotRead (last_of q) → last_of r ≡ None → EndsAs r q

-- LEMMAS

-- a result after check conditions leaves no capacity
no_size_yet : (rs : List TaskResult) (t : TaskResult) → AllByRecursion IsCheck rs → capacity_in (rs ++ t ∷ []) ≡ None
no_size_yet [] t all = by (t.status == 0)
  where
    by : (b : Bool) → cond b (first_capacity []) (capacity_in []) ≡ None
    by true = refl
    by false = refl
no_size_yet (r ∷ rs) t all =
    ap (λ b. cond b (first_capacity (rs ++ t ∷ [])) (capacity_in (rs ++ t ∷ []))) (ne_eqb r.status 0 (λ e. absurd (omega (arith, e, all.0)))) ∙ no_size_yet rs t all.1

-- ONE CALL

module _ (o : SessionNumbers) (r : DiskReading) (rec : ℕ) where
  module _ (bytes : List ℕ) (s : TaskStatus) where
    abbrev q : DiskReading
    q = with_status r bytes s

    abbrev result : TaskResult
    result = record { bytes = r.bytes ++ bytes; status = s.status }

    untested : (checks : ℕ) → IsTesting r checks → EndsAs r q
    untested checks is = ends_unread (no_size_yet r.results result is.all ∙ sym (size-testing r checks is)) (none_last q is.unasked ∙ sym (none_last r is.unasked))

    module _ (size : List ℕ) (is : IsSizing r size) where
      size_then : capacity_read q ≡ first_capacity (result ∷ [])
      size_then = size-ready q (result ∷ []) (ready-added r q [] result is.ready refl)

      unsized_by : (good : Bool) (capacity : Option ℕ) (x : Cause) → (cond good (cond (is_some capacity) no_answer (ends (broken rec))) (ends (refused_cause rec s.status))).over ≡ Some x → cond good capacity None ≡ None
      unsized_by true None x over = refl
      unsized_by true (Some capacity) x over = absurd (let z = over in cc)
      unsized_by false capacity x over = refl

      unsized : (x : Cause) → (sized rec (r.bytes ++ bytes) s.status).over ≡ Some x → EndsAs r q
      unsized x over =
          ends_unread (size_then ∙ (unsized_by (s.status == 0) (capacity_of (r.bytes ++ bytes)) x over ∙ sym (size-ready r [] is.ready))) (none_last q is.unasked ∙ sym (none_last r is.unasked))

    module _ (capacity wanted got lba blocks : ℕ) (is : IsReadingDisk r capacity wanted got) (at : at_work r ≡ Some (Read lba blocks)) where
      same_blocks : is.last.1 ≡ blocks
      same_blocks = let z : Some (Read is.last.0 is.last.1) ≡ Some (Read lba blocks) = sym (at-reading r capacity wanted got is) ∙ at in cc

      abbrev sized_then : IsSized q capacity (is.done ++ result ∷ [])
      sized_then = record { first = is.sized.first; ready = ready-added r q (is.sized.first ∷ is.done) result is.sized.ready refl; is = is.sized.is }

      last_then : last_of q ≡ Some (task_answer is.last.1 result)
      last_then =
          let done = is.done ++ result ∷ [] in
          let place : length (is.before ++ is.last ∷ []) - 1 ≡ length is.before = let l = length-append is.before (is.last ∷ []) in omega (arith, l) in
          ap (λ z. last_answer z (answers_of z (read_results q.results))) is.reads
          ∙ (ap (λ z. last_answer (is.before ++ is.last ∷ []) (answers_of (is.before ++ is.last ∷ []) z)) (results_read q (is.sized.first ∷ done) sized_then.ready)
          ∙ (ap (slice_get (answers_of (is.before ++ is.last ∷ []) done)) place ∙ last_read is.before is.last is.done result is.all))

      unread_by : (good all : Bool) (x : Cause) → (cond good (cond all (gives bytes) (ends (broken rec))) (ends (refused_cause rec s.status))).over ≡ Some x → IsNotRead (Some (cond good (cond all (blocks_read (r.bytes ++ bytes)) read_short) (read_refused s.status)))
      unread_by true true x over = absurd (let z = over in cc)
      unread_by true false x over = tt
      unread_by false all x over = tt

      long : (length (r.bytes ++ bytes) == 512 * is.last.1) ≡ (length r.bytes + length bytes == 512 * blocks)
      long = ap (λ n. n == 512 * is.last.1) (length-append r.bytes bytes) ∙ ap (λ n. length r.bytes + length bytes == 512 * n) same_blocks

      unread : (x : Cause) → (cond (s.status == 0) (cond (length r.bytes + length bytes == 512 * blocks) (gives bytes) (ends (broken rec))) (ends (refused_cause rec s.status))).over ≡ Some x → EndsAs r q
      unread x over =
          ends_badly capacity (size-sized r capacity is.done is.sized) (size-sized q capacity (is.done ++ result ∷ []) sized_then)
          (subst IsNotRead (sym last_then)
          (subst (λ b. IsNotRead (Some (cond (s.status == 0) (cond b (blocks_read (r.bytes ++ bytes)) read_short) (read_refused s.status)))) (sym long) (unread_by (s.status == 0) (length r.bytes + length bytes == 512 * blocks) x over)))
          (unread_yet r capacity wanted got is)

    status_ends : (c : Command) → at_work r ≡ Some c → Phase r → (x : Cause) → (command_answered o r rec c bytes s).over ≡ Some x → EndsAs r q
    status_ends TestUnitReady at (is_testing checks is) x over = untested checks is
    status_ends ReadCapacity at (is_testing checks is) x over = absurd (let z : Some ReadCapacity ≡ Some TestUnitReady = sym at ∙ at-testing r checks is in cc)
    status_ends (Read lba blocks) at (is_testing checks is) x over = absurd (let z : Some (Read lba blocks) ≡ Some TestUnitReady = sym at ∙ at-testing r checks is in cc)
    status_ends TestUnitReady at (is_sizing size is) x over = absurd (let z : Some TestUnitReady ≡ Some ReadCapacity = sym at ∙ at-sizing r size is in cc)
    status_ends ReadCapacity at (is_sizing size is) x over = unsized size is x over
    status_ends (Read lba blocks) at (is_sizing size is) x over = absurd (let z : Some (Read lba blocks) ≡ Some ReadCapacity = sym at ∙ at-sizing r size is in cc)
    status_ends c at (is_idle capacity is) x over = absurd (let z : Some c ≡ None = sym at ∙ at-idle r capacity is in cc)
    status_ends TestUnitReady at (is_reading capacity wanted got is) x over = absurd (let z : Some TestUnitReady ≡ Some (Read is.last.0 is.last.1) = sym at ∙ at-reading r capacity wanted got is in cc)
    status_ends ReadCapacity at (is_reading capacity wanted got is) x over = absurd (let z : Some ReadCapacity ≡ Some (Read is.last.0 is.last.1) = sym at ∙ at-reading r capacity wanted got is in cc)
    status_ends (Read lba blocks) at (is_reading capacity wanted got is) x over = unread capacity wanted got lba blocks is at x over

  -- A PDU

  still : EndsAs r r
  still = ends_unread refl refl

  response_ends : (a : ScsiResponse) (w : Option Command) → at_work r ≡ w → Phase r → (x : Cause) → (response_answer o r rec w a).over ≡ Some x → EndsAs r (cond (completes o r w a) (with_status r [] a.status) r)
  response_ends a None at p x over = still
  response_ends a (Some c) at p x over = by (completes o r (Some c) a) over
    where
      by : (b : Bool) → (cond b (command_answered o r rec c [] a.status) (ends (broken rec))).over ≡ Some x → EndsAs r (cond b (with_status r [] a.status) r)
      by true over = status_ends [] a.status c at p x over
      by false over = still

  data_ends : (d : DataInParts) (w : Option Command) → at_work r ≡ w → Phase r → (x : Cause) → (data_answer o r rec w d).over ≡ Some x → EndsAs r (cond (fits o r w d) (with_bytes r d.bytes d.status) r)
  data_ends d None at p x over = still
  data_ends d (Some c) at p x over = by (fits o r (Some c) d) over
    where
      with_them : (t : Option TaskStatus) → (bytes_answer o r rec c d.bytes t).over ≡ Some x → EndsAs r (with_bytes r d.bytes t)
      with_them None over = absurd (let z = over in cc)
      with_them (Some s) over = status_ends d.bytes s c at p x over

      by : (b : Bool) → (cond b (bytes_answer o r rec c d.bytes d.status) (ends (broken rec))).over ≡ Some x → EndsAs r (cond b (with_bytes r d.bytes d.status) r)
      by true over = with_them d.status over
      by false over = still

  pdu_ends : (a : AnswerParts) → Phase r → (x : Cause) → (pdu_answer o r rec a).over ≡ Some x → EndsAs r (after_answer o r a)
  pdu_ends (login a) p x over = still
  pdu_ends (scsi a) p x over = response_ends a (at_work r) refl p x over
  pdu_ends (data_in d) p x over = data_ends d (at_work r) refl p x over
  pdu_ends (nop_in n) p x over = still
  pdu_ends other p x over = still

  -- an idle disk reads and gives nothing
  idle_pdu : (a : AnswerParts) → at_work r ≡ None → (x : Cause) → (pdu_answer o r rec a).over ≡ Some x → ((pdu_answer o r rec a).give ≡ []) × (after_answer o r a ≡ r)
  idle_pdu (login a) idle x over = (refl, refl)
  idle_pdu (scsi a) idle x over = (ap (λ (w : Option Command). (response_answer o r rec w a).give) idle, ap (λ (w : Option Command). cond (completes o r w a) (with_status r [] a.status) r) idle)
  idle_pdu (data_in d) idle x over = (ap (λ (w : Option Command). (data_answer o r rec w d).give) idle, ap (λ (w : Option Command). cond (fits o r w d) (with_bytes r d.bytes d.status) r) idle)
  idle_pdu (nop_in n) idle x over = (nop (n.target_tag == 0xffffffff), refl)
    where
      nop : (b : Bool) → (cond b no_answer (puts (nop_pdu (record { lun = n.lun; target_tag = n.target_tag; cmd_sn = counted o.cmd_sn (commands_put r); exp_stat_sn = expected_stat_sn o r })))).give ≡ []
      nop true = refl
      nop false = refl
  idle_pdu other idle x over = (refl, refl)

pub ended_call : (o : SessionNumbers) (r : DiskReading) (call : DiskCall) → IsPart call → Phase r → (x : Cause) → (disk_answer o r call).over ≡ Some x → EndsAs r (after_call o r call)
ended_call o r (came rec p) is phase x over = pdu_ends o r rec (answer_read p) phase x over
ended_call o r (asked lba blocks) is phase x over = absurd is
ended_call o r (stream_ended rec) is phase x over = ends_unread refl refl

pub idle_ended : (o : SessionNumbers) (r : DiskReading) (call : DiskCall) → IsPart call → at_work r ≡ None → (x : Cause) → (disk_answer o r call).over ≡ Some x → ((disk_answer o r call).give ≡ []) × (after_call o r call ≡ r)
idle_ended o r (came rec p) is idle x over = idle_pdu o r rec (answer_read p) idle x over
idle_ended o r (asked lba blocks) is idle x over = absurd is
idle_ended o r (stream_ended rec) is idle x over = (refl, refl)
