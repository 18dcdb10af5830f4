-- What a disk gives and answers, call by call, is what it has read.
use Rattle.std.proofs.Common.{◌≡◌, ◌≤◌, ℕ, ◌+◌, ◌-◌, ◌*◌, ◌==◌, ◌&&◌, Bool, true, false, not, cond, List, [], ◌∷◌, ◌++◌, length, drop, nat_lt, nat_le, Option, Some, None, refl, sym, ap, ◌∙◌, subst, append_assoc, append-nil, length-append, arith}
use Rattle.std.specs.Prelude.{slice_get}
use Rattle.std.specs.Option.{is_some, option_or}
use Rattle.std.specs.List.{AllByRecursion}
use Rattle.std.proofs.lemmas.Bool.{eq-eqb, eqb-true, leb-true, ltb-true, ne_eqb}
use Rattle.nb_iscsipdu.specs.declared.command.Command.{Command}
use Rattle.nb_iscsipdu.specs.declared.command.Command.TheVariants.{TestUnitReady, ReadCapacity, Read}
use Rattle.nb_iscsipdu.specs.declared.answer.NopIn.{NopIn}
use Rattle.nb_iscsipdu.specs.declared.answer.ScsiResponse.{ScsiResponse}
use Rattle.nb_iscsipdu.specs.declared.answer.TaskStatus.{TaskStatus}
use Rattle.nb_iscsipdu.specs.Answers.{AnswerParts, DataInParts, login, scsi, data_in, nop_in, other, answer_read}
use Rattle.nb_disk.specs.Histories.{DiskCall, counted, came, asked, stream_ended, TaskResult, DiskReading, SessionNumbers, nothing_read, after_answer, after_call, at_work, capacity_of, capacity_read, completes, fits, tag_at_work, with_bytes, with_status}
use Rattle.nb_disk.specs.DiskAnswers.{command_answered, broken, bytes_answer, command_after, commands_put, disk_answer, ends, expected_stat_sn, gives, bytes_given, nop_answer, pdu_answer, refused_cause, response_answer, data_answer, sized, tested, puts, no_answer}
use Rattle.nb_iscsipdu.specs.Requests.{nop_pdu}
use Rattle.nb_disk.specs.DiskStands.{IsCheck, IsTesting, IsAnsweredWell, IsSizing, IsIdleDisk, IsReadingDisk}
use Rattle.nb_disk.proofs.WorkLemmas.{at-idle, at-reading, at-sizing, at-testing, checks-added, ready-added, size-ready, size-sized, size-testing}
use Rattle.nb_sans.specs.Sessions.{TaskAnswer, answers_of, blocks_read, read_refused, read_results, read_short, task_answer}
use Rattle.nb_machine.specs.Drives.{last_answer}
use Rattle.nb_drivetalks.specs.Comings.{IsPart}
use Rattle.nb_open.specs.DriveAnswers.{bytes_of_read, is_read}

-- where a drive is that goes on
pub data Phase (r : DiskReading) : Type 0 where
  is_testing : (checks : ℕ) → IsTesting r checks → Phase r
  is_sizing : (size : List ℕ) → IsSizing r size → Phase r
  is_idle : (capacity : ℕ) → IsIdleDisk r capacity → Phase r
  is_reading : (capacity wanted got : ℕ) → IsReadingDisk r capacity wanted got → Phase r

-- how its last read was answered, if it was
abbrev pub last_of : DiskReading → Option TaskAnswer
last_of r = last_answer r.reads (answers_of r.reads (read_results r.results))

-- the bytes that have come of the read at work
abbrev pub bytes_of : DiskReading → List ℕ
bytes_of r = bytes_of_read r (at_work r)

abbrev pub read_last : Option ℕ → List ℕ → Option TaskAnswer
read_last None bytes = None
read_last (Some capacity) bytes = Some (blocks_read bytes)

-- whether a read is at work
abbrev pub reads_of : DiskReading → Bool
reads_of r = is_read (at_work r)

-- It went on, and gave these bytes; a command of its user's was answered then, or none was. The first is answered before its capacity is
-- known, and each later one is a read.
abbrev pub GoesTo : DiskReading → DiskReading → Option ℕ → List ℕ → Type 0
GoesTo r q None bytes = (capacity_read q ≡ capacity_read r) × (last_of q ≡ last_of r) × (bytes_of q ≡ bytes_of r ++ bytes) × (reads_of q ≡ reads_of r)
GoesTo r q (Some capacity) bytes =
    (capacity_read q ≡ Some capacity) × (last_of q ≡ read_last (capacity_read r) (bytes_of r ++ bytes)) × (bytes_of q ≡ []) × (at_work q ≡ None) × (reads_of r ≡ is_some (capacity_read r))

-- whether one was, by what is at work before and after
abbrev pub answer_by : DiskReading → DiskReading → Option ℕ
answer_by r q = cond (is_some (at_work r) && not (is_some (at_work q))) (capacity_read q) None

pub record Stepped (r q : DiskReading) (bytes : List ℕ) : Type 0 where
  pub goes : GoesTo r q (answer_by r q) bytes
  pub phase : Phase q

-- LEMMAS

pub none_last : (r : DiskReading) → r.reads ≡ [] → last_of r ≡ None
none_last r e = ap (λ z. last_answer z (answers_of z (read_results r.results))) e

not_both : (b : Bool) → (b && not b) ≡ false
not_both true = refl
not_both false = refl

still_busy : (r q : DiskReading) (c d : Command) → at_work r ≡ Some c → at_work q ≡ Some d → answer_by r q ≡ None
still_busy r q c d was is = ap (λ z. cond (is_some z && not (is_some (at_work q))) (capacity_read q) None) was ∙ ap (λ z. cond (not (is_some z)) (capacity_read q) None) is

now_idle : (r q : DiskReading) (c : Command) (capacity : ℕ) → at_work r ≡ Some c → at_work q ≡ None → capacity_read q ≡ Some capacity → answer_by r q ≡ Some capacity
now_idle r q c capacity was is size = ap (λ z. cond (is_some z && not (is_some (at_work q))) (capacity_read q) None) was ∙ (ap (λ z. cond (not (is_some z)) (capacity_read q) None) is ∙ size)

bytes_by : (r : DiskReading) (w : Option Command) → at_work r ≡ w → bytes_of r ≡ bytes_of_read r w
bytes_by r w is = ap (bytes_of_read r) is

-- the results of reads
checks_aside : (rs later : List TaskResult) → AllByRecursion IsCheck rs → read_results (rs ++ later) ≡ read_results later
checks_aside [] later all = refl
checks_aside (r ∷ rs) later all =
    ap (λ b. cond b (drop 1 (rs ++ later)) (read_results (rs ++ later))) (ne_eqb r.status 0 (λ e. absurd (omega (arith, e, all.0)))) ∙ checks_aside rs later all.1

pub results_read : (r : DiskReading) (later : List TaskResult) → IsAnsweredWell r later → read_results r.results ≡ drop 1 later
results_read r later is =
    ap read_results is.results ∙ (checks_aside is.checks (is.good ∷ later) is.all ∙ ap (λ b. cond b (drop 1 later) (read_results later)) (eq-eqb is.good.status 0 is.is_good))

pub last_read : (before : List (ℕ × ℕ)) (last : ℕ × ℕ) (done : List TaskResult) (result : TaskResult) → length done ≡ length before
    → slice_get (answers_of (before ++ last ∷ []) (done ++ result ∷ [])) (length before) ≡ Some (task_answer last.1 result)
last_read [] last [] result same = refl
last_read [] last (d ∷ done) result same = absurd (omega (arith, same))
last_read (b ∷ before) last [] result same = absurd (omega (arith, same))
last_read (b ∷ before) last (d ∷ done) result same = last_read before last done result (omega (arith, same))

none_yet : (before : List (ℕ × ℕ)) (last : ℕ × ℕ) (done : List TaskResult) → length done ≡ length before → slice_get (answers_of (before ++ last ∷ []) done) (length before) ≡ None
none_yet [] last [] same = refl
none_yet [] last (d ∷ done) same = absurd (omega (arith, same))
none_yet (b ∷ before) last [] same = absurd (omega (arith, same))
none_yet (b ∷ before) last (d ∷ done) same = none_yet before last done (omega (arith, same))

-- while a read is at work, nothing is read last
pub unread_yet : (r : DiskReading) (capacity wanted got : ℕ) → IsReadingDisk r capacity wanted got → last_of r ≡ None
unread_yet r capacity wanted got is =
    let place : length (is.before ++ is.last ∷ []) - 1 ≡ length is.before = let l = length-append is.before (is.last ∷ []) in omega (arith, l) in
    ap (λ z. last_answer z (answers_of z (read_results r.results))) is.reads
    ∙ (ap (λ z. last_answer (is.before ++ is.last ∷ []) (answers_of (is.before ++ is.last ∷ []) z)) (results_read r (is.sized.first ∷ is.done) is.sized.ready)
    ∙ (ap (slice_get (answers_of (is.before ++ is.last ∷ []) is.done)) place ∙ none_yet is.before is.last is.done is.all))

-- ONE CALL

module _ (o : SessionNumbers) (r : DiskReading) (rec : ℕ) where
  -- nothing is read
  stands_still : Phase r → Stepped r r []
  stands_still p = record {
    goes = subst (λ z. GoesTo r r z []) (sym (ap (λ b. cond b (capacity_read r) None) (not_both (is_some (at_work r))))) (refl, refl, sym (append-nil (bytes_of r)), refl);
    phase = p;
  }

  -- DATA OF THE COMMAND AT WORK

  abbrev more : List ℕ → DiskReading
  more bytes = with_bytes r bytes None

  no_room : (d : DataInParts) → fits o r (Some TestUnitReady) d ≡ true → length r.bytes + length d.bytes ≤ 0
  no_room d fit = by (d.task_tag == tag_at_work o r) (d.offset == length r.bytes) (nat_le (length r.bytes + length d.bytes) 0) refl fit
    where
      by : (a b e : Bool) → nat_le (length r.bytes + length d.bytes) 0 ≡ e → (a && (b && e)) ≡ true → length r.bytes + length d.bytes ≤ 0
      by true true true e h = leb-true (length r.bytes + length d.bytes) 0 e
      by true true false e h = absurd (cc)
      by true false x e h = absurd (cc)
      by false x y e h = absurd (cc)

  nothing_there : (xs ys : List ℕ) → length xs + length ys ≤ 0 → xs ++ ys ≡ []
  nothing_there [] [] e = refl
  nothing_there [] (y ∷ ys) e = absurd (omega (arith, e))
  nothing_there (x ∷ xs) ys e = absurd (omega (arith, e))

  more_phase : (c : Command) → at_work r ≡ Some c → (d : DataInParts) → fits o r (Some c) d ≡ true → Phase r → Phase (more d.bytes)
  more_phase TestUnitReady at d fit (is_testing checks is) = is_testing checks (record { all = is.all; count = is.count; few = is.few; none = nothing_there r.bytes d.bytes (no_room d fit); unasked = is.unasked })
  more_phase ReadCapacity at d fit (is_testing checks is) = absurd (let z : Some ReadCapacity ≡ Some TestUnitReady = sym at ∙ at-testing r checks is in cc)
  more_phase (Read lba blocks) at d fit (is_testing checks is) = absurd (let z : Some (Read lba blocks) ≡ Some TestUnitReady = sym at ∙ at-testing r checks is in cc)
  more_phase c at d fit (is_sizing size is) = is_sizing (r.bytes ++ d.bytes) (record { ready = record { checks = is.ready.checks; good = is.ready.good; all = is.ready.all; is_good = is.ready.is_good; results = is.ready.results }; came = refl; unasked = is.unasked })
  more_phase c at d fit (is_idle capacity is) = absurd (let z : Some c ≡ None = sym at ∙ at-idle r capacity is in cc)
  more_phase c at d fit (is_reading capacity wanted got is) = is_reading capacity wanted (got + length d.bytes) (record {
    done = is.done;
    before = is.before;
    last = is.last;
    sized = record { first = is.sized.first; ready = record { checks = is.sized.ready.checks; good = is.sized.ready.good; all = is.sized.ready.all; is_good = is.sized.ready.is_good; results = is.sized.ready.results }; is = is.sized.is };
    reads = is.reads;
    all = is.all;
    is = is.is;
    came = length-append r.bytes d.bytes ∙ ap (λ n. n + length d.bytes) is.came;
  })

  more_bytes : (c : Command) (bytes : List ℕ) → bytes_of_read (more bytes) (Some c) ≡ bytes_of_read r (Some c) ++ bytes_given c bytes
  more_bytes TestUnitReady bytes = refl
  more_bytes ReadCapacity bytes = refl
  more_bytes (Read lba blocks) bytes = refl

  goes_more : (c : Command) → at_work r ≡ Some c → (d : DataInParts) → fits o r (Some c) d ≡ true → Phase r → Stepped r (more d.bytes) (bytes_given c d.bytes)
  goes_more c at d fit p = record {
    goes = subst (λ z. GoesTo r (more d.bytes) z (bytes_given c d.bytes)) (sym (still_busy r (more d.bytes) c c at at))
        (refl, refl, ap (bytes_of_read (more d.bytes)) at ∙ (more_bytes c d.bytes ∙ ap (λ z. z ++ bytes_given c d.bytes) (sym (bytes_by r (Some c) at))), refl);
    phase = more_phase c at d fit p;
  }

  -- A STATUS

  module _ (bytes : List ℕ) (s : TaskStatus) where
    abbrev q : DiskReading
    q = with_status r bytes s

    abbrev result : TaskResult
    result = record { bytes = r.bytes ++ bytes; status = s.status }

    -- TEST UNIT READY

    module _ (checks : ℕ) (is : IsTesting r checks) where
      abbrev at : at_work r ≡ Some TestUnitReady
      at = at-testing r checks is

      now_sizing : (s.status == 0) ≡ true → Stepped r q []
      now_sizing a =
          let ready : IsAnsweredWell q [] = record { checks = r.results; good = result; all = is.all; is_good = eqb-true s.status 0 a; results = refl } in
          let after : IsSizing q [] = record { ready = ready; came = refl; unasked = is.unasked } in
          let then = at-sizing q [] after in
          record {
            goes = subst (λ z. GoesTo r q z []) (sym (still_busy r q TestUnitReady ReadCapacity at then))
                (size-ready q [] ready ∙ sym (size-testing r checks is), none_last q is.unasked ∙ sym (none_last r is.unasked), bytes_by q (Some ReadCapacity) then ∙ sym (ap (λ z. z ++ []) (bytes_by r (Some TestUnitReady) at)), ap is_read then ∙ sym (ap is_read at));
            phase = is_sizing [] after;
          }

      still_testing : (s.status == 2) ≡ true → nat_lt (length r.results) 3 ≡ true → Stepped r q []
      still_testing b few =
          let after : IsTesting q (checks + 1) = record {
            all = checks-added r.results result is.all (eqb-true s.status 2 b);
            count = length-append r.results (result ∷ []) ∙ ap (λ n. n + 1) is.count;
            few = let i = ltb-true (length r.results) 3 few in let e = is.count in omega (arith, i, e);
            none = refl;
            unasked = is.unasked;
          } in
          let then = at-testing q (checks + 1) after in
          record {
            goes = subst (λ z. GoesTo r q z []) (sym (still_busy r q TestUnitReady TestUnitReady at then))
                (size-testing q (checks + 1) after ∙ sym (size-testing r checks is), none_last q is.unasked ∙ sym (none_last r is.unasked), bytes_by q (Some TestUnitReady) then ∙ sym (ap (λ z. z ++ []) (bytes_by r (Some TestUnitReady) at)), ap is_read then ∙ sym (ap is_read at));
            phase = is_testing (checks + 1) after;
          }

      tested_by : (good check few : Bool) → (s.status == 0) ≡ good → (s.status == 2) ≡ check → nat_lt (length r.results) 3 ≡ few
          → (cond good (puts (command_after o q (length r.results + 1) ReadCapacity)) (cond (check && few) (puts (command_after o q (length r.results + 1) TestUnitReady)) (ends (refused_cause rec s.status)))).over ≡ None → Stepped r q []
      tested_by true check few a b c over = now_sizing a
      tested_by false true true a b c over = still_testing b c
      tested_by false true false a b c over = absurd (cc)
      tested_by false false few a b c over = absurd (cc)

      tested_gives : (a b : Bool) → (cond a (puts (command_after o q (length r.results + 1) ReadCapacity)) (cond b (puts (command_after o q (length r.results + 1) TestUnitReady)) (ends (refused_cause rec s.status)))).give ≡ []
      tested_gives true b = refl
      tested_gives false true = refl
      tested_gives false false = refl

      tested_once : (tested o q rec (length r.results) s.status).over ≡ None → Stepped r q (tested o q rec (length r.results) s.status).give
      tested_once over =
          subst (Stepped r q) (sym (tested_gives (s.status == 0) ((s.status == 2) && nat_lt (length r.results) 3)))
          (tested_by (s.status == 0) (s.status == 2) (nat_lt (length r.results) 3) refl refl refl over)

    -- READ CAPACITY

    module _ (size : List ℕ) (is : IsSizing r size) where
      now_sized : (capacity : ℕ) → (s.status == 0) ≡ true → capacity_of (r.bytes ++ bytes) ≡ Some capacity → Stepped r q []
      now_sized capacity a b =
          let at = at-sizing r size is in
          let after : IsIdleDisk q capacity = record {
            done = [];
            sized = record { first = result; ready = ready-added r q [] result is.ready refl; is = ap (λ g. cond g (capacity_of (r.bytes ++ bytes)) None) a ∙ b };
            all = sym (ap length is.unasked);
            none = refl;
          } in
          let then = at-idle q capacity after in
          let was : capacity_read r ≡ None = size-ready r [] is.ready in
          record {
            goes = subst (λ z. GoesTo r q z []) (sym (now_idle r q ReadCapacity capacity at then (size-sized q capacity [] after.sized)))
                (size-sized q capacity [] after.sized, none_last q is.unasked ∙ sym (ap (λ z. read_last z (bytes_of r ++ [])) was), bytes_by q None then, then, ap is_read at ∙ sym (ap is_some was));
            phase = is_idle capacity after;
          }

      sized_by : (good : Bool) (capacity : Option ℕ) → (s.status == 0) ≡ good → capacity_of (r.bytes ++ bytes) ≡ capacity → (cond good (cond (is_some capacity) no_answer (ends (broken rec))) (ends (refused_cause rec s.status))).over ≡ None → Stepped r q []
      sized_by true (Some capacity) a b over = now_sized capacity a b
      sized_by true None a b over = absurd (cc)
      sized_by false capacity a b over = absurd (cc)

      sized_gives : (a b : Bool) → (cond a (cond b no_answer (ends (broken rec))) (ends (refused_cause rec s.status))).give ≡ []
      sized_gives true true = refl
      sized_gives true false = refl
      sized_gives false b = refl

      sized_once : (sized rec (r.bytes ++ bytes) s.status).over ≡ None → Stepped r q (sized rec (r.bytes ++ bytes) s.status).give
      sized_once over =
          subst (Stepped r q) (sym (sized_gives (s.status == 0) (is_some (capacity_of (r.bytes ++ bytes)))))
          (sized_by (s.status == 0) (capacity_of (r.bytes ++ bytes)) refl refl over)

    -- READ

    module _ (capacity wanted got lba blocks : ℕ) (is : IsReadingDisk r capacity wanted got) (at : at_work r ≡ Some (Read lba blocks)) where
      same_blocks : is.last.1 ≡ blocks
      same_blocks = let z : Some (Read is.last.0 is.last.1) ≡ Some (Read lba blocks) = sym (at-reading r capacity wanted got is) ∙ at in cc

      now_read : (s.status == 0) ≡ true → (length r.bytes + length bytes == 512 * blocks) ≡ true → Stepped r q bytes
      now_read a b =
          let done = is.done ++ result ∷ [] in
          let after : IsIdleDisk q capacity = record {
            done = done;
            sized = record { first = is.sized.first; ready = ready-added r q (is.sized.first ∷ is.done) result is.sized.ready refl; is = is.sized.is };
            all = length-append is.done (result ∷ []) ∙ (ap (λ n. n + 1) is.all ∙ (sym (length-append is.before (is.last ∷ [])) ∙ sym (ap length is.reads)));
            none = refl;
          } in
          let then = at-idle q capacity after in
          let was : capacity_read r ≡ Some capacity = size-sized r capacity is.done is.sized in
          let is_size = size-sized q capacity done after.sized in
          let long : (length (r.bytes ++ bytes) == 512 * is.last.1) ≡ true = ap (λ n. n == 512 * is.last.1) (length-append r.bytes bytes) ∙ (ap (λ n. length r.bytes + length bytes == 512 * n) same_blocks ∙ b) in
          let task : task_answer is.last.1 result ≡ blocks_read (r.bytes ++ bytes) = ap (λ g. cond g (cond (length (r.bytes ++ bytes) == 512 * is.last.1) (blocks_read (r.bytes ++ bytes)) read_short) (read_refused s.status)) a ∙ ap (λ g. cond g (blocks_read (r.bytes ++ bytes)) read_short) long in
          let place : length (is.before ++ is.last ∷ []) - 1 ≡ length is.before = let l = length-append is.before (is.last ∷ []) in omega (arith, l) in
          let answers : last_of q ≡ Some (blocks_read (r.bytes ++ bytes)) =
          ap (λ z. last_answer z (answers_of z (read_results q.results))) is.reads
          ∙ (ap (λ z. last_answer (is.before ++ is.last ∷ []) (answers_of (is.before ++ is.last ∷ []) z)) (results_read q (is.sized.first ∷ done) after.sized.ready)
          ∙ (ap (slice_get (answers_of (is.before ++ is.last ∷ []) done)) place ∙ (last_read is.before is.last is.done result is.all ∙ ap Some task))) in
          record {
            goes = subst (λ z. GoesTo r q z bytes) (sym (now_idle r q (Read lba blocks) capacity at then is_size))
                (is_size, answers ∙ (sym (ap (λ z. read_last z (bytes_of r ++ bytes)) was ∙ ap (λ z. Some (blocks_read (z ++ bytes))) (bytes_by r (Some (Read lba blocks)) at))), bytes_by q None then, then, ap is_read at ∙ sym (ap is_some was));
            phase = is_idle capacity after;
          }

      read_by : (good all : Bool) → (s.status == 0) ≡ good → (length r.bytes + length bytes == 512 * blocks) ≡ all
          → (cond good (cond all (gives bytes) (ends (broken rec))) (ends (refused_cause rec s.status))).over ≡ None → Stepped r q (cond good (cond all (gives bytes) (ends (broken rec))) (ends (refused_cause rec s.status))).give
      read_by true true a b over = now_read a b
      read_by true false a b over = absurd (cc)
      read_by false all a b over = absurd (cc)

    answered_once : (c : Command) → at_work r ≡ Some c → Phase r → (command_answered o r rec c bytes s).over ≡ None → Stepped r q (command_answered o r rec c bytes s).give
    answered_once TestUnitReady at (is_testing checks is) over = tested_once checks is over
    answered_once ReadCapacity at (is_testing checks is) over = absurd (let z : Some ReadCapacity ≡ Some TestUnitReady = sym at ∙ at-testing r checks is in cc)
    answered_once (Read lba blocks) at (is_testing checks is) over = absurd (let z : Some (Read lba blocks) ≡ Some TestUnitReady = sym at ∙ at-testing r checks is in cc)
    answered_once TestUnitReady at (is_sizing size is) over = absurd (let z : Some TestUnitReady ≡ Some ReadCapacity = sym at ∙ at-sizing r size is in cc)
    answered_once ReadCapacity at (is_sizing size is) over = sized_once size is over
    answered_once (Read lba blocks) at (is_sizing size is) over = absurd (let z : Some (Read lba blocks) ≡ Some ReadCapacity = sym at ∙ at-sizing r size is in cc)
    answered_once c at (is_idle capacity is) over = absurd (let z : Some c ≡ None = sym at ∙ at-idle r capacity is in cc)
    answered_once TestUnitReady at (is_reading capacity wanted got is) over = absurd (let z : Some TestUnitReady ≡ Some (Read is.last.0 is.last.1) = sym at ∙ at-reading r capacity wanted got is in cc)
    answered_once ReadCapacity at (is_reading capacity wanted got is) over = absurd (let z : Some ReadCapacity ≡ Some (Read is.last.0 is.last.1) = sym at ∙ at-reading r capacity wanted got is in cc)
    answered_once (Read lba blocks) at (is_reading capacity wanted got is) over = read_by capacity wanted got lba blocks is at (s.status == 0) (length r.bytes + length bytes == 512 * blocks) refl refl over

  -- A PDU

  respond : (a : ScsiResponse) (w : Option Command) → at_work r ≡ w → Phase r → (response_answer o r rec w a).over ≡ None → Stepped r (cond (completes o r w a) (with_status r [] a.status) r) (response_answer o r rec w a).give
  respond a None at p over = absurd (cc)
  respond a (Some c) at p over = by (completes o r (Some c) a) over
    where
      by : (b : Bool) → (cond b (command_answered o r rec c [] a.status) (ends (broken rec))).over ≡ None → Stepped r (cond b (with_status r [] a.status) r) (cond b (command_answered o r rec c [] a.status) (ends (broken rec))).give
      by true over = answered_once [] a.status c at p over
      by false over = absurd (cc)

  hold : (d : DataInParts) (w : Option Command) → at_work r ≡ w → Phase r → (data_answer o r rec w d).over ≡ None → Stepped r (cond (fits o r w d) (with_bytes r d.bytes d.status) r) (data_answer o r rec w d).give
  hold d None at p over = absurd (cc)
  hold d (Some c) at p over = by (fits o r (Some c) d) refl over
    where
      with_them : (t : Option TaskStatus) → fits o r (Some c) d ≡ true → (bytes_answer o r rec c d.bytes t).over ≡ None → Stepped r (with_bytes r d.bytes t) (bytes_answer o r rec c d.bytes t).give
      with_them None fit over = goes_more c at d fit p
      with_them (Some s) fit over = answered_once d.bytes s c at p over

      by : (b : Bool) → fits o r (Some c) d ≡ b → (cond b (bytes_answer o r rec c d.bytes d.status) (ends (broken rec))).over ≡ None → Stepped r (cond b (with_bytes r d.bytes d.status) r) (cond b (bytes_answer o r rec c d.bytes d.status) (ends (broken rec))).give
      by true fit over = with_them d.status fit over
      by false fit over = absurd (cc)

  ping : (n : NopIn) → Phase r → Stepped r r (nop_answer o r n).give
  ping n p = by (n.target_tag == 0xffffffff)
    where
      by : (b : Bool) → Stepped r r (cond b no_answer (puts (nop_pdu (record { lun = n.lun; target_tag = n.target_tag; cmd_sn = counted o.cmd_sn (commands_put r); exp_stat_sn = expected_stat_sn o r })))).give
      by true = stands_still p
      by false = stands_still p

  pub reads_pdu : (a : AnswerParts) → Phase r → (pdu_answer o r rec a).over ≡ None → Stepped r (after_answer o r a) (pdu_answer o r rec a).give
  reads_pdu (login a) p over = absurd (cc)
  reads_pdu (scsi a) p over = respond a (at_work r) refl p over
  reads_pdu (data_in d) p over = hold d (at_work r) refl p over
  reads_pdu (nop_in n) p over = ping n p
  reads_pdu other p over = absurd (cc)

pub one_call : (o : SessionNumbers) (r : DiskReading) (call : DiskCall) → IsPart call → Phase r → (disk_answer o r call).over ≡ None → Stepped r (after_call o r call) (disk_answer o r call).give
one_call o r (came rec p) is phase over = reads_pdu o r rec (answer_read p) phase over
one_call o r (asked lba blocks) is phase over = absurd is
one_call o r (stream_ended rec) is phase over = absurd (cc)

-- an idle drive reads nothing
pub idle_call : (o : SessionNumbers) (r : DiskReading) (call : DiskCall) → IsPart call → at_work r ≡ None → (disk_answer o r call).over ≡ None → ((disk_answer o r call).give ≡ []) × (after_call o r call ≡ r)
idle_call o r (came rec p) is idle over = by (answer_read p) over
  where
    by : (a : AnswerParts) → (pdu_answer o r rec a).over ≡ None → ((pdu_answer o r rec a).give ≡ []) × (after_answer o r a ≡ r)
    by (login a) over = absurd (cc)
    by (scsi a) over = absurd (let z : (response_answer o r rec None a).over ≡ None = subst (λ w. (response_answer o r rec w a).over ≡ None) idle over in cc)
    by (data_in d) over = absurd (let z : (data_answer o r rec None d).over ≡ None = subst (λ w. (data_answer o r rec w d).over ≡ None) idle over in cc)
    by (nop_in n) over = (nop (n.target_tag == 0xffffffff), refl)
      where
        nop : (b : Bool) → (cond b no_answer (puts (nop_pdu (record { lun = n.lun; target_tag = n.target_tag; cmd_sn = counted o.cmd_sn (commands_put r); exp_stat_sn = expected_stat_sn o r })))).give ≡ []
        nop true = refl
        nop false = refl
    by other over = absurd (cc)
idle_call o r (asked lba blocks) is idle over = absurd is
idle_call o r (stream_ended rec) is idle over = absurd (cc)

-- a read that is taken is at work then
pub asked_reads : (o : SessionNumbers) (r : DiskReading) (lba blocks capacity : ℕ) → IsIdleDisk r capacity → IsReadingDisk (after_call o r (asked lba blocks)) capacity (512 * blocks) 0
asked_reads o r lba blocks capacity is = record {
  done = is.done;
  before = r.reads;
  last = (lba, blocks);
  sized = record { first = is.sized.first; ready = record { checks = is.sized.ready.checks; good = is.sized.ready.good; all = is.sized.ready.all; is_good = is.sized.ready.is_good; results = is.sized.ready.results }; is = is.sized.is };
  reads = refl;
  all = is.all;
  is = refl;
  came = ap length is.none;
}

pub asked_call : (o : SessionNumbers) (r : DiskReading) (lba blocks : ℕ) → at_work r ≡ None → Phase r → Phase (after_call o r (asked lba blocks))
asked_call o r lba blocks none (is_testing checks is) = absurd (let z : None ≡ Some TestUnitReady = sym none ∙ at-testing r checks is in cc)
asked_call o r lba blocks none (is_sizing size is) = absurd (let z : None ≡ Some ReadCapacity = sym none ∙ at-sizing r size is in cc)
asked_call o r lba blocks none (is_idle capacity is) = is_reading capacity (512 * blocks) 0 (asked_reads o r lba blocks capacity is)
asked_call o r lba blocks none (is_reading capacity wanted got is) = absurd (let z : None ≡ Some (Read is.last.0 is.last.1) = sym none ∙ at-reading r capacity wanted got is in cc)

pub phase_first : Phase nothing_read
phase_first = is_testing 0 (record { all = tt; count = refl; few = omega arith; none = refl; unasked = refl })

-- one after another
pub goes_both : (r q z : DiskReading) (a b : Option ℕ) (xs ys : List ℕ) → GoesTo r q a xs → GoesTo q z b ys → (at_work q ≡ None → (b ≡ None) × (ys ≡ []) × (at_work z ≡ None)) → GoesTo r z (option_or a b) (xs ++ ys)
goes_both r q z None None xs ys h k idle = (k.0 ∙ h.0, k.1 ∙ h.1, k.2 ∙ (ap (λ w. w ++ ys) h.2 ∙ append_assoc (bytes_of r) xs ys), k.3 ∙ h.3)
goes_both r q z None (Some c) xs ys h k idle =
    (k.0, k.1 ∙ (ap (λ w. read_last w (bytes_of q ++ ys)) h.0 ∙ ap (read_last (capacity_read r)) (ap (λ w. w ++ ys) h.2 ∙ append_assoc (bytes_of r) xs ys)), k.2, k.3, sym h.3 ∙ (k.4 ∙ ap is_some h.0))
goes_both r q z (Some c) b xs ys h k idle =
    let i = idle h.3 in
    let none = subst (λ w. GoesTo q z w ys) i.0 k in
    (none.0 ∙ h.0, none.1 ∙ (h.1 ∙ ap (λ w. read_last (capacity_read r) (bytes_of r ++ w)) (sym (append-nil xs) ∙ ap (λ w. xs ++ w) (sym i.1))), none.2 ∙ (ap (λ w. w ++ ys) h.2 ∙ i.1), i.2, h.4)
