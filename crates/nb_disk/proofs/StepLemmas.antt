-- Each step of a disk answers as what was read calls for, and leaves what is read after it.
use Rattle.std.proofs.Common.{◌≡◌, ◌<◌, ℕ, ◌+◌, ◌-◌, ◌&&◌, false, List, [], ◌∷◌, ◌++◌, length, Option, Some, None, if◌then◌else◌, refl, sym, ap, subst, ◌∙◌, arith, eqb, ltb}
use Rattle.std.specs.Option.{is_some}
use Rattle.std.proofs.lemmas.Bool.{eq-eqb, eqb-true, eqb-false, ltb-true, and_parts}
use Rattle.std.proofs.lemmas.List.{length-append}
use Rattle.nb_terms.specs.declared.cause.Cause.{Cause}
use Rattle.nb_iscsipdu.specs.declared.command.Command.{Command}
use Rattle.nb_iscsipdu.specs.declared.command.Command.TheVariants.{TestUnitReady, ReadCapacity, Read}
use Rattle.nb_iscsipdu.specs.declared.answer.TaskStatus.{TaskStatus}
use Rattle.nb_iscsipdu.specs.PduTexts.{PduParts}
use Rattle.nb_iscsipdu.specs.Requests.{command_pdu}
use Rattle.nb_iscsipdu.proofs.KeyLemmas.{either_way}
use Rattle.nb_disk.specs.declared.work.Work.{Work}
use Rattle.nb_disk.specs.declared.work.Work.TheVariants.{Testing, Sizing}
use Rattle.nb_disk.specs.Histories.{TaskResult, DiskReading, SessionNumbers, counted, with_status, at_work, capacity_of, first_capacity, capacity_read}
use Rattle.nb_disk.specs.DiskAnswers.{DiskAnswer, no_answer, puts, ends, broken, refused_cause, commands_put, expected_stat_sn, command_after, tested, sized, have_read}
use Rattle.nb_disk.specs.Steps.{KeptNumbers, DiskStep, work_is_over, work_capacity, next_command, step_ends, kept_putting, step_puts, step_tested, kept_idle, kept_sized, step_capacity, step_sized, step_read}
use Rattle.nb_disk.specs.DiskStands.{IsTesting, IsAnsweredWell, IsSizing, IsSized, IsIdleDisk, IsReadingDisk, IsWorking, KeepsNumbers}
use Rattle.nb_disk.proofs.WorkLemmas.{counted-more, checks-added, at-testing, size-testing, size-refused, size-ready, at-sizing, at-idle, at-reading, size-sized, put-busy, put-idle, ready-added}

-- a step makes this answer, and stands for what is read after it
pub record StepStands (o : SessionNumbers) (after : DiskReading) (s : DiskStep) (a : DiskAnswer) : Type 0 where
  pub answer : s.answer ≡ a
  pub over : work_is_over s.kept.work ≡ is_some a.over
  pub capacity : work_capacity s.kept.work ≡ capacity_read after
  pub live : is_some a.over ≡ false → KeepsNumbers o after s.kept

pub ends-stands : (o : SessionNumbers) (after : DiskReading) (k : KeptNumbers) (cause : Cause) → work_capacity k.work ≡ capacity_read after → StepStands o after (step_ends k cause) (ends cause)
ends-stands o after k cause capacity = record {
  answer = refl;
  over = refl;
  capacity = capacity;
  live = λ off. absurd cc;
}

-- the next command
pub putting-kept : (o : SessionNumbers) (r after : DiskReading) (k : KeptNumbers) (exp : ℕ) (work : Work) → KeepsNumbers o r k → 0 < commands_put r → commands_put after ≡ commands_put r + 1
    → exp ≡ expected_stat_sn o after → IsWorking work after k.sized → KeepsNumbers o after (kept_putting k exp work)
putting-kept o r after k exp work kept some count exp_is at =
    let before : commands_put r - 1 + 1 ≡ commands_put r = omega arith in
    let last : commands_put after - 1 ≡ commands_put r = omega arith in
    record {
      lun = kept.lun;
      cmd_sn = ap (λ (n : ℕ). counted n 1) kept.cmd_sn ∙ counted-more o.cmd_sn (commands_put r) ∙ ap (λ (n : ℕ). counted o.cmd_sn n) (sym count);
      exp_stat_sn = exp_is;
      task = ap (λ (n : ℕ). counted n 1) kept.task ∙ counted-more o.task (commands_put r - 1) ∙ ap (λ (n : ℕ). counted o.task n) (before ∙ sym last);
      work = at;
    }

pub putting-answer : (o : SessionNumbers) (r after : DiskReading) (k : KeptNumbers) (exp : ℕ) (command : Command) → KeepsNumbers o r k → 0 < commands_put r → exp ≡ expected_stat_sn o after
    → next_command k exp command ≡ command_after o after (commands_put r) command
putting-answer o r after k exp command kept some exp_is =
    let before : commands_put r - 1 + 1 ≡ commands_put r = omega arith in
    let tag : counted k.task 1 ≡ counted o.task (commands_put r) =
    ap (λ (n : ℕ). counted n 1) kept.task ∙ counted-more o.task (commands_put r - 1) ∙ ap (λ (n : ℕ). counted o.task n) before in
    ap (λ (x : List ℕ). command_pdu (record { lun = x; task_tag = counted k.task 1; cmd_sn = k.cmd_sn; exp_stat_sn = exp; command = command })) kept.lun
    ∙ ap (λ (x : ℕ). command_pdu (record { lun = o.lun; task_tag = x; cmd_sn = k.cmd_sn; exp_stat_sn = exp; command = command })) tag
    ∙ ap (λ (x : ℕ). command_pdu (record { lun = o.lun; task_tag = counted o.task (commands_put r); cmd_sn = x; exp_stat_sn = exp; command = command })) kept.cmd_sn
    ∙ ap (λ (x : ℕ). command_pdu (record { lun = o.lun; task_tag = counted o.task (commands_put r); cmd_sn = counted o.cmd_sn (commands_put r); exp_stat_sn = x; command = command })) exp_is

-- a status of TEST UNIT READY
abbrev result_of : DiskReading → List ℕ → TaskStatus → TaskResult
result_of r bytes s = record { bytes = r.bytes ++ bytes; status = s.status }

tested-good : (o : SessionNumbers) (r : DiskReading) (k : KeptNumbers) (rec checks : ℕ) (bytes : List ℕ) (s : TaskStatus) → KeepsNumbers o r k → k.sized ≡ [] → IsTesting r checks → s.status ≡ 0
    → StepStands o (with_status r bytes s) (step_puts k (counted s.stat_sn 1) ReadCapacity Sizing) (puts (command_after o (with_status r bytes s) (checks + 1) ReadCapacity))
tested-good o r k rec checks bytes s kept none is good =
    let after = with_status r bytes s in
    let result = result_of r bytes s in
    let put : commands_put r ≡ checks + 1 = put-busy r TestUnitReady (at-testing r checks is) ∙ ap (λ (n : ℕ). n + 1) is.count in
    let ready : IsAnsweredWell after [] = record { checks = r.results; good = result; all = is.all; is_good = good; results = refl } in
    let sizing : IsSizing after k.sized = record { ready = ready; came = sym none; unasked = is.unasked } in
    let count : commands_put after ≡ commands_put r + 1 = omega (arith, put-busy after ReadCapacity (at-sizing after k.sized sizing), put, is.count, length-append r.results (result ∷ [])) in
    record {
      answer = ap (λ (x : PduParts). puts x) (putting-answer o r after k (counted s.stat_sn 1) ReadCapacity kept (omega arith) refl ∙ ap (λ (n : ℕ). command_after o after n ReadCapacity) put);
      over = refl;
      capacity = sym (size-ready after [] ready);
      live = λ off. putting-kept o r after k (counted s.stat_sn 1) Sizing kept (omega arith) count refl sizing;
    }

tested-check : (o : SessionNumbers) (r : DiskReading) (k : KeptNumbers) (rec checks : ℕ) (bytes : List ℕ) (s : TaskStatus) → KeepsNumbers o r k → k.sized ≡ [] → IsTesting r checks → s.status ≡ 2 → checks < 3
    → StepStands o (with_status r bytes s) (step_puts k (counted s.stat_sn 1) TestUnitReady (Testing (checks + 1))) (puts (command_after o (with_status r bytes s) (checks + 1) TestUnitReady))
tested-check o r k rec checks bytes s kept none is check few =
    let after = with_status r bytes s in
    let result = result_of r bytes s in
    let put : commands_put r ≡ checks + 1 = put-busy r TestUnitReady (at-testing r checks is) ∙ ap (λ (n : ℕ). n + 1) is.count in
    let testing : IsTesting after (checks + 1) = record {
      all = checks-added r.results result is.all check;
      count = length-append r.results (result ∷ []) ∙ ap (λ (n : ℕ). n + 1) is.count;
      few = omega arith;
      none = refl;
      unasked = is.unasked;
    } in
    let count : commands_put after ≡ commands_put r + 1 = omega (arith, put-busy after TestUnitReady (at-testing after (checks + 1) testing), put, is.count, length-append r.results (result ∷ [])) in
    record {
      answer = ap (λ (x : PduParts). puts x) (putting-answer o r after k (counted s.stat_sn 1) TestUnitReady kept (omega arith) refl ∙ ap (λ (n : ℕ). command_after o after n TestUnitReady) put);
      over = refl;
      capacity = sym (size-testing after (checks + 1) testing);
      live = λ off. putting-kept o r after k (counted s.stat_sn 1) (Testing (checks + 1)) kept (omega arith) count refl (testing, none);
    }

pub tested-stands : (o : SessionNumbers) (r : DiskReading) (k : KeptNumbers) (rec checks : ℕ) (bytes : List ℕ) (s : TaskStatus) → KeepsNumbers o r k → k.sized ≡ [] → IsTesting r checks → work_capacity k.work ≡ None
    → StepStands o (with_status r bytes s) (step_tested k rec checks s) (tested o (with_status r bytes s) rec (length r.results) s.status)
tested-stands o r k rec checks bytes s kept none is size =
    let after = with_status r bytes s in
    let here : StepStands o after (step_tested k rec checks s) (tested o after rec checks s.status) =
    either_way (eqb s.status 0)
    (λ on. rw on (tested-good o r k rec checks bytes s kept none is (eqb-true s.status 0 on)))
    (λ off.
    let other = eqb-false s.status 0 off in
    rw off
    (either_way (eqb s.status 2 && ltb checks 3)
    (λ on.
    let both = and_parts (eqb s.status 2) (ltb checks 3) on in
    rw on (tested-check o r k rec checks bytes s kept none is (eqb-true s.status 2 both.0) (ltb-true checks 3 both.1)))
    (λ more. rw more (ends-stands o after k (refused_cause rec s.status) (size ∙ sym (size-refused r.results (result_of r bytes s) is.all other)))))) in
    subst (λ (n : ℕ). StepStands o after (step_tested k rec checks s) (tested o after rec n s.status)) (sym is.count) here

-- nothing is at work any more
idle-kept : (o : SessionNumbers) (r : DiskReading) (k : KeptNumbers) (command : Command) (bytes : List ℕ) (s : TaskStatus) (capacity : ℕ) (size : List ℕ) → KeepsNumbers o r k → at_work r ≡ Some command
    → IsIdleDisk (with_status r bytes s) capacity → KeepsNumbers o (with_status r bytes s) (kept_idle (kept_sized k size) s capacity)
idle-kept o r k command bytes s capacity size kept at is =
    let after = with_status r bytes s in
    let result = result_of r bytes s in
    let count : commands_put after ≡ commands_put r = omega (arith, put-idle after (at-idle after capacity is), put-busy r command at, length-append r.results (result ∷ [])) in
    record {
      lun = kept.lun;
      cmd_sn = kept.cmd_sn ∙ ap (λ (n : ℕ). counted o.cmd_sn n) (sym count);
      exp_stat_sn = refl;
      task = kept.task ∙ ap (λ (n : ℕ). counted o.task (n - 1)) (sym count);
      work = is;
    }

-- a status of READ CAPACITY
sized-good : (o : SessionNumbers) (r : DiskReading) (k : KeptNumbers) (rec : ℕ) (bytes : List ℕ) (s : TaskStatus) (found : Option ℕ) → KeepsNumbers o r k → IsSizing r k.sized → work_capacity k.work ≡ None → s.status ≡ 0
    → found ≡ capacity_of (k.sized ++ bytes)
    → StepStands o (with_status r bytes s) (step_capacity (kept_sized k (k.sized ++ bytes)) rec s found) (if is_some found then no_answer else ends (broken rec))
sized-good o r k rec bytes s None kept is size good found =
    let after = with_status r bytes s in
    let result = result_of r bytes s in
    let same : r.bytes ++ bytes ≡ k.sized ++ bytes = ap (λ (x : List ℕ). x ++ bytes) is.came in
    let first : first_capacity (result ∷ []) ≡ None = rw (eq-eqb s.status 0 good) (ap capacity_of same ∙ sym found) in
    let none : capacity_read after ≡ None = size-ready after (result ∷ []) (ready-added r after [] result is.ready refl) ∙ first in
    ends-stands o after (kept_sized k (k.sized ++ bytes)) (broken rec) (size ∙ sym none)
sized-good o r k rec bytes s (Some capacity) kept is size good found =
    let after = with_status r bytes s in
    let result = result_of r bytes s in
    let same : r.bytes ++ bytes ≡ k.sized ++ bytes = ap (λ (x : List ℕ). x ++ bytes) is.came in
    let first : first_capacity (result ∷ []) ≡ Some capacity = rw (eq-eqb s.status 0 good) (ap capacity_of same ∙ sym found) in
    let known : IsSized after capacity [] = record { first = result; ready = ready-added r after [] result is.ready refl; is = first } in
    let idle : IsIdleDisk after capacity = record { done = []; sized = known; all = ap length (sym is.unasked); none = refl } in
    record {
      answer = refl;
      over = refl;
      capacity = sym (size-sized after capacity [] known);
      live = λ off. idle-kept o r k ReadCapacity bytes s capacity (k.sized ++ bytes) kept (at-sizing r k.sized is) idle;
    }

pub sized-stands : (o : SessionNumbers) (r : DiskReading) (k : KeptNumbers) (rec : ℕ) (bytes : List ℕ) (s : TaskStatus) → KeepsNumbers o r k → IsSizing r k.sized → work_capacity k.work ≡ None
    → StepStands o (with_status r bytes s) (step_sized k rec bytes s) (sized rec (r.bytes ++ bytes) s.status)
sized-stands o r k rec bytes s kept is size =
    let after = with_status r bytes s in
    let result = result_of r bytes s in
    let same : k.sized ++ bytes ≡ r.bytes ++ bytes = ap (λ (x : List ℕ). x ++ bytes) (sym is.came) in
    let here : StepStands o after (step_sized k rec bytes s) (sized rec (k.sized ++ bytes) s.status) =
    either_way (eqb s.status 0)
    (λ on. rw on (sized-good o r k rec bytes s (capacity_of (k.sized ++ bytes)) kept is size (eqb-true s.status 0 on) refl))
    (λ off.
    let first : first_capacity (result ∷ []) ≡ None = rw off refl in
    let none : capacity_read after ≡ None = size-ready after (result ∷ []) (ready-added r after [] result is.ready refl) ∙ first in
    rw off (ends-stands o after k (refused_cause rec s.status) (size ∙ sym none))) in
    subst (λ (x : List ℕ). StepStands o after (step_sized k rec bytes s) (sized rec x s.status)) same here

-- a status of a read
sized-added : (r after : DiskReading) (capacity : ℕ) (done : List TaskResult) (result : TaskResult) → IsSized r capacity done → after.results ≡ r.results ++ result ∷ [] → IsSized after capacity (done ++ result ∷ [])
sized-added r after capacity done result is more = record { first = is.first; ready = ready-added r after (is.first ∷ done) result is.ready more; is = is.is }

pub read-stands : (o : SessionNumbers) (r : DiskReading) (k : KeptNumbers) (rec capacity wanted got : ℕ) (bytes : List ℕ) (s : TaskStatus) → KeepsNumbers o r k → (is : IsReadingDisk r capacity wanted got) → work_capacity k.work ≡ Some capacity
    → StepStands o (with_status r bytes s) (step_read k rec capacity wanted got bytes s) (have_read rec wanted got bytes s.status)
read-stands o r k rec capacity wanted got bytes s kept is size =
    let after = with_status r bytes s in
    let result = result_of r bytes s in
    let known : IsSized after capacity (is.done ++ result ∷ []) = sized-added r after capacity is.done result is.sized refl in
    let same : work_capacity k.work ≡ capacity_read after = size ∙ sym (size-sized after capacity (is.done ++ result ∷ []) known) in
    let count : length (is.done ++ result ∷ []) ≡ length r.reads =
    omega (arith, length-append is.done (result ∷ []), length-append is.before (is.last ∷ []), ap length is.reads, is.all) in
    let idle : IsIdleDisk after capacity = record { done = is.done ++ result ∷ []; sized = known; all = count; none = refl } in
    either_way (eqb s.status 0)
    (λ on.
    rw on
    (either_way (eqb (got + length bytes) wanted)
    (λ whole. rw whole
    (record {
      answer = refl;
      over = refl;
      capacity = sym (size-sized after capacity (is.done ++ result ∷ []) known);
      live = λ off. idle-kept o r k (Read is.last.0 is.last.1) bytes s capacity k.sized kept (at-reading r capacity wanted got is) idle;
    }))
    (λ short. rw short (ends-stands o after k (broken rec) same))))
    (λ off. rw off (ends-stands o after k (refused_cause rec s.status) same))
