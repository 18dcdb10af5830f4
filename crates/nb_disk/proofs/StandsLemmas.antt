-- A call leaves a disk that stands for it and those before it.
use Rattle.std.proofs.Common.{◌≡◌, ◌≤◌, ℕ, ◌+◌, ◌-◌, ◌*◌, ◌&&◌, ◌||◌, Bool, true, false, List, [], ◌∷◌, ◌++◌, length, fold, Option, Some, None, Result, Ok, Err, IfOk, IsErrAnd, refl, sym, ap, subst, ◌∙◌, append-nil, arith, eqb, leb}
use Rattle.std.specs.Option.{is_some, option_map}
use Rattle.nb_terms.specs.declared.acts.Acts.{Acts}
use Rattle.nb_terms.specs.declared.no_memory.NoMemory.{NoMemory}
use Rattle.std.proofs.lemmas.Bool.{leb-true, and_parts, and_right}
use Rattle.std.proofs.lemmas.List.{length-append}
use Rattle.std.proofs.lemmas.List.Sums.{fold-append}
use Rattle.nb_iscsipdu.specs.declared.command.Command.{Command}
use Rattle.nb_iscsipdu.specs.declared.command.Command.TheVariants.{TestUnitReady, ReadCapacity, Read}
use Rattle.nb_iscsipdu.specs.declared.answer.TaskStatus.{TaskStatus}
use Rattle.nb_iscsipdu.specs.declared.answer.ScsiResponse.{ScsiResponse}
use Rattle.nb_iscsipdu.specs.declared.answer.NopIn.{NopIn}
use Rattle.nb_iscsipdu.specs.Commands.{asked_len}
use Rattle.nb_iscsipdu.specs.PduTexts.{PduParts, pdu_text}
use Rattle.nb_iscsipdu.specs.Requests.{nop_pdu}
use Rattle.nb_iscsipdu.specs.Answers.{AnswerParts, DataInParts, login, scsi, data_in, nop_in, other, answer_read}
use Rattle.nb_iscsipdu.proofs.KeyLemmas.{either_way}
use Rattle.nb_disk.specs.declared.work.Work.{Work}
use Rattle.nb_disk.specs.declared.work.Work.TheVariants.{Testing, Sizing, Idle, Reading, Over}
use Rattle.nb_disk.specs.Histories.{DiskCall, came, asked, stream_ended, TaskResult, DiskReading, SessionNumbers, nothing_read, counted, tag_at_work, with_status, with_bytes, after_answer, after_call, reading, at_work, capacity_read}
use Rattle.nb_disk.specs.DiskAnswers.{DiskAnswer, no_answer, puts, gives, broken, commands_put, command_after, nop_answer, have_read, command_answered, bytes_given, bytes_answer, pdu_answer, disk_answer, ended_from, session_has_ended, disk_acts}
use Rattle.nb_disk.specs.Steps.{KeptNumbers, work_is_over, work_capacity, has_work, next_command, step_ends, kept_putting, kept_sized, step_answered, step_grown, step_bytes, fits_work, step_data, step_response, step_nop, step_pdu, IsDiskStep}
use Rattle.nb_disk.specs.DiskStands.{IsTesting, IsAnsweredWell, IsSizing, IsIdleDisk, IsReadingDisk, IsSized, IsWorking, KeepsNumbers, DiskStands, IsDiskAnswer, is_out_of, is_out, RefusesRead}
use Rattle.nb_disk.specs.declared.blocks.ReadRefusal.{ReadRefusal}
use Rattle.nb_disk.specs.declared.blocks.ReadRefusal.TheVariants as refusal
use Rattle.nb_disk.proofs.WorkLemmas.{at-testing, at-sizing, at-idle, at-reading, size-testing, size-ready, size-sized, size-at, put-busy, put-idle}
use Rattle.nb_disk.proofs.StepLemmas.{StepStands, ends-stands, putting-kept, putting-answer, tested-stands, sized-stands, read-stands}

-- the tag of the last command is that of the command at work
tag-busy : (o : SessionNumbers) (r : DiskReading) (k : KeptNumbers) (command : Command) → KeepsNumbers o r k → at_work r ≡ Some command → k.task ≡ tag_at_work o r
tag-busy o r k command kept at =
    let last : commands_put r - 1 ≡ length r.results = omega (arith, put-busy r command at) in
    kept.task ∙ ap (λ (n : ℕ). counted o.task n) last

-- a SCSI Response, where a command is at work
response-busy : (o : SessionNumbers) (r : DiskReading) (k : KeptNumbers) (rec : ℕ) (work : Work) (command : Command) (a : ScsiResponse) → at_work r ≡ Some command → k.task ≡ tag_at_work o r → has_work work ≡ true
    → work_capacity k.work ≡ capacity_read r → StepStands o (with_status r [] a.status) (step_answered k rec work [] a.status) (command_answered o r rec command [] a.status)
    → StepStands o (after_answer o r (scsi a)) (step_response k rec work a) (pdu_answer o r rec (scsi a))
response-busy o r k rec work command a at tag has size good =
    let same : (eqb a.task_tag k.task && eqb a.response 0) ≡ (eqb a.task_tag (tag_at_work o r) && eqb a.response 0) = ap (λ (n : ℕ). eqb a.task_tag n && eqb a.response 0) tag in
    either_way (eqb a.task_tag (tag_at_work o r) && eqb a.response 0)
    (λ on. let kept : (eqb a.task_tag k.task && eqb a.response 0) ≡ true = same ∙ on in rw (at, has, on, kept) good)
    (λ off. let kept : (eqb a.task_tag k.task && eqb a.response 0) ≡ false = same ∙ off in rw (at, has, off, kept) (ends-stands o r k (broken rec) size))

response-idle : (o : SessionNumbers) (r : DiskReading) (k : KeptNumbers) (rec : ℕ) (work : Work) (a : ScsiResponse) → at_work r ≡ None → has_work work ≡ false → work_capacity k.work ≡ capacity_read r
    → StepStands o (after_answer o r (scsi a)) (step_response k rec work a) (pdu_answer o r rec (scsi a))
response-idle o r k rec work a at has size = rw (at, has) (ends-stands o r k (broken rec) size)

abbrev in_order : DiskReading → Command → DataInParts → Bool
in_order r command d = eqb d.offset (length r.bytes) && leb (length r.bytes + length d.bytes) (asked_len command)

bytes-busy : (o : SessionNumbers) (r : DiskReading) (k : KeptNumbers) (rec : ℕ) (work : Work) (command : Command) (bytes : List ℕ) (status : Option TaskStatus)
    → StepStands o (with_bytes r bytes None) (step_grown k work bytes) (gives (bytes_given command bytes))
    → ((s : TaskStatus) → StepStands o (with_status r bytes s) (step_answered k rec work bytes s) (command_answered o r rec command bytes s))
    → StepStands o (with_bytes r bytes status) (step_bytes k rec work bytes status) (bytes_answer o r rec command bytes status)
bytes-busy o r k rec work command bytes None grown done = grown
bytes-busy o r k rec work command bytes (Some s) grown done = done s

data-busy : (o : SessionNumbers) (r : DiskReading) (k : KeptNumbers) (rec : ℕ) (work : Work) (command : Command) (d : DataInParts) → at_work r ≡ Some command → k.task ≡ tag_at_work o r
    → fits_work k work d ≡ in_order r command d → work_capacity k.work ≡ capacity_read r
    → (length r.bytes + length d.bytes ≤ asked_len command → StepStands o (with_bytes r d.bytes None) (step_grown k work d.bytes) (gives (bytes_given command d.bytes)))
    → ((s : TaskStatus) → StepStands o (with_status r d.bytes s) (step_answered k rec work d.bytes s) (command_answered o r rec command d.bytes s))
    → StepStands o (after_answer o r (data_in d)) (step_data k rec work d) (pdu_answer o r rec (data_in d))
data-busy o r k rec work command d at tag same size grown done =
    let equal : (eqb d.task_tag k.task && fits_work k work d) ≡ (eqb d.task_tag (tag_at_work o r) && in_order r command d) =
    ap (λ (n : ℕ). eqb d.task_tag n && fits_work k work d) tag ∙ ap (λ (b : Bool). eqb d.task_tag (tag_at_work o r) && b) same in
    either_way (eqb d.task_tag (tag_at_work o r) && in_order r command d)
    (λ on.
    let kept : (eqb d.task_tag k.task && fits_work k work d) ≡ true = equal ∙ on in
    let order = (and_parts (eqb d.task_tag (tag_at_work o r)) (in_order r command d) on).1 in
    let within = (and_parts (eqb d.offset (length r.bytes)) (leb (length r.bytes + length d.bytes) (asked_len command)) order).1 in
    rw (at, on, kept) (bytes-busy o r k rec work command d.bytes d.status (grown (leb-true _ _ within)) done))
    (λ off. let kept : (eqb d.task_tag k.task && fits_work k work d) ≡ false = equal ∙ off in rw (at, off, kept) (ends-stands o r k (broken rec) size))

data-idle : (o : SessionNumbers) (r : DiskReading) (k : KeptNumbers) (rec : ℕ) (work : Work) (d : DataInParts) → at_work r ≡ None → fits_work k work d ≡ false → work_capacity k.work ≡ capacity_read r
    → StepStands o (after_answer o r (data_in d)) (step_data k rec work d) (pdu_answer o r rec (data_in d))
data-idle o r k rec work d at none size =
    rw (at, none, and_right (eqb d.task_tag k.task) false refl) (ends-stands o r k (broken rec) size)

-- data without a status changes neither the command at work nor the numbers
grown-kept : (o : SessionNumbers) (r : DiskReading) (k : KeptNumbers) (bytes : List ℕ) (work : Work) (size : List ℕ) → KeepsNumbers o r k → IsWorking work (with_bytes r bytes None) size
    → KeepsNumbers o (with_bytes r bytes None) (record { lun = k.lun; cmd_sn = k.cmd_sn; exp_stat_sn = k.exp_stat_sn; task = k.task; work = work; sized = size })
grown-kept o r k bytes work size kept at = record { lun = kept.lun; cmd_sn = kept.cmd_sn; exp_stat_sn = kept.exp_stat_sn; task = kept.task; work = at }

grown-stands : (o : SessionNumbers) (r : DiskReading) (k : KeptNumbers) (bytes : List ℕ) (give : List ℕ) (work : Work) (size : List ℕ) → KeepsNumbers o r k → work_is_over work ≡ false → IsWorking work (with_bytes r bytes None) size
    → StepStands o (with_bytes r bytes None) (record { kept = record { lun = k.lun; cmd_sn = k.cmd_sn; exp_stat_sn = k.exp_stat_sn; task = k.task; work = work; sized = size }; answer = gives give }) (gives give)
grown-stands o r k bytes give work size kept live at = record {
  answer = refl;
  over = live;
  capacity = size-at work (with_bytes r bytes None) size live at;
  live = λ off. grown-kept o r k bytes work size kept at;
}

-- a step that keeps the work and puts nothing
same-stands : (o : SessionNumbers) (after : DiskReading) (k : KeptNumbers) → work_is_over k.work ≡ false → KeepsNumbers o after k → StepStands o after (record { kept = k; answer = no_answer }) no_answer
same-stands o after k live kept = record {
  answer = refl;
  over = live;
  capacity = size-at k.work after k.sized live kept.work;
  live = λ off. kept;
}

ready-same : (r after : DiskReading) (later : List TaskResult) → after.results ≡ r.results → IsAnsweredWell r later → IsAnsweredWell after later
ready-same r after later same is = record { checks = is.checks; good = is.good; all = is.all; is_good = is.is_good; results = same ∙ is.results }

sized-same : (r after : DiskReading) (capacity : ℕ) (done : List TaskResult) → after.results ≡ r.results → IsSized r capacity done → IsSized after capacity done
sized-same r after capacity done same is = record { first = is.first; ready = ready-same r after (is.first ∷ done) same is.ready; is = is.is }

no_bytes : (r : DiskReading) (bytes : List ℕ) → r.bytes ≡ [] → length r.bytes + length bytes ≤ 0 → r.bytes ++ bytes ≡ []
no_bytes r [] none within = append-nil r.bytes ∙ none
no_bytes r (b ∷ bytes) none within = absurd (omega arith)

grown-testing : (o : SessionNumbers) (r : DiskReading) (k : KeptNumbers) (checks : ℕ) (bytes : List ℕ) → KeepsNumbers o r k → k.work ≡ Testing checks → IsTesting r checks → k.sized ≡ [] → length r.bytes + length bytes ≤ 0
    → StepStands o (with_bytes r bytes None) (step_grown k (Testing checks) bytes) (gives [])
grown-testing o r k checks bytes kept e is none within =
    let after = with_bytes r bytes None in
    let testing : IsTesting after checks = record { all = is.all; count = is.count; few = is.few; none = no_bytes r bytes is.none within; unasked = is.unasked } in
    same-stands o after k (ap work_is_over e)
    (record { lun = kept.lun; cmd_sn = kept.cmd_sn; exp_stat_sn = kept.exp_stat_sn; task = kept.task; work = subst (λ (w : Work). IsWorking w after k.sized) (sym e) (testing, none) })

grown-sizing : (o : SessionNumbers) (r : DiskReading) (k : KeptNumbers) (bytes : List ℕ) → KeepsNumbers o r k → k.work ≡ Sizing → IsSizing r k.sized
    → StepStands o (with_bytes r bytes None) (step_grown k Sizing bytes) (gives [])
grown-sizing o r k bytes kept e is =
    let after = with_bytes r bytes None in
    let size : List ℕ = k.sized ++ bytes in
    let sizing : IsSizing after size = record { ready = ready-same r after [] refl is.ready; came = ap (λ (x : List ℕ). x ++ bytes) is.came; unasked = is.unasked } in
    same-stands o after (kept_sized k size) (ap work_is_over e)
    (record { lun = kept.lun; cmd_sn = kept.cmd_sn; exp_stat_sn = kept.exp_stat_sn; task = kept.task; work = subst (λ (w : Work). IsWorking w after size) (sym e) sizing })

grown-reading : (o : SessionNumbers) (r : DiskReading) (k : KeptNumbers) (capacity wanted got : ℕ) (bytes : List ℕ) → KeepsNumbers o r k → IsReadingDisk r capacity wanted got
    → StepStands o (with_bytes r bytes None) (step_grown k (Reading capacity wanted got) bytes) (gives bytes)
grown-reading o r k capacity wanted got bytes kept is =
    let after = with_bytes r bytes None in
    let here : IsReadingDisk after capacity wanted (got + length bytes) = record {
      done = is.done;
      before = is.before;
      last = is.last;
      sized = sized-same r after capacity is.done refl is.sized;
      reads = is.reads;
      all = is.all;
      is = is.is;
      came = length-append r.bytes bytes ∙ ap (λ (n : ℕ). n + length bytes) is.came;
    } in
    grown-stands o r k bytes bytes (Reading capacity wanted (got + length bytes)) k.sized kept refl here

-- what the answer to a read is by, in the terms of what is kept
read-answered : (o : SessionNumbers) (r : DiskReading) (k : KeptNumbers) (rec capacity wanted got : ℕ) (bytes : List ℕ) (s : TaskStatus) → KeepsNumbers o r k → (is : IsReadingDisk r capacity wanted got) → work_capacity k.work ≡ Some capacity
    → StepStands o (with_status r bytes s) (step_answered k rec (Reading capacity wanted got) bytes s) (command_answered o r rec (Read is.last.0 is.last.1) bytes s)
read-answered o r k rec capacity wanted got bytes s kept is size =
    let step = step_answered k rec (Reading capacity wanted got) bytes s in
    let after = with_status r bytes s in
    subst (λ (n : ℕ). StepStands o after step (have_read rec (512 * is.last.1) n bytes s.status)) (sym is.came)
    (subst (λ (n : ℕ). StepStands o after step (have_read rec n got bytes s.status)) is.is (read-stands o r k rec capacity wanted got bytes s kept is size))

response-steps : (o : SessionNumbers) (r : DiskReading) (k : KeptNumbers) (rec : ℕ) (work : Work) (a : ScsiResponse) → KeepsNumbers o r k → IsWorking work r k.sized → work_is_over work ≡ false → work_capacity k.work ≡ capacity_read r
    → StepStands o (after_answer o r (scsi a)) (step_response k rec work a) (pdu_answer o r rec (scsi a))
response-steps o r k rec (Testing checks) a kept at live size =
    let here = at-testing r checks at.0 in
    response-busy o r k rec (Testing checks) TestUnitReady a here (tag-busy o r k TestUnitReady kept here) refl size
    (tested-stands o r k rec checks [] a.status kept at.1 at.0 (size ∙ size-testing r checks at.0))
response-steps o r k rec Sizing a kept at live size =
    let here = at-sizing r k.sized at in
    response-busy o r k rec Sizing ReadCapacity a here (tag-busy o r k ReadCapacity kept here) refl size
    (sized-stands o r k rec [] a.status kept at (size ∙ size-ready r [] at.ready))
response-steps o r k rec (Idle capacity) a kept at live size = response-idle o r k rec (Idle capacity) a (at-idle r capacity at) refl size
response-steps o r k rec (Reading capacity wanted got) a kept at live size =
    let here = at-reading r capacity wanted got at in
    response-busy o r k rec (Reading capacity wanted got) (Read at.last.0 at.last.1) a here (tag-busy o r k (Read at.last.0 at.last.1) kept here) refl size
    (read-answered o r k rec capacity wanted got [] a.status kept at (size ∙ size-sized r capacity at.done at.sized))
response-steps o r k rec (Over capacity) a kept at live size = absurd cc

data-steps : (o : SessionNumbers) (r : DiskReading) (k : KeptNumbers) (rec : ℕ) (work : Work) (d : DataInParts) → KeepsNumbers o r k → k.work ≡ work → IsWorking work r k.sized → work_is_over work ≡ false → work_capacity k.work ≡ capacity_read r
    → StepStands o (after_answer o r (data_in d)) (step_data k rec work d) (pdu_answer o r rec (data_in d))
data-steps o r k rec (Testing checks) d kept e at live size =
    let here = at-testing r checks at.0 in
    let same : fits_work k (Testing checks) d ≡ in_order r TestUnitReady d = ap (λ (n : ℕ). eqb d.offset n && leb (n + length d.bytes) 0) (ap length (sym at.0.none)) in
    data-busy o r k rec (Testing checks) TestUnitReady d here (tag-busy o r k TestUnitReady kept here) same size
    (λ within. grown-testing o r k checks d.bytes kept e at.0 at.1 within)
    (λ s. tested-stands o r k rec checks d.bytes s kept at.1 at.0 (size ∙ size-testing r checks at.0))
data-steps o r k rec Sizing d kept e at live size =
    let here = at-sizing r k.sized at in
    let same : fits_work k Sizing d ≡ in_order r ReadCapacity d = ap (λ (n : ℕ). eqb d.offset n && leb (n + length d.bytes) 8) (ap length (sym at.came)) in
    data-busy o r k rec Sizing ReadCapacity d here (tag-busy o r k ReadCapacity kept here) same size
    (λ within. grown-sizing o r k d.bytes kept e at)
    (λ s. sized-stands o r k rec d.bytes s kept at (size ∙ size-ready r [] at.ready))
data-steps o r k rec (Idle capacity) d kept e at live size = data-idle o r k rec (Idle capacity) d (at-idle r capacity at) refl size
data-steps o r k rec (Reading capacity wanted got) d kept e at live size =
    let here = at-reading r capacity wanted got at in
    let same : fits_work k (Reading capacity wanted got) d ≡ in_order r (Read at.last.0 at.last.1) d =
    ap (λ (n : ℕ). eqb d.offset n && leb (n + length d.bytes) wanted) (sym at.came)
    ∙ ap (λ (n : ℕ). eqb d.offset (length r.bytes) && leb (length r.bytes + length d.bytes) n) at.is in
    data-busy o r k rec (Reading capacity wanted got) (Read at.last.0 at.last.1) d here (tag-busy o r k (Read at.last.0 at.last.1) kept here) same size
    (λ within. grown-reading o r k capacity wanted got d.bytes kept at)
    (λ s. read-answered o r k rec capacity wanted got d.bytes s kept at (size ∙ size-sized r capacity at.done at.sized))
data-steps o r k rec (Over capacity) d kept e at live size = absurd cc

nop-steps : (o : SessionNumbers) (r : DiskReading) (k : KeptNumbers) (n : NopIn) → KeepsNumbers o r k → work_is_over k.work ≡ false → StepStands o r (step_nop k n) (nop_answer o r n)
nop-steps o r k n kept live =
    either_way (eqb n.target_tag 0xffffffff)
    (λ on. rw on (same-stands o r k live kept))
    (λ off. rw off
    (record {
      answer =
          ap (λ (x : ℕ). puts (nop_pdu (record { lun = n.lun; target_tag = n.target_tag; cmd_sn = x; exp_stat_sn = k.exp_stat_sn }))) kept.cmd_sn
          ∙ ap (λ (x : ℕ). puts (nop_pdu (record { lun = n.lun; target_tag = n.target_tag; cmd_sn = counted o.cmd_sn (commands_put r); exp_stat_sn = x }))) kept.exp_stat_sn;
      over = live;
      capacity = size-at k.work r k.sized live kept.work;
      live = λ more. kept;
    }))

-- each step, by what the PDU is
pub disk-steps : (o : SessionNumbers) (r : DiskReading) (k : KeptNumbers) (rec : ℕ) (a : AnswerParts) → KeepsNumbers o r k → work_is_over k.work ≡ false → StepStands o (after_answer o r a) (step_pdu k rec a) (pdu_answer o r rec a)
disk-steps o r k rec (login l) kept live = ends-stands o r k (broken rec) (size-at k.work r k.sized live kept.work)
disk-steps o r k rec (scsi a) kept live = response-steps o r k rec k.work a kept kept.work live (size-at k.work r k.sized live kept.work)
disk-steps o r k rec (data_in d) kept live = data-steps o r k rec k.work d kept refl kept.work live (size-at k.work r k.sized live kept.work)
disk-steps o r k rec (nop_in n) kept live = nop-steps o r k n kept live
disk-steps o r k rec other kept live = ends-stands o r k (broken rec) (size-at k.work r k.sized live kept.work)

or-none : (b : Bool) → (b || false) ≡ b
or-none true = refl
or-none false = refl

or-assoc : (a b c : Bool) → (a || (b || c)) ≡ ((a || b) || c)
or-assoc true b c = refl
or-assoc false b c = refl

ended-more : (o : SessionNumbers) (r : DiskReading) (calls : List DiskCall) (call : DiskCall) → ended_from o r (calls ++ call ∷ []) ≡ (ended_from o r calls || is_some (disk_answer o (fold (after_call o) r calls) call).over)
ended-more o r [] call = or-none (is_some (disk_answer o r call).over)
ended-more o r (c ∷ calls) call =
    ap (λ (b : Bool). is_some (disk_answer o r c).over || b) (ended-more o (after_call o r c) calls call)
    ∙ or-assoc (is_some (disk_answer o r c).over) (ended_from o (after_call o r c) calls) (is_some (disk_answer o (fold (after_call o) (after_call o r c) calls) call).over)

-- a call more of a disk that goes on
stands-more : (o : SessionNumbers) (calls : List DiskCall) (call : DiskCall) (new : KeptNumbers) → session_has_ended o calls ≡ false
    → work_is_over new.work ≡ is_some (disk_answer o (reading o calls) call).over
    → work_capacity new.work ≡ capacity_read (after_call o (reading o calls) call)
    → (is_some (disk_answer o (reading o calls) call).over ≡ false → KeepsNumbers o (after_call o (reading o calls) call) new)
    → DiskStands o (calls ++ call ∷ []) new
stands-more o calls call new going over size live =
    let same : reading o (calls ++ call ∷ []) ≡ after_call o (reading o calls) call = fold-append (after_call o) nothing_read calls (call ∷ []) in
    let all : session_has_ended o (calls ++ call ∷ []) ≡ is_some (disk_answer o (reading o calls) call).over = ended-more o nothing_read calls call ∙ rw going refl in
    record {
      over = over ∙ sym all;
      capacity = size ∙ ap capacity_read (sym same);
      live = λ off. subst (λ (x : DiskReading). KeepsNumbers o x new) (sym same) (live (sym over ∙ off));
    }

pub stands-came : (o : SessionNumbers) (calls : List DiskCall) (k new : KeptNumbers) (rec : ℕ) (p : PduParts) → DiskStands o calls k → session_has_ended o calls ≡ false → new ≡ (step_pdu k rec (answer_read p)).kept
    → DiskStands o (calls ++ came rec p ∷ []) new × ((step_pdu k rec (answer_read p)).answer ≡ disk_answer o (reading o calls) (came rec p))
stands-came o calls k new rec p stands going is =
    let step = step_pdu k rec (answer_read p) in
    let off : work_is_over k.work ≡ false = stands.over ∙ going in
    let s = disk-steps o (reading o calls) k rec (answer_read p) (stands.live off) off in
    let here = stands-more o calls (came rec p) step.kept going s.over s.capacity s.live in
    (subst (λ (x : KeptNumbers). DiskStands o (calls ++ came rec p ∷ []) x) (sym is) here, s.answer)

-- the stream's end ends it
pub stands-finished : (o : SessionNumbers) (calls : List DiskCall) (k new : KeptNumbers) (rec : ℕ) → DiskStands o calls k → session_has_ended o calls ≡ false → new ≡ (step_ends k (broken rec)).kept
    → DiskStands o (calls ++ stream_ended rec ∷ []) new
stands-finished o calls k new rec stands going is =
    let s = ends-stands o (reading o calls) k (broken rec) stands.capacity in
    subst (λ (x : KeptNumbers). DiskStands o (calls ++ stream_ended rec ∷ []) x) (sym is) (stands-more o calls (stream_ended rec) (step_ends k (broken rec)).kept going s.over s.capacity s.live)

pub finish-answers : (k new : KeptNumbers) (rec : ℕ) (text : Option (List ℕ)) (acts : Acts) → IsDiskStep (step_ends k (broken rec)) new text acts
    → (o : SessionNumbers) (calls : List DiskCall) → DiskStands o calls k → session_has_ended o calls ≡ false
    → DiskStands o (calls ++ stream_ended rec ∷ []) new × (acts ≡ disk_acts (disk_answer o (reading o calls) (stream_ended rec)))
finish-answers k new rec text acts step = λ o calls stands going. (stands-finished o calls k new rec stands going step.kept, step.asks)

-- a read is put
asked-kept : (o : SessionNumbers) (r after : DiskReading) (k : KeptNumbers) (capacity lba blocks : ℕ) → KeepsNumbers o r k → IsIdleDisk r capacity → after ≡ after_call o r (asked lba blocks)
    → (IsReadingDisk after capacity (512 * blocks) 0) × KeepsNumbers o after (kept_putting k k.exp_stat_sn (Reading capacity (512 * blocks) 0))
asked-kept o r after k capacity lba blocks kept is same =
    let next = after_call o r (asked lba blocks) in
    let here : IsReadingDisk next capacity (512 * blocks) 0 = record {
      done = is.done;
      before = r.reads;
      last = (lba, blocks);
      sized = sized-same r next capacity is.done refl is.sized;
      reads = refl;
      all = is.all;
      is = refl;
      came = ap length is.none;
    } in
    let ready = is.sized.ready in
    let many : length r.results ≡ length ready.checks + (1 + (1 + length is.done)) = ap length ready.results ∙ length-append ready.checks (ready.good ∷ is.sized.first ∷ is.done) ∙ omega arith in
    let before : commands_put r ≡ length r.results = put-idle r (at-idle r capacity is) in
    let now : commands_put next ≡ length r.results + 1 = put-busy next (Read lba blocks) (at-reading next capacity (512 * blocks) 0 here) in
    let kept_now = putting-kept o r next k k.exp_stat_sn (Reading capacity (512 * blocks) 0) kept (omega arith) (omega arith) kept.exp_stat_sn here in
    subst (λ (x : DiskReading). (IsReadingDisk x capacity (512 * blocks) 0) × KeepsNumbers o x (kept_putting k k.exp_stat_sn (Reading capacity (512 * blocks) 0))) (sym same) (here, kept_now)

pub stands-asked : (o : SessionNumbers) (calls : List DiskCall) (k : KeptNumbers) (capacity lba blocks : ℕ) → DiskStands o calls k → k.work ≡ Idle capacity
    → DiskStands o (calls ++ asked lba blocks ∷ []) (kept_putting k k.exp_stat_sn (Reading capacity (512 * blocks) 0))
    × (next_command k k.exp_stat_sn (Read lba blocks) ≡ command_after o (reading o calls) (commands_put (reading o calls)) (Read lba blocks))
stands-asked o calls k capacity lba blocks stands e =
    let r = reading o calls in
    let off : work_is_over k.work ≡ false = ap work_is_over e in
    let kept = stands.live off in
    let idle : IsIdleDisk r capacity = subst (λ (w : Work). IsWorking w r k.sized) e kept.work in
    let now = asked-kept o r (after_call o r (asked lba blocks)) k capacity lba blocks kept idle refl in
    let ready = idle.sized.ready in
    let many : length r.results ≡ length ready.checks + (1 + (1 + length idle.done)) = ap length ready.results ∙ length-append ready.checks (ready.good ∷ idle.sized.first ∷ idle.done) ∙ omega arith in
    let before : commands_put r ≡ length r.results = put-idle r (at-idle r capacity idle) in (
      stands-more o calls (asked lba blocks) (kept_putting k k.exp_stat_sn (Reading capacity (512 * blocks) 0)) (sym stands.over ∙ off) refl
          (sym (size-sized (after_call o r (asked lba blocks)) capacity now.0.done now.0.sized)) (λ more. now.1),
      putting-answer o r r k k.exp_stat_sn (Read lba blocks) kept (omega arith) kept.exp_stat_sn,
    )

busy-work : (work : Work) (r : DiskReading) (size : List ℕ) → work_is_over work ≡ false → IsWorking work r size → has_work work ≡ is_some (at_work r)
busy-work (Testing checks) r size live is = ap (λ (x : Option Command). is_some x) (sym (at-testing r checks is.0))
busy-work Sizing r size live is = ap (λ (x : Option Command). is_some x) (sym (at-sizing r size is))
busy-work (Idle capacity) r size live is = ap (λ (x : Option Command). is_some x) (sym (at-idle r capacity is))
busy-work (Reading capacity wanted got) r size live is = ap (λ (x : Option Command). is_some x) (sym (at-reading r capacity wanted got is))
busy-work (Over capacity) r size live is = absurd cc

-- whether a command is at work
pub busy-at : (o : SessionNumbers) (calls : List DiskCall) (k : KeptNumbers) → DiskStands o calls k → work_is_over k.work ≡ false → has_work k.work ≡ is_some (at_work (reading o calls))
busy-at o calls k stands off = busy-work k.work (reading o calls) k.sized off (stands.live off).work

-- what a PDU comes to
pub pdu-answers : (k new : KeptNumbers) (rec : ℕ) (p : PduParts) (result : Result (Option (List ℕ)) NoMemory) (acts : Acts)
    → IfOk result (λ text. IsDiskStep (step_pdu k rec (answer_read p)) new text acts)
    → IfOk result (λ text. (o : SessionNumbers) (calls : List DiskCall) → DiskStands o calls k → session_has_ended o calls ≡ false
    → DiskStands o (calls ++ came rec p ∷ []) new × IsDiskAnswer (disk_answer o (reading o calls) (came rec p)) text acts)
pdu-answers k new rec p (Ok text) acts step = λ o calls stands going.
    let s = stands-came o calls k new rec p stands going step.kept in
    (s.0, record { puts = step.puts ∙ ap (λ (a : DiskAnswer). option_map pdu_text a.put) s.1; asks = step.asks ∙ ap disk_acts s.1 })
pdu-answers k new rec p (Err e) acts step = tt

-- a read is refused for its cause
out-read : (o : SessionNumbers) (calls : List DiskCall) (k : KeptNumbers) (lba n : ℕ) (b : Bool) → DiskStands o calls k → b ≡ is_out_of (work_capacity k.work) lba n → is_out (reading o calls) lba n ≡ b
out-read o calls k lba n b stands is = ap (λ (c : Option ℕ). is_out_of c lba n) (sym stands.capacity) ∙ sym is

pub refused-out : (o : SessionNumbers) (calls : List DiskCall) (k : KeptNumbers) (lba n : ℕ) (b : Bool) → DiskStands o calls k → b ≡ is_out_of (work_capacity k.work) lba n → b ≡ true → is_out (reading o calls) lba n ≡ true
refused-out o calls k lba n b stands is on = out-read o calls k lba n b stands is ∙ on

pub refused-busy : (o : SessionNumbers) (calls : List DiskCall) (k : KeptNumbers) (lba n : ℕ) (b : Bool) → DiskStands o calls k → work_is_over k.work ≡ false → b ≡ is_out_of (work_capacity k.work) lba n → b ≡ false → has_work k.work ≡ true
    → (is_out (reading o calls) lba n ≡ false) × (is_some (at_work (reading o calls)) ≡ true)
refused-busy o calls k lba n b stands off is within busy = (out-read o calls k lba n b stands is ∙ within, sym (busy-at o calls k stands off) ∙ busy)

pub read-free : (o : SessionNumbers) (calls : List DiskCall) (k : KeptNumbers) (lba n capacity : ℕ) (b : Bool) → DiskStands o calls k → b ≡ is_out_of (work_capacity k.work) lba n → b ≡ false → k.work ≡ Idle capacity
    → (is_out (reading o calls) lba n ≡ false) × (at_work (reading o calls) ≡ None)
read-free o calls k lba n capacity b stands is within e =
    let r = reading o calls in
    let kept = stands.live (ap work_is_over e) in
    let idle : IsIdleDisk r capacity = subst (λ (w : Work). IsWorking w r k.sized) e kept.work in
    (out-read o calls k lba n b stands is ∙ within, at-idle r capacity idle)

-- a read is put: the disk stands for it, and puts its text
pub asked-answers : (k new : KeptNumbers) (capacity lba n : ℕ) (text : List ℕ) → k.work ≡ Idle capacity → text ≡ pdu_text (next_command k k.exp_stat_sn (Read lba n)) → new ≡ kept_putting k k.exp_stat_sn (Reading capacity (512 * n) 0)
    → (o : SessionNumbers) (calls : List DiskCall) → DiskStands o calls k
    → DiskStands o (calls ++ asked lba n ∷ []) new × (Some text ≡ Some (pdu_text (command_after o (reading o calls) (commands_put (reading o calls)) (Read lba n))))
asked-answers k new capacity lba n text e text_is new_is o calls stands =
    let s = stands-asked o calls k capacity lba n stands e in (
      subst (λ (x : KeptNumbers). DiskStands o (calls ++ asked lba n ∷ []) x) (sym new_is) s.0,
      ap (λ (x : List ℕ). Some x) (text_is ∙ ap pdu_text s.1),
    )

-- why a read isn't put though nothing is at work: memory ran out
pub refused-memory : (r : DiskReading) (lba n : ℕ) (result : Result (List ℕ) ReadRefusal) → IsErrAnd result (λ e. e ≡ refusal.NoMemory) → (is_out r lba n ≡ false) × (at_work r ≡ None) → RefusesRead r lba n result
refused-memory r lba n (Ok text) is facts = absurd is
refused-memory r lba n (Err e) is facts = subst (λ (x : ReadRefusal). RefusesRead r lba n (Err x)) (sym is) facts
